-- Document 01's table of refusals, with 14 and 15 of document 02: their numbers, the first that applies, and what an answer says.
-- Assumes nothing.
use Rattle.std.specs.Prelude.{Bool, true, false, List, [], ℕ, ltb, ℤ, nat_abs, Result, Ok, Err, Option, Some, None}
use Rattle.refusal.specs.declared.Refusal.{Refusal}
use Rattle.refusal.specs.declared.Refusal.TheVariants.{Side, Radius, Position, Asked, Offset, CanvasSide, SheetRule, CanvasLength, SheetFull, NoLayer, NoRowLeft, RowOwed, BufferLength, FileHeader, RasterLength}

-- the numbers of the table ('The records'), and 14 and 15 of document 02, 'One'; what each is for stands at the enum (src/lib.rt)
abbrev pub number : Refusal → ℕ
number Side = 1
number Radius = 2
number Position = 3
number Asked = 4
number Offset = 5
number CanvasSide = 6
number SheetRule = 7
number CanvasLength = 8
number SheetFull = 9
number NoLayer = 10
number NoRowLeft = 11
number RowOwed = 12
number BufferLength = 13
number FileHeader = 14
number RasterLength = 15

-- what a check finds: nothing, or a refusal
abbrev pub Checked : Type 0
Checked = Result (Unit {0}) Refusal

-- a check that finds nothing
abbrev pub passed : Checked
passed = Ok tt

-- the number that stands for a check, and for the answer to a call that gives no values: 0 for passed, which is accepted
abbrev pub answer_number : Checked → ℕ
answer_number (Ok x) = 0
answer_number (Err refusal) = number refusal

-- the refusal that a check found; of a check that passed nobody asks for it
abbrev pub refusal_of : Checked → Refusal
refusal_of (Err refusal) = refusal
refusal_of (Ok x) = Side

-- one condition of the table ('The records', its second column)
abbrev pub refuse_if : Bool → Refusal → Checked
refuse_if true refusal = Err refusal
refuse_if false refusal = passed

-- the first refusal of two checks. Checks are put in the order in which they are looked for: the table's, so that it is the lowest number
-- that applies, but for a read, where 14 comes before all others
abbrev pub or_else : Checked → Checked → Checked
or_else (Err refusal) next = Err refusal
or_else (Ok x) next = next

-- above a limit, and beyond ± a limit
abbrev pub above : ℕ → ℕ → Bool
above limit n = ltb limit n

abbrev pub beyond : ℕ → ℤ → Bool
beyond limit z = ltb limit (nat_abs z)

-- what an answer says: a refusal only its number, any other answer its values
pub data Outcome : Type 0 where
  refused : ℕ → Outcome
  answered : List ℤ → Outcome

-- refused by a check, or answered
abbrev pub unless : Checked → List ℤ → Outcome
unless (Err refusal) values = refused (number refusal)
unless (Ok x) values = answered values

-- what an answer says: of an error its number, of a value what it is
abbrev pub outcome : {A : Type 0} → (A → List ℤ) → Result A Refusal → Outcome
outcome values (Err refusal) = refused (number refusal)
outcome values (Ok answer) = answered (values answer)

-- the values of what may be lacking: none where it is
abbrev pub any_values : {A : Type 0} → (A → List ℤ) → Option A → List ℤ
any_values values (Some a) = values a
any_values values None = []

-- what a call may change (a lent buffer, a sheet, the book) after it: after a refusal as it was ('The records', below the table)
abbrev pub keeping : {A : Type 0} → Checked → A → A → A
keeping (Err refusal) before after = before
keeping (Ok x) before after = after

-- 13: a lent list or buffer with too little room for what is needed
abbrev pub room_check : ℕ → ℕ → Checked
room_check needed room = refuse_if (above room needed) BufferLength
