-- What a host is told of a call that it makes on numbers: one number for the answer, and values in a list that it lent. Document 01
-- has the refusals; that numbers may be no record, and that there may be no row, need a number of their own here.
-- Assumes nothing.
use Rattle.std.specs.Prelude.{◌≡◌, Bool, true, false, cond, List, [], ◌∷◌, map, ℕ, suc, ℤ, pos, ◌-ℤ◌, length, Ok, Err}
use Rattle.std.proofs.lemmas.List.Edits.{sets}
use Rattle.std.specs.Int.Signed.{lt_z}
use Rattle.signed.specs.Signed.{max_i32}
use Rattle.refusal.specs.Refusal.{number, answer_number, Outcome, refused, answered, keeping, room_check, Checked}

-- the numbers given are no record of their kind
abbrev pub no_record : ℕ
no_record = 100

-- answered, but there is nothing to give: no row, no corners
abbrev pub nothing_there : ℕ
nothing_there = 101

-- a call on numbers: of numbers that are a record what the call says, else that they are none
abbrev pub of_record : Bool → Outcome → Outcome
of_record true outcome = outcome
of_record false outcome = refused no_record

-- a lent buffer after such a call: of numbers that are no record as it was
abbrev pub if_record : {A : Type 0} → Bool → A → A → A
if_record true before after = after
if_record false before after = before

-- a call that is made once a check has passed
abbrev pub after_check : Checked → Outcome → Outcome
after_check (Ok _) outcome = outcome
after_check (Err refusal) outcome = refused (number refusal)

-- what the host is told of a call that gives no values
abbrev pub outcome_number : Outcome → ℕ
outcome_number (refused n) = n
outcome_number (answered values) = 0

-- what the host is told, by what the call says and the room in the list that it lent for the values: 13 if they have none
unfoldable pub told : Outcome → ℕ → ℕ
told (refused n) room = n
told (answered []) room = nothing_there
told (answered (v ∷ rest)) room = answer_number (room_check (length (v ∷ rest)) room)

-- a number as 32 bits with a sign hold it: an unsigned one from 2^31 on comes out less 2^32. No call answers one
unfoldable pub held_by32 : ℤ → ℤ
held_by32 z = cond (lt_z z (pos (suc max_i32))) z (z -ℤ pos 4294967296)

-- the list afterwards: the values from its start on, if it has room for them
unfoldable pub out_after : Outcome → List ℤ → List ℤ
out_after (refused n) out = out
out_after (answered []) out = out
out_after (answered (v ∷ rest)) out =
    keeping (room_check (length (v ∷ rest)) (length out)) out (sets out 0 (map held_by32 (v ∷ rest)))

-- a call that tells a host an outcome, by its answer r, and leaves the list lent for the values as out'
pub record Tells (outcome : Outcome) (out : List ℤ) (r : ℕ) (out' : List ℤ) : Type 0 where
  pub answer : r ≡ told outcome (length out)
  pub values : out' ≡ out_after outcome out
