-- Document 01, 'Sheet': what a paint call on a layer finds, the row that it asks for or a refusal; and the refusals of a removal
-- (document 02, 'Five').
-- Assumes nothing.
use Rattle.std.specs.Prelude.{◌≡◌, Bool, not, List, ℕ, leb, get_or, ℤ, Result, Ok, Err}
use Rattle.refusal.specs.declared.Refusal.{Refusal}
use Rattle.refusal.specs.declared.Refusal.TheVariants.{SheetRule, NoLayer}
use Rattle.refusal.specs.Refusal.{refuse_if, or_else, Checked, passed}
use Rattle.canvas_size.specs.CanvasSize.{canvas_length_check}
use Rattle.sheet_layers.specs.declared.Layer.{Layer}
use Rattle.sheet_layers.specs.Layers.{blank_layer}

-- what a paint call on a layer finds
abbrev pub Asked : Type 0
Asked = Result ℤ Refusal

-- the answer that it leads to ('The records', the table): a refusal; a row is painted
abbrev pub asked_answer : Asked → Checked
asked_answer (Ok y) = passed
asked_answer (Err refusal) = Err refusal

-- the row found is the next row of the layer in that place
abbrev pub NextRow : List Layer → ℕ → Asked → Type 0
NextRow places i (Ok y) = y ≡ (get_or places i blank_layer).next_row
NextRow places i (Err refusal) = Unit {0}

-- the refusals of a removal of layer i from a sheet of W by H that says it has so many layers, by whether it keeps the rules and how
-- long both buffers are (document 02, 'Five'): 7, 8 for either buffer, 10. The law `remove_check_is` (proofs/Answers.antt) equates
-- it with `book`'s answer
unfoldable pub remove_check : Bool → ℕ → ℕ → ℕ → ℕ → ℕ → ℕ → Checked
remove_check kept W H bytes background count i =
    or_else (refuse_if (not kept) SheetRule)
    (or_else (canvas_length_check W H bytes)
    (or_else (canvas_length_check W H background)
    (refuse_if (leb count i) NoLayer)))
