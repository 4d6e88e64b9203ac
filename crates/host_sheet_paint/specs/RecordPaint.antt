-- The checks of a paint call on a sheet's numbers as the code makes them. The laws of proofs/ equate them with the answers of
-- `sheet`.
-- Assumes nothing.
use Rattle.std.specs.Prelude.{not, cond, List, ℕ, leb, ltb, ℤ, pos}
use Rattle.refusal.specs.declared.Refusal.TheVariants.{NoLayer, NoRowLeft, RowOwed}
use Rattle.refusal.specs.Refusal.{refuse_if, or_else, Checked}
use Rattle.geometry.specs.Limits.{max_layers}
use Rattle.canvas_size.specs.CanvasSize.{canvas_length_check}
use Rattle.host_sheet_rules.specs.declared.Asked.{Asked}
use Rattle.host_sheet_rules.specs.RecordRules.{rows_at}

-- the next row of the layer in a place; behind the last place 0
abbrev pub next_of : List ℤ → ℕ → ℤ
next_of numbers layer = cond (ltb layer max_layers) (rows_at numbers layer).next (pos 0)

-- 8, 10, 11 and 12, where the rules are kept, by what is asked of the layers
unfoldable pub asked_check : ℕ → ℕ → ℕ → ℕ → ℕ → Asked → Checked
asked_check W H bytes count layer asked =
    or_else (canvas_length_check W H bytes)
    (or_else (refuse_if (leb count layer) NoLayer)
    (or_else (refuse_if (not asked.left) NoRowLeft) (refuse_if asked.owed RowOwed)))
