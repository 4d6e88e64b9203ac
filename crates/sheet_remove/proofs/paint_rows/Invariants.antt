-- `sheet_remove::paint_rows` meets its contract. Invariant: the rows that are left, painted from the next one on, make the whole.
use mathlib.Core.Path.{◌≡◌}
use Prim.Native.Nat.{◌-◌}
use lib.IntN.{pos}
use lib.ListN.{length}
use Rattle.book.specs.Whole.{paint_rows}
use Rattle.drawing.specs.Drawing.{styled_figure, drawing}
use Rattle.sheet_remove.proofs.paint_rows.Given as goal

abbrev pub invariant-loop-y : goal.invariant-loop-y
invariant-loop-y l =
    (paint_rows drawing l.size.width l.size.height (styled_figure l.figure l.style) (pos l.y) (l.to - l.y) l.canvas
    ≡ paint_rows drawing l.size.width l.size.height (styled_figure l.figure l.style) (pos l.from) (l.to - l.from) l.initial.canvas)
    × (length l.canvas ≡ length l.initial.canvas)
