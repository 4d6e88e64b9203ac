-- Painting all of a figure's rows one after another overpaints every canvas row by the styled row there.
-- Assumes nothing.
use mathlib.Core.Path.{◌≡◌}
use mathlib.Core.List.{List}
use Prim.Native.Nat.{ℕ, ◌*◌}
use lib.ListN.{length}
use Rattle.figure.specs.declared.Figure.{Figure}
use Rattle.style.specs.declared.Style.{Style}
use Rattle.book.specs.Whole.{paint_whole}
use Rattle.book.proofs.WholeRows.{whole_by_rows}
use Rattle.drawing.specs.Drawing.{styled_figure, drawing}
use Rattle.drawing.proofs.Rows.{sets_nothing_off_rows}
use Rattle.paint.specs.Paint.{painted}

pub whole_is_painted : (f : Figure) (style : Style) (W H : ℕ) (canvas : List ℕ) → length canvas ≡ W * H
    → paint_whole drawing W H (styled_figure f style) canvas ≡ painted f style W H canvas
unfolding painted
whole_is_painted f style W H canvas size =
    whole_by_rows drawing (styled_figure f style) W H (sets_nothing_off_rows (styled_figure f style)) canvas size
