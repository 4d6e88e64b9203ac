-- The one call and a sheet come to the same bytes: the rows that a sheet with the one layer paints, one after another, are those of
-- the whole figure.
-- Assumes nothing.
use mathlib.Core.Path.{◌≡◌, sym, ap, ◌∙◌}
use mathlib.Core.List.{List}
use Prim.Native.Nat.{ℕ}
use native.Mathlib.Omega.{arith}
use lib.ListN.{length}
use Rattle.refusal.specs.Refusal.{keeping, Checked, passed}
use Rattle.refusal.proofs.Checks.{passed_first}
use Rattle.figure.specs.declared.Figure.{Figure}
use Rattle.style.specs.declared.Style.{Style}
use Rattle.canvas_size.specs.CanvasSize.{canvas_size_check, canvas_length_check}
use Rattle.book.specs.Sheet.{State}
use Rattle.book.specs.Whole.{SingleLayerWhole}
use Rattle.book.proofs.Whole.{single_layer_whole}
use Rattle.drawing.specs.Drawing.{StyledFigure, styled_figure, styled_check, drawing}
use Rattle.paint.specs.Paint.{paint_check, painted, SheetComesToTheSame, OneCallIsSheet}
use Rattle.paint.proofs.Passed.{paint_passed}
use Rattle.paint.proofs.Painted.{whole_is_painted}

module _ (f : Figure) (style : Style) (W H : ℕ) (lent : List ℕ) (allowed : paint_check f style W H lent ≡ passed) where
  figure_allowed : styled_check f style ≡ passed
  unfolding paint_check
  figure_allowed = passed_first (styled_check f style) (canvas_size_check W H) (passed_first _ (canvas_length_check W H (length lent)) allowed)

  whole : SingleLayerWhole drawing W H lent (styled_figure f style)
  whole =
      let within = paint_passed f style W H lent allowed in
      single_layer_whole drawing W H (within.sides.width_least, within.sides.width_most)
      (within.sides.height_least, within.sides.height_most) (styled_figure f style) figure_allowed (omega arith) lent within.size

  same_here : SheetComesToTheSame f style W H lent
  same_here =
      record {
        all_accepted = whole.all_accepted;
        same_bytes =
            ap (λ (s : State StyledFigure). s.canvas) whole.finished
            ∙ whole_is_painted f style W H lent (paint_passed f style W H lent allowed).size
            ∙ ap (λ (c : Checked). keeping c lent (painted f style W H lent)) (sym allowed);
      }

pub sheet_comes_to_the_same : OneCallIsSheet
sheet_comes_to_the_same f style W H lent allowed = same_here f style W H lent allowed
