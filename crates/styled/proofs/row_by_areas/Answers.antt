-- `styled::row_by_areas` meets its contract: the figure's kind says how its areas are made, and both widths are at most the
-- stroke's.
use mathlib.Core.Path.{◌≡◌, sym, ap, subst, ◌∙◌}
use native.Mathlib.Omega.{arith}
use lib.IntN.{pos, neg_ℤ}
use mir.Syntax.{w32}
use mir.Val.{to_z, of_z}
use mir.Facts.{to_z-of_z}
use Prim.Native.Nat.{ℕ}
use Rattle.signed.specs.Signed.{Near}
use Rattle.signed.proofs.Laws.{int, positive_of_opposite, negative_of_opposite}
use Rattle.rectangle.specs.Rectangle.{offset as rectangle_offset}
use Rattle.ellipse_styled.specs.EllipseStyled.{ellipse_styled_row}
use Rattle.shape.specs.BoxRules.{crate_area, w3c_area}
use Rattle.figure.specs.declared.Figure.{Figure}
use Rattle.figure.specs.Bounds.{wide_offset, OwnFigure}
use Rattle.styled_row.specs.StyledRow.{box_styled_row, styled_row_of_shapes}
use Rattle.style.specs.Style.{outside_stroke_width, inside_stroke_width}
use Rattle.style.proofs.StrokeWidths.{outside_within_stroke, inside_within_stroke}
use Rattle.styled.specs.Styled.{styled_row}
use Rattle.styled.proofs.row_by_areas.Lts
use Rattle.styled.proofs.row_by_areas.Reads
use Rattle.styled.proofs.row_by_areas.Tie
use Rattle.styled.proofs.row_by_areas.Goals as goal

-- the facts known at these places
abbrev Start : Type 0
Start = Lts.Start Tie.the-claims Reads.Pre Reads.Post Tie.handed_clauses

abbrev After-sub-inward : Type 0
After-sub-inward = Lts.After-sub Tie.the-claims Reads.Pre Reads.Post Tie.handed_clauses

outward_is : (c : After-sub-inward) → c.from_u32-outward.result ≡ pos (outside_stroke_width c.args.style)
outward_is c =
    c.from_u32-outward.ensures.is ∙ ap pos c.outside_stroke_width-outside.ensures

opposite : (c : After-sub-inward) → c.sub-inward.result ≡ neg_ℤ (pos c.inside_stroke_width-inside.result)
opposite c =
    let is = c.from_u32.ensures.is in
    let difference = c.sub-inward.ensures.is in
    omega (
      arith,
      int,
      positive_of_opposite (pos c.inside_stroke_width-inside.result),
      negative_of_opposite
          (pos c.inside_stroke_width-inside.result),
    )

inward_is : (c : After-sub-inward) → c.sub-inward.result ≡ neg_ℤ (pos (inside_stroke_width c.args.style))
inward_is c = opposite c ∙ ap (λ (n : ℕ). neg_ℤ (pos n)) c.inside_stroke_width-inside.ensures

outward_near : (c : After-sub-inward) → Near wide_offset c.from_u32-outward.result
outward_near c =
    let small = c.requires.stroke_width_bound in
    omega (arith, int, outward_is c, outside_within_stroke c.args.style)

inward_near : (c : After-sub-inward) → Near wide_offset c.sub-inward.result
inward_near c =
    let small = c.requires.stroke_width_bound in
    let inside = inside_stroke_width c.args.style in
    omega (
      arith,
      int,
      inward_is c,
      positive_of_opposite (pos inside),
      negative_of_opposite (pos inside),
      inside_within_stroke
          c.args.style,
    )

pub from_u32-outward-requires : goal.from_u32-outward-requires
from_u32-outward-requires c =
    let small = c.requires.stroke_width_bound in
    omega (arith, c.outside_stroke_width-outside.ensures, outside_within_stroke c.args.style)

pub from_u32-requires : goal.from_u32-requires
from_u32-requires c =
    let small = c.requires.stroke_width_bound in
    omega (arith, c.inside_stroke_width-inside.ensures, inside_within_stroke c.args.style)

pub sub-inward-requires : goal.sub-inward-requires
sub-inward-requires c =
    let small = c.requires.stroke_width_bound in
    let is = c.from_u32.ensures.is in
    omega (arith, int, c.inside_stroke_width-inside.ensures, inside_within_stroke c.args.style)

pub ellipse_row_at-requires : goal.ellipse_row_at-requires
ellipse_row_at-requires c =
    let small = c.requires.stroke_width_bound in
    let near = c.requires.near in record {
      own_rectangle = subst OwnFigure c.in-Ellipse.is c.requires.own_figure;
      outside_le_wide_offset = (
        omega
            (arith, c.outside_stroke_width-outside.ensures, outside_within_stroke c.args.style),
        omega
            (arith, c.inside_stroke_width-inside.ensures, inside_within_stroke c.args.style),
      );
      near = rw (to_z-of_z near.fits) near;
    }

pub crate_row_at-requires : goal.crate_row_at-requires
crate_row_at-requires c =
    let near = c.requires.near in
    let out = outward_near c.before in
    let inw = inward_near c.before in record { own_box = subst OwnFigure c.in-CrateBox.is c.requires.own_figure; near = (rw (to_z-of_z out.fits) out, rw (to_z-of_z inw.fits) inw); near_2 = rw (to_z-of_z near.fits) near }

pub w3c_row_at-requires : goal.w3c_row_at-requires
w3c_row_at-requires c =
    let near = c.requires.near in
    let out = outward_near c.before in
    let inw = inward_near c.before in record { own_box = subst OwnFigure c.in-W3cBox.is c.requires.own_figure; near = (rw (to_z-of_z out.fits) out, rw (to_z-of_z inw.fits) inw); near_2 = rw (to_z-of_z near.fits) near }

pub returns-in-Ellipse : goal.returns-in-Ellipse
unfolding styled_row_of_shapes
returns-in-Ellipse c =
    let args = c.args in
    c.ellipse_row_at.ensures
    ∙ (λ i. ellipse_styled_row
    (rectangle_offset c.in-Ellipse.rectangle (pos (c.outside_stroke_width-outside.ensures i)))
    (rectangle_offset c.in-Ellipse.rectangle (neg_ℤ (pos (c.inside_stroke_width-inside.ensures i)))).size
    (to_z-of_z c.requires.near.fits i))
    ∙ ap (λ (f : Figure). styled_row f args.style args.y) (sym c.in-Ellipse.is)

-- the offsets as the callee reads them
outward_held : (c : After-sub-inward)
    → to_z w32 (of_z w32 c.from_u32-outward.result) ≡ pos (outside_stroke_width c.args.style)
outward_held c = to_z-of_z (outward_near c).fits ∙ outward_is c

inward_held : (c : After-sub-inward) → to_z w32 (of_z w32 c.sub-inward.result) ≡ neg_ℤ (pos (inside_stroke_width c.args.style))
inward_held c = to_z-of_z (inward_near c).fits ∙ inward_is c

pub returns-in-CrateBox : goal.returns-in-CrateBox
unfolding styled_row_of_shapes
returns-in-CrateBox c =
    let args = c.args in
    c.crate_row_at.ensures
    ∙ (λ i. box_styled_row (crate_area c.in-CrateBox.b (outward_held c.before.before i))
    (crate_area c.in-CrateBox.b (inward_held c.before.before i)) (to_z-of_z c.requires.near.fits i))
    ∙ ap (λ (f : Figure). styled_row f args.style args.y) (sym c.in-CrateBox.is)

pub returns-in-W3cBox : goal.returns-in-W3cBox
unfolding styled_row_of_shapes
returns-in-W3cBox c =
    let args = c.args in
    c.w3c_row_at.ensures
    ∙ (λ i. box_styled_row (w3c_area c.in-W3cBox.b (outward_held c.before.before i)) (w3c_area c.in-W3cBox.b (inward_held c.before.before i))
    (to_z-of_z c.requires.near.fits i))
    ∙ ap (λ (f : Figure). styled_row f args.style args.y) (sym c.in-W3cBox.is)
