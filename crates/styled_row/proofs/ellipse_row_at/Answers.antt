-- `styled_row::ellipse_row_at` meets its contract: the areas are the ellipse's rectangle offset outward and inward.
use mathlib.Core.Path.{◌≡◌, sym, ap, subst, ◌∙◌}
use native.Mathlib.Omega.{arith}
use lib.IntN.{pos, neg_ℤ}
use mir.Facts.{to_z-of_z}
use Rattle.signed.proofs.Laws.{int, positive_of_opposite, negative_of_opposite}
use Rattle.rectangle.specs.Rectangle.{offset as rectangle_offset}
use Rattle.ellipse_styled.specs.EllipseStyled.{ellipse_styled_row}
use Rattle.figure.specs.Bounds.{AreaRectangle}
use Rattle.figure.proofs.Within.{own_area, area_bounded, offset_area}
use Rattle.styled_row.proofs.ellipse_row_at.Lts
use Rattle.styled_row.proofs.ellipse_row_at.Reads
use Rattle.styled_row.proofs.ellipse_row_at.Tie
use Rattle.styled_row.proofs.ellipse_row_at.Goals as goal

-- the facts known at these places
abbrev Start : Type 0
Start = Lts.Start Tie.the-claims Reads.Pre Reads.Post Tie.handed_clauses

abbrev After-offset-area : Type 0
After-offset-area = Lts.After-offset Tie.the-claims Reads.Pre Reads.Post Tie.handed_clauses

abbrev After-sub : Type 0
After-sub = Lts.After-sub Tie.the-claims Reads.Pre Reads.Post Tie.handed_clauses

abbrev After-offset-inner : Type 0
After-offset-inner = Lts.After-offset2 Tie.the-claims Reads.Pre Reads.Post Tie.handed_clauses

-- the two areas' rectangles
area_is : (c : After-offset-area)
    → c.offset-area.result ≡ rectangle_offset c.args.rectangle (pos c.args.outside)
area_is c =
    c.offset-area.ensures
    ∙ ap (rectangle_offset c.args.rectangle)
    (to_z-of_z c.from_u32.ensures.fits ∙ c.from_u32.ensures.is)

opposite : (c : After-sub) → c.sub.result ≡ neg_ℤ (pos c.args.inside)
opposite c =
    let is = c.from_u32-2.ensures.is in
    let difference = c.sub.ensures.is in
    omega (arith, int, positive_of_opposite (pos c.args.inside), negative_of_opposite (pos c.args.inside))

inner_is : (c : After-offset-inner)
    → c.offset-inner.result ≡ rectangle_offset c.args.rectangle (neg_ℤ (pos c.args.inside))
inner_is c =
    c.offset-inner.ensures
    ∙ ap (rectangle_offset c.args.rectangle)
    (to_z-of_z c.sub.ensures.fits ∙ opposite c.before)

pub offset-area-requires : goal.offset-area-requires
offset-area-requires c =
    let small = c.requires.outside_le_wide_offset in
    let is = c.from_u32.ensures.is in record { bounded = area_bounded _ (own_area _ c.requires.own_rectangle); near = omega (arith, int) }

pub sub-requires : goal.sub-requires
sub-requires c =
    let small = c.requires.outside_le_wide_offset in
    let is = c.from_u32-2.ensures.is in
    omega (arith, int)

pub offset-inner-requires : goal.offset-inner-requires
offset-inner-requires c =
    let small = c.requires.outside_le_wide_offset in
    let inside = c.args.inside in record {
      bounded = area_bounded _ (own_area _ c.requires.own_rectangle);
      near = omega
          (arith, int, opposite c, positive_of_opposite (pos inside), negative_of_opposite (pos inside));
    }

pub ellipse_row-requires : goal.ellipse_row-requires
ellipse_row-requires c =
    let small = c.requires.outside_le_wide_offset in
    let near = c.requires.near in
    let inside = c.args.inside in record {
      bounded = area_bounded _
          (subst AreaRectangle (sym (area_is c.before.before.before.before))
          (offset_area c.args.rectangle (pos c.args.outside) c.requires.own_rectangle (omega (arith, int))));
      size_up_to = (area_bounded _
          (subst AreaRectangle (sym (inner_is c.before))
          (offset_area c.args.rectangle (neg_ℤ (pos inside)) c.requires.own_rectangle
          (omega (arith, int, positive_of_opposite (pos inside), negative_of_opposite (pos inside)))))
          ).size;
      near = rw (to_z-of_z near.fits) near;
    }

pub returns : goal.returns
returns c =
    c.ellipse_row.ensures
    ∙ (λ i. ellipse_styled_row (area_is c.before.before.before.before.before i) (inner_is c.before.before i).size
    (to_z-of_z c.requires.near.fits i))
