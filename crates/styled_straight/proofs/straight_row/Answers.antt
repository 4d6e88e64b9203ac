-- `styled_straight::straight_row` meets its contract: the areas are the rectangle offset, and their corners, offset and confined by either
-- rule, reach no further than the box's own, offset like a crate box's.
use mathlib.Core.Path.{◌≡◌, sym, ap, subst, ◌∙◌}
use native.Mathlib.Omega.{arith}
use lib.IntN.{pos, neg_ℤ}
use mir.Facts.{to_z-of_z}
use Rattle.signed.proofs.Laws.{int, positive_of_opposite, negative_of_opposite}
use Rattle.rectangle.specs.Rectangle.{offset as rectangle_offset}
use Rattle.corner_radii.specs.declared.CornerRadii.{CornerRadii}
use Rattle.corner_radii.specs.Bounds.{RadiiWithin}
use Rattle.corner_radii.specs.CornerRadii.{offset as corner_radii_offset}
use Rattle.corner_radii.proofs.Bounds.{radii_themselves, radii_within_trans, confine_within, w3c_within, spread_within_offset}
use Rattle.shape.specs.BoxBounds.{AreaRectangle}
use Rattle.shape.specs.BoxRules.{confined, confined_w3c, offset_box, spread_box}
use Rattle.shape.proofs.Within.{own_area, area_bounded, offset_area}
use Rattle.styled_row.specs.StyledRow.{box_styled_row}
use Rattle.styled_straight.specs.StraightRow.{box_with, Reach, Told}
use Rattle.styled_straight.proofs.Straight.{reach_within, reach_outward, reach_inward}
use Rattle.styled_straight.proofs.straight_row.Lts
use Rattle.styled_straight.proofs.straight_row.Reads
use Rattle.styled_straight.proofs.straight_row.Tie
use Rattle.styled_straight.proofs.straight_row.Goals as goal

-- the facts known at these places
abbrev Start : Type 0
Start = Lts.Start Tie.the-claims Reads.Pre Reads.Post Tie.handed_clauses

abbrev After-offset-area : Type 0
After-offset-area = Lts.After-offset Tie.the-claims Reads.Pre Reads.Post Tie.handed_clauses

abbrev After-sub : Type 0
After-sub = Lts.After-sub Tie.the-claims Reads.Pre Reads.Post Tie.handed_clauses

abbrev After-offset-inner : Type 0
After-offset-inner = Lts.After-offset2 Tie.the-claims Reads.Pre Reads.Post Tie.handed_clauses

abbrev After-row_past : Type 0
After-row_past = Lts.After-row_past Tie.the-claims Reads.Pre Reads.Post Tie.handed_clauses

-- the two areas' rectangles
abbrev start : After-offset-area → Start
start c = c.before.before.before.before.before.before.before.before.before.before

area_is : (c : After-offset-area)
    → c.offset-area.result ≡ rectangle_offset c.args.b.rectangle (pos c.args.outside)
area_is c =
    c.offset-area.ensures
    ∙ ap (rectangle_offset c.args.b.rectangle)
    (to_z-of_z c.from_u32.ensures.fits ∙ c.from_u32.ensures.is)

opposite : (c : After-sub) → c.sub.result ≡ neg_ℤ (pos c.args.inside)
opposite c =
    let is = c.from_u32-2.ensures.is in
    let difference = c.sub.ensures.is in
    let inside = c.args.inside in
    omega (arith, int, positive_of_opposite (pos inside), negative_of_opposite (pos inside))

inner_is : (c : After-offset-inner)
    → c.offset-inner.result
    ≡ rectangle_offset c.args.b.rectangle
    (neg_ℤ (pos c.args.inside))
inner_is c =
    c.offset-inner.ensures
    ∙ ap (rectangle_offset c.args.b.rectangle)
    (to_z-of_z c.sub.ensures.fits ∙ opposite c.before)

pub offset-area-requires : goal.offset-area-requires
offset-area-requires c =
    let small = c.requires.outside_le_wide_offset in
    let is = c.from_u32.ensures.is in record { bounded = area_bounded _ (own_area _ c.requires.own_box.rectangle); near = omega (arith, int) }

pub sub-requires : goal.sub-requires
sub-requires c =
    let small = c.requires.outside_le_wide_offset in
    let is = c.from_u32-2.ensures.is in
    omega (arith, int)

pub offset-inner-requires : goal.offset-inner-requires
offset-inner-requires c =
    let small = c.requires.outside_le_wide_offset in record {
      bounded = area_bounded _ (own_area _ c.requires.own_box.rectangle);
      near = omega (
        arith,
        int,
        opposite c,
        positive_of_opposite (pos c.args.inside),
        negative_of_opposite
            (pos c.args.inside),
      );
    }

pub overflow_add-upper : goal.overflow_add-upper
overflow_add-upper c =
    let small = c.requires.outside_le_wide_offset.0 in
    let left = c.requires.own_box.corners.top_left.height in
    let right = c.requires.own_box.corners.top_right.height in
    record { fits = omega (arith, c.most-upper.ensures) }

pub overflow_add-lower : goal.overflow_add-lower
overflow_add-lower c =
    let small = c.requires.outside_le_wide_offset.0 in
    let left = c.requires.own_box.corners.bottom_left.height in
    let right = c.requires.own_box.corners.bottom_right.height in
    record { fits = omega (arith, c.most-lower.ensures) }

pub row_past-requires : goal.row_past-requires
row_past-requires c =
    let own = c.requires.own_box.rectangle in
    let small = c.requires.outside_le_wide_offset in
    let near = c.requires.near in
    let inside = c.args.inside in record {
      area_rectangle = subst AreaRectangle (sym (area_is c.before.before.before.before.before))
          (offset_area c.args.b.rectangle (pos c.args.outside) own (omega (arith, int)));
      area_rectangle_2 = subst AreaRectangle (sym (inner_is c.before.before))
          (offset_area c.args.b.rectangle (neg_ℤ (pos inside)) own
          (omega (arith, int, positive_of_opposite (pos inside), negative_of_opposite (pos inside))));
      near = rw (to_z-of_z near.fits) near;
    }

-- the box's own corners reach as far as was found
own_reach : (c : After-row_past) → Reach c.args.b.corners
    (record {
      upper = c.most-upper.result;
      lower = c.most-lower.result;
    })
own_reach c =
    record {
      upper = omega (arith, c.most-upper.ensures);
      lower = omega (arith, c.most-lower.ensures);
    }

-- the corners of the areas, by radii no larger than the box's own
told : (c : After-row_past) (r s t : CornerRadii) → RadiiWithin r c.args.b.corners
    → RadiiWithin s (corner_radii_offset r (pos c.args.outside))
    → RadiiWithin t (corner_radii_offset r (neg_ℤ (pos c.args.inside)))
    → Told c.row_past.result
    (box_styled_row (box_with (rectangle_offset c.args.b.rectangle (pos c.args.outside)) s)
    (box_with (rectangle_offset c.args.b.rectangle (neg_ℤ (pos c.args.inside))) t) c.args.y)
told c r s t r_within s_within t_within =
    let own = reach_within r c.args.b.corners _ r_within (own_reach c) in
    let inward = reach_within t _ _ t_within (reach_inward r _ _ c.args.inside own) in
    subst (Told c.row_past.result)
    (λ i. box_styled_row (box_with (area_is c.before.before.before.before.before.before i) s) (box_with (inner_is c.before.before.before i) t)
    (to_z-of_z c.requires.near.fits i))
    (c.row_past.ensures s t (reach_within s _ _ s_within (reach_outward r _ _ c.args.outside own))
    (record {
      upper = let u = inward.upper in omega (arith, c.difference.ensures);
      lower = let l = inward.lower in omega (arith, c.difference-2.ensures);
    }))

pub returns : goal.returns
unfolding confined confined_w3c offset_box spread_box
returns c =
    let b = c.args.b in record {
      told = told c b.corners _ _ (radii_themselves b.corners) (confine_within _ _) (confine_within _ _);
      told_2 = told c _ _ _ (w3c_within b.corners b.rectangle.size) (radii_within_trans (w3c_within _ _) (spread_within_offset _ _))
          (radii_within_trans (w3c_within _ _) (spread_within_offset _ _));
    }
