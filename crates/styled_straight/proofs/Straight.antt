-- A row that no corner of either area touches: the stroke area's run is as wide as the area, and all of the fill area's columns
-- are contained. How far the corners of an area reach follows from the box's own: confined radii are no larger than they were, and those
-- of a W3C box grow by no more than those of a crate box.
-- Assumes nothing.
use Rattle.scanline.specs.Rows.{Row, StyledRow}
use Rattle.std.specs.Prelude.{Some}
use mathlib.Core.Path.{◌≡◌, sym, ap, ◌∙◌}
use Prim.Native.Nat.{ℕ, ◌+◌, ◌-◌}
use native.Mathlib.Omega.{arith}
use lib.IntN.{ℤ, pos, neg_ℤ}
use Rattle.signed.proofs.Laws.{positive_of_opposite, negative_of_opposite}
use Rattle.geometry_range.specs.declared.Range.{Range}
use Rattle.rectangle.specs.declared.Rectangle.{Rectangle}
use Rattle.scanline.specs.Places.{Placed}
use Rattle.corner.specs.Corner.{offset_corner}
use Rattle.corner.proofs.Offset.{offset_radius_by_parts}
use Rattle.corner_radii.specs.declared.CornerRadii.{CornerRadii}
use Rattle.corner_radii.specs.Bounds.{RadiiWithin}
use Rattle.corner_radii.specs.CornerRadii.{offset as corner_radii_offset}
use Rattle.rounded_rectangle.specs.declared.RoundedRectangle.{RoundedRectangle}
use Rattle.rounded_rectangle.specs.declared.Insets.{Insets}
use Rattle.rounded_rectangle.specs.Quadrants.{left, top, width, height}
use Rattle.rounded_rectangle.specs.Relative.{row_insets, run_between}
use Rattle.rounded_rectangle.proofs.Rows.{row_placed, side_straight}
use Rattle.box_mirrored.specs.Sides.{Straight}
use Rattle.box_mirrored.proofs.Sides.{between_straight}
use Rattle.box_fill.specs.BoxFill.{fill_run}
use Rattle.box_fill.proofs.Rows.{fill_relative}
use Rattle.box_mirrored_fill.specs.MirroredFill.{fill_between}
use Rattle.box_mirrored_fill.proofs.MirroredFill.{fill_between_lem}
use Rattle.ellipse_styled.specs.EllipseStyled.{around_fill, styled_by}
use Rattle.styled_row.specs.StyledRow.{box_styled_row}
use Rattle.styled_straight.specs.declared.Reaches.{Reaches}
use Rattle.styled_straight.specs.StraightRow.{box_with, Reach}

-- ---- the row
module _ (a f : RoundedRectangle) where
  -- the stroke area's run, and the row
  abbrev pub whole : Range
  whole = run_between (left a) (width a) (record { left = 0; right = 0 })

  abbrev pub straight_row : StyledRow
  straight_row = Some (around_fill whole (fill_between (left f) (width f) whole 0))

  module _ (y : ℤ) (dy fill_dy : ℕ) (at : Placed (top a) (height a) y (Some dy)) (fill_at_lem : Placed (top f) (height f) y (Some fill_dy))
      (s : Straight a.corners a.rectangle.size dy) (t : Straight f.corners f.rectangle.size fill_dy) where
    no_insets : row_insets a.corners (width a) (height a) dy ≡ record { left = 0; right = 0 }
    no_insets i =
        record {
          left =
              sym (side_straight a.corners.top_left a.corners.bottom_left (height a) (width a) dy
              (let u = s.past_upper in omega arith) (let l = s.before_lower in omega arith)) i;
          right =
              sym (side_straight a.corners.top_right a.corners.bottom_right (height a) (width a) dy
              (let u = s.past_upper in omega arith) (let l = s.before_lower in omega arith)) i;
        }

    fill_is : fill_run f y whole ≡ fill_between (left f) (width f) whole 0
    fill_is =
        sym
        (fill_between_lem f.corners f.rectangle.size fill_dy 0 (between_straight f.corners f.rectangle.size fill_dy t)
        (left f) whole
        ∙ fill_relative f y whole fill_dy fill_at_lem)

    pub straight_row_lem : box_styled_row a f y ≡ straight_row
    unfolding box_styled_row
    straight_row_lem =
        ap (λ (r : Row). styled_by r (fill_run f y)) (sym (row_placed a y dy at))
        ∙ ap (λ (k : Insets). styled_by (Some (run_between (left a) (width a) k)) (fill_run f y)) no_insets
        ∙ ap (λ (r : Range). Some (around_fill whole r)) fill_is

-- an area's whole run
abbrev pub whole_run : Rectangle → Range
whole_run area = run_between area.top_left.x area.size.width (record { left = 0; right = 0 })

-- the row by it, as that of the boxes of both areas
pub straight_row_is : (area inner : Rectangle) (c d : CornerRadii) (y : ℤ) (dy inner_dy : ℕ)
    → Placed area.top_left.y area.size.height y (Some dy) → Placed inner.top_left.y inner.size.height y (Some inner_dy)
    → Straight c area.size dy → Straight d inner.size inner_dy
    → Some (around_fill (whole_run area) (fill_between inner.top_left.x inner.size.width (whole_run area) 0))
    ≡ box_styled_row (box_with area c) (box_with inner d) y
straight_row_is area inner c d y dy inner_dy at inner_at s t =
    sym (straight_row_lem (box_with area c) (box_with inner d) y dy inner_dy at inner_at s t)

-- ---- how far corners reach
-- radii no larger than others reach no further
pub reach_within : (a b : CornerRadii) (r : Reaches) → RadiiWithin a b → Reach b r → Reach a r
reach_within a b r w s =
    let tl = w.top_left.height in
    let tr = w.top_right.height in
    let bl = w.bottom_left.height in
    let br = w.bottom_right.height in
    let u = s.upper in
    let l = s.lower in
    record { upper = omega arith; lower = omega arith }

-- radii offset outward and inward
pub reach_outward : (c : CornerRadii) (u l k : ℕ) → Reach c (record { upper = u; lower = l })
    → Reach (corner_radii_offset c (pos k)) (record { upper = u + k; lower = l + k })
unfolding corner_radii_offset offset_corner
reach_outward c u l k s =
    let su = s.upper in
    let sl = s.lower in
    let grown = offset_radius_by_parts (pos k) in
    record {
      upper = omega (arith, grown c.top_left.height, grown c.top_right.height);
      lower = omega (arith, grown c.bottom_left.height, grown c.bottom_right.height);
    }

pub reach_inward : (c : CornerRadii) (u l k : ℕ) → Reach c (record { upper = u; lower = l })
    → Reach (corner_radii_offset c (neg_ℤ (pos k))) (record { upper = u - k; lower = l - k })
unfolding corner_radii_offset offset_corner
reach_inward c u l k s =
    let su = s.upper in
    let sl = s.lower in
    let p = positive_of_opposite (pos k) in
    let n = negative_of_opposite (pos k) in
    let shrunk = offset_radius_by_parts (neg_ℤ (pos k)) in
    record {
      upper = omega (arith, p, n, shrunk c.top_left.height, shrunk c.top_right.height);
      lower = omega (arith, p, n, shrunk c.bottom_left.height, shrunk c.bottom_right.height);
    }
