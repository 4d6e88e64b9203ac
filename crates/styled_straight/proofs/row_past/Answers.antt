-- `styled_straight::row_past` meets its contract: a row that both tests let pass lies past the corners that reach no further than
-- told, so its run is the whole area and its fill needs no test.
use Rattle.std.specs.Prelude.{Some}
use mathlib.Core.Path.{◌≡◌, sym, ap, subst, ◌∙◌}
use Prim.Native.Nat.{◌-◌, ◌≤◌, ◌<◌}
use native.Mathlib.Omega.{arith}
use mir.Facts.{to_z-of_z}
use Rattle.geometry_range.specs.declared.Range.{Range}
use Rattle.scanline.specs.Points.{EndsWithin}
use Rattle.scanline.proofs.Placed.{placed_told}
use Rattle.rounded_rectangle.specs.Relative.{run_between}
use Rattle.rounded_rectangle.proofs.Rows.{between_within}
use Rattle.box_mirrored.specs.Sides.{Straight}
use Rattle.box_mirrored_fill.specs.MirroredFill.{fill_between}
use Rattle.ellipse_styled.specs.EllipseStyled.{around_fill}
use Rattle.shape.proofs.Within.{area_bounded}
use Rattle.shape.proofs.Runs.{start_is_near, end_is_near}
use Rattle.geometry.specs.declared.Size.{Size}
use Rattle.corner_radii.specs.declared.CornerRadii.{CornerRadii}
use Rattle.styled_straight.specs.declared.Reaches.{Reaches}
use Rattle.styled_straight.specs.StraightRow.{Reach}
use Rattle.styled_straight.proofs.Straight.{whole_run, straight_row_is}
use Rattle.styled_straight.proofs.row_past.Lts
use Rattle.styled_straight.proofs.row_past.Reads
use Rattle.styled_straight.proofs.row_past.Tie
use Rattle.styled_straight.proofs.row_past.Goals as goal

-- the facts known at this place
abbrev After-run_between-run : Type 0
After-run_between-run = Lts.After-run_between Tie.the-claims Reads.Pre Reads.Post Tie.handed_clauses

run_is : (c : After-run_between-run) → c.run_between-run.result ≡ whole_run c.args.area
run_is c =
    c.run_between-run.ensures
    ∙ (λ i. run_between (to_z-of_z c.requires.area_rectangle.at.x.fits i) c.args.area.size.width
    (record { left = 0; right = 0 }))

-- a row past the corners has straight sides
straight : (corners : CornerRadii) (s : Size) (dy : _) (r : Reaches) → dy < s.height
    → (r.upper ≤ dy) × (r.lower ≤ s.height - 1 - dy) → Reach corners r → Straight corners s dy
straight corners s dy r inside past reach =
    let u = reach.upper in
    let l = reach.lower in
    record { in_box = inside; past_upper = let p = past.0 in omega arith; before_lower = let p = past.1 in omega arith }

pub place_of-requires : goal.place_of-requires
place_of-requires c =
    let area = area_bounded _ c.requires.area_rectangle in
    let near = c.requires.near in record { near = rw (to_z-of_z area.at.y.fits) area.at.y; n_le_wide_side = area.size.height; near_2 = rw (to_z-of_z near.fits) near }

pub place_of-requires-2 : goal.place_of-requires-2
place_of-requires-2 c =
    let inner = area_bounded _ c.requires.area_rectangle_2 in
    let near = c.requires.near in record { near = rw (to_z-of_z inner.at.y.fits) inner.at.y; n_le_wide_side = inner.size.height; near_2 = rw (to_z-of_z near.fits) near }

pub is_past-requires : goal.is_past-requires
is_past-requires c = (placed_told _ _ _ c.requires.area_rectangle.at.y.fits c.requires.near.fits c.place_of.ensures c.in_ok-dy.was).1

pub is_past-requires-2 : goal.is_past-requires-2
is_past-requires-2 c = (placed_told _ _ _ c.requires.area_rectangle_2.at.y.fits c.requires.near.fits c.place_of-2.ensures c.in_ok-inner_dy.was).1

pub run_between-run-requires : goal.run_between-run-requires
run_between-run-requires c =
    let area = area_bounded _ c.requires.area_rectangle in record { near = rw (to_z-of_z area.at.x.fits) area.at.x; width_le_wide_side = area.size.width; left_le_width = (omega arith, omega arith) }

pub filled_between-requires : goal.filled_between-requires
filled_between-requires c =
    let area = c.requires.area_rectangle in
    let inner = area_bounded _ c.requires.area_rectangle_2 in
    let a = c.args.area in
    let ends = subst (EndsWithin a.top_left.x a.size.width) (sym (run_is c.before.before))
    (between_within a.top_left.x a.size.width (record { left = 0; right = 0 }) (omega arith) (omega arith)) in record {
      near = rw (to_z-of_z inner.at.x.fits) inner.at.x;
      width_le_wide_stroke_side = (c.requires.area_rectangle_2.size.width, omega arith);
      near_run = record {
        start = start_is_near _ _ _ area.at.x
            area.size.width ends;
        end = end_is_near _ _ _ area.at.x area.size.width ends;
      };
    }

pub returns : goal.returns
returns c = λ c₁ d reach_c reach_d.
    let a = c.args in
    let row = placed_told _ _ _ c.requires.area_rectangle.at.y.fits c.requires.near.fits c.place_of.ensures c.in_ok-dy.was in
    let inner = placed_told _ _ _ c.requires.area_rectangle_2.at.y.fits c.requires.near.fits c.place_of-2.ensures c.in_ok-inner_dy.was in
    ap Some
    (c.around_fill.ensures
    ∙ ap (around_fill c.run_between-run.result)
    (c.filled_between.ensures
    ∙ ap (λ (x : _). fill_between x a.inner.size.width c.run_between-run.result 0)
    (to_z-of_z c.requires.area_rectangle_2.at.x.fits))
    ∙ ap (λ (r : Range). around_fill r (fill_between a.inner.top_left.x a.inner.size.width r 0)) (run_is c.before.before.before))
    ∙ straight_row_is a.area a.inner c₁ d a.y _ _ row inner
    (straight c₁ a.area.size _ a.stroke row.1 (c.is_past.ensures c.if-not-is_past.false) reach_c)
    (straight d a.inner.size _ a.fill inner.1 (c.is_past-2.ensures c.if-not-is_past-2.false) reach_d)
