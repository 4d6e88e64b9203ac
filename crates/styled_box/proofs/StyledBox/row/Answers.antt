-- `StyledBox::row` meets its contract: the place of the asked row says whether there is one, the insets give the stroke area's run, and
-- that keeps to the area's columns, so its fill can be looked for.
use Rattle.scanline.specs.Rows.{Row}
use Rattle.std.specs.Prelude.{Some}
use mathlib.Core.Path.{◌≡◌, sym, ap, subst, ◌∙◌}
use Prim.Native.Nat.{◌<◌, ◌≤◌}
use lib.IntN.{ℤ}
use mir.Facts.{to_z-of_z}
use Rattle.geometry.specs.declared.Size.{Size}
use Rattle.scanline.specs.Places.{Placed}
use Rattle.scanline.specs.Points.{EndsWithin}
use Rattle.scanline.proofs.Placed.{placed_told}
use Rattle.rounded_rectangle.specs.Relative.{row_insets, run_between, radii}
use Rattle.rounded_rectangle.specs.RoundedRectangle.{row as rounded_rectangle_row}
use Rattle.rounded_rectangle.proofs.Rows.{row_out, row_placed, between_within, side_inset_le}
use Rattle.box_fill.specs.BoxFill.{fill_run}
use Rattle.ellipse_styled.specs.EllipseStyled.{around_fill, styled_by}
use Rattle.figure.proofs.Within.{area_bounded}
use Rattle.shape.proofs.Runs.{start_is_near, end_is_near}
use Rattle.styled_row.specs.StyledRow.{box_styled_row}
use Rattle.styled_box.specs.ReadyBox.{stroke_box, fill_box}
use Rattle.styled_box.proofs.StyledBox.row.Lts
use Rattle.styled_box.proofs.StyledBox.row.Reads
use Rattle.styled_box.proofs.StyledBox.row.Tie
use Rattle.styled_box.proofs.StyledBox.row.Goals as goal

-- the facts known at these places
abbrev Start : Type 0
Start = Lts.Start Tie.the-claims Reads.Pre Reads.Post Tie.handed_clauses

abbrev In-At : Type 0
In-At = Lts.Past-After-known_told Tie.the-claims Reads.Pre Reads.Post Tie.handed_clauses

abbrev After-run_between-run : Type 0
After-run_between-run = Lts.After-run_between Tie.the-claims Reads.Pre Reads.Post Tie.handed_clauses

-- where the asked row stands
row_place : (c : In-At) →
    Placed c.args.self.area.top_left.y c.args.self.area.size.height
    c.args.y (Some c.in-Some.dy)
row_place c =
    let at_place_of = c.place_of in
    placed_told _ _ _ c.requires.ready_styled_box.area.at.y.fits c.requires.near.fits c.place_of.ensures c.in-Some.is

-- the stroke area's run, by its insets; it keeps to the area's columns, and is the row of the definition
run_is : (c : After-run_between-run) → c.run_between-run.result
    ≡ run_between c.args.self.area.top_left.x c.args.self.area.size.width
    (row_insets (radii c.args.self.stroke) c.args.self.area.size.width
    c.args.self.area.size.height c.in-Some.dy)
run_is c =
    let b = c.args.self in
    c.run_between-run.ensures
    ∙ (λ i. run_between (to_z-of_z c.requires.ready_styled_box.area.at.x.fits i) b.area.size.width (c.row_insets-insets.ensures.0 i))
    ∙ (λ i. run_between b.area.top_left.x b.area.size.width
    (row_insets (radii b.stroke) (sym c.requires.ready_styled_box.stroke_size i).width (sym c.requires.ready_styled_box.stroke_size i).height
    c.in-Some.dy))

run_ends : (c : After-run_between-run) → EndsWithin c.args.self.area.top_left.x
    c.args.self.area.size.width c.run_between-run.result
run_ends c =
    let b = c.args.self in
    subst (EndsWithin b.area.top_left.x b.area.size.width) (sym (run_is c))
    (between_within b.area.top_left.x b.area.size.width _ (side_inset_le _ _ _ _ _) (side_inset_le _ _ _ _ _))

row_is : (c : After-run_between-run) → Some c.run_between-run.result ≡ rounded_rectangle_row (stroke_box c.args.self)
    c.args.y
row_is c = ap Some (run_is c) ∙ row_placed _ _ _ (row_place c.before.before.before.before.before)

pub place_of-requires : goal.place_of-requires
place_of-requires c =
    let area = area_bounded _ c.requires.ready_styled_box.area in
    let near = c.requires.near in record { near = rw (to_z-of_z area.at.y.fits) area.at.y; n_le_wide_side = area.size.height; near_2 = rw (to_z-of_z near.fits) near }

pub returns-in_default : goal.returns-in_default
unfolding box_styled_row
returns-in_default c =
    ap (λ (r : Row). styled_by r (fill_run (fill_box c.args.self) c.args.y))
    (row_out (stroke_box c.args.self) c.args.y
    (placed_told _ _ _ c.requires.ready_styled_box.area.at.y.fits c.requires.near.fits c.place_of.ensures
    c.in_default.is))

pub row_insets-insets-requires : goal.row_insets-insets-requires
row_insets-insets-requires c =
    let ready = c.requires.ready_styled_box in record { ready_box = ready.stroke; dy_lt_height = subst (λ (s : Size). c.in-Some.dy < s.height) ready.stroke_size (row_place c.before.before.before).1 }

pub run_between-run-requires : goal.run_between-run-requires
run_between-run-requires c =
    let ready = c.requires.ready_styled_box in
    let area = area_bounded _ ready.area in
    let insets = c.row_insets-insets in
    let same = sym ready.stroke_size in record {
      near = rw (to_z-of_z area.at.x.fits) area.at.x;
      width_le_wide_side = area.size.width;
      left_le_width = (
        subst (λ (s : Size). c.row_insets-insets.result.left ≤ s.width) same c.row_insets-insets.ensures.1,
        subst
            (λ (s : Size). c.row_insets-insets.result.right ≤ s.width) same c.row_insets-insets.ensures.2,
      );
    }

pub fill_run-found-requires : goal.fill_run-found-requires
fill_run-found-requires c =
    let near = c.requires.near in
    let area = c.requires.ready_styled_box.area in
    let ends = run_ends c.before.before.before in record {
      ready_fill = c.requires.ready_styled_box.fill;
      near = rw (to_z-of_z near.fits) near;
      near_run = record {
        start = start_is_near _ _ _ area.at.x area.size.width ends;
        end = end_is_near _ _ _ area.at.x
            area.size.width ends;
      };
    }

pub returns : goal.returns
unfolding box_styled_row
returns c =
    let at_fill_run = c.fill_run-found in
    let b = c.args.self in
    let run = c.run_between-run.result in
    ap Some (c.around_fill.ensures ∙ ap (around_fill c.run_between-run.result)
    (c.fill_run-found.ensures ∙ ap (λ (z : ℤ). fill_run (fill_box b) z c.run_between-run.result) (to_z-of_z c.requires.near.fits)))
    ∙ ap (λ (r : Row). styled_by r (fill_run (fill_box b) c.args.y))
    (row_is c.before.before.before.before.before.before.before)
