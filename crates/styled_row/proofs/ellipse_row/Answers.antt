-- `styled_row::ellipse_row` meets its contract: the place of the asked row and the stroke area's row say which case of the definition
-- holds;
-- its run starts at the first inside place.
use Rattle.scanline.specs.Rows.{Row}
use Rattle.std.specs.Prelude.{Some}
use mathlib.Core.Path.{◌≡◌, sym, ap, subst, ◌∙◌}
use Prim.Native.Nat.{◌-◌, ◌*◌}
use native.Mathlib.Omega.{arith}
use lib.IntN.{◌-ℤ◌}
use mir.Syntax.{w32}
use mir.Val.{SFits}
use mir.Facts.{to_z-of_z}
use Rattle.signed.specs.Signed.{floor0}
use Rattle.scanline.specs.Places.{find_from, Placed}
use Rattle.scanline.specs.Points.{EndsWithin, RowWithin}
use Rattle.scanline.proofs.Placed.{placed_told}
use Rattle.ellipse.specs.Relative.{contains_of}
use Rattle.ellipse_search.specs.Search.{column_inside}
use Rattle.ellipse_rows.specs.EllipsePoints.{row as ellipse_points_row}
use Rattle.ellipse_rows.specs.Relative.{first_inside}
use Rattle.ellipse_rows.proofs.Rows.{first_inside_half}
use Rattle.ellipse_styled.specs.Relative.{runs_from}
use Rattle.ellipse_styled.proofs.Rows.{styled_out, styled_found}
use Rattle.styled_row.proofs.EllipseRow.{start_fits, difference_fits, rows_there, run_first}
use Rattle.styled_row.proofs.ellipse_row.Lts
use Rattle.styled_row.proofs.ellipse_row.Reads
use Rattle.styled_row.proofs.ellipse_row.Tie
use Rattle.styled_row.proofs.ellipse_row.Goals as goal

-- the facts known at these places
abbrev Start : Type 0
Start = Lts.Start Tie.the-claims Reads.Pre Reads.Post Tie.handed_clauses

abbrev In-At : Type 0
In-At = Lts.Past-After-known_told Tie.the-claims Reads.Pre Reads.Post Tie.handed_clauses

abbrev After-row : Type 0
After-row = Lts.After-row Tie.the-claims Reads.Pre Reads.Post Tie.handed_clauses

abbrev In-Run : Type 0
In-Run = Lts.Past-After-known_told3 Tie.the-claims Reads.Pre Reads.Post Tie.handed_clauses

abbrev After-floor0-s : Type 0
After-floor0-s = Lts.After-floor0 Tie.the-claims Reads.Pre Reads.Post Tie.handed_clauses

-- ---- where the asked row stands
row_place : (c : In-At)
    → Placed c.args.area.top_left.y c.args.area.size.height c.args.y (Some c.in_ok-dy.dy)
row_place c =
    let at_place_of = c.place_of in
    placed_told _ _ _ c.requires.bounded.at.y.fits c.requires.near.fits c.place_of.ensures c.in_ok-dy.was

-- ---- the stroke area's row is the definition's
row_is : (c : After-row) (told : Row) → c.row.result ≡ told → told ≡ ellipse_points_row c.args.area
    c.args.y
row_is c told is =
    sym is ∙ c.row.ensures.0 ∙ ap (ellipse_points_row c.args.area) (to_z-of_z c.requires.near.fits)

-- ---- where it has a run: where that starts
abbrev found : In-Run → After-row
found c = c.before.before

run_ends : (c : In-Run) → EndsWithin c.args.area.top_left.x c.args.area.size.width
    c.in_ok-run.run'
run_ends c =
    subst (RowWithin c.args.area.top_left.x c.args.area.size.width) c.in_ok-run.was
    c.row.ensures.1

run_start_fits : (c : In-Run) → SFits w32 c.in_ok-run.run'.start
run_start_fits c =
    let area = c.requires.bounded in
    start_fits _ _ _ area.at.x area.size.width (run_ends c).start_from (run_ends c).start_to

place_is : (c : After-floor0-s) → c.floor0-s.result ≡ floor0
    (c.in_ok-run.run'.start -ℤ c.args.area.top_left.x)
place_is c =
    let sum = c.sub.ensures in
    c.floor0-s.ensures
    ∙ ap floor0 (to_z-of_z c.sub.ensures.fits ∙ c.sub.ensures.is ∙
    (λ i. to_z-of_z (run_start_fits c.before.before.before.before) i -ℤ to_z-of_z c.requires.bounded.at.x.fits i))

first_is : (c : After-floor0-s)
    → first_inside c.args.area.size.width c.args.area.size.height
    c.in_ok-dy.dy ≡ Some c.floor0-s.result
first_is c =
    let args = c.args in
    run_first args.area args.y c.in_ok-run.run' (row_is (found c.before.before.before.before) _ c.in_ok-run.was) c.in_ok-dy.dy
    (row_place (found c.before.before.before.before).before)
    ∙ ap Some (sym (place_is c))

-- off the stroke area's rows
pub returns-in_err-dy : goal.returns-in_err-dy
returns-in_err-dy c =
    c.from_residual.ensures
    ∙ styled_out c.args.area c.args.sides c.args.y
    (placed_told _ _ _ c.requires.bounded.at.y.fits c.requires.near.fits c.place_of.ensures c.in_err-dy.was)

pub sub-requires : goal.sub-requires
sub-requires c =
    let area = c.requires.bounded in
    rw (to_z-of_z (run_start_fits c.before.before.before), to_z-of_z area.at.x.fits)
    (difference_fits _ _ _ area.at.x area.size.width (run_ends c.before.before.before).start_from (run_ends c.before.before.before).start_to)

pub gap-distance-requires : goal.gap-distance-requires
gap-distance-requires c = ((row_place (found c.before.before.before.before.before).before).1, c.requires.bounded.size.height)

pub ellipse_runs-requires : goal.ellipse_runs-requires
ellipse_runs-requires c =
    let area = c.requires.bounded in
    let half = first_inside_half _ _ _ _ (first_is c.before.before.before) in
    let near = area.at.x in
    let tall = area.size.height in record { near = rw (to_z-of_z near.fits) near; width_le_wide_side = (area.size.width, omega arith, omega arith); size_up_to = c.requires.size_up_to }

pub returns : goal.returns
returns c =
    let args = c.args in
    let w = args.area.size.width in
    let s = c.floor0-s.result in
    ap Some
    (c.ellipse_runs.ensures
    ∙ (λ i. runs_from (to_z-of_z c.requires.bounded.at.x.fits i) w c.floor0-s.result
    (find_from (column_inside (contains_of args.sides.width args.sides.height) w (c.gap-distance.ensures.0 i))
    (w - 2 * c.floor0-s.result) c.floor0-s.result)))
    ∙ styled_found args.area args.sides args.y _ (row_place (found c.before.before.before.before.before.before.before).before)
    (rows_there args.area args.y c.in_ok-run.run' (row_is (found c.before.before.before.before.before.before.before) _ c.in_ok-run.was)) c.floor0-s.result (first_is c.before.before.before)
