-- `SymmetricBox::row` meets its contract: the inset of a side gives the stroke area's run, and that keeps to the area's columns, so
-- its fill can
-- be looked for.
use Rattle.scanline.specs.Rows.{Row}
use Rattle.std.specs.Prelude.{Some}
use native.Mathlib.Omega.{arith}
use mathlib.Core.Path.{◌≡◌, refl, ap, ◌∙◌}
use Prim.Native.Nat.{◌<◌}
use lib.IntN.{pos, ◌+ℤ◌}
use mir.Facts.{to_z-of_z}
use Rattle.rounded_rectangle.specs.Relative.{side_inset, row_insets, run_between}
use Rattle.corner_quadrant.proofs.SideInsets.{side_by_upper, side_straight}
use Rattle.box_columns.proofs.Searches.{by_order}
use Rattle.rounded_rectangle.specs.RoundedRectangle.{row as rounded_rectangle_row}
use Rattle.rounded_rectangle.proofs.Rows.{row_placed}
use Rattle.box_fill.specs.BoxFill.{fill_run}
use Rattle.ellipse_styled.specs.EllipseStyled.{around_fill, styled_by}
use Rattle.styled_row.specs.StyledRow.{box_styled_row}
use Rattle.styled_symmetric.specs.SymmetricBox.{four_corners, symmetric_stroke, symmetric_fill}
use Rattle.styled_symmetric.proofs.SymmetricBox.row.Lts
use Rattle.styled_symmetric.proofs.SymmetricBox.row.Reads
use Rattle.styled_symmetric.proofs.SymmetricBox.row.Tie
use Rattle.styled_symmetric.proofs.SymmetricBox.row.Goals as goal

abbrev After-run_between-run : Type 0
After-run_between-run = Lts.After-run_between Tie.the-claims Reads.Pre Reads.Post Tie.handed_clauses

in_area : (c : After-run_between-run) → c.args.dy < c.args.self.area.size.height
in_area c = let upper = c.requires.corner_rows_bound in omega (arith, upper)

run_is : (c : After-run_between-run) → c.run_between-run.result
    ≡ run_between c.args.self.area.top_left.x c.args.self.area.size.width
    (row_insets (four_corners c.args.self.corner.radius) c.args.self.area.size.width
    c.args.self.area.size.height c.args.dy)
run_is c =
    let r = c.args.self.corner.radius in
    let area = c.args.self.area in
    let dy = c.args.dy in
    let upper = c.requires.corner_rows_bound in
    let rows = c.requires.ready_symmetric.stroke_rows_lem in
    let inset = c.upper_inset-inset.ensures in
    let is : c.upper_inset-inset.result ≡ side_inset r r area.size.height area.size.width dy =
    by_order dy r.height (λ l. c.upper_inset-inset.ensures.in_corner l ∙ side_by_upper r r area.size.height area.size.width dy l)
    (λ past.
    c.upper_inset-inset.ensures.past_corner past
    ∙ side_straight r r area.size.height area.size.width dy past (omega (arith, upper, rows))) in
    c.run_between-run.ensures
    ∙ (λ i. run_between (to_z-of_z c.requires.ready_symmetric.area.at.x.fits i) area.size.width (record { left = is i; right = is i }))

row_is : (c : After-run_between-run) → Some c.run_between-run.result
    ≡ rounded_rectangle_row (symmetric_stroke c.args.self) (c.args.self.area.top_left.y +ℤ pos
    c.args.dy)
row_is c = ap Some (run_is c) ∙ row_placed (symmetric_stroke c.args.self) _ c.args.dy (refl, in_area c)

pub returns : goal.returns
unfolding box_styled_row
returns c =
    let a = c.args in
    let run = c.run_between-run.result in
    ap Some (c.around_fill.ensures ∙ ap (around_fill c.run_between-run.result) c.fill-filled.ensures)
    ∙ ap (λ (r : Row). styled_by r (fill_run (symmetric_fill a.self) (a.self.area.top_left.y +ℤ pos a.dy))) (row_is c.before.before.before)
