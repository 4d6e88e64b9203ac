-- `styled_row::box_row` meets its contract: the stroke area's row says which case of `styled_by` holds, and its run keeps to the area's
-- columns, so its fill can be looked for.
use Rattle.scanline.specs.Rows.{Row}
use Rattle.std.specs.Prelude.{Some}
use mathlib.Core.Path.{◌≡◌, sym, ap, subst, ◌∙◌}
use lib.IntN.{ℤ}
use mir.Facts.{to_z-of_z}
use Rattle.scanline.specs.Points.{RowWithin}
use Rattle.rounded_rectangle.specs.ConfinedBox.{plain_box, row as confined_box_row}
use Rattle.box_fill.specs.BoxFill.{fill_run}
use Rattle.ellipse_styled.specs.EllipseStyled.{around_fill, styled_by}
use Rattle.figure.proofs.Within.{area_box_bounded}
use Rattle.shape.proofs.Runs.{start_is_near, end_is_near}
use Rattle.styled_row.specs.StyledRow.{box_styled_row}
use Rattle.styled_row.proofs.box_row.Lts
use Rattle.styled_row.proofs.box_row.Reads
use Rattle.styled_row.proofs.box_row.Tie
use Rattle.styled_row.proofs.box_row.Goals as goal

-- the facts known at these places
abbrev After-row : Type 0
After-row = Lts.After-row Tie.the-claims Reads.Pre Reads.Post Tie.handed_clauses

-- the stroke area's row is the definition's
row_is : (c : After-row) (told : Row) → c.row.result ≡ told → told ≡ confined_box_row c.args.area c.args.y
row_is c told is = sym is ∙ c.row.ensures.0 ∙ ap (confined_box_row c.args.area) (to_z-of_z c.requires.near.fits)

pub fill_alone-requires : goal.fill_alone-requires
fill_alone-requires c =
    let at_row = c.row in
    let area = c.requires.confined_area_box.rectangle in
    let near = c.requires.near in
    let r = c.args.area.rectangle in
    let ends = subst (RowWithin r.top_left.x r.size.width) c.in_ok-run.was c.row.ensures.1 in record {
      bounded_box = area_box_bounded _ c.requires.confined_area_box_2;
      near = rw (to_z-of_z near.fits) near;
      near_run = record {
        start = start_is_near _ _ _ area.at.x area.size.width ends;
        end = end_is_near _ _ _ area.at.x
            area.size.width ends;
      };
    }

pub returns : goal.returns
unfolding box_styled_row
returns c =
    let args = c.args in
    let fill = plain_box args.fill in
    ap Some (c.around_fill.ensures ∙ ap (around_fill c.in_ok-run.run')
    (c.fill_alone.ensures ∙ ap (λ (z : ℤ). fill_run fill z c.in_ok-run.run') (to_z-of_z c.requires.near.fits)))
    ∙ ap (λ (r : Row). styled_by r (fill_run fill args.y)) (row_is c.before.before.before.before _ c.in_ok-run.was)
