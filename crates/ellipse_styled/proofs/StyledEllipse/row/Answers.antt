-- `StyledEllipse::row` meets its contract: the place of the asked row, whether there are rows and the searches say which case of the
-- definition holds.
use Rattle.std.specs.Prelude.{Some}
use native.Mathlib.Omega.{arith}
use mathlib.Core.Path.{◌≡◌, sym, ap, ◌∙◌}
use mathlib.Core.Bool.{true}
use Prim.Native.Nat.{◌-◌, ◌*◌}
use mir.Facts.{to_z-of_z}
use borrow.Author.Tests.{not-true, not-false}
use Rattle.scanline.specs.Places.{find_from, Placed}
use Rattle.scanline.proofs.Placed.{placed_told}
use Rattle.ellipse_search.specs.Search.{column_inside}
use Rattle.ellipse_rows.specs.Relative.{first_inside, first_row_inside}
use Rattle.ellipse_rows.proofs.Rows.{first_row_wide, first_inside_half}
use Rattle.ellipse_styled.specs.Relative.{runs_from}
use Rattle.ellipse_styled.proofs.Rows.{styled_out, styled_lacking, styled_none, styled_found, first_inside_found}
use Rattle.ellipse_styled.proofs.StyledEllipse.row.Lts
use Rattle.ellipse_styled.proofs.StyledEllipse.row.Reads
use Rattle.ellipse_styled.proofs.StyledEllipse.row.Tie
use Rattle.ellipse_styled.proofs.StyledEllipse.row.Goals as goal

-- the facts known at these places
abbrev Start : Type 0
Start = Lts.Start Tie.the-claims Reads.Pre Reads.Post Tie.handed_clauses

abbrev In-At : Type 0
In-At = Lts.Past-After-known_told Tie.the-claims Reads.Pre Reads.Post Tie.handed_clauses

abbrev Else-not-self : Type 0
Else-not-self = Lts.Else1 Tie.the-claims Reads.Pre Reads.Post Tie.handed_clauses

abbrev After-scan_inside : Type 0
After-scan_inside = Lts.After-scan_inside Tie.the-claims Reads.Pre Reads.Post Tie.handed_clauses

-- where the asked row stands, that there are rows, and where the stroke starts
row_place : (c : In-At) →
    Placed c.args.self.area.top_left.y c.args.self.area.size.height
    c.args.y (Some c.in-Some.dy)
row_place c =
    let at_place_of = c.place_of in
    placed_told _ _ _ c.requires.ready_ellipse.area.at.y.fits c.requires.near.fits c.place_of.ensures c.in-Some.is

rows_there : (c : Else-not-self) → first_row_inside c.args.self.area.size.width c.args.self.area.size.height
    ≡ true
rows_there c =
    sym c.requires.ready_ellipse.rows ∙ not-false _ c.if-not-self.false

-- where the row is asked for
abbrev asked : After-scan_inside → Start
asked c = c.before.before.before.before.before.before.before.before.before.before.before

stroke_start : (c : After-scan_inside) → first_inside c.args.self.area.size.width c.args.self.area.size.height
    c.in-Some.dy ≡ c.scan_inside.result
stroke_start c =
    let at_pre = c.requires in
    first_inside_found _ _ _ _ _ _ c.requires.ready_ellipse.stroke c.gap-distance.ensures.0 c.scan_inside.ensures

pub returns-in_default : goal.returns-in_default
returns-in_default c =
    styled_out c.args.self.area c.args.self.sides c.args.y
    (placed_told _ _ _ c.requires.ready_ellipse.area.at.y.fits c.requires.near.fits c.place_of.ensures
    c.in_default.is)

pub returns-then-not-self : goal.returns-then-not-self
returns-then-not-self c =
    styled_lacking c.args.self.area c.args.self.sides c.args.y
    (sym c.requires.ready_ellipse.rows ∙ not-true _ c.if-not-self.true)

pub scan_inside-requires : goal.scan_inside-requires
scan_inside-requires c =
    let wide = first_row_wide _ _ (rows_there c.before.before.before) in
    let tall = c.requires.ready_ellipse.area.size.height in record { small_weights = c.requires.ready_ellipse.stroke_weights; width_nonzero = (wide, c.requires.ready_ellipse.area.size.width, omega arith); from_bound = (omega arith, c.requires.ready_ellipse.area.size.width) }

pub returns-in_default-scan_inside : goal.returns-in_default-scan_inside
returns-in_default-scan_inside c =
    styled_none c.args.self.area c.args.self.sides c.args.y _
    (row_place c.before.before.before.before.before.before) (rows_there c.before.before.before.before)
    (stroke_start c.before ∙ c.in_default-scan_inside.is)

pub runs_at-found-requires : goal.runs_at-found-requires
runs_at-found-requires c =
    let half = first_inside_half _ _ _ _ (stroke_start c.before.before.before.before ∙ c.in-Some-scan_inside.is) in
    let tall = c.requires.ready_ellipse.area.size.height in
    let near = c.requires.ready_ellipse.area.at.x in record { near = rw (to_z-of_z near.fits) near; width_le_wide_side = (c.requires.ready_ellipse.area.size.width, omega arith, omega arith); small_weights = c.requires.ready_ellipse.fill_weights }

pub returns : goal.returns
returns c =
    let at_gap = c.gap-distance in
    let w = c.args.self.area.size.width in
    let s = c.in-Some-scan_inside.s in
    ap Some
    (c.runs_at-found.ensures
    ∙ (λ i. runs_from (to_z-of_z c.requires.ready_ellipse.area.at.x.fits i) w s
    (find_from (column_inside (c.requires.ready_ellipse.fill i) w (c.gap-distance.ensures.0 i)) (w - 2 * s) s)))
    ∙ styled_found c.args.self.area c.args.self.sides c.args.y _ (row_place c.before.before.before.before.before.before.before.before.before.before) (rows_there c.before.before.before.before.before.before.before.before) s
    (stroke_start c.before.before.before.before.before ∙ c.in-Some-scan_inside.is)
