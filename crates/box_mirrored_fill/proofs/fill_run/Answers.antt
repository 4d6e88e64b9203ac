-- `box_mirrored_fill::fill_run` meets its contract: the place of the asked row says which case of `fill_run` holds.
use Rattle.std.specs.Prelude.{Some}
use mathlib.Core.Path.{◌≡◌, sym, ap, subst, ◌∙◌}
use Prim.Native.Nat.{ℕ}
use lib.IntN.{ℤ}
use mir.Facts.{to_z-of_z}
use Rattle.geometry.specs.declared.Size.{Size}
use Rattle.geometry_range.proofs.Fields.{range_by_fields}
use Rattle.scanline.specs.Places.{Placed, Place}
use Rattle.scanline.proofs.Placed.{placed_told}
use Rattle.rounded_rectangle.specs.Relative.{radii}
use Rattle.box_mirrored.specs.Sides.{Between, MirroredSides}
use Rattle.box_fill.specs.BoxFill.{fill_run}
use Rattle.box_fill.specs.Relative.{box_of, row_fill}
use Rattle.box_mirrored_fill.specs.MirroredFill.{fill_between}
use Rattle.box_mirrored_fill.proofs.MirroredFill.{fill_between_lem}
use Rattle.box_fill.proofs.Rows.{fill_off_rows, fill_relative}
use Rattle.box_mirrored_fill.proofs.fill_run.Lts
use Rattle.box_mirrored_fill.proofs.fill_run.Reads
use Rattle.box_mirrored_fill.proofs.fill_run.Tie
use Rattle.box_mirrored_fill.proofs.fill_run.Goals as goal

abbrev After-place_of : Type 0
After-place_of = Lts.After-place_of Tie.the-claims Reads.Pre Reads.Post Tie.handed_clauses

abbrev In-At-mirrored_skip : Type 0
In-At-mirrored_skip = Lts.Past-After-known_told2 Tie.the-claims Reads.Pre Reads.Post Tie.handed_clauses

row_place : (c : After-place_of) (told : Place) → c.place_of.result ≡ told
    → Placed c.args.rectangle.top_left.y c.args.b.size.height c.args.y told
row_place c told is = placed_told _ _ _ c.requires.ready_fill.at.y.fits c.requires.near.fits c.place_of.ensures is

rectangle_place : (c : After-place_of) (told : Place) → c.place_of.result ≡ told
    → Placed c.args.rectangle.top_left.y c.args.rectangle.size.height c.args.y told
rectangle_place c told is =
    subst (λ (s : Size). Placed c.args.rectangle.top_left.y s.height c.args.y told) (sym c.requires.ready_fill.size)
    (row_place c told is)

-- off the fill area's rows
pub returns-in_default : goal.returns-in_default
returns-in_default c =
    let args = c.args in
    let end = to_z-of_z c.requires.near_run.end.fits in
    range_by_fields end end
    ∙ fill_off_rows (box_of args.rectangle args.b) args.y args.run (rectangle_place c.before.before _ c.in_default.is)

-- ---- the fill by its place, and as the definition has it
row_fill_is : (c : After-place_of) (dy : ℕ) → c.place_of.result ≡ Some dy
    → row_fill (radii c.args.b) c.args.b.size c.args.rectangle.top_left.x dy c.args.run
    ≡ fill_run (box_of c.args.rectangle c.args.b) c.args.y c.args.run
row_fill_is c dy is =
    let args = c.args in
    ap (λ (s : Size). row_fill (radii args.b) s args.rectangle.top_left.x dy args.run) (sym c.requires.ready_fill.size)
    ∙ fill_relative (box_of args.rectangle args.b) args.y args.run dy (rectangle_place c (Some dy) is)

pub returns-in_default-mirrored_skip : goal.returns-in_default-mirrored_skip
returns-in_default-mirrored_skip c =
    let args = c.args in
    let dy = c.in-Some.dy in
    c.row_fill.ensures
    ∙ ap (λ (z : ℤ). row_fill (radii args.b) args.b.size z c.in-Some.dy args.run) (to_z-of_z c.requires.ready_fill.at.x.fits)
    ∙ row_fill_is c.before.before.before.before.before c.in-Some.dy c.in-Some.is

-- they are
between : (c : In-At-mirrored_skip) → Between (radii c.args.b) c.args.b.size
    c.in-Some.dy c.in-Some-mirrored_skip.k
between c =
    let at_mirrored_skip = c.mirrored_skip in
    let a = c.args in
    subst (MirroredSides (radii a.b) a.b.size c.in-Some.dy) c.in-Some-mirrored_skip.is c.mirrored_skip.ensures

pub returns : goal.returns
returns c =
    let args = c.args in
    let dy = c.in-Some.dy in
    let k = c.in-Some-mirrored_skip.k in
    c.filled_between.ensures
    ∙ ap (λ (z : ℤ). fill_between z args.b.size.width args.run c.in-Some-mirrored_skip.k) (to_z-of_z c.requires.ready_fill.at.x.fits)
    ∙ fill_between_lem (radii args.b) args.b.size c.in-Some.dy c.in-Some-mirrored_skip.k (between c.before.before) args.rectangle.top_left.x args.run
    ∙ row_fill_is c.before.before.before.before.before c.in-Some.dy c.in-Some.is
