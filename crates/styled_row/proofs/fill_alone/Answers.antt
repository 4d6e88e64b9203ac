-- `styled_row::fill_alone` meets its contract: the place of the asked row says which case of `fill_run` holds.
use Rattle.std.specs.Prelude.{Some}
use mathlib.Core.Path.{◌≡◌, sym, subst, ◌∙◌}
use Prim.Native.Nat.{◌<◌}
use native.Mathlib.Omega.{arith}
use mir.Facts.{to_z-of_z}
use Rattle.geometry.specs.declared.Size.{Size}
use Rattle.geometry_range.proofs.Fields.{range_by_fields}
use Rattle.scanline.specs.Places.{Placed, Place}
use Rattle.scanline.proofs.Placed.{placed_told}
use Rattle.rounded_rectangle.specs.Quadrants.{top, height}
use Rattle.rounded_rectangle.specs.ConfinedBox.{plain_box}
use Rattle.box_fill.specs.Relative.{row_fill}
use Rattle.box_fill.proofs.Rows.{fill_off_rows, fill_relative}
use Rattle.styled_row.proofs.fill_alone.Lts
use Rattle.styled_row.proofs.fill_alone.Reads
use Rattle.styled_row.proofs.fill_alone.Tie
use Rattle.styled_row.proofs.fill_alone.Goals as goal

-- the facts known at these places
abbrev Start : Type 0
Start = Lts.Start Tie.the-claims Reads.Pre Reads.Post Tie.handed_clauses

abbrev After-place_of : Type 0
After-place_of = Lts.After-place_of Tie.the-claims Reads.Pre Reads.Post Tie.handed_clauses

row_place : (c : After-place_of) (told : Place) → c.place_of.result ≡ told
    → Placed (top (plain_box c.args.b)) (height (plain_box c.args.b)) c.args.y told
row_place c told is = placed_told _ _ _ c.requires.bounded_box.at.y.fits c.requires.near.fits c.place_of.ensures is

pub place_of-requires : goal.place_of-requires
place_of-requires c =
    let tall = c.requires.bounded_box.size.height in
    let first = c.requires.bounded_box.at.y in record { near = rw (to_z-of_z first.fits) first; n_le_wide_side = omega arith; near_2 = rw (to_z-of_z c.requires.near.fits) c.requires.near }

-- off the fill area's rows
pub returns-in_default : goal.returns-in_default
returns-in_default c =
    let args = c.args in
    let end = to_z-of_z c.requires.near_run.end.fits in
    range_by_fields end end
    ∙ fill_off_rows (plain_box args.b) args.y args.run (row_place c.before.before _ c.in_default.is)

pub row_fill-found-requires : goal.row_fill-found-requires
row_fill-found-requires c =
    let made = c.new.ensures in
    let first = c.requires.bounded_box.at.x in record { near = rw (to_z-of_z first.fits) first; ready_box = c.new.ensures.2; dy_lt_height = subst (λ (s : Size). c.in-Some.dy < s.height) (sym c.new.ensures.0) (row_place c.before.before.before.before.before (Some c.in-Some.dy) c.in-Some.is).1; near_run = c.requires.near_run }

pub returns : goal.returns
returns c =
    let made = c.new.ensures in
    let args = c.args in
    c.row_fill-found.ensures
    ∙ (λ i. row_fill (c.new.ensures.1 i) (c.new.ensures.0 i) (to_z-of_z c.requires.bounded_box.at.x.fits i) c.in-Some.dy args.run)
    ∙ fill_relative (plain_box args.b) args.y args.run c.in-Some.dy (row_place c.before.before.before.before.before.before (Some c.in-Some.dy) c.in-Some.is)
