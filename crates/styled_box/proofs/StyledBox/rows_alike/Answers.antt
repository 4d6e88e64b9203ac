-- `StyledBox::rows_alike` meets its contract: on as many rows as have straight sides in both areas the rows are alike.
use Rattle.std.specs.Prelude.{Some}
use mathlib.Core.Path.{sym, ap, subst}
use Prim.Native.Nat.{◌<◌}
use native.Mathlib.Omega.{arith}
use mir.Facts.{to_z-of_z}
use Rattle.geometry.specs.declared.Size.{Size}
use Rattle.scanline.specs.Places.{Placed}
use Rattle.scanline.proofs.Placed.{placed_told}
use Rattle.rounded_rectangle.specs.Relative.{radii}
use Rattle.box_mirrored.specs.Sides.{StraightFor}
use Rattle.figure.proofs.Within.{area_bounded}
use Rattle.styled_row.specs.StyledRow.{box_styled_row}
use Rattle.styled_box.specs.ReadyBox.{stroke_box, fill_box, Alike}
use Rattle.styled_box.proofs.Straight.{rows_straight, one_alike}
use Rattle.styled_box.proofs.StyledBox.rows_alike.Lts
use Rattle.styled_box.proofs.StyledBox.rows_alike.Reads
use Rattle.styled_box.proofs.StyledBox.rows_alike.Tie
use Rattle.styled_box.proofs.StyledBox.rows_alike.Goals as goal

-- the facts known at these places
abbrev Start : Type 0
Start = Lts.Start Tie.the-claims Reads.Pre Reads.Post Tie.handed_clauses

abbrev In-At : Type 0
In-At = Lts.Past-After-known_told Tie.the-claims Reads.Pre Reads.Post Tie.handed_clauses

abbrev In-At-place_of : Type 0
In-At-place_of = Lts.Past-After-known_told2 Tie.the-claims Reads.Pre Reads.Post Tie.handed_clauses

row_place : (c : In-At)
    → Placed c.args.self.area.top_left.y c.args.self.area.size.height c.args.y
    (Some c.in-Some.dy)
row_place c =
    let at_place_of = c.place_of in
    placed_told _ _ _ c.requires.ready_styled_box.area.at.y.fits c.requires.near.fits c.place_of.ensures c.in-Some.is

inner_place : (c : In-At-place_of)
    → Placed c.args.self.inner.top_left.y c.args.self.inner.size.height
    c.args.y (Some c.in-Some-place_of.inner_dy)
inner_place c =
    let at_place_of2 = c.place_of-2 in
    placed_told _ _ _ c.requires.ready_styled_box.fill.at.y.fits c.requires.near.fits c.place_of-2.ensures
    c.in-Some-place_of.is

pub place_of-requires : goal.place_of-requires
place_of-requires c =
    let area = area_bounded _ c.requires.ready_styled_box.area in
    let near = c.requires.near in record { near = rw (to_z-of_z area.at.y.fits) area.at.y; n_le_wide_side = area.size.height; near_2 = rw (to_z-of_z near.fits) near }

pub returns-in_default : goal.returns-in_default
returns-in_default c =
    (omega arith, one_alike (box_styled_row (stroke_box c.args.self) (fill_box c.args.self)) c.args.y)

pub place_of-requires-2 : goal.place_of-requires-2
place_of-requires-2 c =
    let fill = c.requires.ready_styled_box.fill in
    let near = c.requires.near in
    let tall = fill.ready.size.height in
    let same = ap (λ (s : Size). s.height) fill.size in record { near = rw (to_z-of_z fill.at.y.fits) fill.at.y; n_le_wide_side = omega (arith, tall, same); near_2 = rw (to_z-of_z near.fits) near }

pub returns-in_default-place_of : goal.returns-in_default-place_of
returns-in_default-place_of c =
    (omega arith, one_alike (box_styled_row (stroke_box c.args.self) (fill_box c.args.self)) c.args.y)

pub straight_rows-requires : goal.straight_rows-requires
straight_rows-requires c =
    let ready = c.requires.ready_styled_box in record { ready_box = ready.stroke; dy_lt_height = subst (λ (s : Size). c.in-Some.dy < s.height) ready.stroke_size (row_place c.before.before.before.before.before.before.before.before).1 }

pub straight_rows-requires-2 : goal.straight_rows-requires-2
straight_rows-requires-2 c =
    let ready = c.requires.ready_styled_box.fill in record { ready_box = ready.ready; dy_lt_height = subst (λ (s : Size). c.in-Some-place_of.inner_dy < s.height) ready.size (inner_place c.before.before.before).1 }

pub returns : goal.returns
returns c =
    let b = c.args.self in
    let ready = c.requires.ready_styled_box in
    let stroke = c.straight_rows in
    let fill = c.straight_rows-2 in
    let n_is = c.least.ensures in
    let some₁ = c.straight_rows.ensures.0 in
    let some₂ = c.straight_rows-2.ensures.0 in
    let alike =
    rows_straight (stroke_box b) (fill_box b) c.args.y c.in-Some.dy c.in-Some-place_of.inner_dy
    c.straight_rows.result c.straight_rows-2.result
    (row_place c.before.before.before.before.before.before.before.before.before.before.before) (inner_place c.before.before.before.before.before)
    (subst (λ (s : Size). StraightFor (radii b.stroke) s c.in-Some.dy c.straight_rows.result) (sym ready.stroke_size)
    c.straight_rows.ensures.1)
    (subst (λ (s : Size). StraightFor (radii b.fill) s c.in-Some-place_of.inner_dy c.straight_rows-2.result) (sym ready.fill.size)
    c.straight_rows-2.ensures.1) in
    (omega (arith, c.least.ensures, some₁, some₂), subst (Alike (box_styled_row (stroke_box b) (fill_box b)) c.args.y) (sym c.least.ensures) alike)
