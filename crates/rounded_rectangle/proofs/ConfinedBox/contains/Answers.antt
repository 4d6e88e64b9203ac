-- `rounded_rectangle::ConfinedBox::contains` meets its contract: the places of the asked column and row say which case of
-- `contains` holds.
use Rattle.std.specs.Prelude.{Some}
use mathlib.Core.Path.{sym, subst, ◌∙◌}
use Prim.Native.Nat.{◌<◌}
use Rattle.geometry.specs.declared.Size.{Size}
use Rattle.scanline.specs.Places.{Placed}
use Rattle.scanline.proofs.Placed.{placed_told}
use Rattle.rounded_rectangle.specs.Relative.{contains_at}
use Rattle.rounded_rectangle.proofs.Contains.{contains_no_column, contains_no_row, contains_placed}
use native.Mathlib.Omega.{arith}
use Rattle.signed.proofs.Laws.{int}
use Rattle.rounded_rectangle.proofs.ConfinedBox.contains.Lts
use Rattle.rounded_rectangle.proofs.ConfinedBox.contains.Reads
use Rattle.rounded_rectangle.proofs.ConfinedBox.contains.Tie
use Rattle.rounded_rectangle.proofs.ConfinedBox.contains.Goals as goal

-- the facts known at these places
abbrev Start : Type 0
Start = Lts.Start Tie.the-claims Reads.Pre Reads.Post Tie.handed_clauses

abbrev After-corners-1 : Type 0
After-corners-1 = Lts.After-corners Tie.the-claims Reads.Pre Reads.Post Tie.handed_clauses

-- where the asked column and row stand
column_place : (c : After-corners-1) →
    Placed c.args.self.rectangle.top_left.x c.args.self.rectangle.size.width
    c.args.point.x (Some c.in-Some.dx)
column_place c =
    let at_place_of = c.place_of in
    placed_told _ _ _ c.requires.bounded_box.at.x.fits c.requires.point_near.x.fits c.place_of.ensures c.in-Some.is

row_place : (c : After-corners-1) →
    Placed c.args.self.rectangle.top_left.y c.args.self.rectangle.size.height
    c.args.point.y (Some c.in-Some-place_of.dy)
row_place c =
    let at_place_of2 = c.place_of-2 in
    placed_told _ _ _ c.requires.bounded_box.at.y.fits c.requires.point_near.y.fits c.place_of-2.ensures c.in-Some-place_of.is

pub place_of-requires : goal.place_of-requires
place_of-requires c =
    let wide = c.requires.bounded_box.size.width in record { near = omega (arith, int); n_le_wide_side = omega arith; near_2 = omega (arith, int) }

pub returns-in_default : goal.returns-in_default
returns-in_default c =
    contains_no_column _ _ _ (placed_told _ _ _ c.requires.bounded_box.at.x.fits c.requires.point_near.x.fits c.place_of.ensures
    c.in_default.is)

pub place_of-requires-2 : goal.place_of-requires-2
place_of-requires-2 c =
    let tall = c.requires.bounded_box.size.height in record { near = omega (arith, int); n_le_wide_side = omega arith; near_2 = omega (arith, int) }

pub returns-in_default-place_of : goal.returns-in_default-place_of
returns-in_default-place_of c =
    contains_no_row _ _ _ (placed_told _ _ _ c.requires.bounded_box.at.y.fits c.requires.point_near.y.fits c.place_of-2.ensures
    c.in_default-place_of.is)

pub contains-requires : goal.contains-requires
contains-requires c =
    let column = column_place c.before in
    let row = row_place c.before in
    let is = c.new.ensures.0 in record {
      ready_box = c.new.ensures.2;
      dx_lt_width = (
        subst (λ (s : Size). c.in-Some.dx < s.width) (sym c.new.ensures.0) column.1,
        subst
            (λ (s : Size). c.in-Some-place_of.dy < s.height) (sym c.new.ensures.0) row.1,
      );
    }

pub returns : goal.returns
returns c =
    c.contains.ensures
    ∙ (λ i. contains_at (c.new.ensures.1 i) (c.new.ensures.0 i).width (c.new.ensures.0 i).height
    c.in-Some.dx c.in-Some-place_of.dy)
    ∙ contains_placed _ _ _ _ _ (column_place c.before.before) (row_place c.before.before)
