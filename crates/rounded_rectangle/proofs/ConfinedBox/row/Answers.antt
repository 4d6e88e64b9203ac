-- `rounded_rectangle::ConfinedBox::row` meets its contract: the place of the asked row says which case of `row` holds.
use Rattle.std.specs.Prelude.{Some}
use mathlib.Core.Path.{sym, ap, subst, ◌∙◌}
use Prim.Native.Nat.{◌≤◌, ◌<◌}
use mir.Facts.{to_z-of_z}
use Rattle.geometry.specs.declared.Size.{Size}
use Rattle.scanline.specs.Places.{Placed}
use Rattle.scanline.specs.Points.{EndsWithin}
use Rattle.scanline.proofs.Placed.{placed_told}
use Rattle.rounded_rectangle.specs.Relative.{row_insets, run_between}
use Rattle.rounded_rectangle.proofs.Rows.{row_out, row_placed, between_within, side_inset_le}
use native.Mathlib.Omega.{arith}
use Rattle.signed.proofs.Laws.{int}
use Rattle.rounded_rectangle.proofs.ConfinedBox.row.Lts
use Rattle.rounded_rectangle.proofs.ConfinedBox.row.Reads
use Rattle.rounded_rectangle.proofs.ConfinedBox.row.Tie
use Rattle.rounded_rectangle.proofs.ConfinedBox.row.Goals as goal

-- the facts known at these places
abbrev Start : Type 0
Start = Lts.Start Tie.the-claims Reads.Pre Reads.Post Tie.handed_clauses

abbrev After-corners-1 : Type 0
After-corners-1 = Lts.After-corners Tie.the-claims Reads.Pre Reads.Post Tie.handed_clauses

-- where the asked row stands
row_place : (c : After-corners-1) →
    Placed c.args.self.rectangle.top_left.y c.args.self.rectangle.size.height
    c.args.y (Some c.in-Some.dy)
row_place c =
    let at_place_of = c.place_of in
    placed_told _ _ _ c.requires.bounded_box.at.y.fits c.requires.near.fits c.place_of.ensures c.in-Some.is

pub place_of-requires : goal.place_of-requires
place_of-requires c = omega (arith, int)

pub returns-in_default : goal.returns-in_default
returns-in_default c = (
  row_out _ _ (placed_told _ _ _ c.requires.bounded_box.at.y.fits c.requires.near.fits c.place_of.ensures
      c.in_default.is),
  tt,
)

pub insets-insets-requires : goal.insets-insets-requires
insets-insets-requires c = record { ready_box = c.new.ensures.2; dy_lt_height = subst (λ (s : Size). c.in-Some.dy < s.height) (sym c.new.ensures.0) (row_place c.before.before).1 }

pub run_between-requires : goal.run_between-requires
run_between-requires c =
    let near = c.requires.bounded_box.at.x in
    let wide = c.requires.bounded_box.size.width in
    let is = c.new.ensures.0 in record {
      near = rw (to_z-of_z near.fits) near;
      width_le_wide_side = omega arith;
      left_le_width = (
        subst (λ (s : Size). c.insets-insets.result.left ≤ s.width) c.new.ensures.0 c.insets-insets.ensures.1,
        subst
            (λ (s : Size). c.insets-insets.result.right ≤ s.width) c.new.ensures.0 c.insets-insets.ensures.2,
      );
    }

pub returns : goal.returns
returns c =
    let at_new = c.new in
    let b = c.args.self in
    let run =
    c.run_between.ensures
    ∙ (λ i. run_between (to_z-of_z c.requires.bounded_box.at.x.fits i) b.rectangle.size.width (c.insets-insets.ensures.0 i))
    ∙ (λ i. run_between b.rectangle.top_left.x b.rectangle.size.width
    (row_insets (c.new.ensures.1 i) (c.new.ensures.0 i).width (c.new.ensures.0 i).height c.in-Some.dy)) in (
      ap Some run ∙ row_placed _ _ _ (row_place c.before.before.before.before),
      subst (EndsWithin b.rectangle.top_left.x b.rectangle.size.width) (sym run)
          (between_within b.rectangle.top_left.x b.rectangle.size.width _ (side_inset_le _ _ _ _ _) (side_inset_le _ _ _ _ _)),
    )
