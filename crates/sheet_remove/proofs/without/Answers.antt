-- `sheet_remove::without` meets its contract. Invariant: up to place j the places are those of the list without the one taken out.
use mathlib.Core.Path.{◌≡◌, subst}
use Prim.Native.Nat.{ℕ}
use native.Mathlib.Omega.{arith}
use native.Mathlib.Numerals.{add-one}
use lib.ListN.{take, length-set}
use Rattle.book.specs.Book.{without}
use Rattle.sheet_layers.specs.Layers.{blank_layer}
use Rattle.sheet_remove.proofs.Moved.{none_moved, one_moved, all_moved}
use Rattle.sheet_remove.proofs.without.Goals as goal

pub loop-j-init : goal.loop-j-init
loop-j-init c = (omega arith, none_moved c.args.places c.args.place (omega arith) blank_layer)

pub loop-j-preserved : goal.loop-j-preserved
loop-j-preserved c =
    let walk = c.loop-j in
    let a = c.args in
    let moved =
    one_moved a.places a.place (omega arith) blank_layer c.loop-j.moved c.loop-j.j (omega arith) (omega arith) (omega arith)
    c.loop-j.invariant.1 in (
      simp length-set c.loop-j.invariant.0,
      rw (add-one c.loop-j.j) moved,
    )

pub returns : goal.returns
returns c =
    let walk = c.loop-j in
    let a = c.args in
    let end : c.loop-j.j ≡ 15 = omega arith in
    rw c.blank.ensures
    (all_moved a.places a.place (omega arith) blank_layer c.loop-j.moved 15 blank_layer (omega arith) (omega arith)
    (subst (λ (n : ℕ). take n c.loop-j.moved ≡ take n (without a.place a.places)) end c.loop-j.invariant.1))
