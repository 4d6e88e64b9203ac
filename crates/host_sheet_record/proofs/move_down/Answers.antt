-- `host_sheet_record::move_down` meets its contract. Invariant: the numbers that are left, moved to their places, make the whole, and
-- what stands from k on is as it was.
use mathlib.Core.Path.{◌≡◌, refl, sym, ap, ◌∙◌}
use Prim.Native.Nat.{ℕ, suc, ◌+◌}
use native.Mathlib.Omega.{arith}
use borrow.Author.Rules.{sfits_of}
use lib.IntN.{ℤ, pos}
use lib.ListN.{drop, set, get_or, length-set}
use lib.Seq.{sets}
use mir.Syntax.{w32}
use mir.Facts.{to_z-of_z}
use Rattle.host_sheet_record.specs.SheetRecord.{layer_length, place_at}
use Rattle.host_sheet_record.proofs.Removed.{one_moved, still_behind, all_moved}
use Rattle.host_sheet_record.proofs.move_down.Goals as goal

pub loop-k-init : goal.loop-k-init
loop-k-init c =
    let next : place_at c.args.place + layer_length ≡ place_at (suc c.args.place) = omega arith in (
      c.requires.0,
      record {
        up_to = omega arith;
        long = c.requires.0;
        left = ap (λ (k : ℕ). sets c.args.numbers.now (place_at c.args.place) (drop k c.args.numbers.now)) next;
        still = refl;
      },
    )

pub slice_copy_out-numbers : goal.slice_copy_out-numbers
slice_copy_out-numbers c =
    let long = c.loop-k.invariant.1.long in
    omega arith

pub bounds-numbers-k : goal.bounds-numbers-k
bounds-numbers-k c =
    let long = c.loop-k.invariant.1.long in
    omega arith

pub loop-k-preserved : goal.loop-k-preserved
loop-k-preserved c =
    let turn = c.loop-k in
    let numbers₀ = c.args.numbers.now in
    let moved = c.loop-k.invariant.1 in
    let below = c.loop-k-test.true in
    let long₀ = c.loop-k.invariant.0 in
    let value = get_or c.loop-k.numbers (c.loop-k.k + layer_length) (pos 0) in
    let read = to_z-of_z {w = w32} (sfits_of {w = w32} {z = value} c.numbers-1.given) in (
      c.loop-k.invariant.0,
      record {
        up_to = omega arith;
        long = simp length-set moved.long;
        left =
            ap (λ (v : ℤ). sets (set c.loop-k.numbers c.loop-k.k v) (c.loop-k.k + 1) (drop (c.loop-k.k + 1 + layer_length) numbers₀)) read
            ∙ sym (one_moved (pos 0) numbers₀ layer_length c.loop-k.numbers c.loop-k.k moved.still (omega arith))
            ∙ moved.left;
        still = still_behind (pos 0) numbers₀ layer_length c.loop-k.numbers c.loop-k.k _ moved.still;
      },
    )

pub shape_of-numbers : goal.shape_of-numbers
shape_of-numbers c = c.loop-k.invariant.1.long ∙ sym c.loop-k.invariant.0

pub returns : goal.returns
returns c =
    let turn = c.loop-k in
    let numbers₀ = c.args.numbers.now in
    let long₀ = c.loop-k.invariant.0 in
    let past = c.loop-k-test.false in
    sym (all_moved (pos 0) numbers₀ layer_length c.loop-k.numbers c.loop-k.k (omega arith)) ∙ c.loop-k.invariant.1.left
