-- `sheet_remove::copy_bytes` meets its contract. Invariant: the bytes that are left, put from their place on, make the whole.
use mathlib.Core.Path.{◌≡◌, refl, sym, ap, ◌∙◌}
use mathlib.Core.List.{List}
use Prim.Native.Nat.{ℕ, ◌+◌, ◌<◌, ◌≤◌}
use native.Mathlib.Omega.{arith}
use native.Mathlib.Numerals.{add-one}
use lib.ListN.{length, take, set, get_or, length-set, length-take, drop_of_length-le}
use lib.Seq.{sets, slice, slice-cons}
use Rattle.sheet_remove.proofs.copy_bytes.Goals as goal

-- one byte more is put
step : (canvas background : List ℕ) (i to : ℕ) → i < to → to ≤ length background
    → sets canvas i (slice i to background) ≡ sets (set canvas i (get_or background i 0)) (i + 1) (slice (i + 1) to background)
step canvas background i to left within = rw (slice-cons i to background 0 left within, add-one i)

-- none is left
none_left : (canvas background : List ℕ) (i to : ℕ) → to ≤ i → sets canvas i (slice i to background) ≡ canvas
none_left canvas background i to past =
    ap (sets canvas i) (drop_of_length-le (take to background) {i = i} (rw (length-take to background) (omega arith)))

pub loop-i-init : goal.loop-i-init
loop-i-init c = (refl, refl)

pub loop-i-preserved : goal.loop-i-preserved
loop-i-preserved c =
    let walk = c.loop-i in
    let a = c.args in (
      sym (step c.loop-i.canvas a.background.now c.loop-i.i a.to c.loop-i-test.true (omega arith)) ∙ c.loop-i.invariant.0,
      simp length-set c.loop-i.invariant.1,
    )

pub shape_of-canvas : goal.shape_of-canvas
shape_of-canvas c = c.loop-i.invariant.1

pub returns : goal.returns
returns c =
    let walk = c.loop-i in
    let a = c.args in
    sym (none_left c.loop-i.canvas a.background.now c.loop-i.i a.to (omega arith)) ∙ c.loop-i.invariant.0
