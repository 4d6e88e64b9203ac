-- What a place says of a column or a row: among the n from the first on, or none of them.
-- Assumes nothing.
use Rattle.std.specs.Prelude.{None}
use mathlib.Core.Path.{◌≡◌, subst}
use mathlib.Core.Bool.{true, false, ◌&&◌, and-false}
use Prim.Native.Nat.{ℕ, ◌<◌}
use native.Mathlib.Omega.{arith}
use lib.IntN.{ℤ, pos, ◌+ℤ◌}
use lib.Signed.{lt_z, le_z}
use mir.Syntax.{w32}
use mir.Val.{SFits, to_z, of_z}
use mir.Facts.{to_z-of_z}
use Rattle.signed.proofs.Laws.{int, add_law}
use Rattle.scanline.specs.Places.{Placed, Place}

module _ (first : ℤ) (n : ℕ) (v : ℤ) where
  pub placed_before : lt_z v first ≡ true → Placed first n v None
  placed_before h = let k : le_z first v ≡ false = omega (arith, int) in rw k

  pub placed_after : le_z (first +ℤ pos n) v ≡ true → Placed first n v None
  placed_after h = let k : lt_z v (first +ℤ pos n) ≡ false = omega (arith, int) in rw k (and-false (le_z first v))

  -- what a caller that reads both numbers from the machine has of the answer, once it is known
  pub placed_told : {place told : Place} → SFits w32 first → SFits w32 v
      → Placed (to_z w32 (of_z w32 first)) n (to_z w32 (of_z w32 v)) place → place ≡ told → Placed first n v told
  placed_told {place} {told} f g p e =
      subst (λ (q : Place). Placed first n v q) e
      (subst (λ (z : ℤ). Placed first n z place) (to_z-of_z g)
      (subst (λ (z : ℤ). Placed z n (to_z w32 (of_z w32 v)) place) (to_z-of_z f) p))

-- a column or a row by its place is among them
pub place_among : (first : ℤ) (n k : ℕ) → k < n → le_z first (first +ℤ pos k) && lt_z (first +ℤ pos k) (first +ℤ pos n) ≡ true
place_among first n k kn =
    let from : le_z first (first +ℤ pos k) ≡ true = omega (arith, int, add_law first (pos k)) in
    let before : lt_z (first +ℤ pos k) (first +ℤ pos n) ≡ true = omega (arith, int, add_law first (pos k), add_law first (pos n)) in
    rw (from, before)
