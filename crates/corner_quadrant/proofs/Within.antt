-- What lies within a quadrant is on one of its rows and in one of its columns.
-- Assumes nothing.
use mathlib.Core.Path.{◌≡◌, refl}
use mathlib.Core.Bool.{Bool, true, false, ◌&&◌, false≢true}
use Prim.Native.Nat.{ℕ, ◌<◌}
use native.Mathlib.Omega.{arith}
use borrow.Author.Tests.{ltb-true}
use lib.Dec.{ltb}
use Rattle.geometry.specs.declared.Size.{Size}
use Rattle.corner_quadrant.specs.Quadrant.{in_quadrant}

pub and_first : (a b : Bool) → a && b ≡ true → a ≡ true
and_first true b e = refl
and_first false b e = absurd (false≢true e)

pub and_second : (a b : Bool) → a && b ≡ true → b ≡ true
and_second true b e = e
and_second false b e = absurd (false≢true e)

pub in_quadrant_row : (r : Size) (d e : ℕ) → in_quadrant r d e ≡ true → e < r.height
unfolding in_quadrant
in_quadrant_row r d e h = ltb-true _ _ (and_first (ltb e r.height) _ h)

pub in_quadrant_column : (r : Size) (d e : ℕ) → in_quadrant r d e ≡ true → d < r.width
unfolding in_quadrant
in_quadrant_column r d e h = ltb-true _ _ (and_second (ltb e r.height) _ h)

pub quadrant_has_rows : (e r : ℕ) (t : Bool) → ltb e r && t ≡ true → 0 < r
quadrant_has_rows e r t h = omega (arith, ltb-true e r (and_first (ltb e r) t h))
