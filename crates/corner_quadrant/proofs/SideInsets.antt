-- The inset of a row, and that of a side by its two corners.
-- Assumes nothing.
use Rattle.std.specs.Prelude.{Some, None}
use mathlib.Core.Path.{◌≡◌, refl, sym, ap}
use mathlib.Core.Bool.{Bool, true, false, cond}
use Prim.Native.Nat.{ℕ, ◌-◌, ◌*◌, ◌≤◌, ◌<◌}
use native.Mathlib.Omega.{arith}
use borrow.Author.Tests.{lt-ltb, le-ltb}
use lib.Dec.{ltb}
use Rattle.geometry.specs.declared.Size.{Size}
use Rattle.scanline.specs.Places.{find_from, place_else0, Place}
use Rattle.scanline.proofs.Find.{find_none, found_at}
use Rattle.ellipse_search.specs.Search.{column_inside}
use Rattle.ellipse.proofs.Distances.{no_width_outside}
use Rattle.corner_quadrant.specs.Quadrant.{inside_corner, inset, side_inset}

-- ---- an inset
-- the place found is below n
found_below : (test : ℕ → Bool) (n : ℕ) (p : Place) → find_from test n 0 ≡ p → place_else0 p ≤ n
found_below test n (Some k) e = let b = (found_at test n 0 k e).below in omega arith
found_below test n None e = omega arith

module _ (radius : Size) (e n : ℕ) where
  pub inset_le : inset radius e n ≤ n
  unfolding inset
  inset_le = found_below (λ d. inside_corner radius d e) n (find_from (λ d. inside_corner radius d e) n 0) refl

  -- a corner without width has nothing inside
  pub inset_no_width : radius.width ≡ 0 → 0 ≡ inset radius e n
  unfolding inset inside_corner column_inside
  inset_no_width z = ap place_else0 (sym (find_none _ n 0 (λ d _ _. rw z (no_width_outside (2 * radius.height) _ _))))

-- ---- a side as the code goes about it
module _ (upper lower : Size) (h n dy : ℕ) where
  pub side_by_upper : dy < upper.height → inset upper dy n ≡ side_inset upper lower h n dy
  unfolding side_inset
  side_by_upper l = rw (lt-ltb _ _ l)

  pub side_by_lower : upper.height ≤ dy → h - 1 - dy < lower.height → inset lower (h - 1 - dy) n ≡ side_inset upper lower h n dy
  unfolding side_inset
  side_by_lower l m = rw (le-ltb _ _ l, lt-ltb _ _ m)

  pub side_straight : upper.height ≤ dy → lower.height ≤ h - 1 - dy → 0 ≡ side_inset upper lower h n dy
  unfolding side_inset
  side_straight l m = rw (le-ltb _ _ l, le-ltb _ _ m)

pub side_inset_le : (upper lower : Size) (h n dy : ℕ) → side_inset upper lower h n dy ≤ n
unfolding side_inset
side_inset_le upper lower h n dy = by_tests (ltb dy upper.height) (ltb (h - 1 - dy) lower.height)
  where
    by_tests : (t u : Bool) → cond t (inset upper dy n) (cond u (inset lower (h - 1 - dy) n) 0) ≤ n
    by_tests true u = inset_le upper dy n
    by_tests false true = inset_le lower (h - 1 - dy) n
    by_tests false false = omega arith
