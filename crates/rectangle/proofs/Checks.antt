-- What a passed check of a rectangle says, and what a refused centre does.
-- Assumes nothing.
use Rattle.std.specs.Prelude.{Ok, Err}
use mathlib.Core.Path.{◌≡◌, refl}
use mathlib.Core.Bool.{Bool, true, false}
use Prim.Native.Nat.{ℕ, ◌+◌, ◌≤◌}
use native.Mathlib.Omega.{arith}
use borrow.Author.Tests.{ltb-true, lt-ltb}
use lib.IntN.{ℤ, pos, nat_abs, ◌-ℤ◌}
use Rattle.signed.specs.Signed.{Near}
use Rattle.signed.proofs.Laws.{sub_law, magnitude_law}
use Rattle.refusal.specs.declared.Refusal.{Refusal}
use Rattle.refusal.specs.declared.Refusal.TheVariants.{Position}
use Rattle.refusal.specs.Refusal.{refuse_if, or_else, beyond}
use Rattle.refusal.proofs.Checks.{passed_first, passed_next}
use Rattle.geometry.specs.declared.Point.{Point}
use Rattle.geometry.specs.declared.Size.{Size}
use Rattle.geometry.specs.Limits.{max_side, max_position}
use Rattle.geometry.specs.Bounds.{wide_point, SizeUpTo}
use Rattle.geometry.specs.Checks.{size_check, position_check, center_check}
use Rattle.geometry.proofs.Checks.{size_passed, position_passed}
use Rattle.rectangle.specs.declared.Rectangle.{Rectangle}
use Rattle.rectangle.specs.Bounds.{Bounded}
use Rattle.rectangle.specs.Rectangle.{center_term, with_center}
use Rattle.rectangle.specs.Calls.{rectangle_check}

pub rectangle_bounded : {u : Unit {0}} (r : Rectangle) → rectangle_check r ≡ Ok u → Bounded r
unfolding rectangle_check
rectangle_bounded r e =
    let size = size_passed r.size (passed_first _ _ e) in
    let at = position_passed r.top_left (passed_next (size_check r.size) _ e) in
    record {
      at = record { x = wider at.x; y = wider at.y };
      size = record { width = let h = size.width in omega arith; height = let h = size.height in omega arith };
    }
  where
    wider : {z : ℤ} → Near max_position z → Near wide_point z
    wider n = record { above = let h = n.above in omega arith; below = let h = n.below in omega arith; fits = n.fits }

-- about a centre that does not pass, every rectangle within the limit of its sides is out of position
pub center_refused : (c : Point) (s : Size) (refusal : Refusal) → SizeUpTo max_side s → center_check c ≡ Err refusal
    → position_check (with_center c s).top_left ≡ Err refusal
unfolding center_check position_check with_center
center_refused c s refusal small e = either_axis _ _ _ _ (far c.x s.width small.width) (far c.y s.height small.height) e
  where
    far : (z : ℤ) (side : ℕ) → side ≤ max_side → beyond (max_position + max_side) z ≡ true → beyond max_position (z -ℤ pos (center_term side))
        ≡ true
    far z side h t =
        let d = z -ℤ pos (center_term side) in
        lt-ltb max_position (nat_abs d)
        (omega (arith, ltb-true (max_position + max_side) (nat_abs z) t, magnitude_law z, magnitude_law d, sub_law z (pos (center_term side))))

    either_axis : (a b a' b' : Bool) → (a ≡ true → a' ≡ true) → (b ≡ true → b' ≡ true)
        → or_else (refuse_if a Position) (refuse_if b Position) ≡ Err refusal
        → or_else (refuse_if a' Position) (refuse_if b' Position) ≡ Err refusal
    either_axis true b a' b' f g e = rw (f refl) e
    either_axis false true true b' f g e = e
    either_axis false true false b' f g e = rw (g refl) e
    either_axis false false a' b' f g e = let z : ◌≡◌ {A = ℕ} 0 1 = cc in absurd (omega arith)
