-- What a passed check says: each of the checks that it is made of has passed, so every number is within its limit.
-- Assumes nothing.
use mathlib.Core.Path.{◌≡◌, refl, sym, ap, ◌∙◌}
use mathlib.Core.Bool.{Bool, true, false, true≢false}
use Prim.Native.Nat.{ℕ, ◌≤◌}
use native.Mathlib.Omega.{arith}
use borrow.Author.Tests.{ltb-false}
use lib.IntN.{ℤ, nat_abs}
use Rattle.refusal.specs.declared.Refusal.{Refusal}
use Rattle.std.specs.Prelude.{Option, Some, None, ok_or, Result, Ok, Err, is_ok}
use Rattle.std.specs.Result.{result_and}
use Rattle.refusal.specs.Refusal.{Checked, passed, number, refusal_of, refuse_if, or_else, above, beyond}

-- what is refused has not passed
pub refused_apart : {refusal : Refusal} → Err refusal ≡ passed → ⊥
refused_apart e = let z : ◌≡◌ {A = ℕ} 0 1 = cc in omega arith

pub passed_first : (a b : Checked) → or_else a b ≡ passed → a ≡ passed
passed_first (Err refusal) b e = e
passed_first (Ok x) b e = refl

pub passed_next : (a b : Checked) → or_else a b ≡ passed → b ≡ passed
passed_next (Err refusal) b e = absurd (refused_apart e)
passed_next (Ok x) b e = e

pub passed_condition : (t : Bool) (refusal : Refusal) → refuse_if t refusal ≡ passed → t ≡ false
passed_condition true refusal e = absurd (refused_apart e)
passed_condition false refusal e = refl

pub passed_above : (limit n : ℕ) (refusal : Refusal) → refuse_if (above limit n) refusal ≡ passed → n ≤ limit
passed_above limit n refusal e = ltb-false limit n (passed_condition (above limit n) refusal e)

pub passed_beyond : (limit : ℕ) (z : ℤ) (refusal : Refusal) → refuse_if (beyond limit z) refusal ≡ passed → nat_abs z ≤ limit
passed_beyond limit z refusal e = passed_above limit (nat_abs z) refusal e

-- the library's `Result::and` of two checks is the first refusal of both
pub and_or_else : (a b : Checked) → result_and a b ≡ or_else a b
and_or_else (Err refusal) b = refl
and_or_else (Ok x) b = refl

abbrev error_or : {A : Type 0} → Refusal → Result A Refusal → Refusal
error_or other (Err refusal) = refusal
error_or other (Ok a) = other

-- what is lacking is refused by the refusal named (`Option::ok_or`)
pub lacking_refused : {A : Type 0} (o : Option A) {refusal found : Refusal} → ok_or o refusal ≡ Err found → (o ≡ None) × (found ≡ refusal)
lacking_refused None {refusal = refusal} e = (refl, sym (ap (error_or refusal) e))
lacking_refused (Some x) e = absurd (true≢false (ap is_ok e))

-- ---- a refusal returned early
pub refusal_found : {k : Checked} {r found : Refusal} → r ≡ refusal_of k → k ≡ Err found → r ≡ found
refusal_found is told = is ∙ ap refusal_of told

-- and says its number, in whatever kind of answer
pub refused_early : {A : Type 0} (says : ℕ → A) {k : Checked} {r found : Refusal} → r ≡ refusal_of k → k ≡ Err found
    → says (number r) ≡ says (number found)
refused_early says is told = ap (λ (r : Refusal). says (number r)) (refusal_found is told)
