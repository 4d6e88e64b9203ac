-- Tests joined by `and`: what a joined one says of its parts, by the cases of the first. And the test of an answer.
-- Assumes nothing.
use Rattle.refusal.specs.Refusal.{Checked, passed}
use Rattle.std.specs.Prelude.{Ok, Err}
use mathlib.Core.Path.{◌≡◌, refl, sym, ◌∙◌}
use mathlib.Core.Bool.{Bool, true, false, ◌&&◌, ◌||◌, true≢false, false≢true}
use Rattle.book.specs.Sheet.{is_accepted}

-- ---- tests
pub and_true_parts : (a b : Bool) → (a && b) ≡ true → (a ≡ true) × (b ≡ true)
and_true_parts true b e = (refl, e)
and_true_parts false b e = (e, absurd (false≢true e))

pub and_true_of : {a b : Bool} → a ≡ true → b ≡ true → (a && b) ≡ true
and_true_of p q = rw (p, q)

pub or_false_parts : (a b : Bool) → (a || b) ≡ false → (a ≡ false) × (b ≡ false)
or_false_parts true b e = (e, absurd (true≢false e))
or_false_parts false b e = (refl, e)

pub true_unless : (t : Bool) → (t ≡ false → ⊥) → t ≡ true
true_unless true h = refl
true_unless false h = absurd (h refl)

pub false_unless : (t : Bool) → (t ≡ true → ⊥) → t ≡ false
false_unless true h = absurd (h refl)
false_unless false h = refl

pub true_false_apart : {t : Bool} → t ≡ true → t ≡ false → ⊥
true_false_apart p q = true≢false (sym p ∙ q)

-- two tests are equal if each holds where the other does
pub tests_equal : (a b : Bool) → (a ≡ true → b ≡ true) → (b ≡ true → a ≡ true) → a ≡ b
tests_equal true b f g = sym (f refl)
tests_equal false b f g = sym (false_unless b (λ e. false≢true (g e)))

-- ---- answers
pub is_accepted_true : (a : Checked) → is_accepted a ≡ true → a ≡ passed
is_accepted_true (Ok _) e = refl
is_accepted_true (Err refusal) e = absurd (false≢true e)
