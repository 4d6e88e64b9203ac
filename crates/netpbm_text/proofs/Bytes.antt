-- Laws of the bytes of a header's text, and of tests joined by `and`.
-- Assumes nothing.
use mathlib.Core.Path.{◌≡◌, refl}
use mathlib.Core.Bool.{Bool, true, false, ◌&&◌, false≢true}
use Prim.Native.Nat.{ℕ, ◌≤◌}
use borrow.Author.Tests.{leb-true}
use lib.Dec.{leb}
use Rattle.netpbm_text.specs.Bytes.{is_digit}

pub and_true_parts : (a b : Bool) → (a && b) ≡ true → (a ≡ true) × (b ≡ true)
and_true_parts true b e = (refl, e)
and_true_parts false b e = (e, absurd (false≢true e))

pub digit_least : (byte : ℕ) → is_digit byte ≡ true → 48 ≤ byte
unfolding is_digit
digit_least byte e = leb-true 48 byte (and_true_parts (leb 48 byte) (leb byte 57) e).0
