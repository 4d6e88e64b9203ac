-- Laws of bytes put into a buffer: one write after another is one write, and a store more is one byte more.
-- Assumes nothing.
use mathlib.Core.Path.{◌≡◌, sym, ap, ◌∙◌}
use mathlib.Core.List.{List, [], ◌∷◌, ◌++◌, append_assoc}
use Prim.Native.Nat.{ℕ, suc, ◌+◌, ◌≤◌}
use native.Mathlib.Omega.{arith}
use borrow.Rule.Slice.PartMut.{put_mid}
use lib.ListN.{length, drop, set, length-append}
use lib.Seq.{sets, sets-eq, drop-drop, length-sets}
use Rattle.netpbm_text.specs.Written.{Wrote}

pub sets_append : (l : List ℕ) (i : ℕ) (s t : List ℕ) → sets l i (s ++ t) ≡ sets (sets l i s) (i + length s) t
sets_append l i [] t = ap (λ (k : ℕ). sets l k t) (omega arith)
sets_append l i (a ∷ s) t =
    sets_append (set l i a) (suc i) s t ∙ ap (λ (k : ℕ). sets (sets (set l i a) (suc i) s) k t) (omega arith)

-- a part that was written over by s
pub sets_part : (l s written : List ℕ) (i k : ℕ) → i + length s ≤ length l → k ≡ length s → written ≡ s
    → put_mid i k l written ≡ sets l i s
sets_part l s written i k room long same =
    rw (same, long, drop-drop, ← append_assoc) (sym (sets-eq s l i room))

-- one write, and then another from where it ended
pub wrote_then : {l m n s t : List ℕ} {i j k : ℕ} → Wrote l i s m j → Wrote m j t n k → Wrote l i (s ++ t) n k
wrote_then {l} {m} {n} {s} {t} {i} {j} {k} p q =
    record {
      list = q.list ∙ rw (p.list, p.place) (sym (sets_append l i s t));
      place = rw length-append (omega arith);
    }

-- a write keeps the buffer's length
pub wrote_length : {l m s : List ℕ} {i k : ℕ} → Wrote l i s m k → length m ≡ length l
wrote_length {l} {m} {s} {i} {k} p = ap length p.list ∙ length-sets l i s

-- where there is room from the start on, what was written stands first and the bytes past it stay
pub sets_start : (l s : List ℕ) → length s ≤ length l → sets l 0 s ≡ s ++ drop (length s) l
sets_start l s h = sets-eq s l 0 (omega arith) ∙ rw (zero_plus (length s))
  where
    zero_plus : (n : ℕ) → 0 + n ≡ n
    zero_plus n = omega arith
