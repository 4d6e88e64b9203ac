-- `host_sheet_place::outside_width` meets its contract: an alignment's number says how many halves of the width lie outside.
use mathlib.Core.Path.{◌≡◌, refl, ap, ap₂, ◌∙◌}
use mathlib.Core.Bool.{Bool, true, false}
use Prim.Native.Nat.{ℕ, ◌*◌, ◌/◌, min}
use native.Mathlib.Omega.{arith}
use lib.IntN.{ℤ}
use lib.Signed.{lt_z}
use mir.Facts.{to_z-of_z}
use Rattle.signed.specs.Signed.{floor0}
use Rattle.signed.proofs.Laws.{int}
use Rattle.style.specs.Style.{outside_width}
use Rattle.host_records.specs.RecordNumbers.{center_alignment, outside_alignment, alignment_of}
use Rattle.host_sheet_place.proofs.outside_width.Goals as goal

halves : (w : ℕ) (v : ℤ) → w * min (floor0 v) 2 / 2 ≡ outside_width (alignment_of v) w
unfolding alignment_of
halves w v = by (lt_z v center_alignment) refl (lt_z v outside_alignment) refl
  where
    as_many : (n : ℕ) → min (floor0 v) 2 ≡ n → w * min (floor0 v) 2 / 2 ≡ w * n / 2
    as_many n e = ap (λ (k : ℕ). w * k / 2) e

    by : (s : Bool) → lt_z v center_alignment ≡ s → (t : Bool) → lt_z v outside_alignment ≡ t
        → w * min (floor0 v) 2 / 2 ≡ outside_width (alignment_of v) w
    by true p t q =
        let none : w * 0 / 2 ≡ 0 = omega arith in
        rw p (as_many 0 (omega (arith, int)) ∙ none)
    by false p true q =
        let half : w * 1 / 2 ≡ w / 2 = omega arith in
        rw (p, q) (as_many 1 (omega (arith, int)) ∙ half)
    by false p false q =
        let whole : w * 2 / 2 ≡ w = omega arith in
        rw (p, q) (as_many 2 (omega (arith, int)) ∙ whole)

pub returns : goal.returns
returns c =
    let width = c.floor0-2.ensures ∙ ap floor0 (to_z-of_z c.ranges.width) in
    let steps = c.least-halves.ensures ∙ ap (λ (n : ℕ). min n 2) (c.floor0.ensures ∙ ap floor0 (to_z-of_z c.ranges.alignment)) in
    ap₂ (λ (w n : ℕ). w * n / 2) width steps ∙ halves (floor0 c.args.width) c.args.alignment
