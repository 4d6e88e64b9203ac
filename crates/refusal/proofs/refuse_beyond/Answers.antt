-- `refusal::refuse_beyond` meets its contract: the magnitude is above the limit exactly where the number is beyond it.
use mathlib.Core.Path.{ap, ◌∙◌}
use Prim.Native.Nat.{ℕ}
use lib.IntN.{nat_abs}
use mir.Facts.{to_z-of_z}
use Rattle.refusal.specs.Refusal.{refuse_if, above}
use Rattle.refusal.proofs.refuse_beyond.Goals as goal

pub returns : goal.returns
returns c =
    c.refuse_above.ensures
    ∙ ap (λ (n : ℕ). refuse_if (above c.args.limit n) c.args.refusal)
    (c.magnitude.ensures ∙ ap nat_abs (to_z-of_z c.ranges.value))
