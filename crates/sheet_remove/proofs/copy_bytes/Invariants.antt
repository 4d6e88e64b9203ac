-- `sheet_remove::copy_bytes` meets its contract. Invariant: the bytes that are left, put from their place on, make the whole.
use mathlib.Core.Path.{◌≡◌}
use lib.ListN.{length}
use lib.Seq.{sets, slice}
use Rattle.sheet_remove.proofs.copy_bytes.Given as goal

abbrev pub invariant-loop-i : goal.invariant-loop-i
invariant-loop-i l =
    (sets l.canvas l.i (slice l.i l.to l.background) ≡ sets l.initial.canvas l.from (slice l.from l.to l.background)) × (length l.canvas ≡ length l.initial.canvas)
