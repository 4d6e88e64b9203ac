-- `host_answers::put_from` meets its contract: the part written over holds the values.
use mathlib.Core.Path.{◌≡◌, sym}
use mathlib.Core.List.{List, append_assoc}
use Prim.Native.Nat.{ℕ, ◌+◌, ◌≤◌}
use native.Mathlib.Omega.{arith}
use borrow.Rule.Slice.PartMut.{put_mid}
use lib.IntN.{ℤ}
use lib.ListN.{length}
use lib.Seq.{sets, sets-eq, drop-drop}
use Rattle.host_answers.proofs.put_from.Goals as goal

written_over : (out values written : List ℤ) (at k : ℕ) → at + length values ≤ length out → k ≡ length values → written ≡ values
    → put_mid at k out written ≡ sets out at values
written_over out values written at k room long same =
    rw (same, long, drop-drop, ← append_assoc) (sym (sets-eq values out at room))

pub returns : goal.returns
returns c = written_over c.args.out.now c.args.values.now _ c.args.at _ c.requires (omega arith) c.copy_from_slice.ensures.after
