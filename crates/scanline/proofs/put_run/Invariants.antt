-- `scanline::put_run` meets its contract. The invariant: the columns from k on are left to write, from index i on, and with what
-- is written they make the whole.
use mathlib.Core.Path.{◌≡◌}
use Prim.Native.Nat.{◌+◌, ◌-◌, ◌*◌}
use lib.IntN.{pos, ◌+ℤ◌}
use Rattle.scanline.specs.Points.{run_points, entries}
use Rattle.scanline.proofs.Listing.{StillTo}
use Rattle.scanline.proofs.put_run.Given as goal

abbrev pub invariant-loop-k : goal.invariant-loop-k
invariant-loop-k l =
    (l.i ≡ l.at + 2 * l.k)
    × StillTo l.initial.list l.at (entries (run_points l.y l.start l.n))
    l.list l.i (entries (run_points l.y (l.start +ℤ pos l.k) (l.n - l.k)))
