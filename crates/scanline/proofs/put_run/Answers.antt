-- `scanline::put_run` meets its contract. The invariant: the columns from k on are left to write, from index i on, and with what
-- is written they make the whole.
use mathlib.Core.Path.{sym, ap, ◌∙◌}
use lib.Seq.{sets}
use mir.Syntax.{w32}
use mir.Val.{to_z, of_z}
use mir.Facts.{to_z-of_z}
use Rattle.scanline.specs.Points.{run_points, entries}
use Rattle.scanline.proofs.Listing.{still_column, run_points_none}
use native.Mathlib.Omega.{arith}
use Rattle.signed.proofs.Laws.{int}
use Rattle.scanline.proofs.put_run.Goals as goal

pub loop-k-preserved : goal.loop-k-preserved
loop-k-preserved c = (
  omega arith,
  still_column (to_z w32 (of_z w32 c.args.y)) (to_z w32 (of_z w32 c.args.start)) c.loop-k.k c.args.n
      c.loop-k-test.true (omega (arith, int)) c.loop-k.invariant.1,
)

pub returns : goal.returns
returns c =
    let still = c.loop-k.invariant.1 in (
      omega arith,
      sym (still.whole ∙ ap (sets _ _) (run_points_none _ _ _ (omega arith)))
          ∙ (λ i. sets c.args.list.now c.args.at
          (entries (run_points (to_z-of_z c.ranges.y i) (to_z-of_z c.ranges.start i) c.args.n))),
    )
