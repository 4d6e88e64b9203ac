-- `replay_calls::run_within` stays within both lists: `at_most` says so.
use Rattle.std.proofs.Common.{sym, arith, length-take-le}
use Rattle.replay_calls.proofs.run_within.Goals as goal

pub slice_bounds-run_with-end-2 : goal.slice_bounds-run_with-end-2
slice_bounds-run_with-end-2 c = sym (length-take-le _ _ (omega arith))

pub slice_bounds-run_with-end-4 : goal.slice_bounds-run_with-end-4
slice_bounds-run_with-end-4 c = sym (length-take-le _ _ (omega arith))
