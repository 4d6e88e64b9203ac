-- `canvas_run::paint_run` meets its contract: an absent paint leaves the row, and the columns set are those of the run.
use mathlib.Core.Path.{sym}
use lib.ListN.{length}
use Rattle.canvas_run.proofs.Runs.{run_over_absent, run_over_by_columns, clipped_in_order, clipped_within}
use Rattle.canvas_run.proofs.paint_run.Goals as goal

-- absent
pub returns-in_default : goal.returns-in_default
returns-in_default c =
    let entry = c.args in
    rw c.in_default.is (sym (run_over_absent entry.run entry.row.now))

pub fill_columns-requires : goal.fill_columns-requires
fill_columns-requires c =
    let entry = c.args in
    let row = entry.row.now in
    rw c.clip-columns.ensures (clipped_in_order entry.run (length row), clipped_within entry.run (length row))

-- a colour
pub returns : goal.returns
returns c =
    let entry = c.args in
    let columns = c.clip-columns in
    let filled = c.fill_columns in
    run_over_by_columns entry.run c.in-Some.colour entry.row.now c.fill_columns.new.row c.clip-columns.result entry.paint
    c.in-Some.is c.clip-columns.ensures c.fill_columns.ensures
