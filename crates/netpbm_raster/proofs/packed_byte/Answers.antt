-- `netpbm_raster::packed_byte` meets its contract. Invariant: the byte so far with what the pixels left add makes the whole, and the
-- weights left fit beside it. The weight falls with each turn.
use mathlib.Core.Path.{◌≡◌}
use native.Mathlib.Omega.{arith}
use lib.ListN.{drop}
use Rattle.netpbm_raster.proofs.Bits.{weighed, weighed_packed, weighed_step, weighed_end, weightless}
use Rattle.netpbm_raster.proofs.packed_byte.Goals as goal

pub loop-weight-init : goal.loop-weight-init
loop-weight-init c = (omega arith, omega arith)

pub returns-then-row-i : goal.returns-then-row-i
returns-then-row-i c =
    let a = c.args in
    let head = c.loop-weight in
    let none = weighed_end a.row.now c.loop-weight.i c.loop-weight.weight c.if-row-i.true in
    let whole = weighed_packed (drop a.at a.row.now) in
    omega arith

pub bounds-row-i : goal.bounds-row-i
bounds-row-i c = omega arith

pub overflow_add-byte : goal.overflow_add-byte
overflow_add-byte c = omega arith

pub overflow_add-i : goal.overflow_add-i
overflow_add-i c = omega arith

pub loop-weight-smaller : goal.loop-weight-smaller
loop-weight-smaller c = omega arith

pub loop-weight-preserved : goal.loop-weight-preserved
loop-weight-preserved c =
    let a = c.args in
    let head = c.loop-weight in
    let step = weighed_step a.row.now c.loop-weight.i c.loop-weight.weight (omega arith) in
    (omega arith, omega arith)

pub returns : goal.returns
returns c =
    let a = c.args in
    let head = c.loop-weight in
    let none : weighed c.loop-weight.weight (drop c.loop-weight.i a.row.now) ≡ 0 = weightless c.loop-weight.weight _ (omega arith) in
    let whole = weighed_packed (drop a.at a.row.now) in
    omega arith
