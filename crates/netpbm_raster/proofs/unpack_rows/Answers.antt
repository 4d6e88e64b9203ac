-- `netpbm_raster::unpack_rows` meets its contract. Invariant: the rows written and those left of the raster make the whole canvas.
use mathlib.Core.Path.{◌≡◌, sym, ◌∙◌}
use Prim.Native.Nat.{◌+◌, ◌*◌, ◌-◌, ◌≤◌}
use native.Mathlib.Omega.{arith}
use lib.ListN.{length, take, drop}
use Rattle.netpbm_raster.specs.Raster.{row_bytes}
use Rattle.netpbm_raster.proofs.Rows.{part_length, over_part_length, row_part, turn_more, turn_within, counted_unpack_turn, unpack_rows_end}
use Rattle.netpbm_raster.proofs.unpack_rows.Goals as goal

pub unpack_row-requires : goal.unpack_row-requires
unpack_row-requires c =
    let head = c.loop in
    let a = c.args in
    let bytes = c.row_bytes-bytes in
    let row_turn = turn_within c.loop.counter a.height a.width c.loop-test.true in
    let bytes_turn = turn_within c.loop.counter a.height (row_bytes a.width) c.loop-test.true in
    let row = part_length c.loop.canvas c.loop.at (c.loop.at + a.width) (omega arith) (omega arith) in
    let lent = part_length a.raster.now c.loop.from (c.loop.from + c.row_bytes-bytes.result) (omega arith) (omega arith) in
    omega arith

pub loop-preserved : goal.loop-preserved
loop-preserved c =
    let head = c.loop in
    let a = c.args in
    let bytes = c.row_bytes-bytes in
    let row = c.unpack_row in
    let row_turn = turn_within c.loop.counter a.height a.width c.loop-test.true in
    let bytes_turn = turn_within c.loop.counter a.height (row_bytes a.width) c.loop-test.true in
    let within : c.loop.at + a.width ≤ length c.loop.canvas = omega arith in
    let enough : c.loop.from + row_bytes a.width ≤ length a.raster.now = omega arith in
    let part = part_length c.loop.canvas c.loop.at (c.loop.at + a.width) (omega arith) within in
    let wide : length (take (c.loop.at + a.width - c.loop.at) (drop c.loop.at c.loop.canvas)) ≡ a.width = part ∙ omega arith in
    let pixels = rw (wide, c.row_bytes-bytes.ensures, row_part a.raster.now c.loop.from (row_bytes a.width)) at c.unpack_row.ensures in (
      rw c.row_bytes-bytes.ensures
          (counted_unpack_turn c.loop.canvas a.raster.now c.unpack_row.new.row c.loop.at c.loop.from c.loop.counter a.height a.width c.loop-test.true
          within enough pixels ∙ c.loop.invariant.0),
      over_part_length c.loop.canvas c.unpack_row.new.row c.loop.at (c.loop.at + a.width) (omega arith) within (c.unpack_row.auto.row ∙ part)
          ∙ c.loop.invariant.1,
      omega (arith, turn_more c.loop.counter (row_bytes a.width)),
      omega (arith, turn_more c.loop.counter a.width),
    )

pub returns : goal.returns
returns c =
    let all : c.loop.counter ≡ c.args.height = omega arith in
    let whole : c.loop.at ≡ c.args.height * c.args.width = c.loop.invariant.3 ∙ rw all in
    sym (unpack_rows_end c.loop.canvas _ c.loop.at _ c.args.width (omega arith) (omega arith)) ∙ c.loop.invariant.0
