-- `netpbm_raster::put_rows` meets its contract. Invariant: the rows put and those left make the whole raster.
use mathlib.Core.Path.{◌≡◌, sym, ◌∙◌}
use Prim.Native.Nat.{◌+◌, ◌≤◌}
use native.Mathlib.Omega.{arith}
use lib.ListN.{length}
use Rattle.netpbm_raster.specs.Raster.{row_bytes}
use Rattle.netpbm_raster.proofs.Rows.{turn_more, turn_within, row_part, row_part_length, counted_rows_turn, rows_end, length_packed_bytes, length_packed_rows}
use Rattle.netpbm_text.proofs.Written.{wrote_length}
use Rattle.netpbm_raster.proofs.put_rows.Goals as goal

pub put_row-next-requires : goal.put_row-next-requires
put_row-next-requires c =
    let head = c.loop in
    let a = c.args in
    let within : c.loop.from + a.width ≤ length a.canvas.now = omega (arith, turn_within c.loop.counter a.height a.width c.loop-test.true) in
    rw (row_part a.canvas.now c.loop.from a.width, row_part_length a.canvas.now c.loop.from a.width within)
    (record { row_len_bound = omega arith; row_in_bounds = omega (arith, turn_within c.loop.counter a.height (row_bytes a.width) c.loop-test.true) })

pub loop-preserved : goal.loop-preserved
loop-preserved c =
    let head = c.loop in
    let a = c.args in
    let put = c.put_row-next in
    let within : c.loop.from + a.width ≤ length a.canvas.now = omega (arith, turn_within c.loop.counter a.height a.width c.loop-test.true) in
    let wrote = rw (row_part a.canvas.now c.loop.from a.width, row_part_length a.canvas.now c.loop.from a.width within)
    at c.put_row-next.ensures in
    let place : c.put_row-next.result ≡ c.loop.next + row_bytes a.width = wrote.place ∙ rw (length_packed_bytes (row_bytes a.width) _) in (
      c.loop.invariant.0
          ∙ counted_rows_turn c.loop.out a.canvas.now c.loop.next c.loop.counter a.height c.loop.from a.width c.loop-test.true
          ∙ rw (← wrote.list, ← place),
      wrote_length wrote ∙ c.loop.invariant.1,
      omega (arith, turn_more c.loop.counter (row_bytes a.width)),
      omega (arith, turn_more c.loop.counter a.width),
    )

pub returns : goal.returns
returns c =
    let a = c.args in
    let all : c.loop.counter ≡ c.args.height = omega arith in
    record {
      list = sym (c.loop.invariant.0 ∙ rows_end c.loop.out _ c.loop.next _ c.args.width (omega arith));
      place = c.loop.invariant.2 ∙ rw (all, length_packed_rows c.args.width c.args.height c.args.canvas.now);
    }
