-- `netpbm::put_raster` meets its contract: the format says which raster is put.
use native.Mathlib.Nat.{mul_comm}
use Rattle.netpbm_raster.proofs.Rows.{length_packed_rows}
use native.Mathlib.Omega.{arith}
use Rattle.netpbm.proofs.put_raster.Goals as goal

pub put_rows-requires : goal.put_rows-requires
put_rows-requires c =
    let a = c.args in
    let pre = c.requires in
    let room = rw (c.in-P4.is, length_packed_rows a.size.width a.size.height a.canvas.now)
    at c.requires.canvas_in_bounds in record { width_bound = omega arith; width_in_bounds = omega (arith, c.requires.canvas_len, mul_comm a.size.height a.size.width); width_in_bounds_2 = room }

pub put-requires : goal.put-requires
put-requires c = rw c.in-P5.is at c.requires.canvas_in_bounds

pub returns-in-P4 : goal.returns-in-P4
returns-in-P4 c = rw c.in-P4.is c.put_rows.ensures

pub returns-in-P5 : goal.returns-in-P5
returns-in-P5 c = rw c.in-P5.is c.put.ensures
