-- `netpbm_raster::raster_length` meets its contract: the rows of bits, or the pixels. A product of a side and a row's bytes fits.
use mathlib.Core.Path.{ap}
use Prim.Native.Nat.{ℕ, ◌*◌}
use Rattle.canvas_size.proofs.Sides.{product_fits}
use native.Mathlib.Omega.{arith}
use Rattle.netpbm_raster.proofs.raster_length.Goals as goal

pub overflow_mul-result : goal.overflow_mul-result
overflow_mul-result c =
    let size = c.args.size in
    record { fits = product_fits size.height c.row_bytes.result (omega arith) (omega arith) }

pub returns-in-P4 : goal.returns-in-P4
returns-in-P4 c =
    let size = c.args.size in
    rw c.in-P4.is (ap (λ (n : ℕ). size.height * n) c.row_bytes.ensures)

pub returns-in-P5 : goal.returns-in-P5
returns-in-P5 c = rw c.in-P5.is
