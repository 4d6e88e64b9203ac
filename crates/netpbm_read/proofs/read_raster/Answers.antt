-- `netpbm_read::read_raster` meets its contract: the format says how the bytes hold the pixels. Of P5 they are copied over the whole
-- canvas.
use mathlib.Core.Path.{sym, ap, ◌∙◌}
use Prim.Native.Nat.{ℕ}
use native.Mathlib.Nat.{mul_comm}
use lib.ListN.{length, take, length-take}
use lib.Seq.{length-take-le}
use Rattle.netpbm_read.proofs.Reading.{copied}
use native.Mathlib.Omega.{arith}
use Rattle.netpbm_read.proofs.read_raster.Goals as goal

pub unpack_rows-requires : goal.unpack_rows-requires
unpack_rows-requires c =
    let size = c.args.size in record { width_bound = omega arith; canvas_len = c.requires.canvas_len ∙ mul_comm size.width size.height; width_in_bounds = rw c.in-P4.is at c.requires.canvas_in_bounds }

pub slice_bounds-put-end : goal.slice_bounds-put-end
slice_bounds-put-end c =
    let enough = rw c.in-P5.is at c.requires.canvas_in_bounds in
    sym (length-take-le _ c.args.bytes.now enough)

pub put-requires : goal.put-requires
put-requires c =
    let a = c.args in
    omega (arith, length-take (length a.canvas.now) a.bytes.now)

pub returns-in-P4 : goal.returns-in-P4
returns-in-P4 c = rw c.in-P4.is c.unpack_rows.ensures

pub returns-in-P5 : goal.returns-in-P5
returns-in-P5 c =
    let a = c.args in
    let is = c.in-P5.is in
    let enough = rw c.in-P5.is at c.requires.canvas_in_bounds in
    rw c.in-P5.is
    (c.put.ensures.list ∙ copied a.canvas.now a.bytes.now enough
    ∙ ap (λ (n : ℕ). take n a.bytes.now) c.requires.canvas_len)
