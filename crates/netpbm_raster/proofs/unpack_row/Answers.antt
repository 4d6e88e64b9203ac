-- `netpbm_raster::unpack_row` meets its contract. Invariant: the pixels written and those of the bytes left make the whole row.
use mathlib.Core.Path.{◌≡◌, refl, ◌∙◌}
use Prim.Native.Nat.{◌+◌, ◌-◌}
use native.Mathlib.Omega.{arith}
use lib.ListN.{length}
use Rattle.netpbm_raster.proofs.Rows.{part_length, over_part_length, unpack_turn, unpack_last, unpack_end}
use Rattle.netpbm_raster.proofs.unpack_row.Goals as goal

-- src/lib.rt:101:5
pub loop-row-init : goal.loop-row-init
loop-row-init c =
    let n = length c.args.row.now in
    let all : n - 0 ≡ n = omega arith in
    (omega arith, omega arith, refl, rw all)

-- src/lib.rt:101:16
pub overflow_sub-row : goal.overflow_sub-row
overflow_sub-row c = omega arith

-- src/lib.rt:102:19
pub overflow_add-end : goal.overflow_add-end
overflow_add-end c = omega arith

-- src/lib.rt:103:21
pub bounds-bytes-j : goal.bounds-bytes-j
bounds-bytes-j c = omega arith

-- src/lib.rt:103:31
pub slice_bounds-unpack_byte-count : goal.slice_bounds-unpack_byte-count
slice_bounds-unpack_byte-count c = omega arith

-- src/lib.rt:103:31
pub slice_bounds-unpack_byte-start : goal.slice_bounds-unpack_byte-start
slice_bounds-unpack_byte-start c = omega arith

-- src/lib.rt:103:31
pub slice_bounds-unpack_byte-end : goal.slice_bounds-unpack_byte-end
slice_bounds-unpack_byte-end c = omega arith

-- src/lib.rt:105:9
pub overflow_add-j : goal.overflow_add-j
overflow_add-j c = omega arith

-- src/lib.rt:101:5
pub loop-row-smaller : goal.loop-row-smaller
loop-row-smaller c = omega arith

-- src/lib.rt:101:5
pub loop-row-preserved : goal.loop-row-preserved
loop-row-preserved c =
    let head = c.loop-row in
    let a = c.args in
    let byte = c.shared_slice_known-in-loop-row-1.given c.loop-row.j in
    let end : c.loop-row.at + 8 - c.loop-row.at ≡ 8 = omega arith in
    let part = part_length c.loop-row.row c.loop-row.at (c.loop-row.at + 8) (omega arith) (omega arith) in
    let pixels = rw (part ∙ end) at c.unpack_byte.ensures in (
      omega arith,
      omega arith,
      over_part_length c.loop-row.row c.unpack_byte.new.pixels c.loop-row.at (c.loop-row.at + 8) (omega arith) (omega arith)
          (c.unpack_byte.auto.pixels ∙ part) ∙ c.loop-row.invariant.2,
      unpack_turn c.loop-row.row a.bytes.now _ c.loop-row.at c.loop-row.j (length a.row.now) (omega arith) c.loop-row.invariant.2 (omega arith)
          (omega (arith, byte)) pixels ∙ c.loop-row.invariant.3,
    )

pub bounds-bytes-j-then-at-row : goal.bounds-bytes-j-then-at-row
bounds-bytes-j-then-at-row c = omega arith

-- src/lib.rt:108:31
pub slice_bounds-unpack_byte-count-then-at-row : goal.slice_bounds-unpack_byte-count-then-at-row
slice_bounds-unpack_byte-count-then-at-row c = omega arith

-- src/lib.rt:108:31
pub slice_bounds-unpack_byte-start-then-at-row : goal.slice_bounds-unpack_byte-start-then-at-row
slice_bounds-unpack_byte-start-then-at-row c = omega arith

-- src/lib.rt:108:31
pub slice_bounds-unpack_byte-end-then-at-row : goal.slice_bounds-unpack_byte-end-then-at-row
slice_bounds-unpack_byte-end-then-at-row c = omega arith

-- src/lib.rt:95:1
pub shape_of-row-then-at-row : goal.shape_of-row-then-at-row
shape_of-row-then-at-row c =
    let head = c.loop-row in
    let n = length c.loop-row.row in
    let part = part_length c.loop-row.row c.loop-row.at n (omega arith) (omega arith) in
    over_part_length c.loop-row.row c.unpack_byte-then-at-row.new.pixels c.loop-row.at n (omega arith) (omega arith)
    (c.unpack_byte-then-at-row.auto.pixels ∙ part) ∙ c.loop-row.invariant.2

-- src/lib.rt:95:1
pub returns-then-at-row : goal.returns-then-at-row
returns-then-at-row c =
    let head = c.loop-row in
    let a = c.args in
    let byte = c.shared_slice_known-then-at-row-1.given c.loop-row.j in
    let n = length c.loop-row.row in
    let part = part_length c.loop-row.row c.loop-row.at n (omega arith) (omega arith) in
    let pixels = rw part at c.unpack_byte-then-at-row.ensures in
    unpack_last c.loop-row.row a.bytes.now _ c.loop-row.at c.loop-row.j (length a.row.now) (omega arith) (omega arith) c.loop-row.invariant.2
    (omega arith) (omega (arith, byte)) pixels ∙ c.loop-row.invariant.3

pub shape_of-row-else-at-row : goal.shape_of-row-else-at-row
shape_of-row-else-at-row c = c.loop-row.invariant.2

-- src/lib.rt:95:1
pub returns-else-at-row : goal.returns-else-at-row
returns-else-at-row c =
    let head = c.loop-row in
    let a = c.args in
    unpack_end c.loop-row.row _ c.loop-row.at (length a.row.now) (omega arith) c.loop-row.invariant.2 ∙ c.loop-row.invariant.3
