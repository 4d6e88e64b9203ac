-- `netpbm_raster::put_row` meets its contract. Invariant: the bytes put and those left make the whole row.
use mathlib.Core.Path.{sym, ap, ◌∙◌}
use Prim.Native.Nat.{ℕ, ◌+◌, ◌-◌, ◌*◌}
use native.Mathlib.Omega.{arith}
use lib.ListN.{length, drop, set, length-set}
use lib.Seq.{sets}
use Rattle.netpbm_raster.specs.Raster.{packed_bytes, row_bytes}
use Rattle.netpbm_raster.proofs.Rows.{counted_put_turn, put_end, length_packed_bytes}
use Rattle.netpbm_raster.proofs.put_row.Goals as goal

pub loop-j-preserved : goal.loop-j-preserved
loop-j-preserved c =
    let out = c.loop-j.out in
    let a = c.args in
    let j = c.loop-j.j in
    let n = row_bytes (length c.args.row.now) in (
      c.loop-j.invariant.0 ∙ counted_put_turn c.loop-j.out c.args.row.now c.args.at c.loop-j.j _ (omega arith)
          ∙ ap (λ (b : ℕ). sets (set c.loop-j.out (c.args.at + c.loop-j.j) b) (c.args.at + (c.loop-j.j + 1))
          (packed_bytes (row_bytes (length c.args.row.now) - (c.loop-j.j + 1)) (drop (8 * (c.loop-j.j + 1)) c.args.row.now))) (sym c.packed_byte.ensures),
      simp length-set c.loop-j.invariant.1,
    )

pub returns : goal.returns
returns c =
    record {
      list = sym (c.loop-j.invariant.0 ∙ put_end c.loop-j.out _ _ _ (omega arith));
      place = omega (arith, length_packed_bytes (row_bytes (length c.args.row.now)) c.args.row.now);
    }
