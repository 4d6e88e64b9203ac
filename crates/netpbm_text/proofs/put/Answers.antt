-- `netpbm_text::put` meets its contract: the part written over holds the source.
use mathlib.Core.Path.{refl}
use native.Mathlib.Omega.{arith}
use Rattle.netpbm_text.proofs.Written.{sets_part}
use Rattle.netpbm_text.proofs.put.Goals as goal

pub returns : goal.returns
returns c =
    record {
      list = sets_part c.args.out.now c.args.source.now _ c.args.at _ c.requires (omega arith) c.copy_from_slice.ensures.after;
      place = refl;
    }
