-- `host_records::corners_of` meets its contract: each corner is read from its two places.
use mathlib.Core.Path.{◌∙◌}
use Prim.Native.Nat.{◌+◌}
use Rattle.host_records.specs.RecordNumbers.{radii_at}
use Rattle.host_records.proofs.Walks.{size_read}
use Rattle.host_records.proofs.corners_of.Goals as goal

pub returns : goal.returns
returns c i =
    let numbers = c.args.numbers.now in
    record {
      top_left =
          (c.size_of.ensures ∙ size_read numbers radii_at (radii_at + 1) c.size_of-arg-1.given
          c.size_of-arg-2-1.given) i;
      top_right =
          (c.size_of-2.ensures ∙ size_read numbers (radii_at + 2) (radii_at + 3) c.size_of-arg-3-1.given
          c.size_of-arg-4-1.given) i;
      bottom_right =
          (c.size_of-3.ensures ∙ size_read numbers (radii_at + 4) (radii_at + 5) c.size_of-arg-5-1.given
          c.size_of-arg-6-1.given) i;
      bottom_left =
          (c.size_of-4.ensures ∙ size_read numbers (radii_at + 6) (radii_at + 7) c.size_of-arg-7-1.given
          c.size_of-arg-8-1.given) i;
    }
