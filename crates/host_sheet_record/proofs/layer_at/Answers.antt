-- `host_sheet_record::layer_at` meets its contract: the part that is lent is the place's.
use mathlib.Core.Path.{ap, ◌∙◌}
use mathlib.Core.List.{List}
use lib.IntN.{ℤ}
use Rattle.host_sheet_record.specs.SheetRecord.{layer_of}
use Rattle.host_sheet_record.proofs.Parts.{place_part, place_part_length}
use Rattle.host_sheet_record.proofs.layer_at.Goals as goal

pub layer_of-requires : goal.layer_of-requires
layer_of-requires c = place_part_length c.args.numbers.now c.args.j c.requires.0 c.requires.1

pub returns : goal.returns
returns c =
    c.layer_of.ensures ∙ ap (λ (p : List ℤ). layer_of p) (place_part c.args.numbers.now c.args.j)
