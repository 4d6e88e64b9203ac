-- `sheet::Sheet::open` meets its contract: the size's check is the answer, and 16 blank layers are the places.
use mathlib.Core.Path.{ap}
use lib.ListN.{replicate}
use Rattle.sheet_layers.specs.declared.Layer.{Layer}
use Rattle.sheet.proofs.Sheet.open.Goals as goal

pub returns : goal.returns
returns c = record {
  answer_value = c.check.ensures;
  sheet_value = ap (λ (l : Layer). record { width = c.args.width; height = c.args.height; count = 0; layers = replicate 16 l }) c.blank-blank.ensures;
}
