-- `host_sheet_record::size_of` meets its contract: the first two numbers are the sides.
use mathlib.Core.Path.{ap, ◌∙◌}
use lib.IntN.{ℤ}
use Rattle.signed.specs.Signed.{floor0}
use Rattle.host_records.proofs.Walks.{read_back}
use Rattle.host_sheet_record.specs.SheetRecord.{canvas_width_at, canvas_height_at, sheet_of}
use Rattle.host_sheet_record.proofs.size_of.Goals as goal

pub returns : goal.returns
unfolding sheet_of
returns c =
    let at_floor0_arg = c.floor0-arg-1 in
    let numbers = c.args.numbers.now in (
      c.floor0.ensures ∙ ap (λ (z : ℤ). floor0 z) (read_back numbers canvas_width_at c.floor0-arg-1.given),
      c.floor0-2.ensures ∙ ap (λ (z : ℤ). floor0 z) (read_back numbers canvas_height_at c.floor0-arg-2-1.given),
    )
