-- `host_sheet_record::is_layer` meets its contract: the figure's numbers and then the style's.
use mathlib.Core.Path.{◌≡◌, sym, ◌∙◌}
use lib.ListN.{take}
use Rattle.host_records.specs.RecordNumbers.{figure_length, is_figure}
use Rattle.host_sheet_record.proofs.is_layer.Lts
use Rattle.host_sheet_record.proofs.is_layer.Reads
use Rattle.host_sheet_record.proofs.is_layer.Tie
use Rattle.host_sheet_record.proofs.is_layer.Goals as goal

-- the facts known at these places
abbrev After-is_figure : Type 0
After-is_figure = Lts.After-is_figure Tie.the-claims Reads.Pre Reads.Post

figure : (c : After-is_figure) → is_figure (take figure_length c.args.numbers.now) ≡ c.is_figure.result
figure c = sym c.is_figure.ensures

pub returns-then-not-is_figure : goal.returns-then-not-is_figure
returns-then-not-is_figure c = rw (figure c.before ∙ c.if-not-is_figure.true)

pub returns : goal.returns
returns c = rw (figure c.before.before.before ∙ c.if-not-is_figure.false) c.is_style.ensures
