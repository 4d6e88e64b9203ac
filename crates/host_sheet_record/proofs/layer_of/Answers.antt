-- `host_sheet_record::layer_of` meets its contract: each part is read from its own numbers.
use Rattle.host_records.proofs.Walks.{read_back}
use Rattle.host_sheet_record.specs.SheetRecord.{next_row_at}
use Rattle.host_sheet_record.proofs.layer_of.Goals as goal

pub returns : goal.returns
returns c i =
    record {
      figure = c.figure_of.ensures i;
      style = c.style_of.ensures i;
      next_row = read_back c.args.numbers.now next_row_at c.result-1.given i;
    }
