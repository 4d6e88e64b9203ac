-- `host_sheet_record::sheet_of` meets its contract: each part is read by itself.
use Rattle.host_sheet_record.specs.SheetRecord.{sheet_of}
use Rattle.host_sheet_record.proofs.sheet_of.Goals as goal

pub returns : goal.returns
unfolding sheet_of
returns c i =
    record {
      width = c.size_of-size.ensures.0 i;
      height = c.size_of-size.ensures.1 i;
      count = c.count_of.ensures i;
      layers = c.places_of.ensures i;
    }
