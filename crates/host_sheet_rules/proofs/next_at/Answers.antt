-- `host_sheet_rules::next_at` meets its contract: the last number of a place is its next row.
use mathlib.Core.Path.{sym}
use Prim.Native.Nat.{◌+◌}
use borrow.Author.Rules.{sfits_of}
use Rattle.host_sheet_record.specs.SheetRecord.{next_row_at, place_at}
use Rattle.sheet_layers.specs.Layers.{layer_rows}
use Rattle.host_records.proofs.Walks.{read_back}
use Rattle.host_sheet_rules.proofs.Painted.{next_in_place}
use Rattle.host_sheet_rules.proofs.next_at.Goals as goal

pub returns : goal.returns
unfolding layer_rows
returns c =
    let a = c.args in
    let held = read_back a.numbers.now (place_at a.j + next_row_at) c.result-1.given in
    rw held (record { is = sym (next_in_place a.numbers.now a.j); fits = sfits_of c.result-1.given })
