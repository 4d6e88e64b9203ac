-- `host_sheet_record::count_of` meets its contract: by whether the numbers hold records.
use mathlib.Core.Path.{sym, ap, ◌∙◌}
use lib.IntN.{ℤ}
use Rattle.signed.specs.Signed.{floor0}
use Rattle.host_records.proofs.Walks.{read_back}
use Rattle.host_sheet_record.specs.SheetRecord.{count_at}
use Rattle.host_sheet_record.proofs.count_of.Goals as goal

pub returns-then-holds_records : goal.returns-then-holds_records
returns-then-holds_records c =
    let a = c.args in
    rw (sym c.holds_records.ensures ∙ c.if-holds_records.true)
    (c.floor0.ensures ∙ ap (λ (z : ℤ). floor0 z) (read_back a.numbers.now count_at c.floor0-arg-1.given))

pub returns : goal.returns
returns c = rw (sym c.holds_records.ensures ∙ c.if-holds_records.false)
