-- `host_sheet_rules::in_order` meets its contract: a layer that owes nothing, or whose rows left lie apart from the painted ones,
-- is overtaken by none.
use mathlib.Core.Path.{sym, ◌∙◌}
use mathlib.Core.List.{List}
use Prim.Native.Nat.{◌-◌}
use mir.Syntax.{w32}
use mir.Val.{SFits, to_z, of_z}
use mir.Facts.{to_z-of_z}
use Rattle.sheet_layers.specs.declared.rows.LayerRows.{LayerRows}
use Rattle.sheet_layers.proofs.RowTests.{RowsFit, le_held, none_owed}
use Rattle.host_sheet_rules.specs.RecordRules.{rows_from}
use Rattle.host_sheet_rules.proofs.Painted.{none_overtake_by_owed, none_past_next, none_before_end}
use borrow.Author.Rules.{rules}
use Rattle.host_sheet_rules.proofs.in_order.Lts
use Rattle.host_sheet_rules.proofs.in_order.Reads
use Rattle.host_sheet_rules.proofs.in_order.Tie
use Rattle.host_sheet_rules.proofs.in_order.Goals as goal

-- the facts known at these places
abbrev Start : Type 0
Start = Lts.Start Tie.the-claims Reads.Pre Reads.Post Tie.handed_clauses

-- what the numbers fit
earlier_fits : (c : Start) → RowsFit c.args.earlier
earlier_fits c = record { first = search rules; next = search rules; end = search rules }

first_fits : (c : Start) → SFits w32 c.args.painted.first
first_fits c = search rules

end_fits : (c : Start) → SFits w32 c.args.painted.end
end_fits c = search rules

-- the later layers' rows
abbrev later : Start → List LayerRows
later c = rows_from c.args.numbers.now c.args.from (c.args.count - c.args.from)

pub returns-then-earlier : goal.returns-then-earlier
returns-then-earlier c =
    sym (none_owed c.args.earlier (later c.before.before.before)
    (le_held (earlier_fits c.before.before.before).end (earlier_fits c.before.before.before).next c.if-earlier.true))

pub returns-then-painted-earlier : goal.returns-then-painted-earlier
returns-then-painted-earlier c =
    sym (none_past_next c.args.earlier c.args.painted
    (le_held (end_fits c.before.before.before.before.before.before.before.before) (earlier_fits c.before.before.before.before.before.before.before.before).next c.if-painted-earlier.true) (later c.before.before.before.before.before.before.before.before) c.requires.keep_to)

pub returns-then-earlier-painted : goal.returns-then-earlier-painted
returns-then-earlier-painted c =
    sym (none_before_end c.args.earlier c.args.painted
    (le_held (earlier_fits c.before.before.before.before.before.before.before.before.before.before.before.before.before).end (first_fits c.before.before.before.before.before.before.before.before.before.before.before.before.before) c.if-earlier-painted.true) (later c.before.before.before.before.before.before.before.before.before.before.before.before.before) c.requires.keep_to)

pub returns : goal.returns
returns c =
    let e = c.args.earlier in
    let fits : RowsFit e = record { first = search rules; next = search rules; end = search rules } in
    let next = to_z w32 (of_z w32 e.next) in
    c.none_overtakes.ensures
    ∙ none_overtake_by_owed (record { first = next; next = next; end = to_z w32 (of_z w32 e.end) }) e
    (rows_from c.args.numbers.now c.args.from (c.args.count - c.args.from)) (to_z-of_z fits.next) (to_z-of_z fits.end)
