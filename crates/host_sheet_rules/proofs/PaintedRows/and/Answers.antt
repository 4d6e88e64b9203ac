-- `host_sheet_rules::PaintedRows::and` meets its contract: by whether the layer has painted a row.
use mathlib.Core.Path.{ap₂, ◌∙◌}
use borrow.Author.Rules.{rules}
use mir.Syntax.{w32}
use mir.Val.{SFits}
use mir.Facts.{to_z-of_z}
use Rattle.signed.specs.Signed.{smaller, larger}
use Rattle.sheet_layers.proofs.RowTests.{RowsFit, le_held}
use Rattle.host_sheet_rules.specs.RecordRules.{also_painted}
use Rattle.host_sheet_rules.proofs.PaintedRows.and.Lts
use Rattle.host_sheet_rules.proofs.PaintedRows.and.Reads
use Rattle.host_sheet_rules.proofs.PaintedRows.and.Tie
use Rattle.host_sheet_rules.proofs.PaintedRows.and.Goals as goal

-- the facts known at these places
abbrev Start : Type 0
Start = Lts.Start Tie.the-claims Reads.Pre Reads.Post

-- what the numbers fit
rows_fit : (c : Start) → RowsFit c.args.rows
rows_fit c = record { first = search rules; next = search rules; end = search rules }

first_fits : (c : Start) → SFits w32 c.args.self.first
first_fits c = search rules

end_fits : (c : Start) → SFits w32 c.args.self.end
end_fits c = search rules

pub returns-then-rows : goal.returns-then-rows
unfolding also_painted
returns-then-rows c =
    rw (le_held (rows_fit c.before.before.before).next (rows_fit c.before.before.before).first c.if-rows.true)

pub returns : goal.returns
unfolding also_painted
returns c =
    let low = c.smaller.ensures in
    let high = c.larger.ensures in
    let first = to_z-of_z c.smaller.ensures.fits ∙ c.smaller.ensures.is ∙ ap₂ smaller (to_z-of_z (first_fits c.before.before.before.before.before.before.before.before.before)) (to_z-of_z (rows_fit c.before.before.before.before.before.before.before.before.before).first) in
    let end = to_z-of_z c.larger.ensures.fits ∙ c.larger.ensures.is ∙ ap₂ larger (to_z-of_z (end_fits c.before.before.before.before.before.before.before.before.before)) (to_z-of_z (rows_fit c.before.before.before.before.before.before.before.before.before).next) in
    rw (le_held (rows_fit c.before.before.before.before.before.before.before.before.before).next (rows_fit c.before.before.before.before.before.before.before.before.before).first c.if-rows.false)
    (λ i. record { first = first i; end = end i })
