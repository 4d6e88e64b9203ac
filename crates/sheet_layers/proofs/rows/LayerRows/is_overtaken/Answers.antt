-- `sheet_layers::rows::LayerRows::is_overtaken` meets its contract: the tests made, in order, decide the definition.
use mathlib.Core.Path.{◌≡◌, ap₂, ◌∙◌}
use mathlib.Core.Bool.{false}
use borrow.Author.Rules.{rules}
use lib.Signed.{le_z, lt_z}
use mir.Facts.{to_z-of_z}
use Rattle.sheet_layers.proofs.RowTests.{le_held, RowsFit, overtakes_none_painted, overtakes_none_reached, overtakes_none_left}
use Rattle.sheet_layers.proofs.RowTests.{overtakes_by_left}
use Rattle.sheet_layers.proofs.rows.LayerRows.is_overtaken.Lts
use Rattle.sheet_layers.proofs.rows.LayerRows.is_overtaken.Reads
use Rattle.sheet_layers.proofs.rows.LayerRows.is_overtaken.Goals as goal

-- the facts known at these places
abbrev Start : Type 0
Start = Lts.Start Reads.Pre Reads.Post

abbrev Else-later : Type 0
Else-later = Lts.Else1 Reads.Pre Reads.Post

abbrev Else-self-later : Type 0
Else-self-later = Lts.Else2 Reads.Pre Reads.Post

earlier_fits : (c : Start) → RowsFit c.args.self
earlier_fits c = record { first = search rules; next = search rules; end = search rules }

later_fits : (c : Start) → RowsFit c.args.later
later_fits c = record { first = search rules; next = search rules; end = search rules }

-- the later layer has painted a row
has_painted_lem : (c : Else-later) → le_z c.args.later.next c.args.later.first ≡ false
has_painted_lem c =
    le_held (later_fits c.before.before.before).next (later_fits c.before.before.before).first c.if-later.false

-- it starts above the end of the earlier one
starts_above : (c : Else-self-later)
    → le_z c.args.self.end
    c.args.later.first
    ≡ false
starts_above c =
    le_held (earlier_fits c.before.before.before.before.before.before.before.before).end (later_fits c.before.before.before.before.before.before.before.before).first c.if-self-later.false

pub returns-then-later : goal.returns-then-later
returns-then-later c =
    overtakes_none_painted c.args.self c.args.later
    (le_held (later_fits c.before.before.before).next (later_fits c.before.before.before).first c.if-later.true)

pub returns-then-self-later : goal.returns-then-self-later
returns-then-self-later c =
    overtakes_none_reached c.args.self c.args.later (has_painted_lem c.before.before.before.before.before)
    (le_held (earlier_fits c.before.before.before.before.before.before.before.before).end (later_fits c.before.before.before.before.before.before.before.before).first c.if-self-later.true)

pub returns-then-later-self : goal.returns-then-later-self
returns-then-later-self c =
    overtakes_none_left c.args.self c.args.later (has_painted_lem c.before.before.before.before.before.before.before.before.before.before) (starts_above c.before.before.before.before.before)
    (le_held (later_fits c.before.before.before.before.before.before.before.before.before.before.before.before.before).next (earlier_fits c.before.before.before.before.before.before.before.before.before.before.before.before.before).next c.if-later-self.true)

pub returns : goal.returns
returns c =
    ap₂ lt_z (to_z-of_z (earlier_fits c.before.before.before.before.before.before.before.before.before.before.before.before.before.before.before).next) (to_z-of_z (earlier_fits c.before.before.before.before.before.before.before.before.before.before.before.before.before.before.before).end)
    ∙ overtakes_by_left c.args.self c.args.later (has_painted_lem c.before.before.before.before.before.before.before.before.before.before.before.before) (starts_above c.before.before.before.before.before.before.before)
    (le_held (later_fits c.before.before.before.before.before.before.before.before.before.before.before.before.before.before.before).next (earlier_fits c.before.before.before.before.before.before.before.before.before.before.before.before.before.before.before).next c.if-later-self.false)
