-- `sheet_layers::rows::LayerRows::owes` meets its contract: the tests made, in order, decide the definition.
use mathlib.Core.Path.{◌≡◌, ap₂, ◌∙◌}
use mathlib.Core.Bool.{false}
use borrow.Author.Rules.{rules}
use lib.Signed.{le_z, lt_z}
use mir.Syntax.{w32}
use mir.Val.{SFits}
use mir.Facts.{to_z-of_z}
use Rattle.sheet_layers.proofs.RowTests.{lt_held, le_held, RowsFit, owes_none_above, owes_none_below, owes_by_next}
use Rattle.sheet_layers.proofs.rows.LayerRows.owes.Lts
use Rattle.sheet_layers.proofs.rows.LayerRows.owes.Reads
use Rattle.sheet_layers.proofs.rows.LayerRows.owes.Goals as goal

-- the facts known at these places
abbrev Start : Type 0
Start = Lts.Start Reads.Pre Reads.Post

abbrev Else-y-self : Type 0
Else-y-self = Lts.Else1 Reads.Pre Reads.Post

rows_fit : (c : Start) → RowsFit c.args.self
rows_fit c = record { first = search rules; next = search rules; end = search rules }

row_fits : (c : Start) → SFits w32 c.args.y
row_fits c = search rules

-- from its first row on
from_first : (c : Else-y-self) → lt_z c.args.y c.args.self.first ≡ false
from_first c =
    lt_held (row_fits c.before.before.before) (rows_fit c.before.before.before).first c.if-y-self.false

-- above its first row
pub returns-then-y-self : goal.returns-then-y-self
returns-then-y-self c =
    owes_none_above c.args.self c.args.y (lt_held (row_fits c.before.before.before) (rows_fit c.before.before.before).first c.if-y-self.true)

-- below its last row
pub returns-then-self-y : goal.returns-then-self-y
returns-then-self-y c =
    owes_none_below c.args.self c.args.y (from_first c.before.before.before)
    (le_held (rows_fit c.before.before.before.before.before.before).end (row_fits c.before.before.before.before.before.before) c.if-self-y.true)

pub returns : goal.returns
returns c =
    ap₂ le_z (to_z-of_z (rows_fit c.before.before.before.before.before.before.before.before).next) (to_z-of_z (row_fits c.before.before.before.before.before.before.before.before))
    ∙ owes_by_next c.args.self c.args.y (from_first c.before.before.before.before.before)
    (le_held (rows_fit c.before.before.before.before.before.before.before.before).end (row_fits c.before.before.before.before.before.before.before.before) c.if-self-y.false)
