-- `host_sheet_place::figure_kept` meets its contract: the numbers before the radii, and then the radii by the kind.
use mathlib.Core.Path.{◌≡◌, sym, ap, ◌∙◌}
use mathlib.Core.Bool.{Bool, true}
use lib.IntN.{ℤ}
use lib.Signed.{lt_z}
use mir.Syntax.{w32}
use mir.Val.{to_z, of_z}
use Rattle.host_records.specs.RecordNumbers.{kind_at, crate_box_kind, number_at}
use Rattle.host_records.proofs.Walks.{read_back}
use Rattle.host_sheet_place.specs.PlaceRules.{rectangle_kept, figure_kept}
use Rattle.host_sheet_place.proofs.figure_kept.Lts
use Rattle.host_sheet_place.proofs.figure_kept.Reads
use Rattle.host_sheet_place.proofs.figure_kept.Tie
use Rattle.host_sheet_place.proofs.figure_kept.Goals as goal

-- the facts known at these places
abbrev Start : Type 0
Start = Lts.Start Tie.the-claims Reads.Pre Reads.Post

abbrev After-t5-1 : Type 0
After-t5-1 = Lts.After-if22 Tie.the-claims Reads.Pre Reads.Post

rectangle : (c : After-t5-1) → rectangle_kept c.args.numbers.now ≡ true
rectangle c = sym c.rectangle_kept.ensures ∙ c.if-not-rectangle_kept.false

kind : (c : After-t5-1) {t : Bool} → lt_z (to_z w32 (of_z w32 (number_at c.args.numbers.now kind_at))) crate_box_kind ≡ t
    → lt_z (number_at c.args.numbers.now kind_at) crate_box_kind ≡ t
kind c test = sym (ap (λ (z : ℤ). lt_z z crate_box_kind) (read_back c.args.numbers.now kind_at c.t5-1.given)) ∙ test

pub returns-then-not-rectangle_kept : goal.returns-then-not-rectangle_kept
unfolding figure_kept
returns-then-not-rectangle_kept c = rw (sym c.rectangle_kept.ensures ∙ c.if-not-rectangle_kept.true)

pub returns-then-numbers-lt-CRATE_BOX : goal.returns-then-numbers-lt-CRATE_BOX
unfolding figure_kept
returns-then-numbers-lt-CRATE_BOX c = rw (rectangle c.before.before, kind c.before.before c.if-numbers-lt-CRATE_BOX.true) c.radii_kept.ensures

pub returns : goal.returns
unfolding figure_kept
returns c = rw (rectangle c.before.before, kind c.before.before c.if-numbers-lt-CRATE_BOX.false) c.radii_kept-2.ensures
