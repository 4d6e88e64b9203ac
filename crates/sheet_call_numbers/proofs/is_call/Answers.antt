-- `sheet_call_numbers::is_call` meets its contract: the first number says which of the kinds it may be.
use mathlib.Core.Path.{◌≡◌, sym, ap, ◌∙◌}
use mathlib.Core.Bool.{Bool, true}
use lib.IntN.{pos}
use lib.ListN.{take, drop}
use lib.Signed.{le_z}
use mir.Syntax.{w32}
use mir.Val.{to_z, of_z}
use Rattle.host_records.specs.RecordNumbers.{figure_length, number_at, within, is_figure}
use Rattle.host_records.proofs.Walks.{read_back}
use Rattle.sheet_call_numbers.specs.CallNumbers.{call_kind_at, call_layer_at, call_figure_at, add_kind, paint_kind, remove_kind, is_call}
use Rattle.sheet_call_numbers.proofs.is_call.Lts
use Rattle.sheet_call_numbers.proofs.is_call.Reads
use Rattle.sheet_call_numbers.proofs.is_call.Tie
use Rattle.sheet_call_numbers.proofs.is_call.Goals as goal

-- the facts known at these places
abbrev Start : Type 0
Start = Lts.Start Tie.the-claims Reads.Pre Reads.Post

abbrev After-is_within : Type 0
After-is_within = Lts.After-is_within Tie.the-claims Reads.Pre Reads.Post

abbrev Else-not-is_within : Type 0
Else-not-is_within = Lts.Else1 Tie.the-claims Reads.Pre Reads.Post

abbrev After-t4-1 : Type 0
After-t4-1 = Lts.After-if22 Tie.the-claims Reads.Pre Reads.Post

abbrev After-is_figure : Type 0
After-is_figure = Lts.After-is_figure Tie.the-claims Reads.Pre Reads.Post

kind : (c : After-is_within) → within add_kind remove_kind (number_at c.args.numbers.now call_kind_at)
    ≡ c.is_within.result
kind c =
    sym (c.is_within.ensures ∙ ap (within add_kind remove_kind)
    (read_back c.args.numbers.now call_kind_at c.is_within-arg-1.given))

after_kind : (c : Else-not-is_within) → within add_kind remove_kind (number_at c.args.numbers.now call_kind_at) ≡ true
after_kind c = kind c.before ∙ c.if-not-is_within.false

-- whether it names a layer
by_kind : (c : After-t4-1) {t : Bool} → le_z paint_kind (to_z w32 (of_z w32 (number_at c.args.numbers.now call_kind_at))) ≡ t
    → le_z paint_kind (number_at c.args.numbers.now call_kind_at) ≡ t
by_kind c test =
    sym (ap (le_z paint_kind) (read_back c.args.numbers.now call_kind_at c.t4-1.given)) ∙ test

figure : (c : After-is_figure) → is_figure (take figure_length (drop call_figure_at c.args.numbers.now))
    ≡ c.is_figure.result
figure c = sym c.is_figure.ensures

pub returns-then-not-is_within : goal.returns-then-not-is_within
unfolding is_call
returns-then-not-is_within c = rw (kind c.before ∙ c.if-not-is_within.true)

pub returns-then-numbers-ge-PAINT : goal.returns-then-numbers-ge-PAINT
unfolding is_call
returns-then-numbers-ge-PAINT c =
    let a = c.args in
    rw (after_kind c.before.before.before, by_kind c.before.before c.if-numbers-ge-PAINT.true)
    (ap (le_z (pos 0)) (read_back a.numbers.now call_layer_at c.result-1.given))

pub returns-then-not-is_figure : goal.returns-then-not-is_figure
unfolding is_call
returns-then-not-is_figure c =
    let at_if2 = c.if-numbers-ge-PAINT in
    rw (
      after_kind c.before.before.before.before.before,
      by_kind c.before.before.before.before c.if-numbers-ge-PAINT.false,
      figure
          c.before ∙ c.if-not-is_figure.true,
    )

pub returns : goal.returns
unfolding is_call
returns c =
    let at_if2 = c.if-numbers-ge-PAINT in
    rw (
      after_kind c.before.before.before.before.before.before.before,
      by_kind c.before.before.before.before.before.before
          c.if-numbers-ge-PAINT.false,
      figure c.before.before.before ∙ c.if-not-is_figure.false,
    ) c.is_style.ensures
