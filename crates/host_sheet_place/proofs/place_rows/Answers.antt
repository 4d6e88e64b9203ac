-- `host_sheet_place::place_rows` meets its contract: the limits and the two tests of the next row decide whether the layer keeps its
-- rules.
use Rattle.std.specs.Prelude.{Some}
use mathlib.Core.Path.{◌≡◌, sym, ap, ◌∙◌}
use mathlib.Core.Bool.{Bool, true, ◌&&◌}
use lib.Signed.{lt_z}
use mir.Syntax.{w32}
use mir.Val.{to_z, of_z}
use Rattle.sheet_layers.specs.declared.rows.LayerRows.{LayerRows}
use Rattle.sheet_layers.proofs.RowTests.{and-false, lt_held}
use Rattle.book.proofs.Tests.{and_true_of}
use Rattle.sheet_layers.specs.Layers.{layer_rows}
use Rattle.host_sheet_record.specs.SheetRecord.{layer_of}
use Rattle.host_sheet_place.specs.PlaceRules.{figure_kept, style_kept}
use Rattle.host_sheet_place.proofs.Rules.{place_beyond_limits, place_above, place_below, place_among}
use Rattle.host_sheet_place.proofs.place_rows.Lts
use Rattle.host_sheet_place.proofs.place_rows.Reads
use Rattle.host_sheet_place.proofs.place_rows.Tie
use Rattle.host_sheet_place.proofs.place_rows.Goals as goal

-- the facts known at these places
abbrev Start : Type 0
Start = Lts.Start Tie.the-claims Reads.Pre Reads.Post Tie.handed_clauses

abbrev Else-not-style_kept : Type 0
Else-not-style_kept = Lts.Else2 Tie.the-claims Reads.Pre Reads.Post Tie.handed_clauses

abbrev After-rows_within-rows : Type 0
After-rows_within-rows = Lts.After-rows_within Tie.the-claims Reads.Pre Reads.Post Tie.handed_clauses

-- what the tests of the limits say
limits : (c : Else-not-style_kept)
    → (figure_kept c.args.numbers.now && style_kept c.args.numbers.now) ≡ true
limits c =
    and_true_of (sym c.figure_kept.ensures ∙ c.if-not-figure_kept.false)
    (sym c.style_kept.ensures ∙ c.if-not-style_kept.false)

by_first : (c : After-rows_within-rows) {t : Bool}
    → lt_z (to_z w32 (of_z w32 c.rows_within-rows.result.next)) (to_z w32 (of_z w32 c.rows_within-rows.result.first)) ≡ t
    → lt_z (layer_rows (layer_of c.args.numbers.now)).next (layer_rows (layer_of c.args.numbers.now)).first
    ≡ t
by_first c test =
    let fits = c.rows_within-rows.ensures.1 in
    sym (ap (λ (r : LayerRows). lt_z r.next r.first) c.rows_within-rows.ensures.0)
    ∙ lt_held c.rows_within-rows.ensures.1.next c.rows_within-rows.ensures.1.first test

by_end : (c : After-rows_within-rows) {t : Bool}
    → lt_z (to_z w32 (of_z w32 c.rows_within-rows.result.end)) (to_z w32 (of_z w32 c.rows_within-rows.result.next)) ≡ t
    → lt_z (layer_rows (layer_of c.args.numbers.now)).end (layer_rows (layer_of c.args.numbers.now)).next ≡ t
by_end c test =
    let fits = c.rows_within-rows.ensures.1 in
    sym (ap (λ (r : LayerRows). lt_z r.end r.next) c.rows_within-rows.ensures.0) ∙ lt_held c.rows_within-rows.ensures.1.end c.rows_within-rows.ensures.1.next test

pub returns-then-not-figure_kept : goal.returns-then-not-figure_kept
returns-then-not-figure_kept c =
    let n = c.args.numbers.now in
    let beyond = sym c.figure_kept.ensures ∙ c.if-not-figure_kept.true in
    rw (place_beyond_limits n c.requires (ap (λ (t : Bool). t && style_kept n) beyond))

pub returns-then-not-style_kept : goal.returns-then-not-style_kept
returns-then-not-style_kept c =
    let n = c.args.numbers.now in
    let beyond = sym c.style_kept.ensures ∙ c.if-not-style_kept.true in
    rw (place_beyond_limits n c.requires (ap (λ (t : Bool). figure_kept n && t) beyond ∙ and-false (figure_kept n)))

pub rows_within-rows-requires : goal.rows_within-rows-requires
rows_within-rows-requires c = record { numbers_len = c.requires; numbers_value = limits c }

pub returns-then-rows : goal.returns-then-rows
returns-then-rows c =
    rw (place_above c.args.numbers.now c.requires (by_first c.before.before.before c.if-rows.true))

pub returns-then-rows-2 : goal.returns-then-rows-2
returns-then-rows-2 c =
    rw (place_below c.args.numbers.now c.requires (by_end c.before.before.before.before.before.before c.if-rows-2.true))

pub returns : goal.returns
returns c =
    rw (place_among c.args.numbers.now c.requires (limits c.before.before.before.before.before.before.before)
    (by_first c.before.before.before.before.before.before c.if-rows.false) (by_end c.before.before.before.before.before.before c.if-rows-2.false))
    (ap Some c.rows_within-rows.ensures.0)
