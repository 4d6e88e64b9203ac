-- `sheet_layers::Layer::rows` meets its contract: the check and the two tests of the next row decide whether the layer keeps its rules.
use Rattle.refusal.specs.Refusal.{passed}
use Rattle.std.specs.Prelude.{Some}
use borrow.Author.Rules.{rules}
use mathlib.Core.Path.{◌≡◌, sym, ap, ap₂, ◌∙◌}
use mathlib.Core.Bool.{Bool}
use native.Mathlib.Omega.{arith}
use lib.IntN.{ℤ, pos, ◌+ℤ◌}
use lib.Signed.{lt_z}
use mir.Syntax.{w32}
use mir.Val.{SFits, to_z, of_z}
use Rattle.sheet_layers.specs.declared.Layer.{Layer}
use mir.Facts.{to_z-of_z}
use Rattle.signed.proofs.Laws.{int}
use Rattle.drawing.specs.declared.StrokeRows.{StrokeRows}
use Rattle.drawing.specs.Drawing.{styled_check}
use Rattle.sheet_layers.specs.Layers.{layer_rows}
use Rattle.sheet_layers.proofs.LayerRules.{broken_by_check, broken_above, broken_below, kept_among, checked_figure, checked_stroke}
use Rattle.sheet_layers.proofs.RowTests.{lt_held, rows_by_fields}
use Rattle.sheet_layers.proofs.Layer.rows.Lts
use Rattle.sheet_layers.proofs.Layer.rows.Reads
use Rattle.sheet_layers.proofs.Layer.rows.Tie
use Rattle.sheet_layers.proofs.Layer.rows.Goals as goal

-- the facts known at these places
abbrev Start : Type 0
Start = Lts.Start Tie.the-claims Reads.Pre Reads.Post Tie.handed_clauses

abbrev In-Ok : Type 0
In-Ok = Lts.Past-After-enum_told Tie.the-claims Reads.Pre Reads.Post Tie.handed_clauses

abbrev After-add-end : Type 0
After-add-end = Lts.After-add Tie.the-claims Reads.Pre Reads.Post Tie.handed_clauses

-- within limits
has_passed : (c : In-Ok)
    → styled_check c.args.self.figure c.args.self.style ≡ passed
has_passed c = sym c.check.ensures ∙ c.in-Ok.is

-- the layer, and its rows as they were computed
abbrev self : After-add-end → Layer
self c = c.args.self

next_fits : (c : After-add-end) → SFits w32 (self c).next_row
next_fits c = from_entry c.before.before.before.before.before.before.before.before
  where
    from_entry : (e : Start) → SFits w32 e.args.self.next_row
    from_entry e = search rules

first_is : (c : After-add-end) → c.stroke_rows-area.result.first ≡ (layer_rows (self c)).first
unfolding layer_rows
first_is c = ap (λ (r : StrokeRows). r.first) c.stroke_rows-area.ensures.value

end_is : (c : After-add-end) → c.add-end.result ≡ (layer_rows (self c)).end
unfolding layer_rows
end_is c =
    let area = c.stroke_rows-area.ensures in
    let wide = c.from_u32.ensures in
    c.add-end.ensures.is
    ∙ ap₂ ◌+ℤ◌ (to_z-of_z c.stroke_rows-area.ensures.near.0.fits ∙ ap (λ (r : StrokeRows). r.first) c.stroke_rows-area.ensures.value)
    (to_z-of_z c.from_u32.ensures.fits ∙ c.from_u32.ensures.is ∙ ap (λ (r : StrokeRows). pos r.count) c.stroke_rows-area.ensures.value)

-- the tests made are those of the rows
by_first : (c : After-add-end) {t : Bool} → lt_z (to_z w32 (of_z w32 (self c).next_row))
    (to_z w32 (of_z w32 c.stroke_rows-area.result.first)) ≡ t
    → lt_z (self c).next_row (layer_rows (self c)).first ≡ t
by_first c test =
    let at_stroke_rows = c.stroke_rows-area in
    sym (ap (lt_z (self c).next_row) (first_is c)) ∙ lt_held (next_fits c) c.stroke_rows-area.ensures.near.0.fits test

by_end : (c : After-add-end) {t : Bool} → lt_z (to_z w32 (of_z w32 c.add-end.result)) (to_z w32 (of_z w32 (self c).next_row)) ≡ t
    → lt_z (layer_rows (self c)).end (self c).next_row ≡ t
by_end c test =
    sym (ap (λ (z : ℤ). lt_z z (self c).next_row) (end_is c)) ∙ lt_held c.add-end.ensures.fits (next_fits c) test

pub returns-in_default : goal.returns-in_default
returns-in_default c =
    let a = c.args in
    rw (broken_by_check a.self _ (sym c.check.ensures ∙ c.in_default.is))

pub stroke_rows-area-requires : goal.stroke_rows-area-requires
stroke_rows-area-requires c = record { own_figure = checked_figure _ _ (has_passed c); stroke_width_bound = checked_stroke _ _ (has_passed c) }

pub add-end-requires : goal.add-end-requires
add-end-requires c =
    let first = c.stroke_rows-area.ensures.near.0 in
    let count = c.stroke_rows-area.ensures.near.1 in
    let wide = c.from_u32.ensures in
    rw (to_z-of_z c.stroke_rows-area.ensures.near.0.fits, to_z-of_z c.from_u32.ensures.fits, c.from_u32.ensures.is) (omega (arith, int))

pub returns-then-next-first : goal.returns-then-next-first
returns-then-next-first c =
    rw (broken_above (self c.before) (has_passed c.before.before.before.before.before) (by_first c.before c.if-next-first.true))

pub returns-then-end-next : goal.returns-then-end-next
returns-then-end-next c =
    rw (broken_below (self c.before.before) (has_passed c.before.before.before.before.before.before) (by_first c.before.before c.if-next-first.false)
    (by_end c.before.before c.if-end-next.true))

pub returns : goal.returns
unfolding layer_rows
returns c =
    let kept = kept_among (self c.before.before) (has_passed c.before.before.before.before.before.before) (by_first c.before.before c.if-next-first.false)
    (by_end c.before.before c.if-end-next.false) in
    rw kept
    (ap Some
    (rows_by_fields (to_z-of_z c.stroke_rows-area.ensures.near.0.fits ∙ first_is c.before.before) (to_z-of_z (next_fits c.before.before))
    (to_z-of_z c.add-end.ensures.fits ∙ end_is c.before.before)))
