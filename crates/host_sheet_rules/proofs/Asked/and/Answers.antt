-- `host_sheet_rules::Asked::and` meets its contract: a later place changes nothing, an earlier one may owe the row, and the layer's
-- own may have it left.
use mathlib.Core.Path.{◌≡◌, refl, ap, ap₂, ◌∙◌}
use mathlib.Core.Bool.{Bool, ◌||◌}
use native.Mathlib.Omega.{arith}
use borrow.Author.Rules.{rules}
use borrow.Author.Tests.{eq-eqb, ne_eqb, le-ltb, lt-ltb}
use lib.Signed.{lt_z}
use mir.Syntax.{w32}
use mir.Val.{SFits}
use mir.Facts.{to_z-of_z}
use Rattle.sheet_layers.specs.LayerRows.{rows_owe}
use Rattle.host_sheet_rules.specs.declared.Asked.{Asked}
use Rattle.host_sheet_rules.proofs.Asked.and.Goals as goal

-- asked the same, by its parts
asked_by_fields : {a b : Asked} → a.left ≡ b.left → a.owed ≡ b.owed → a ≡ b
asked_by_fields p q i = record { left = p i; owed = q i }

pub returns-then-layer-i : goal.returns-then-layer-i
returns-then-layer-i c =
    let a = c.args in
    let later = c.if-layer-i.true in
    rw (ne_eqb a.i a.layer (λ same. omega arith), le-ltb a.i a.layer (omega arith))

pub returns-then-i-layer : goal.returns-then-i-layer
returns-then-i-layer c =
    let a = c.args in
    let earlier = c.if-i-layer.true in
    let y_fits : SFits w32 a.y = search rules in
    rw (ne_eqb a.i a.layer (λ same. omega arith), lt-ltb a.i a.layer c.if-i-layer.true)
    (asked_by_fields refl
    (ap (λ (t : Bool). t || a.self.owed) (c.owes.ensures ∙ ap (rows_owe a.rows) (to_z-of_z y_fits))))

pub returns : goal.returns
returns c =
    let a = c.args in
    let not_later = c.if-layer-i.false in
    let not_earlier = c.if-i-layer.false in
    let next_fits : SFits w32 a.rows.next = search rules in
    let end_fits : SFits w32 a.rows.end = search rules in
    rw (eq-eqb a.i a.layer (omega arith), le-ltb a.i a.layer c.if-i-layer.false)
    (asked_by_fields
    (ap (λ (t : Bool). t || a.self.left) (ap₂ lt_z (to_z-of_z next_fits) (to_z-of_z end_fits))) refl)
