-- `rounded_rectangle::RoundedRectangleContains::contains` meets its contract: at each `return` the tests that led there say which
-- corner of `contains_at` decides.
use mathlib.Core.Path.{sym, ◌∙◌}
use Rattle.rounded_rectangle.proofs.Contains.{decided_top_left, decided_top_right, decided_bottom_left, decided_bottom_right, decided_straight}
use Rattle.rounded_rectangle.proofs.RoundedRectangleContains.contains.Goals as goal

pub contains-requires : goal.contains-requires
contains-requires c = record { ready = c.requires.ready_box.top_left; e_value = sym c.in_quadrant.ensures ∙ c.if-in_quadrant.true }

pub returns-then-in_quadrant : goal.returns-then-in_quadrant
returns-then-in_quadrant c =
    c.contains.ensures
    ∙ decided_top_left _ _ _ _ _ (sym c.in_quadrant.ensures ∙ c.if-in_quadrant.true)

pub contains-requires-then-in_quadrant-2 : goal.contains-requires-then-in_quadrant-2
contains-requires-then-in_quadrant-2 c =
    let at_pre = c.requires in record { ready = c.requires.ready_box.top_right; e_value = sym c.in_quadrant-2.ensures ∙ c.if-in_quadrant-2.true }

pub returns-then-in_quadrant-2 : goal.returns-then-in_quadrant-2
returns-then-in_quadrant-2 c =
    let at_if1 = c.if-in_quadrant in
    let at_in_quadrant = c.in_quadrant in
    c.contains-then-in_quadrant-2.ensures
    ∙ decided_top_right _ _ _ _ _ (sym c.in_quadrant.ensures ∙ c.if-in_quadrant.false)
    (sym c.in_quadrant-2.ensures ∙ c.if-in_quadrant-2.true)

pub contains-requires-then-in_quadrant-3 : goal.contains-requires-then-in_quadrant-3
contains-requires-then-in_quadrant-3 c =
    let at_pre = c.requires in record { ready = c.requires.ready_box.bottom_left; e_value = sym c.in_quadrant-3.ensures ∙ c.if-in_quadrant-3.true }

pub returns-then-in_quadrant-3 : goal.returns-then-in_quadrant-3
returns-then-in_quadrant-3 c =
    let at_if1 = c.if-in_quadrant in
    let at_in_quadrant = c.in_quadrant in
    c.contains-then-in_quadrant-3.ensures
    ∙ decided_bottom_left _ _ _ _ _ (sym c.in_quadrant.ensures ∙ c.if-in_quadrant.false)
    (sym c.in_quadrant-2.ensures ∙ c.if-in_quadrant-2.false)
    (sym c.in_quadrant-3.ensures ∙ c.if-in_quadrant-3.true)

pub contains-requires-then-in_quadrant-4 : goal.contains-requires-then-in_quadrant-4
contains-requires-then-in_quadrant-4 c =
    let at_pre = c.requires in record { ready = c.requires.ready_box.bottom_right; e_value = sym c.in_quadrant-4.ensures ∙ c.if-in_quadrant-4.true }

pub returns-then-in_quadrant-4 : goal.returns-then-in_quadrant-4
returns-then-in_quadrant-4 c =
    let at_if2 = c.if-in_quadrant-2 in
    let at_in_quadrant2 = c.in_quadrant-2 in
    let at_if1 = c.if-in_quadrant in
    let at_in_quadrant = c.in_quadrant in
    c.contains-then-in_quadrant-4.ensures
    ∙ decided_bottom_right _ _ _ _ _ (sym c.in_quadrant.ensures ∙ c.if-in_quadrant.false)
    (sym c.in_quadrant-2.ensures ∙ c.if-in_quadrant-2.false)
    (sym c.in_quadrant-3.ensures ∙ c.if-in_quadrant-3.false)
    (sym c.in_quadrant-4.ensures ∙ c.if-in_quadrant-4.true)

pub returns : goal.returns
returns c =
    let at_if2 = c.if-in_quadrant-2 in
    let at_in_quadrant2 = c.in_quadrant-2 in
    let at_if1 = c.if-in_quadrant in
    let at_in_quadrant = c.in_quadrant in
    decided_straight _ _ _ _ _ (sym c.in_quadrant.ensures ∙ c.if-in_quadrant.false)
    (sym c.in_quadrant-2.ensures ∙ c.if-in_quadrant-2.false)
    (sym c.in_quadrant-3.ensures ∙ c.if-in_quadrant-3.false)
    (sym c.in_quadrant-4.ensures ∙ c.if-in_quadrant-4.false)
