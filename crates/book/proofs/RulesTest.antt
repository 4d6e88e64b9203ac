-- The test `keeps_rules` holds exactly where the rules do. Of one layer the two say the same. Of two layers that keep their
-- own rules: runs that meet share the later of their starts, and a row in both makes each start less than each end.
-- Assumes nothing.
use mathlib.Core.Path.{◌≡◌, refl}
use mathlib.Core.List.{[], ◌∷◌}
use mathlib.Core.Bool.{Bool, true, false, not, ◌&&◌}
use Prim.Native.Nat.{ℕ}
use native.Mathlib.Omega.{arith}
use lib.Dec.{leb}
use lib.IntN.{ℤ}
use lib.Signed.{le_z, lt_z}
use lib.ListN.{length}
use borrow.Author.Tests.{leb-true, le-leb, not-true}
use Rattle.signed.proofs.Laws.{int}
use Rattle.book.specs.Each.{Each, EachTwo}
use Rattle.book.specs.Book.{Drawing, end_row, has_row}
use Rattle.book.specs.Sheet.{is_accepted, Layer, Layers, layer_owes, WithinSide, LayerRules, OrderRule, Rules, TestIsRules}
use Rattle.book.specs.Sheet.{layer_keeps_rules, overtakes, none_overtakes, layers_keep_rules, fits_side, keeps_rules}
use Rattle.book.proofs.Tests.{and_true_parts, and_true_of, false_unless, true_false_apart, is_accepted_true}
use Rattle.book.proofs.EntryRows.{InRun, has_row_true, has_row_holds}

module _ (d : Drawing) where
  -- ---- one layer
  module _ (l : Layer d.Item) where
    layer_test_rules : layer_keeps_rules d l ≡ true → LayerRules d l
    unfolding layer_keeps_rules
    layer_test_rules h =
        let from_first : Bool = le_z (d.first l.item) l.next in
        let to_end : Bool = le_z l.next (end_row d l.item) in
        let p = and_true_parts (is_accepted (d.refuse l.item)) (from_first && to_end) h in
        let q = and_true_parts from_first to_end p.1 in
        record { allowed = is_accepted_true (d.refuse l.item) p.0; from_first = q.0; to_end = q.1 }

    layer_rules_test : LayerRules d l → layer_keeps_rules d l ≡ true
    unfolding layer_keeps_rules
    layer_rules_test r = rw (r.allowed, r.from_first, r.to_end)

    pub layer_owes_parts : (y : ℤ) → layer_owes d l y ≡ true → (has_row d l.item y ≡ true) × (le_z l.next y ≡ true)
    unfolding layer_owes
    layer_owes_parts y h = and_true_parts (has_row d l.item y) (le_z l.next y) h

    pub layer_owes_of : (y : ℤ) → has_row d l.item y ≡ true → le_z l.next y ≡ true → layer_owes d l y ≡ true
    unfolding layer_owes
    layer_owes_of y p q = and_true_of p q

  -- ---- two layers
  module _ (earlier later : Layer d.Item) where
    -- the four orders of two runs that meet
    record Meeting : Type 0 where
      later_started : lt_z (d.first later.item) later.next ≡ true
      above_end : lt_z (d.first later.item) (end_row d earlier.item) ≡ true
      past_next : lt_z earlier.next later.next ≡ true
      earlier_left : lt_z earlier.next (end_row d earlier.item) ≡ true

    overtakes_meeting : overtakes d earlier later ≡ true → Meeting
    unfolding overtakes
    overtakes_meeting h =
        let started : Bool = lt_z (d.first later.item) later.next in
        let above : Bool = lt_z (d.first later.item) (end_row d earlier.item) in
        let past : Bool = lt_z earlier.next later.next in
        let left : Bool = lt_z earlier.next (end_row d earlier.item) in
        let p = and_true_parts (started && above) (past && left) h in
        let of_later = and_true_parts started above p.0 in
        let of_earlier = and_true_parts past left p.1 in
        record {
          later_started = of_later.0;
          above_end = of_later.1;
          past_next = of_earlier.0;
          earlier_left = of_earlier.1;
        }

    meeting_overtakes : Meeting → overtakes d earlier later ≡ true
    unfolding overtakes
    meeting_overtakes m = rw (m.later_started, m.above_end, m.past_next, m.earlier_left)

    not_overtaken_order : overtakes d earlier later ≡ false → OrderRule d earlier later
    not_overtaken_order apart y owed row painted =
        let o = layer_owes_parts earlier y owed in
        let mine = has_row_true d earlier.item y o.0 in
        let other = has_row_true d later.item y row in
        let past : le_z earlier.next y ≡ true = o.1 in
        true_false_apart
        (meeting_overtakes
        (record {
          later_started = omega (arith, int);
          above_end = omega (arith, int);
          past_next = omega (arith, int);
          earlier_left = omega (arith, int);
        }))
        apart

    order_not_overtaken : LayerRules d earlier → LayerRules d later → OrderRule d earlier later
        → overtakes d earlier later ≡ false
    order_not_overtaken r s order =
        false_unless (overtakes d earlier later)
        (λ h. shared_row (overtakes_meeting h) (le_z earlier.next (d.first later.item)) refl)
      where
        breaks_at : (y : ℤ) → InRun (d.first earlier.item) (end_row d earlier.item) y
            → le_z earlier.next y ≡ true → InRun (d.first later.item) (end_row d later.item) y
            → lt_z y later.next ≡ true → ⊥
        breaks_at y row_of_earlier left row_of_later painted =
            order y (layer_owes_of earlier y (has_row_holds d earlier.item y row_of_earlier) left)
            (has_row_holds d later.item y row_of_later)
            painted

        shared_row : Meeting → (t : Bool) → le_z earlier.next (d.first later.item) ≡ t → ⊥
        shared_row m true below =
            breaks_at (d.first later.item) (record { from_start = omega (arith, int); before_end = m.above_end }) below
            (record { from_start = omega (arith, int); before_end = omega (arith, int) })
            m.later_started
        shared_row m false above =
            breaks_at earlier.next (record { from_start = r.from_first; before_end = m.earlier_left })
            (omega (arith, int))
            (record { from_start = omega (arith, int); before_end = omega (arith, int) })
            m.past_next

  -- ---- all layers
  none_overtakes_orders : (l : Layer d.Item) (rest : Layers d) → none_overtakes d l rest ≡ true
      → Each (OrderRule d l) rest
  unfolding none_overtakes
  none_overtakes_orders l [] h = tt
  none_overtakes_orders l (later ∷ rest) h =
      let p = and_true_parts (not (overtakes d l later)) (none_overtakes d l rest) h in
      (not_overtaken_order l later (not-true (overtakes d l later) p.0), none_overtakes_orders l rest p.1)

  orders_none_overtakes : (l : Layer d.Item) (rest : Layers d) → LayerRules d l → Each (LayerRules d) rest
      → Each (OrderRule d l) rest → none_overtakes d l rest ≡ true
  unfolding none_overtakes
  orders_none_overtakes l [] r rs os = refl
  orders_none_overtakes l (later ∷ rest) r rs os =
      rw (order_not_overtaken l later r rs.0 os.0) (orders_none_overtakes l rest r rs.1 os.1)

  layers_test_rules : (layers : Layers d) → layers_keep_rules d layers ≡ true
      → Each (LayerRules d) layers × EachTwo (OrderRule d) layers
  unfolding layers_keep_rules
  layers_test_rules [] h = (tt, tt)
  layers_test_rules (l ∷ rest) h =
      let p = and_true_parts (layer_keeps_rules d l && none_overtakes d l rest) (layers_keep_rules d rest) h in
      let q = and_true_parts (layer_keeps_rules d l) (none_overtakes d l rest) p.0 in
      let r = layers_test_rules rest p.1 in
      ((layer_test_rules l q.0, r.0), (none_overtakes_orders l rest q.1, r.1))

  layers_rules_test : (layers : Layers d) → Each (LayerRules d) layers → EachTwo (OrderRule d) layers
      → layers_keep_rules d layers ≡ true
  unfolding layers_keep_rules
  layers_rules_test [] r o = refl
  layers_rules_test (l ∷ rest) r o =
      rw (layer_rules_test l r.0, orders_none_overtakes l rest r.0 r.1 o.0)
      (layers_rules_test rest r.1 o.1)

  -- ---- the sheet
  side_test : (n : ℕ) → fits_side d n ≡ true → WithinSide d n
  side_test n h =
      let p = and_true_parts (leb 1 n) (leb n d.max_side) h in
      (leb-true 1 n p.0, leb-true n d.max_side p.1)

  pub side_fits : (n : ℕ) → WithinSide d n → fits_side d n ≡ true
  side_fits n w = and_true_of (le-leb 1 n w.0) (le-leb n d.max_side w.1)

  module _ (W H : ℕ) (layers : Layers d) where
    pub test_rules : keeps_rules d W H layers ≡ true → Rules d W H layers
    unfolding keeps_rules
    test_rules h =
        let few : Bool = leb (length layers) d.max_layers in
        let p = and_true_parts (fits_side d W && fits_side d H) (few && layers_keep_rules d layers) h in
        let sides = and_true_parts (fits_side d W) (fits_side d H) p.0 in
        let rest = and_true_parts few (layers_keep_rules d layers) p.1 in
        let r = layers_test_rules layers rest.1 in
        record {
          width = side_test W sides.0;
          height = side_test H sides.1;
          few = leb-true (length layers) d.max_layers rest.0;
          each = r.0;
          order = r.1;
        }

    pub rules_test : Rules d W H layers → keeps_rules d W H layers ≡ true
    unfolding keeps_rules
    rules_test r =
        rw (
          side_fits W r.width,
          side_fits H r.height,
          le-leb (length layers) d.max_layers r.few,
        )
        (layers_rules_test layers r.each r.order)

  -- number 7 is answered by the rules of the paper
  pub keeps_rules_iff : TestIsRules d
  keeps_rules_iff W H layers = (test_rules W H layers, rules_test W H layers)
