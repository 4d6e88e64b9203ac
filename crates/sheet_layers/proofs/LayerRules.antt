-- The rules of layers by their rows. Of one layer: each test that the code makes decides `layer_keeps_rules`, and a layer that
-- passes has a figure, a style and rows within bounds. Of the places from one on: they keep the rules if their first does, with
-- the rows of those after it at hand.
-- Assumes nothing.
use Rattle.refusal.specs.Refusal.{passed}
use Rattle.std.specs.Prelude.{Some, None, Err}
use mathlib.Core.Path.{◌≡◌, refl, sym, ap, ◌∙◌}
use mathlib.Core.Bool.{Bool, true, false, cond, not, ◌&&◌, ◌||◌}
use mathlib.Core.List.{List, [], ◌∷◌, map}
use Prim.Native.Nat.{ℕ, zero, suc, ◌+◌, ◌<◌, ◌≤◌}
use native.Mathlib.Omega.{arith}
use lib.IntN.{ℤ, pos, ◌+ℤ◌}
use lib.ListN.{length, take, drop, get_or, set}
use lib.Signed.{le_z, lt_z}
use Rattle.signed.specs.Signed.{Near}
use Rattle.signed.proofs.Laws.{int, add_law}
use Rattle.refusal.specs.declared.Refusal.{Refusal}
use Rattle.rectangle.specs.declared.Rectangle.{Rectangle}
use Rattle.geometry.specs.Bounds.{wide_point}
use Rattle.rectangle.specs.Rectangle.{offset as rectangle_offset}
use Rattle.refusal.proofs.Checks.{passed_first, passed_next}
use Rattle.figure.specs.declared.Figure.{Figure}
use Rattle.figure.specs.declared.Figure.TheVariants.{Ellipse, CrateBox, W3cBox}
use Rattle.figure.specs.Calls.{figure_check}
use Rattle.figure.specs.Bounds.{wide_offset, OwnRectangle, OwnFigure, AreaRectangle}
use Rattle.figure.proofs.Within.{figure_passed, offset_area}
use Rattle.style.specs.declared.Style.{Style}
use Rattle.style.specs.Style.{style_check, outside_stroke_width}
use Rattle.style.proofs.StrokeWidths.{style_passed, outside_within_stroke}
use Rattle.book.specs.Sheet.{layer_owes, some_layer_owes, layer_keeps_rules, overtakes, none_overtakes, layers_keep_rules}
use Rattle.book.specs.Sheet.{is_accepted}
use Rattle.book.specs.Book.{has_row}
use Rattle.book.proofs.Tests.{and_true_parts, is_accepted_true}
use Rattle.drawing.specs.Drawing.{styled_check, drawing}
use Rattle.drawing.specs.Rows.{stroke_rows}
use Rattle.drawing.proofs.Rows.{rows_of_ellipse, rows_of_crate_box, rows_of_w3c_box, RowsWithin, box_rows_within, ellipse_rows_within}
use Rattle.sheet_layers.specs.declared.Layer.{Layer}
use Rattle.sheet_layers.specs.declared.rows.LayerRows.{LayerRows}
use Rattle.sheet_layers.specs.LayerRows.{rows_owe, some_rows_owe, rows_overtake, no_rows_overtake, rows_in_order}
use Rattle.sheet_layers.specs.Layers.{layer_of, blank_layer, layer_rows}
use Rattle.sheet_layers.proofs.RowTests.{RowsFit, no_rows, and-false, place_here, place_past, put_here}

-- ---- one layer
module _ (l : Layer) where
  pub broken_by_check : (refusal : Refusal) → styled_check l.figure l.style ≡ Err refusal
      → layer_keeps_rules drawing (layer_of l) ≡ false
  unfolding layer_keeps_rules
  broken_by_check refusal refused = rw refused

  module _ (passed : styled_check l.figure l.style ≡ passed) where
    pub broken_above : lt_z l.next_row (layer_rows l).first ≡ true → layer_keeps_rules drawing (layer_of l) ≡ false
    unfolding layer_keeps_rules layer_rows
    broken_above above =
        let first : le_z (stroke_rows l.figure l.style).first l.next_row ≡ false = omega (arith, int) in
        rw (passed, first)

    module _ (from : lt_z l.next_row (layer_rows l).first ≡ false) where
      pub broken_below : lt_z (layer_rows l).end l.next_row ≡ true → layer_keeps_rules drawing (layer_of l) ≡ false
      unfolding layer_keeps_rules layer_rows
      broken_below below =
          let s = stroke_rows l.figure l.style in
          let first : le_z s.first l.next_row ≡ true = omega (arith, int) in
          let end : le_z l.next_row (s.first +ℤ pos s.count) ≡ false = omega (arith, int) in
          rw (passed, first, end)

      pub kept_among : lt_z (layer_rows l).end l.next_row ≡ false → layer_keeps_rules drawing (layer_of l) ≡ true
      unfolding layer_keeps_rules layer_rows
      kept_among among =
          let s = stroke_rows l.figure l.style in
          let first : le_z s.first l.next_row ≡ true = omega (arith, int) in
          let end : le_z l.next_row (s.first +ℤ pos s.count) ≡ true = omega (arith, int) in
          rw (passed, first, end)

-- ---- what a passed check bounds
pub checked_figure : (f : Figure) (style : Style) → styled_check f style ≡ passed → OwnFigure f
unfolding styled_check
checked_figure f style passed = figure_passed f (passed_first (figure_check f) (style_check style) passed)

pub checked_stroke : (f : Figure) (style : Style) → styled_check f style ≡ passed → style.stroke_width ≤ wide_offset
unfolding styled_check
checked_stroke f style passed = omega (arith, style_passed style (passed_next (figure_check f) (style_check style) passed))

module _ (style : Style) (stroke : style.stroke_width ≤ wide_offset) where
  area_within : (r : Rectangle) → OwnRectangle r → AreaRectangle (rectangle_offset r (pos (outside_stroke_width style)))
  area_within r own = offset_area r (pos (outside_stroke_width style)) own (omega (arith, int, outside_within_stroke style))

  stroke_rows_within : (f : Figure) → OwnFigure f → RowsWithin (stroke_rows f style)
  stroke_rows_within (Ellipse r) own = rw (rows_of_ellipse style r) (ellipse_rows_within _ (area_within r own))
  stroke_rows_within (CrateBox b) own = rw (rows_of_crate_box style b) (box_rows_within _ (area_within b.rectangle own.rectangle))
  stroke_rows_within (W3cBox b) own = rw (rows_of_w3c_box style b) (box_rows_within _ (area_within b.rectangle own.rectangle))

-- ---- rows for layers
pub owe_by_rows : (layers : List Layer) (y : ℤ) → some_layer_owes drawing (map layer_of layers) y ≡ some_rows_owe (map layer_rows layers) y
unfolding some_layer_owes some_rows_owe layer_owes rows_owe has_row layer_rows
owe_by_rows [] y = refl
owe_by_rows (l ∷ rest) y = ap (λ (t : Bool). rows_owe (layer_rows l) y || t) (owe_by_rows rest y)

pub overtake_by_rows : (l : Layer) (layers : List Layer)
    → none_overtakes drawing (layer_of l) (map layer_of layers) ≡ no_rows_overtake (layer_rows l) (map layer_rows layers)
unfolding none_overtakes no_rows_overtake overtakes rows_overtake layer_rows
overtake_by_rows l [] = refl
overtake_by_rows l (later ∷ rest) = ap (λ (t : Bool). not (rows_overtake (layer_rows l) (layer_rows later)) && t) (overtake_by_rows l rest)

-- ---- one by one and two by two

-- each layer of a list keeps its own rules
unfoldable pub each_keeps : List Layer → Bool
each_keeps [] = true
each_keeps (l ∷ rest) = layer_keeps_rules drawing (layer_of l) && each_keeps rest

-- two pairs of tests are the first ones and the second ones
pub regroup : (a b c d : Bool) → ((a && b) && (c && d)) ≡ ((a && c) && (b && d))
regroup true true true d = refl
regroup true true false d = refl
regroup true false true d = refl
regroup true false false d = refl
regroup false b c d = refl

pub kept_by_parts : (layers : List Layer)
    → layers_keep_rules drawing (map layer_of layers) ≡ (each_keeps layers && rows_in_order (map layer_rows layers))
unfolding layers_keep_rules each_keeps rows_in_order
kept_by_parts [] = refl
kept_by_parts (l ∷ rest) =
    rw (overtake_by_rows l rest, kept_by_parts rest)
    (regroup (layer_keeps_rules drawing (layer_of l)) (no_rows_overtake (layer_rows l) (map layer_rows rest)) (each_keeps rest)
    (rows_in_order (map layer_rows rest)))

-- ---- what the test of one layer found
module _ (t : Bool) (r : LayerRows) where
  pub found_broken : None ≡ cond t (Some r) None → t ≡ false
  found_broken e = by_test t e
    where
      by_test : (t : Bool) → None ≡ cond t (Some r) None → t ≡ false
      by_test true e = let z : ◌≡◌ {A = ℕ} 0 1 = cc in absurd (omega arith)
      by_test false e = refl

  pub found_kept : (q : LayerRows) → Some q ≡ cond t (Some r) None → (t ≡ true) × (q ≡ r)
  found_kept q e = by_test t e
    where
      by_test : (t : Bool) → Some q ≡ cond t (Some r) None → (t ≡ true) × (q ≡ r)
      by_test true e = (refl, cc)
      by_test false e = let z : ◌≡◌ {A = ℕ} 0 1 = cc in absurd (omega arith)

-- ---- the places from one on
rest_broken : (k : ℕ) (layers : List Layer) → each_keeps (drop k layers) ≡ false → each_keeps layers ≡ false
unfolding each_keeps
rest_broken zero layers e = e
rest_broken (suc k) [] e = e
rest_broken (suc k) (l ∷ layers) e = rw (rest_broken k layers e) (and-false (layer_keeps_rules drawing (layer_of l)))

-- From place i on the layers keep their own rules, and their rows were found.
pub record FoundFrom (layers : List Layer) (count : ℕ) (rows : List LayerRows) (i : ℕ) : Type 0 where
  pub each : each_keeps (drop i (take count layers)) ≡ true
  pub rows_are : drop i (take count rows) ≡ map layer_rows (drop i (take count layers))

-- nothing is to be found behind the last place
pub found_none : (layers : List Layer) (count : ℕ) (rows : List LayerRows) → FoundFrom layers count rows count
unfolding each_keeps
found_none layers count rows =
    let none = place_past layers count count (omega arith) in
    record { each = rw none; rows_are = rw (none, place_past rows count count (omega arith)) }

-- i is a place, and next the one after it
module _ (layers : List Layer) (count i next : ℕ) (step : i + 1 ≡ next) (here : i < count) (enough : count ≤ length layers) where
  -- the layer that stands here, and those after it
  abbrev at : Layer
  at = get_or layers i blank_layer

  abbrev after : List Layer
  after = drop next (take count layers)

  split : drop i (take count layers) ≡ at ∷ after
  split = place_here layers count i blank_layer here enough ∙ ap {B = List Layer} (λ n. at ∷ drop n (take count layers)) step

  pub broken_here : None ≡ cond (layer_keeps_rules drawing (layer_of at)) (Some (layer_rows at)) None
      → layers_keep_rules drawing (map layer_of (take count layers)) ≡ false
  broken_here found =
      kept_by_parts (take count layers)
      ∙ ap (λ (t : Bool). t && rows_in_order (map layer_rows (take count layers)))
      (rest_broken i (take count layers) (rw split
      (unfold each_keeps in rw (found_broken (layer_keeps_rules drawing (layer_of at)) (layer_rows at) found))))

  -- the rows found are put where they belong
  pub found_here : (rows : List LayerRows) → count ≤ length rows → FoundFrom layers count rows next
      → (r : LayerRows) → Some r ≡ cond (layer_keeps_rules drawing (layer_of at)) (Some (layer_rows at)) None
      → FoundFrom layers count (set rows i r) i
  found_here rows room later r found =
      let kept = found_kept (layer_keeps_rules drawing (layer_of at)) (layer_rows at) r found in
      record {
        each = rw split (unfold each_keeps in rw (kept.0, later.each));
        rows_are =
            put_here rows count i r here (omega arith)
            ∙ ap {B = List LayerRows} (λ t. r ∷ t) (ap (λ (n : ℕ). drop n (take count rows)) step ∙ later.rows_are)
            ∙ ap (λ (q : LayerRows). q ∷ map layer_rows after) kept.1
            ∙ sym (ap (map layer_rows) split);
      }

-- all rows are found, so the order alone decides
pub found_all : (layers : List Layer) (count : ℕ) (rows : List LayerRows) → FoundFrom layers count rows 0
    → rows_in_order (take count rows) ≡ layers_keep_rules drawing (map layer_of (take count layers))
found_all layers count rows found =
    ap rows_in_order found.rows_are
    ∙ ap (λ (t : Bool). t && rows_in_order (map layer_rows (take count layers))) (sym found.each)
    ∙ sym (kept_by_parts (take count layers))

-- ---- what the rules bound
-- a layer that its functions take
pub record LayerWithin (l : Layer) : Type 0 where
  pub figure : OwnFigure l.figure
  pub stroke : l.style.stroke_width ≤ wide_offset
  pub next : Near wide_point l.next_row
  pub rows : RowsFit (layer_rows l)

-- the layers in the first places are within these bounds, and their rows were found
pub record Ready (layers : List Layer) (rows : List LayerRows) (count : ℕ) : Type 0 where
  pub within : (i : ℕ) → i < count → LayerWithin (get_or layers i blank_layer)
  pub rows_are : (i : ℕ) → i < count → get_or rows i no_rows ≡ layer_rows (get_or layers i blank_layer)

pub kept_within : (l : Layer) → layer_keeps_rules drawing (layer_of l) ≡ true → LayerWithin l
unfolding layer_keeps_rules layer_rows
kept_within l kept =
    let area = stroke_rows l.figure l.style in
    let end : ℤ = area.first +ℤ pos area.count in
    let p = and_true_parts (is_accepted (styled_check l.figure l.style))
    (le_z area.first l.next_row && le_z l.next_row end) kept in
    let q = and_true_parts (le_z area.first l.next_row) (le_z l.next_row end) p.1 in
    let passed = is_accepted_true (styled_check l.figure l.style) p.0 in
    let figure = checked_figure l.figure l.style passed in
    let stroke = checked_stroke l.figure l.style passed in
    let rows = stroke_rows_within l.style stroke l.figure figure in
    let first = rows.first in
    let from = q.0 in
    let to = q.1 in
    let count = rows.count in
    let next : Near wide_point l.next_row = omega (arith, int, add_law area.first (pos area.count)) in
    record {
      figure = figure;
      stroke = stroke;
      next = next;
      rows = record { first = first.fits; next = next.fits; end = omega (arith, int) };
    }

pub kept_at : (layers : List Layer) (i : ℕ) → layers_keep_rules drawing (map layer_of layers) ≡ true → i < length layers
    → layer_keeps_rules drawing (layer_of (get_or layers i blank_layer)) ≡ true
unfolding layers_keep_rules
kept_at [] i kept within = absurd (omega arith)
kept_at (l ∷ layers) zero kept within =
    let own : Bool = layer_keeps_rules drawing (layer_of l) in
    let order : Bool = none_overtakes drawing (layer_of l) (map layer_of layers) in
    (and_true_parts own order (and_true_parts (own && order) (layers_keep_rules drawing (map layer_of layers)) kept).0).0
kept_at (l ∷ layers) (suc i) kept within =
    let here : Bool = layer_keeps_rules drawing (layer_of l) && none_overtakes drawing (layer_of l) (map layer_of layers) in
    kept_at layers i (and_true_parts here (layers_keep_rules drawing (map layer_of layers)) kept).1 (omega arith)
