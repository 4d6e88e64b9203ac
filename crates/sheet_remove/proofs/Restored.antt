-- The canvas after a removal by the steps of the code: rows copied from the background, and layer after layer laid over them. Canvas row
-- by canvas row: each step changes a row from the first up to the last only, and there it is the step that the definition makes.
-- Assumes nothing.
use mathlib.Core.Path.{◌≡◌, refl, sym, ap, ap₂, subst, ◌∙◌}
use mathlib.Core.Bool.{Bool, true, false, cond, ◌&&◌}
use mathlib.Core.List.{List, [], ◌∷◌, ◌++◌, map, append_assoc}
use mathlib.Core.Option.{some}
use Prim.Native.Nat.{ℕ, suc, ◌+◌, ◌*◌, ◌-◌, ◌<◌, ◌≤◌, min, max}
use native.Mathlib.Nat.{mul-le-mul_right}
use native.Mathlib.Numerals.{add-one}
use native.Mathlib.Omega.{arith}
use lib.Dec.{leb, ltb}
use lib.IntN.{ℤ, pos, ◌+ℤ◌}
use lib.Signed.{le_z, lt_z}
use lib.ListN.{length, take, drop, get_or, length-take, drop_of_length-le, get_or-append}
use lib.Seq.{sets, sets-eq, length-sets, slice, length-slice, get_or-take, get_or-drop, get_or-append-add, length-take-le, take-take}
use mir.Syntax.{w32}
use mir.Val.{SFits, to_z, of_z}
use mir.Facts.{to_z-of_z}
use borrow.Author.Tests.{leb-true, leb-false, ltb-true, ltb-false}
use Rattle.signed.specs.Signed.{floor0}
use Rattle.signed.proofs.Laws.{int, add_law}
use Rattle.book.specs.Book.{in_run, without, overpainted}
use Rattle.book.specs.Canvas.{canvas_row}
use Rattle.book.specs.Sheet.{Layer as Sheet-as-Layer, Layers, layer_has_painted, layer_painters, restored_row, restored}
use Rattle.book.specs.Whole.{paint_rows}
use Rattle.book.proofs.Tests.{and_true_parts, and_true_of, false_unless, tests_equal}
use Rattle.book.proofs.Lists.{take_map, drop_map}
use Rattle.book.proofs.CanvasRows.{canvas_row_length, canvas_of_length, canvas_of_row, canvases_equal_by_rows, rows_equal_by_bytes}
use Rattle.book.proofs.EntryRows.{run_true}
use Rattle.book.proofs.Picture.{overpainted_length, overpainted_append, restored_length, restored_row_lem}
use Rattle.book.proofs.Whole.{paint_rows_length}
use Rattle.book.proofs.WholeRows.{paint_rows_row}
use Rattle.drawing.specs.Drawing.{StyledFigure, styled_figure, drawing}
use Rattle.sheet_layers.specs.declared.Layer.{Layer}
use Rattle.sheet_layers.specs.declared.rows.LayerRows.{LayerRows}
use Rattle.sheet_layers.specs.Layers.{blank_layer, layer_of, layer_rows}
use Rattle.sheet_remove.specs.Removal.{laid_over_row, laid_over}

-- a row of a layer, read as 32 bits hold it from where the rows were found
pub row_held : {found rows : LayerRows} → found ≡ rows → (row : LayerRows → ℤ) → SFits w32 (row rows)
    → to_z w32 (of_z w32 (row found)) ≡ row rows
row_held same row fits = to_z-of_z (subst (λ (r : LayerRows). SFits w32 (row r)) (sym same) fits) ∙ ap row same

-- ---- the layers of two lists that have painted a row
layer_painters_append : (a b : Layers drawing) (y : ℤ)
    → layer_painters drawing (a ++ b) y ≡ layer_painters drawing a y ++ layer_painters drawing b y
unfolding layer_painters
layer_painters_append [] b y = refl
layer_painters_append (l ∷ a) b y = by_test (layer_has_painted drawing l y) (layer_painters_append a b y)
  where
    by_test : (t : Bool) {m : List StyledFigure} → m ≡ layer_painters drawing a y ++ layer_painters drawing b y
        → cond t (l.item ∷ m) m
        ≡ cond t (l.item ∷ layer_painters drawing a y) (layer_painters drawing a y) ++ layer_painters drawing b y
    by_test true e = ap {B = List StyledFigure} (λ x. l.item ∷ x) e
    by_test false e = e

-- ---- rows from one up to another
module _ (W H from to : ℕ) where
  -- row y is one of them
  abbrev among : ℕ → Bool
  among y = leb from y && ltb y to

  module _ (layers : Layers drawing) (canvas : List ℕ) (size : length canvas ≡ W * H) where
    laid_over_wide : (y : ℕ) → y < H → length (laid_over_row W from to layers canvas y) ≡ W
    unfolding laid_over_row
    laid_over_wide y low = by_test (among y)
      where
        row : List ℕ
        row = overpainted drawing (layer_painters drawing layers (pos y)) (pos y) (canvas_row W y canvas)

        wide : length (canvas_row W y canvas) ≡ W
        wide = canvas_row_length W H y canvas low size

        by_test : (t : Bool) → length (cond t row (canvas_row W y canvas)) ≡ W
        by_test true = overpainted_length drawing (layer_painters drawing layers (pos y)) (pos y) (canvas_row W y canvas) ∙ wide
        by_test false = wide

    pub laid_over_length : length (laid_over W H from to layers canvas) ≡ W * H
    laid_over_length = canvas_of_length W (laid_over_row W from to layers canvas) H laid_over_wide

    laid_over_row_lem : (y : ℕ) → y < H → canvas_row W y (laid_over W H from to layers canvas) ≡ laid_over_row W from to layers canvas y
    laid_over_row_lem = canvas_of_row W (laid_over_row W from to layers canvas) H laid_over_wide

  -- no layer is left
  pub laid_over_none : (canvas : List ℕ) → length canvas ≡ W * H → laid_over W H from to [] canvas ≡ canvas
  unfolding laid_over_row layer_painters overpainted
  laid_over_none canvas size =
      canvases_equal_by_rows W H (laid_over W H from to [] canvas) canvas (laid_over_length [] canvas size) size
      (λ y low. laid_over_row_lem [] canvas size y low ∙ same (among y) (canvas_row W y canvas))
    where
      same : (t : Bool) (row : List ℕ) → cond t row row ≡ row
      same true row = refl
      same false row = refl

  -- ---- one layer more
  -- the rows from one up to another that a run of rows has among these
  rows_meet : (first next : ℤ) (y : ℕ)
      → in_run (pos (max from (floor0 first)))
      (pos (max from (floor0 first)) +ℤ pos (min to (floor0 next) - max from (floor0 first))) (pos y)
      ≡ (among y && in_run first next (pos y))
  rows_meet first next y = tests_equal (in_run (pos top) end (pos y)) (among y && in_run first next (pos y)) onward back
    where
      top : ℕ
      top = max from (floor0 first)

      bottom : ℕ
      bottom = min to (floor0 next)

      end : ℤ
      end = pos top +ℤ pos (bottom - top)

      onward : in_run (pos top) end (pos y) ≡ true → (among y && in_run first next (pos y)) ≡ true
      onward h =
          let run = run_true (pos top) end (pos y) h in
          let low : le_z (pos top) (pos y) ≡ true = run.from_start in
          let high : lt_z (pos y) end ≡ true = run.before_end in
          and_true_of
          (and_true_of {a = leb from y} {b = ltb y to} (omega (arith, int)) (omega (arith, int, add_law (pos top) (pos (bottom - top)))))
          (and_true_of {a = le_z first (pos y)} {b = lt_z (pos y) next} (omega (arith, int))
          (omega (arith, int, add_law (pos top) (pos (bottom - top)))))

      back : (among y && in_run first next (pos y)) ≡ true → in_run (pos top) end (pos y) ≡ true
      back h =
          let p = and_true_parts (among y) (in_run first next (pos y)) h in
          let q = and_true_parts (leb from y) (ltb y to) p.0 in
          let r = and_true_parts (le_z first (pos y)) (lt_z (pos y) next) p.1 in
          let a = q.0 in
          let b = q.1 in
          let c = r.0 in
          let e = r.1 in
          and_true_of {a = le_z (pos top) (pos y)} {b = lt_z (pos y) end} (omega (arith, int))
          (omega (arith, int, add_law (pos top) (pos (bottom - top))))

  module _ (l : Layer) where
    abbrev item : StyledFigure
    item = styled_figure l.figure l.style

    -- the layer's rows among these painted
    abbrev pub painted : List ℕ → List ℕ
    painted canvas =
        paint_rows drawing W H item (pos (max from (floor0 (layer_rows l).first)))
        (min to (floor0 (layer_rows l).next) - max from (floor0 (layer_rows l).first)) canvas

    module _ (rest : Layers drawing) (canvas : List ℕ) (size : length canvas ≡ W * H) where
      pub painted_length : length (painted canvas) ≡ W * H
      painted_length =
          paint_rows_length drawing W H item (min to (floor0 (layer_rows l).next) - max from (floor0 (layer_rows l).first))
          (pos (max from (floor0 (layer_rows l).first))) canvas size

      pub laid_over_one : laid_over W H from to (layer_of l ∷ rest) canvas ≡ laid_over W H from to rest (painted canvas)
      unfolding laid_over_row layer_painters layer_has_painted layer_rows overpainted
      laid_over_one =
          canvases_equal_by_rows W H (laid_over W H from to (layer_of l ∷ rest) canvas) (laid_over W H from to rest (painted canvas))
          (laid_over_length (layer_of l ∷ rest) canvas size) (laid_over_length rest (painted canvas) painted_length)
          (λ y low.
          laid_over_row_lem (layer_of l ∷ rest) canvas size y low
          ∙ by_tests y (among y) (layer_has_painted drawing (layer_of l) (pos y)) (canvas_row W y canvas)
          ∙ sym (ap (λ (row : List ℕ). cond (among y) (overpainted drawing (layer_painters drawing rest (pos y)) (pos y) row) row)
          (paint_rows_row drawing item W H (min to (floor0 (layer_rows l).next) - max from (floor0 (layer_rows l).first))
          (pos (max from (floor0 (layer_rows l).first))) canvas y size low
          ∙ ap (λ (t : Bool). cond t (drawing.over item (pos y) (canvas_row W y canvas)) (canvas_row W y canvas))
          (rows_meet (layer_rows l).first (layer_rows l).next y)))
          ∙ sym (laid_over_row_lem rest (painted canvas) painted_length y low))
        where
          by_tests : (y : ℕ) (t u : Bool) (row : List ℕ)
              → cond t
              (overpainted drawing (cond u (item ∷ layer_painters drawing rest (pos y)) (layer_painters drawing rest (pos y))) (pos y) row)
              row
              ≡ cond t
              (overpainted drawing (layer_painters drawing rest (pos y)) (pos y) (cond (t && u) (drawing.over item (pos y) row) row))
              (cond (t && u) (drawing.over item (pos y) row) row)
          by_tests y true true row = refl
          by_tests y true false row = refl
          by_tests y false u row = refl

-- ---- rows copied from the background
module _ (W H from to : ℕ) (background canvas : List ℕ) (long : length background ≡ W * H) (size : length canvas ≡ W * H)
    (high : to ≤ H) where
  abbrev pub copied : List ℕ
  copied = sets canvas (W * from) (slice (W * from) (W * to) background)

  pub copied_length : length copied ≡ W * H
  copied_length = length-sets canvas (W * from) (slice (W * from) (W * to) background) ∙ size

  -- none of them
  none_copied : to ≤ from → copied ≡ canvas
  none_copied past =
      ap (sets canvas (W * from))
      (drop_of_length-le (take (W * to) background) {i = W * from}
      (rw (length-take (W * to) background) (omega (arith, mul-le-mul_right W past))))

  module _ (ordered : from ≤ to) where
    end_within : W * to ≤ W * H
    end_within = omega (arith, mul-le-mul_right W high)

    start_within : W * from ≤ W * to
    start_within = omega (arith, mul-le-mul_right W ordered)

    abbrev part : List ℕ
    part = slice (W * from) (W * to) background

    part_length : length part ≡ W * to - W * from
    part_length = length-slice (W * from) (W * to) background (omega (arith, end_within))

    before_length : length (take (W * from) canvas) ≡ W * from
    before_length = length-take-le (W * from) canvas (omega (arith, end_within, start_within))

    parts : copied ≡ take (W * from) canvas ++ (part ++ drop (W * to) canvas)
    parts =
        let end : W * from + length part ≡ W * to = omega (arith, part_length, start_within) in
        sets-eq part canvas (W * from) (omega (arith, part_length, start_within, end_within))
        ∙ append_assoc (take (W * from) canvas) part (drop (W * from + length part) canvas)
        ∙ ap (λ (n : ℕ). take (W * from) canvas ++ (part ++ drop n canvas)) end

    byte_before : (k : ℕ) → k < W * from → get_or copied k 0 ≡ get_or canvas k 0
    byte_before k h =
        ap (λ (l : List ℕ). get_or l k 0) parts
        ∙ get_or-append (take (W * from) canvas) (part ++ drop (W * to) canvas) 0 k (omega (arith, before_length))
        ∙ get_or-take (W * from) canvas k 0 h

    byte_copied : (k : ℕ) → W * from ≤ k → k < W * to → get_or copied k 0 ≡ get_or background k 0
    byte_copied k low below = by_offset (k - W * from) (omega arith)
      where
        by_offset : (m : ℕ) → k ≡ W * from + m → get_or copied k 0 ≡ get_or background k 0
        by_offset m e =
            let inside : m < length part = omega (arith, part_length) in
            ap₂ (λ (l : List ℕ) (n : ℕ). get_or l n 0) parts (e ∙ ap (λ (n : ℕ). n + m) (sym before_length))
            ∙ get_or-append-add (take (W * from) canvas) (part ++ drop (W * to) canvas) m 0
            ∙ get_or-append part (drop (W * to) canvas) 0 m inside
            ∙ get_or-drop (W * from) (take (W * to) background) m 0
            ∙ get_or-take (W * to) background (W * from + m) 0 (omega arith)
            ∙ ap (λ (n : ℕ). get_or background n 0) (sym e)

    byte_after : (k : ℕ) → W * to ≤ k → get_or copied k 0 ≡ get_or canvas k 0
    byte_after k past = by_offset (k - W * to) (omega arith)
      where
        by_offset : (m : ℕ) → k ≡ W * to + m → get_or copied k 0 ≡ get_or canvas k 0
        by_offset m e =
            let place : k ≡ length (take (W * from) canvas) + (length part + m) = omega (arith, part_length, before_length, start_within) in
            ap₂ (λ (l : List ℕ) (n : ℕ). get_or l n 0) parts place
            ∙ get_or-append-add (take (W * from) canvas) (part ++ drop (W * to) canvas) (length part + m) 0
            ∙ get_or-append-add part (drop (W * to) canvas) m 0
            ∙ get_or-drop (W * to) canvas m 0
            ∙ ap (λ (n : ℕ). get_or canvas n 0) (sym e)

    copied_rows : (y : ℕ) → y < H → canvas_row W y copied ≡ cond (leb from y && ltb y to) (canvas_row W y background) (canvas_row W y canvas)
    copied_rows y low = by_order (leb from y) (ltb y to) refl refl
      where
        by_order : (t u : Bool) → leb from y ≡ t → ltb y to ≡ u
            → canvas_row W y copied ≡ cond (t && u) (canvas_row W y background) (canvas_row W y canvas)
        by_order true true a b =
            rows_equal_by_bytes W H y copied background low copied_length long
            (λ k inside.
            byte_copied (y * W + k) (omega (arith, mul-le-mul_right W (leb-true from y a)))
            (omega (arith, mul-le-mul_right W (ltb-true y to b))))
        by_order true false a b =
            rows_equal_by_bytes W H y copied canvas low copied_length size
            (λ k inside. byte_after (y * W + k) (omega (arith, mul-le-mul_right W (ltb-false y to b))))
        by_order false u a b =
            rows_equal_by_bytes W H y copied canvas low copied_length size
            (λ k inside. byte_before (y * W + k) (omega (arith, mul-le-mul_right W (leb-false from y a))))

  pub copied_row : (y : ℕ) → y < H → canvas_row W y copied ≡ cond (leb from y && ltb y to) (canvas_row W y background) (canvas_row W y canvas)
  copied_row y low = by_order (leb from to) refl
    where
      by_order : (t : Bool) → leb from to ≡ t
          → canvas_row W y copied ≡ cond (leb from y && ltb y to) (canvas_row W y background) (canvas_row W y canvas)
      by_order true ordered = copied_rows (leb-true from to ordered) y low
      by_order false past =
          let above = leb-false from to past in
          let off : (leb from y && ltb y to) ≡ false =
          false_unless (leb from y && ltb y to)
          (λ h. let p = and_true_parts (leb from y) (ltb y to) h in let a = p.0 in let b = p.1 in omega (arith, int)) in
          ap (canvas_row W y) (none_copied (omega arith)) ∙ rw off

-- ---- all steps: the rows copied, and the earlier and the later layers laid over them
module _ (W H : ℕ) (background canvas : List ℕ) (long : length background ≡ W * H) (size : length canvas ≡ W * H) (layers : List Layer)
    (place count : ℕ) (within : place < count) where
  abbrev own : LayerRows
  own = layer_rows (get_or layers place blank_layer)

  abbrev pub first_row : ℕ
  first_row = min H (floor0 own.first)

  abbrev pub end_row : ℕ
  end_row = min H (floor0 own.next)

  abbrev pub earlier : Layers drawing
  earlier = map layer_of (drop 0 (take place layers))

  abbrev pub later : Layers drawing
  later = map layer_of (drop (place + 1) (take count layers))

  others_are : without place (map layer_of (take count layers)) ≡ earlier ++ later
  others_are =
      ap₂ {C = Layers drawing} (λ a b. a ++ b)
      (take_map layer_of place (take count layers) ∙ ap (map layer_of) (take-take place count layers (omega arith)))
      (drop_map layer_of (suc place) (take count layers) ∙ ap (λ (n : ℕ). map layer_of (drop n (take count layers))) (sym (add-one place)))

  -- the rows that the layer has painted, on the canvas
  painted_among : (y : ℕ) → y < H
      → layer_has_painted drawing (layer_of (get_or layers place blank_layer)) (pos y) ≡ (leb first_row y && ltb y end_row)
  unfolding layer_has_painted layer_rows
  painted_among y low =
      tests_equal (in_run own.first own.next (pos y)) (leb first_row y && ltb y end_row)
      (λ h.
      let p = and_true_parts (le_z own.first (pos y)) (lt_z (pos y) own.next) h in
      let a : le_z own.first (pos y) ≡ true = p.0 in
      let b : lt_z (pos y) own.next ≡ true = p.1 in
      and_true_of {a = leb first_row y} {b = ltb y end_row} (omega (arith, int)) (omega (arith, int)))
      (λ h.
      let p = and_true_parts (leb first_row y) (ltb y end_row) h in
      let a : leb first_row y ≡ true = p.0 in
      let b : ltb y end_row ≡ true = p.1 in
      and_true_of {a = le_z own.first (pos y)} {b = lt_z (pos y) own.next} (omega (arith, int)) (omega (arith, int)))

  abbrev start : List ℕ
  start = copied W H first_row end_row background canvas long size (omega arith)

  abbrev half : List ℕ
  half = laid_over W H first_row end_row earlier start

  start_length : length start ≡ W * H
  start_length = copied_length W H first_row end_row background canvas long size (omega arith)

  half_length : length half ≡ W * H
  half_length = laid_over_length W H first_row end_row earlier start start_length

  pub restored_by_layers : laid_over W H first_row end_row later half
      ≡ restored drawing W H (some (layer_of (get_or layers place blank_layer))) (without place (map layer_of (take count layers)))
      background canvas
  unfolding laid_over_row restored_row
  restored_by_layers =
      canvases_equal_by_rows W H (laid_over W H first_row end_row later half) (restored drawing W H (some l) others background canvas)
      (laid_over_length W H first_row end_row later half half_length) (restored_length drawing W H l others background canvas long size)
      (λ y low.
      laid_over_row_lem W H first_row end_row later half half_length y low
      ∙ ap (over later y)
      (laid_over_row_lem W H first_row end_row earlier start start_length y low
      ∙ ap (over earlier y) (copied_row W H first_row end_row background canvas long size (omega arith) y low))
      ∙ by_test y (leb first_row y && ltb y end_row)
      ∙ ap (λ (t : Bool). cond t (shown y) (canvas_row W y canvas)) (sym (painted_among y low))
      ∙ sym (restored_row_lem drawing W H l others background canvas long size y low))
    where
      l : Sheet-as-Layer StyledFigure
      l = layer_of (get_or layers place blank_layer)

      others : Layers drawing
      others = without place (map layer_of (take count layers))

      -- row y with some layers laid over it, if it is one that the layer has painted
      laid : ℕ → Bool → Layers drawing → List ℕ → List ℕ
      laid y t some_layers row = cond t (overpainted drawing (layer_painters drawing some_layers (pos y)) (pos y) row) row

      over : Layers drawing → ℕ → List ℕ → List ℕ
      over some_layers y row = laid y (leb first_row y && ltb y end_row) some_layers row

      shown : ℕ → List ℕ
      shown y = overpainted drawing (layer_painters drawing others (pos y)) (pos y) (canvas_row W y background)

      all_over : (y : ℕ)
          → overpainted drawing (layer_painters drawing later (pos y)) (pos y)
          (overpainted drawing (layer_painters drawing earlier (pos y)) (pos y) (canvas_row W y background))
          ≡ shown y
      all_over y =
          sym (overpainted_append drawing (layer_painters drawing earlier (pos y)) (layer_painters drawing later (pos y)) (pos y)
          (canvas_row W y background))
          ∙ ap (λ (items : List StyledFigure). overpainted drawing items (pos y) (canvas_row W y background))
          (sym (ap (λ (a : Layers drawing). layer_painters drawing a (pos y)) others_are ∙ layer_painters_append earlier later (pos y)))

      by_test : (y : ℕ) (t : Bool)
          → laid y t later (laid y t earlier (cond t (canvas_row W y background) (canvas_row W y canvas)))
          ≡ cond t (shown y) (canvas_row W y canvas)
      by_test y true = all_over y
      by_test y false = refl
