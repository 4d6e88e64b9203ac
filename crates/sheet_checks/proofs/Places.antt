-- The places of a sheet record: the layers that it has, and the test of its rules by its size, its count and its layers.
-- Assumes nothing.
use Rattle.refusal.specs.Refusal.{passed}
use Rattle.std.specs.Prelude.{Err}
use mathlib.Core.Path.{◌≡◌, refl, sym, ap, subst, ◌∙◌}
use mathlib.Core.Bool.{Bool, true, false, ◌&&◌}
use mathlib.Core.List.{List, [], ◌∷◌, ◌++◌, map}
use mathlib.Core.Option.{none, some}
use Prim.Native.Nat.{ℕ, zero, suc, ◌<◌, ◌≤◌}
use native.Mathlib.Omega.{arith}
use lib.Dec.{leb}
use lib.ListN.{length, take, get_or, get_elem?, length-map, length-take, length-append}
use lib.Seq.{take-append-le, take-take, get_or-take}
use borrow.Author.Tests.{leb-true, leb-false, le-leb, le-ltb}
use Rattle.refusal.specs.declared.Refusal.{Refusal}
use Rattle.geometry.specs.Limits.{max_canvas_side, max_layers}
use Rattle.canvas_size.specs.CanvasSize.{canvas_size_check}
use Rattle.canvas_size.proofs.Sides.{canvas_size_passed}
use Rattle.book.specs.Sheet.{Layers, WithinSide, layer_keeps_rules, layers_keep_rules, fits_side, keeps_rules}
use Rattle.book.proofs.Tests.{and_true_parts, false_unless}
use Rattle.book.proofs.Lists.{take_map, element_map}
use Rattle.book.proofs.RulesTest.{side_fits, test_rules}
use Rattle.drawing.specs.Drawing.{drawing}
use Rattle.sheet_layers.specs.declared.Layer.{Layer}
use Rattle.sheet_layers.proofs.LayerRules.{LayerWithin, kept_within, kept_at}
use Rattle.sheet_layers.specs.Layers.{layer_of, blank_layer, layers_of}

-- ---- elements by their number
module _ {A : Type 0} where
  pub element_at : (l : List A) (i : ℕ) (d : A) → i < length l → get_elem? l i ≡ some (get_or l i d)
  element_at [] i d within = absurd (omega arith)
  element_at (x ∷ l) zero d within = refl
  element_at (x ∷ l) (suc i) d within = element_at l i d (omega arith)

  pub element_past : (l : List A) (i : ℕ) → length l ≤ i → get_elem? l i ≡ none
  element_past [] i past = refl
  element_past (x ∷ l) zero past = absurd (omega arith)
  element_past (x ∷ l) (suc i) past = element_past l i (omega arith)

  element_take : (n : ℕ) (l : List A) (i : ℕ) → i < n → get_elem? (take n l) i ≡ get_elem? l i
  element_take zero l i within = absurd (omega arith)
  element_take (suc n) [] i within = refl
  element_take (suc n) (x ∷ l) zero within = refl
  element_take (suc n) (x ∷ l) (suc i) within = element_take n l i (omega arith)

-- ---- the layers of a record with its 16 places
module _ (count : ℕ) (places : List Layer) (sixteen : length places ≡ 16) where
  -- one that says more has 17
  pub layers_too_many : 16 < count → length (layers_of count places) ≡ 17
  layers_too_many many =
      length-map (take count (places ++ (blank_layer ∷ []))) layer_of ∙ simp (length-take, length-append) (omega arith)

  module _ (few : count ≤ 16) where
    pub layers_are : layers_of count places ≡ map layer_of (take count places)
    layers_are = ap (map layer_of) (take-append-le count places (blank_layer ∷ []) (omega arith))

    pub layers_many : length (layers_of count places) ≡ count
    layers_many =
        length-map (take count (places ++ (blank_layer ∷ []))) layer_of ∙ simp (length-take, length-append) (omega arith)

    pub layer_at : (i : ℕ) → i < count → get_elem? (layers_of count places) i ≡ some (layer_of (get_or places i blank_layer))
    layer_at i within =
        ap (λ (l : Layers drawing). get_elem? l i) layers_are
        ∙ element_map layer_of (take count places) i
        ∙ rw (element_take count places i within, element_at places i blank_layer (omega arith))

    pub layer_past : (i : ℕ) → count ≤ i → get_elem? (layers_of count places) i ≡ none
    layer_past i past = element_past (layers_of count places) i (omega (arith, layers_many))

    pub layers_before : (i : ℕ) → i ≤ count → take i (layers_of count places) ≡ map layer_of (take i places)
    layers_before i within =
        ap (take i) layers_are ∙ take_map layer_of i (take count places) ∙ ap (map layer_of) (take-take i count places within)

-- ---- a size within limits
module _ (W H : ℕ) where
  pub sides_pass : WithinSide drawing W → WithinSide drawing H → canvas_size_check W H ≡ passed
  unfolding canvas_size_check
  sides_pass (w, v) (h, k) =
      rw (le-ltb W 1 w, le-ltb max_canvas_side W v, le-ltb H 1 h, le-ltb max_canvas_side H k)

  pub size_fits : canvas_size_check W H ≡ passed → (fits_side drawing W && fits_side drawing H) ≡ true
  size_fits passed =
      let sides = canvas_size_passed W H passed in
      rw (side_fits drawing W (sides.width_least, sides.width_most), side_fits drawing H (sides.height_least, sides.height_most))

-- ---- the rules of a record
module _ (W H count : ℕ) (places : List Layer) where
  abbrev kept : Bool
  kept = keeps_rules drawing W H (layers_of count places)

  pub broken_size : (refusal : Refusal) → canvas_size_check W H ≡ Err refusal → kept ≡ false
  broken_size refusal refused =
      false_unless kept
      (λ e. let rules = test_rules drawing W H (layers_of count places) e in
      let z : ◌≡◌ {A = ℕ} 0 1 =
      let contrary : passed ≡ Err refusal = sym (sides_pass W H rules.width rules.height) ∙ refused in cc in
      omega arith)

  module _ (sixteen : length places ≡ 16) where
    pub broken_count : 16 < count → kept ≡ false
    broken_count many =
        false_unless kept
        (λ e. let few = (test_rules drawing W H (layers_of count places) e).few in
        omega (arith, layers_too_many count places sixteen many))

    pub kept_few : kept ≡ true → count ≤ 16
    kept_few e = by_order (leb count 16) refl
      where
        by_order : (t : Bool) → leb count 16 ≡ t → count ≤ 16
        by_order true o = leb-true count 16 o
        by_order false o =
            let few = (test_rules drawing W H (layers_of count places) e).few in
            absurd (omega (arith, leb-false count 16 o, layers_too_many count places sixteen (leb-false count 16 o)))

    pub kept_by_layers : canvas_size_check W H ≡ passed → count ≤ 16
        → layers_keep_rules drawing (map layer_of (take count places)) ≡ kept
    unfolding keeps_rules
    kept_by_layers passed few =
        rw (
          size_fits W H passed,
          le-leb (length (layers_of count places)) 16 (omega (arith, layers_many count places sixteen few)),
          layers_are count places sixteen few,
        )

    pub kept_layer : kept ≡ true → (i : ℕ) → i < count → LayerWithin (get_or places i blank_layer)
    unfolding keeps_rules
    kept_layer e i within =
        let few = kept_few e in
        let sides : Bool = fits_side drawing W && fits_side drawing H in
        let number : Bool = leb (length (layers_of count places)) max_layers in
        let p = and_true_parts sides (number && layers_keep_rules drawing (layers_of count places)) e in
        let q = and_true_parts number (layers_keep_rules drawing (layers_of count places)) p.1 in
        let rules = sym (ap (layers_keep_rules drawing) (layers_are count places sixteen few)) ∙ q.1 in
        let here : i < length (take count places) = rw (length-take count places) (omega arith) in
        kept_within (get_or places i blank_layer)
        (subst (λ (l : Layer). layer_keeps_rules drawing (layer_of l) ≡ true) (get_or-take count places i blank_layer within)
        (kept_at (take count places) i rules here))

    pub kept_width : kept ≡ true → W ≤ max_canvas_side
    kept_width e = (test_rules drawing W H (layers_of count places) e).width.1

    pub kept_height : kept ≡ true → H ≤ max_canvas_side
    kept_height e = (test_rules drawing W H (layers_of count places) e).height.1
