-- What is written into a sheet's numbers is read back: a next row, and a layer with the count.
-- Assumes nothing.
use mathlib.Core.Path.{◌≡◌, refl, sym, ap, ap₂, ◌∙◌}
use mathlib.Core.Bool.{Bool, true, false, ◌&&◌}
use mathlib.Core.List.{List, [], ◌∷◌, ◌++◌}
use mathlib.Core.Logic.{◌≢◌}
use Prim.Native.Nat.{ℕ, zero, suc, ◌+◌, ◌-◌, ◌<◌, ◌≤◌, min}
use native.Mathlib.Omega.{arith}
use borrow.Author.Tests.{leb-true, leb-false, eqb-true, eqb-false}
use lib.Dec.{leb, eqb}
use lib.IntN.{ℤ, pos}
use lib.ListN.{length, take, drop, set, get_or, length-take, length-drop, length-set}
use lib.Seq.{sets, sets-eq, length-sets, take-set-le, take-set-lt, drop-set-add, get_or-set_same, get_or-set_other, get_or-take, take-take, take-append_seam, drop-append_seam, take-add, length-take-le}
use lib.Signed.{le_z}
use Rattle.signed.specs.Signed.{floor0}
use Rattle.signed.proofs.Laws.{int}
use Rattle.geometry.specs.Limits.{max_layers}
use Rattle.host_records.specs.RecordNumbers.{figure_length, style_length, number_at, list_from, all_from, none_negative, is_figure, is_style, figure_of, style_of}
use Rattle.book.proofs.Tests.{and_true_parts, and_true_of}
use Rattle.sheet_layers.specs.declared.Layer.{Layer}
use Rattle.sheet_layers.specs.Layers.{blank_layer}
use Rattle.sheet.specs.Sheet.{with_layer}
use Rattle.host_sheet_record.specs.SheetRecord.{style_at, next_row_at, layer_length, canvas_width_at, canvas_height_at, count_at, first_place_at, sheet_length, place_at, place_numbers, is_layer, holds_records, layer_of, sheet_of, layer_put}
use Rattle.host_sheet_record.proofs.Parts.{count_of_records}
use Rattle.host_sheet_record.proofs.Windows.{drop_sets_before, drop_sets_add, take_sets_behind, part_before, part_behind}

-- ---- Lists that differ in one place.
module _ {A : Type 0} (f g : ℕ → A) (i : ℕ) (same : (j : ℕ) → j ≢ i → g j ≡ f j) where
  behind : (n j : ℕ) → i < j → list_from g j n ≡ list_from f j n
  unfolding list_from
  behind zero j past = refl
  behind (suc n) j past = λ k. same j (omega arith) k ∷ behind n (suc j) (omega arith) k

  but_one : (n j d : ℕ) → i ≡ j + d → list_from g j n ≡ set (list_from f j n) d (g i)
  unfolding list_from
  but_one zero j d at = refl
  but_one (suc n) j zero at =
      let here : j ≡ i = omega arith in
      λ k. g (here k) ∷ behind n (suc j) (omega arith) k
  but_one (suc n) j (suc d) at = λ k. same j (omega arith) k ∷ but_one n (suc j) d (omega arith) k

module _ {A : Type 0} (f : ℕ → A) (d : A) where
  pub get_list_from : (n j i : ℕ) → i < n → get_or (list_from f j n) i d ≡ f (j + i)
  unfolding list_from
  get_list_from zero j i within = absurd (omega arith)
  get_list_from (suc n) j zero within =
      let here : j ≡ j + 0 = omega arith in
      ap f here
  get_list_from (suc n) j (suc i) within =
      let next : suc j + i ≡ j + suc i = omega arith in
      get_list_from n (suc j) i (omega arith) ∙ ap f next

-- ---- A test that holds for each of some things, and for all of them.
module _ (test : ℕ → Bool) where
  pub each_of_all : (n j k : ℕ) → j ≤ k → suc k ≤ j + n → all_from test j n ≡ true → test k ≡ true
  unfolding all_from
  each_of_all zero j k from to all = absurd (omega arith)
  each_of_all (suc n) j k from to all =
      let parts = and_true_parts (test j) (all_from test (suc j) n) all in
      by_place (k - j) refl parts.0 (λ later. each_of_all n (suc j) k later (omega arith) parts.1)
    where
      by_place : (d : ℕ) → k - j ≡ d → test j ≡ true → (suc j ≤ k → test k ≡ true) → test k ≡ true
      by_place zero at here later = let same : k ≡ j = omega arith in ap test same ∙ here
      by_place (suc d) at here later = later (omega arith)

  pub all_of_each : (n j : ℕ) → ((k : ℕ) → j ≤ k → suc k ≤ j + n → test k ≡ true) → all_from test j n ≡ true
  unfolding all_from
  all_of_each zero j each = refl
  all_of_each (suc n) j each =
      and_true_of (each j (omega arith) (omega arith)) (all_of_each n (suc j) (λ k from to. each k (omega arith) (omega arith)))

-- ---- A place that nothing was written in.
apart : (i j : ℕ) → j ≢ i → (t : Bool) → leb i j ≡ t → (P : Type 0) → (i < j → P) → (j < i → P) → P
apart i j other true order P after before =
    let le = leb-true i j order in
    after (omega arith)
apart i j other false order P after before = before (leb-false i j order)

-- ---- The numbers hold records afterwards too.
pub none_negative_set : (l : List ℤ) (k n : ℕ) → none_negative l ≡ true → none_negative (set l k (pos n)) ≡ true
unfolding none_negative
none_negative_set [] k n none = none
none_negative_set (v ∷ l) zero n none =
    let here : le_z (pos 0) (pos n) ≡ true = omega (arith, int) in
    ap₂ ◌&&◌ here (and_true_parts (le_z (pos 0) v) (none_negative l) none).1
none_negative_set (v ∷ l) (suc k) n none =
    let parts = and_true_parts (le_z (pos 0) v) (none_negative l) none in
    ap₂ ◌&&◌ parts.0 (none_negative_set l k n parts.1)

-- how many places are used
abbrev used : List ℤ → ℕ
used numbers = min (floor0 (number_at numbers count_at)) max_layers

module _ (before after : List ℤ) (records : holds_records before ≡ true) where
  pub places_before : (j : ℕ) → j < used before → is_layer (place_numbers before j) ≡ true
  unfolding holds_records
  places_before j within =
      each_of_all (λ k. is_layer (place_numbers before k)) (used before) 0 j (omega arith) (omega arith)
      (and_true_parts (none_negative (take first_place_at before)) (all_from (λ k. is_layer (place_numbers before k)) 0 (used before)) records).1

  pub sides_before : none_negative (take first_place_at before) ≡ true
  unfolding holds_records
  sides_before =
      (and_true_parts (none_negative (take first_place_at before)) (all_from (λ k. is_layer (place_numbers before k)) 0 (used before)) records).0

  pub still_records : none_negative (take first_place_at after) ≡ true → ((j : ℕ) → j < used after → is_layer (place_numbers after j) ≡ true)
      → holds_records after ≡ true
  unfolding holds_records
  still_records sides places =
      rw sides (all_of_each (λ k. is_layer (place_numbers after k)) (used after) 0 (λ j from to. places j (omega arith)))

-- ---- The layer in a place.
pub layer_in_place : (numbers : List ℤ) (i : ℕ) → i < max_layers → get_or (sheet_of numbers).layers i blank_layer ≡ layer_of
    (place_numbers numbers i)
unfolding sheet_of
layer_in_place numbers i place =
    let here : 0 + i ≡ i = omega arith in
    get_list_from (λ j. layer_of (place_numbers numbers j)) blank_layer max_layers 0 i place ∙ ap
    (λ (j : ℕ). layer_of (place_numbers numbers j)) here

-- ---- A next row.
module _ (numbers : List ℤ) (long : length numbers ≡ sheet_length) (i : ℕ) (place : i < max_layers) (row : ℤ) where
  abbrev written : List ℤ
  written = set numbers (place_at i + next_row_at) row

  abbrev old : Layer
  old = get_or (sheet_of numbers).layers i blank_layer

  abbrev new : Layer
  new = record { figure = old.figure; style = old.style; next_row = row }

  same_place : (j : ℕ) → j ≢ i → place_numbers written j ≡ place_numbers numbers j
  same_place j other =
      apart i j other (leb i j) refl (place_numbers written j ≡ place_numbers numbers j)
      (λ after. part_before layer_length (place_at j) (place_at i + next_row_at) numbers (row ∷ []) (omega arith))
      (λ before. part_behind layer_length (place_at j) (place_at i + next_row_at) numbers (row ∷ []) (omega arith))

  this_place : place_numbers written i ≡ set (place_numbers numbers i) next_row_at row
  this_place =
      ap (take layer_length) (drop-set-add (place_at i) numbers next_row_at row) ∙ take-set-lt layer_length
      (drop (place_at i) numbers) next_row_at row (omega arith)

  place_length : length (place_numbers numbers i) ≡ layer_length
  place_length = simp (length-take, length-drop) (omega arith)

  old_is : old ≡ layer_of (place_numbers numbers i)
  old_is = layer_in_place numbers i place

  this_layer : layer_of (place_numbers written i) ≡ new
  this_layer =
      let p = place_numbers numbers i in
      let style = ap (take style_length) (drop-set-add style_at p style_length row) ∙ take-set-le style_length (drop style_at p) style_length row
      (omega arith) in
      ap layer_of this_place
      ∙ (λ k. record {
        figure = figure_of (take-set-le figure_length p next_row_at row (omega arith) k);
        style = style_of (style k);
        next_row = get_or-set_same p next_row_at row (pos 0) (omega (arith, place_length)) k;
      })
      ∙ ap (λ (l : Layer). record { figure = l.figure; style = l.style; next_row = row }) (sym old_is)

  other_number : (k : ℕ) → k < first_place_at → number_at written k ≡ number_at numbers k
  other_number k small = get_or-set_other numbers (place_at i + next_row_at) k row (pos 0) (omega arith)

  pub row_kept : holds_records numbers ≡ true → holds_records written ≡ true
  row_kept records =
      still_records numbers written records
      (ap none_negative (take-set-le first_place_at numbers (place_at i + next_row_at) row (omega arith)) ∙ sides_before numbers written records)
      (λ j within. by_place j (before j within) (eqb j i) refl)
    where
      before : (j : ℕ) → j < used written → j < used numbers
      before j within =
          let same = ap (λ (z : ℤ). min (floor0 z) max_layers) (other_number count_at (omega arith)) in
          omega arith

      by_place : (j : ℕ) → j < used numbers → (t : Bool) → eqb j i ≡ t → is_layer (place_numbers written j) ≡ true
      by_place j within false order =
          ap (λ (p : List ℤ). is_layer p) (same_place j (eqb-false j i order)) ∙ places_before numbers written records j within
      by_place j within true order =
          let p = place_numbers numbers i in
          let style = ap (take style_length) (drop-set-add style_at p style_length row) ∙ take-set-le style_length
          (drop style_at p) style_length row (omega arith) in
          let here = eqb-true j i order in
          ap (λ (k : ℕ). is_layer (place_numbers written k)) here
          ∙ ap (λ (q : List ℤ). is_layer q) this_place
          ∙ ap₂ (λ (f s : List ℤ). is_figure f && is_style s) (take-set-le figure_length p next_row_at row (omega arith)) style
          ∙ places_before numbers written records i (omega arith)

  pub row_read_back : holds_records numbers ≡ true → sheet_of written ≡ with_layer (sheet_of numbers) (sheet_of numbers).count i new
  unfolding sheet_of
  row_read_back records k =
      record {
        width = floor0 (other_number canvas_width_at (omega arith) k);
        height = floor0 (other_number canvas_height_at (omega arith) k);
        count =
            (count_of_records written (row_kept records) ∙ ap (λ (z : ℤ). floor0 z) (other_number count_at (omega arith)) ∙ sym
            (count_of_records numbers records)) k;
        layers =
            (but_one (λ j. layer_of (place_numbers numbers j)) (λ j. layer_of (place_numbers written j)) i
            (λ j other. ap layer_of (same_place j other)) max_layers 0 i (omega arith)
            ∙ ap (set (sheet_of numbers).layers i) this_layer) k;
      }

-- ---- A layer and the count.
module _ (numbers : List ℤ) (long : length numbers ≡ sheet_length) (i : ℕ) (place : i < max_layers) (figure style : List ℤ) (row : ℤ)
    (count : ℕ)
    (figure_long : length figure ≡ figure_length) (style_long : length style ≡ style_length) where
  abbrev at : ℕ
  at = place_at i

  abbrev added : List ℤ
  added = set (layer_put numbers i figure style row) count_at (pos count)

  abbrev put : Layer
  put = record { figure = figure_of figure; style = style_of style; next_row = row }

  added_elsewhere : (j : ℕ) → j ≢ i → place_numbers added j ≡ place_numbers numbers j
  added_elsewhere j other =
      part_before layer_length (place_at j) count_at (layer_put numbers i figure style row) (pos count ∷ []) (omega arith)
      ∙ apart i j other (leb i j) refl (place_numbers (layer_put numbers i figure style row) j ≡ place_numbers numbers j)
      (λ after.
      part_before layer_length (place_at j) (at + next_row_at) (sets (sets numbers at figure) (at + style_at) style) (row ∷ []) (omega arith)
      ∙ part_before layer_length (place_at j) (at + style_at) (sets numbers at figure) style (omega arith)
      ∙ part_before layer_length (place_at j) at numbers figure (omega arith))
      (λ before.
      part_behind layer_length (place_at j) (at + next_row_at) (sets (sets numbers at figure) (at + style_at) style) (row ∷ []) (omega arith)
      ∙ part_behind layer_length (place_at j) (at + style_at) (sets numbers at figure) style (omega arith)
      ∙ part_behind layer_length (place_at j) at numbers figure (omega arith))

  -- the place's own numbers, before they are cut off behind
  abbrev rest : List ℤ
  rest = drop at numbers

  abbrev own : List ℤ
  own = set (sets (sets rest 0 figure) style_at style) next_row_at row

  rest_long : layer_length ≤ length rest
  rest_long = omega (arith, length-drop at numbers)

  own_numbers : place_numbers added i ≡ take layer_length own
  own_numbers =
      let from : at ≡ at + 0 = omega arith in
      ap (take layer_length)
      (drop_sets_before at count_at (layer_put numbers i figure style row) (pos count ∷ []) (omega arith)
      ∙ drop_sets_add at next_row_at (sets (sets numbers at figure) (at + style_at) style) (row ∷ [])
      ∙ ap (λ (l : List ℤ). set l next_row_at row)
      (drop_sets_add at style_at (sets numbers at figure) style
      ∙ ap (λ (l : List ℤ). sets l style_at style)
      (ap (λ (k : ℕ). drop at (sets numbers k figure)) from ∙ drop_sets_add at 0 numbers figure)))

  -- what was put at a list's start stands there
  starts : (l vs : List ℤ) (n : ℕ) → length vs ≡ n → n ≤ length l → take n (sets l 0 vs) ≡ vs
  starts l vs n many fits =
      ap (take n) (sets-eq vs l 0 (omega arith)) ∙ ap (λ (k : ℕ). take k (vs ++ drop (0 + length vs) l)) (sym many) ∙ take-append_seam vs
      (drop (0 + length vs) l)

  own_figure : take figure_length (take layer_length own) ≡ figure
  own_figure =
      take-take figure_length layer_length own (omega arith)
      ∙ take-set-le figure_length (sets (sets rest 0 figure) style_at style) next_row_at row (omega arith)
      ∙ take_sets_behind figure_length style_at (sets rest 0 figure) style (omega arith)
      ∙ starts rest figure figure_length figure_long (omega (arith, rest_long))

  own_long : length own ≡ length rest
  own_long = simp length-set (length-sets (sets rest 0 figure) style_at style ∙ length-sets rest 0 figure)

  own_style : take style_length (drop style_at (take layer_length own)) ≡ style
  own_style =
      let split = take-add figure_length (style_length + 1) own in
      let first = length-take-le figure_length own (omega (arith, own_long, rest_long)) in
      let tail : take (style_length + 1) (drop style_at own) ≡ drop style_at
      (take figure_length own ++ take (style_length + 1) (drop style_at own)) =
      sym (ap (λ (k : ℕ). drop k (take figure_length own ++ take (style_length + 1) (drop style_at own))) (sym first) ∙ drop-append_seam
      (take figure_length own) (take (style_length + 1) (drop style_at own))) in
      ap (λ (l : List ℤ). take style_length (drop style_at l)) split
      ∙ ap (take style_length) (sym tail)
      ∙ take-take style_length (style_length + 1) (drop style_at own) (omega arith)
      ∙ ap (take style_length) (drop-set-add style_at (sets (sets rest 0 figure) style_at style) style_length row)
      ∙ take-set-le style_length (drop style_at (sets (sets rest 0 figure) style_at style)) style_length row (omega arith)
      ∙ ap (take style_length) (drop_sets_add style_at 0 (sets rest 0 figure) style)
      ∙ starts (drop style_at (sets rest 0 figure)) style style_length style_long
      (omega (arith, length-drop style_at (sets rest 0 figure), length-sets rest 0 figure, rest_long))

  own_row : number_at (take layer_length own) next_row_at ≡ row
  own_row =
      get_or-take layer_length own next_row_at (pos 0) (omega arith)
      ∙ get_or-set_same (sets (sets rest 0 figure) style_at style) next_row_at row (pos 0)
      (omega (arith, length-sets (sets rest 0 figure) style_at style, length-sets rest 0 figure, rest_long))

  added_here : layer_of (place_numbers added i) ≡ put
  added_here =
      ap layer_of own_numbers ∙ (λ k. record { figure = figure_of (own_figure k); style = style_of (own_style k); next_row = own_row k })

  first_numbers : (k : ℕ) → k < count_at → number_at added k ≡ number_at numbers k
  first_numbers k small =
      get_or-set_other (layer_put numbers i figure style row) count_at k (pos count) (pos 0) (omega arith)
      ∙ sym (get_or-take at (layer_put numbers i figure style row) k (pos 0) (omega arith))
      ∙ ap (λ (l : List ℤ). number_at l k)
      (take_sets_behind at (at + next_row_at) (sets (sets numbers at figure) (at + style_at) style) (row ∷ []) (omega arith)
      ∙ take_sets_behind at (at + style_at) (sets numbers at figure) style (omega arith)
      ∙ take_sets_behind at at numbers figure (omega arith))
      ∙ get_or-take at numbers k (pos 0) (omega arith)

  put_long : length (layer_put numbers i figure style row) ≡ sheet_length
  put_long = simp length-set (length-sets (sets numbers at figure) (at + style_at) style ∙ length-sets numbers at figure ∙ long)

  module _ (records : holds_records numbers ≡ true) (first_free : floor0 (number_at numbers count_at) ≡ i) (one_more : count ≡ i + 1)
      (is_figure_lem : is_figure figure ≡ true) (is_style_lem : is_style style ≡ true) where
    count_read : floor0 (number_at added count_at) ≡ count
    count_read =
        let read : floor0 (pos count) ≡ count = omega arith in
        ap (λ (z : ℤ). floor0 z) (get_or-set_same (layer_put numbers i figure style row) count_at (pos count) (pos 0) (omega (arith, put_long)))
        ∙ read

    pub layer_kept : holds_records added ≡ true
    layer_kept = still_records numbers added records sides (λ j within. by_place j within (eqb j i) refl)
      where
        sides : none_negative (take first_place_at added) ≡ true
        sides =
            ap none_negative
            (take-set-lt first_place_at (layer_put numbers i figure style row) count_at (pos count) (omega arith)
            ∙ ap (λ (l : List ℤ). set l count_at (pos count))
            (take-set-le first_place_at (sets (sets numbers at figure) (at + style_at) style) (at + next_row_at) row (omega arith)
            ∙ take_sets_behind first_place_at (at + style_at) (sets numbers at figure) style (omega arith)
            ∙ take_sets_behind first_place_at at numbers figure (omega arith)))
            ∙ none_negative_set (take first_place_at numbers) count_at count (sides_before numbers added records)

        by_place : (j : ℕ) → j < used added → (t : Bool) → eqb j i ≡ t → is_layer (place_numbers added j) ≡ true
        by_place j within false order =
            let other = eqb-false j i order in
            ap (λ (p : List ℤ). is_layer p) (added_elsewhere j other) ∙ places_before numbers added records j (omega (arith, count_read))
        by_place j within true order =
            ap (λ (k : ℕ). is_layer (place_numbers added k)) (eqb-true j i order)
            ∙ ap (λ (q : List ℤ). is_layer q) own_numbers
            ∙ ap₂ (λ (f s : List ℤ). is_figure f && is_style s) own_figure own_style
            ∙ rw (is_figure_lem, is_style_lem)

    pub layer_read_back : sheet_of added ≡ with_layer (sheet_of numbers) count i put
    unfolding sheet_of
    layer_read_back k =
        record {
          width = floor0 (first_numbers canvas_width_at (omega arith) k);
          height = floor0 (first_numbers canvas_height_at (omega arith) k);
          count = (count_of_records added layer_kept ∙ count_read) k;
          layers =
              (but_one (λ j. layer_of (place_numbers numbers j)) (λ j. layer_of (place_numbers added j)) i
              (λ j other. ap layer_of (added_elsewhere j other)) max_layers 0 i (omega arith)
              ∙ ap (set (sheet_of numbers).layers i) added_here) k;
        }
