-- Numbers without a place: how the code makes them, and the sheet that they are read as.
-- Assumes nothing.
use mathlib.Core.Path.{◌≡◌, refl, sym, ap, ap₂, ◌∙◌}
use mathlib.Core.Bool.{Bool, true, false}
use mathlib.Core.List.{List, [], ◌∷◌, ◌++◌, append_assoc, append-nil}
use Prim.Native.Nat.{ℕ, zero, suc, ◌+◌, ◌*◌, ◌-◌, ◌<◌, ◌≤◌}
use native.Mathlib.Omega.{arith}
use borrow.Author.Tests.{leb-true, leb-false}
use lib.Dec.{leb}
use lib.IntN.{ℤ, pos}
use lib.ListN.{length, take, drop, set, get_or, length-append, length-drop, drop_of_length-le, get_or-append}
use lib.Seq.{sets, sets-eq, drop-cons, drop-set-lt, get_or-drop, drop-drop, take_at, drop_at, drop-append-add, drop-append-le, take-append-le}
use lib.Seq.{length-take-le, take-take, take-set-lt, get_or-set_same, get_or-set_other, get_or-take}
use Rattle.signed.specs.Signed.{floor0}
use Rattle.geometry.specs.Limits.{max_layers}
use Rattle.host_records.specs.RecordNumbers.{number_at, list_from, none_negative, figure_of, style_of, paint_of, alignment_of}
use Rattle.book.specs.Book.{without, remove}
use Rattle.sheet_layers.specs.Layers.{blank_layer}
use Rattle.sheet.specs.Sheet.{carried_out_sheet}
use Rattle.host_sheet_record.specs.SheetRecord.{layer_length, canvas_width_at, canvas_height_at, count_at, first_place_at, sheet_length}
use Rattle.host_sheet_record.specs.SheetRecord.{place_at, place_numbers, is_layer, holds_records, layer_of, sheet_of, unused_place, moved_down, place_removed}
use Rattle.host_sheet_record.proofs.Parts.{count_of_records}
use Rattle.host_sheet_record.proofs.Windows.{part_before, part_behind}
use Rattle.host_sheet_record.proofs.ReadBack.{none_negative_set, places_before, sides_before, still_records}

-- ---- Moved down by n numbers, one after another, from place k on: those that are left make the whole.
module _ {A : Type 0} (d : A) (before : List A) (n : ℕ) where
  -- what stands from k on is still as it was
  abbrev pub StillFrom : ℕ → List A → Type 0
  StillFrom k l = drop k l ≡ drop k before

  moved_number : (l : List A) (k : ℕ) → StillFrom k l → get_or l (k + n) d ≡ get_or before (k + n) d
  moved_number l k still =
      sym (get_or-drop k l n d) ∙ ap (λ (m : List A). get_or m n d) still ∙ get_or-drop k before n d

  pub one_moved : (l : List A) (k : ℕ) → StillFrom k l → k + n < length before
      → sets l k (drop (k + n) before) ≡ sets (set l k (get_or l (k + n) d)) (k + 1) (drop (k + 1 + n) before)
  one_moved l k still within =
      let next : suc k ≡ k + 1 = omega arith in
      let behind : suc (k + n) ≡ k + 1 + n = omega arith in
      ap (sets l k) (drop-cons before (k + n) d within)
      ∙ ap (λ (a : A). sets (set l k a) (suc k) (drop (suc (k + n)) before)) (sym (moved_number l k still))
      ∙ ap₂ (λ (j m : ℕ). sets (set l k (get_or l (k + n) d)) j (drop m before)) next behind

  pub still_behind : (l : List A) (k : ℕ) (a : A) → StillFrom k l → StillFrom (k + 1) (set l k a)
  still_behind l k a still =
      drop-set-lt (k + 1) l k a (omega arith) ∙ sym (drop-drop 1 k l) ∙ ap (drop 1) still ∙ drop-drop 1 k before

  pub all_moved : (l : List A) (k : ℕ) → length before ≤ k + n → sets l k (drop (k + n) before) ≡ l
  all_moved l k past = ap (sets l k) (drop_of_length-le before {i = k + n} past)

-- ---- A list of things without one of them, and one more behind: the first of those stay, the later ones move down.
module _ {A : Type 0} (f g : ℕ → A) (last : A) where
  moved_up_to : (n j : ℕ) → ((k : ℕ) → j ≤ k → k < j + n → g k ≡ f (suc k)) → g (j + n) ≡ last
      → list_from g j (suc n) ≡ list_from f (suc j) n ++ (last ∷ [])
  unfolding list_from
  moved_up_to zero j moved end =
      let here : j ≡ j + 0 = omega arith in
      ap {B = List A} (λ t. t ∷ []) (ap g here ∙ end)
  moved_up_to (suc n) j moved end =
      let next : suc j + n ≡ j + suc n = omega arith in
      ap₂ {C = List A} (λ t l. t ∷ l) (moved j (omega arith) (omega arith))
      (moved_up_to n (suc j) (λ k from to. moved k (omega arith) (omega arith)) (ap g next ∙ end))

  without_one : (d n j : ℕ) → d ≤ n → ((k : ℕ) → k < j + d → g k ≡ f k) → ((k : ℕ) → j + d ≤ k → k < j + n → g k ≡ f (suc k))
      → g (j + n) ≡ last → list_from g j (suc n) ≡ without d (list_from f j (suc n)) ++ (last ∷ [])
  unfolding list_from
  without_one zero n j le same moved end = moved_up_to n j (λ k from to. moved k (omega arith) to) end
  without_one (suc d) zero j le same moved end = absurd (omega arith)
  without_one (suc d) (suc n) j le same moved end =
      let next : suc j + n ≡ j + suc n = omega arith in
      ap₂ {C = List A} (λ t l. t ∷ l) (same j (omega arith))
      (without_one d n (suc j) (omega arith) (λ k to. same k (omega arith)) (λ k from to. moved k (omega arith) (omega arith))
      (ap g next ∙ end))

-- ---- The numbers without a place.
module _ (numbers : List ℤ) (long : length numbers ≡ sheet_length) (i : ℕ) (place : i < max_layers) where
  abbrev first : List ℤ
  first = take (place_at i) numbers

  abbrev later : List ℤ
  later = drop (place_at (suc i)) numbers

  first_long : length first ≡ place_at i
  first_long = length-take-le (place_at i) numbers (omega arith)

  later_long : place_at i + length later ≡ sheet_length - layer_length
  later_long = omega (arith, length-drop (place_at (suc i)) numbers)

  both_long : length (first ++ later) ≡ sheet_length - layer_length
  both_long = length-append first later ∙ ap (λ (n : ℕ). n + length later) first_long ∙ later_long

  together : place_removed numbers i ≡ (first ++ later) ++ unused_place
  together = sym (append_assoc first later unused_place)

  pub removed_long : length (place_removed numbers i) ≡ sheet_length
  removed_long =
      ap (λ (l : List ℤ). length l) together ∙ length-append (first ++ later) unused_place ∙ ap (λ (n : ℕ). n + layer_length) both_long

  -- later places moved down, then the last one made an unused one
  pub removed_by_sets : sets (moved_down numbers i) (sheet_length - layer_length) unused_place ≡ place_removed numbers i
  removed_by_sets =
      let end = drop (place_at i + length later) numbers in
      let moved : moved_down numbers i ≡ (first ++ later) ++ end =
      sets-eq later numbers (place_at i) (omega (arith, later_long)) in
      let end_long : length end ≡ layer_length = omega (arith, later_long, length-drop (place_at i + length later) numbers) in
      let all_long : length ((first ++ later) ++ end) ≡ sheet_length =
      length-append (first ++ later) end ∙ ap₂ ◌+◌ both_long end_long in
      ap (λ (l : List ℤ). sets l (sheet_length - layer_length) unused_place) moved
      ∙ sets-eq unused_place ((first ++ later) ++ end) (sheet_length - layer_length) (omega (arith, all_long))
      ∙ ap₂ (λ (l m : List ℤ). (l ++ unused_place) ++ m) (take_at (first ++ later) end (sheet_length - layer_length) both_long)
      (drop_of_length-le ((first ++ later) ++ end) {i = sheet_length} (omega (arith, all_long)))
      ∙ append-nil ((first ++ later) ++ unused_place)
      ∙ sym together

  -- places before it are as they were
  same_before : (j : ℕ) → j < i → place_numbers (place_removed numbers i) j ≡ place_numbers numbers j
  same_before j before =
      ap (λ (l : List ℤ). place_numbers l j) (sym removed_by_sets)
      ∙ part_behind layer_length (place_at j) (sheet_length - layer_length) (moved_down numbers i) unused_place (omega arith)
      ∙ part_behind layer_length (place_at j) (place_at i) numbers later (omega arith)

  -- each later one stands in the place before it
  moved_down_lem : (j : ℕ) → i ≤ j → suc j < max_layers → place_numbers (place_removed numbers i) j ≡ place_numbers numbers (suc j)
  moved_down_lem j behind within = from (layer_length * (j - i)) (omega arith) (omega arith)
    where
      from : (q : ℕ) → place_at j ≡ place_at i + q → place_at (suc j) ≡ place_at (suc i) + q
          → place_numbers (place_removed numbers i) j ≡ place_numbers numbers (suc j)
      from q at next =
          let many : q + layer_length ≤ length later = omega (arith, later_long) in
          ap (λ (k : ℕ). take layer_length (drop k (place_removed numbers i))) (at ∙ ap (λ (n : ℕ). n + q) (sym first_long))
          ∙ ap (take layer_length)
          (drop-append-add first (later ++ unused_place) q ∙ drop-append-le q later unused_place (omega (arith, many)))
          ∙ take-append-le layer_length (drop q later) unused_place (omega (arith, many, length-drop q later))
          ∙ ap (take layer_length) (drop-drop q (place_at (suc i)) numbers)
          ∙ ap (λ (k : ℕ). take layer_length (drop k numbers)) (sym next)

  -- and the last is unused
  last_unused : place_numbers (place_removed numbers i) (max_layers - 1) ≡ unused_place
  last_unused =
      ap (λ (l : List ℤ). take layer_length (drop (sheet_length - layer_length) l)) together
      ∙ ap (take layer_length) (drop_at (first ++ later) unused_place (sheet_length - layer_length) both_long)

  -- ---- with another count
  module _ (count : ℕ) where
    abbrev removed : List ℤ
    removed = set (place_removed numbers i) count_at (pos count)

    same_places : (j : ℕ) → place_numbers removed j ≡ place_numbers (place_removed numbers i) j
    same_places j = part_before layer_length (place_at j) count_at (place_removed numbers i) (pos count ∷ []) (omega arith)

    unused_is_blank : layer_of unused_place ≡ blank_layer
    unfolding figure_of style_of paint_of alignment_of
    unused_is_blank = refl

    layers_removed : list_from (λ j. layer_of (place_numbers removed j)) 0 max_layers
        ≡ without i (list_from (λ j. layer_of (place_numbers numbers j)) 0 max_layers) ++ (blank_layer ∷ [])
    layers_removed =
        without_one (λ j. layer_of (place_numbers numbers j)) (λ j. layer_of (place_numbers removed j)) blank_layer i (max_layers - 1) 0
        (omega arith)
        (λ j before. ap layer_of (same_places j ∙ same_before j (omega (arith, before))))
        (λ j behind within. ap layer_of (same_places j ∙ moved_down_lem j (omega (arith, behind)) (omega (arith, within))))
        (ap layer_of (same_places (max_layers - 1) ∙ last_unused) ∙ unused_is_blank)

    size_numbers : (k : ℕ) → k < count_at → number_at removed k ≡ number_at numbers k
    size_numbers k small =
        get_or-set_other (place_removed numbers i) count_at k (pos count) (pos 0) (omega arith)
        ∙ get_or-append first (later ++ unused_place) (pos 0) k (omega (arith, first_long))
        ∙ get_or-take (place_at i) numbers k (pos 0) (omega arith)

    count_read : floor0 (number_at removed count_at) ≡ count
    count_read =
        let read : floor0 (pos count) ≡ count = omega arith in
        ap (λ (z : ℤ). floor0 z) (get_or-set_same (place_removed numbers i) count_at (pos count) (pos 0) (omega (arith, removed_long)))
        ∙ read

    module _ (records : holds_records numbers ≡ true) (one_less : suc count ≡ floor0 (number_at numbers count_at)) (within : i ≤ count)
        (few : count < max_layers) where
      pub removed_kept : holds_records removed ≡ true
      removed_kept = still_records numbers removed records sides (λ j below. by_place j (omega (arith, count_read)) (leb i j) refl)
        where
          sides : none_negative (take first_place_at removed) ≡ true
          sides =
              ap none_negative
              (take-set-lt first_place_at (place_removed numbers i) count_at (pos count) (omega arith)
              ∙ ap (λ (l : List ℤ). set l count_at (pos count))
              (take-append-le first_place_at first (later ++ unused_place) (omega (arith, first_long))
              ∙ take-take first_place_at (place_at i) numbers (omega arith)))
              ∙ none_negative_set (take first_place_at numbers) count_at count (sides_before numbers removed records)

          by_place : (j : ℕ) → j < count → (t : Bool) → leb i j ≡ t → is_layer (place_numbers removed j) ≡ true
          by_place j below true order =
              ap (λ (p : List ℤ). is_layer p) (same_places j ∙ moved_down_lem j (leb-true i j order) (omega arith))
              ∙ places_before numbers removed records (suc j) (omega arith)
          by_place j below false order =
              ap (λ (p : List ℤ). is_layer p) (same_places j ∙ same_before j (leb-false i j order))
              ∙ places_before numbers removed records j (omega arith)

      pub removed_read_back : (background : List ℕ) → sheet_of removed ≡ carried_out_sheet (sheet_of numbers) (remove i background)
      unfolding sheet_of carried_out_sheet
      removed_read_back background k =
          record {
            width = floor0 (size_numbers canvas_width_at (omega arith) k);
            height = floor0 (size_numbers canvas_height_at (omega arith) k);
            count =
                (count_of_records removed removed_kept ∙ count_read
                ∙ (let same = count_of_records numbers records in let less : count ≡ (sheet_of numbers).count - 1 = omega arith in less)) k;
            layers = layers_removed k;
          }
