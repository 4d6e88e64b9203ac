-- The rules of the layers of a sheet's numbers, place by place, and what a paint call asks of them: by the places and their
-- rows. The laws of `host_sheet_paint` (proofs/{Rules,Answers}.antt) equate them with the rules and the answers of a sheet.
-- Assumes nothing.
use Rattle.std.specs.Prelude.{◌≡◌, Bool, true, false, cond, ◌&&◌, ◌||◌, List, [], ◌∷◌, ℕ, zero, suc, eqb, ltb, ℤ, pos, negsuc, Some, None, Option}
use Rattle.std.specs.Int.Signed.{le_z, lt_z}
use Rattle.signed.specs.Signed.{larger, smaller, max_i32}
use Rattle.sheet_layers.specs.declared.rows.LayerRows.{LayerRows}
use Rattle.sheet_layers.specs.LayerRows.{rows_owe, rows_in_order}
use Rattle.sheet_layers.specs.Layers.{layer_rows}
use Rattle.host_records.specs.RecordNumbers.{list_from, all_from}
use Rattle.host_sheet_record.specs.SheetRecord.{place_numbers, layer_of}
use Rattle.host_sheet_place.specs.PlaceRules.{place_kept}
use Rattle.host_sheet_rules.specs.declared.PaintedRows.{PaintedRows}
use Rattle.host_sheet_rules.specs.declared.Asked.{Asked}

-- the rows of the layer in place j
abbrev pub rows_at : List ℤ → ℕ → LayerRows
rows_at numbers j = layer_rows (layer_of (place_numbers numbers j))

-- those of n places from the j-th on
abbrev pub rows_from : List ℤ → ℕ → ℕ → List LayerRows
rows_from numbers j n = list_from (rows_at numbers) j n

-- n places from the j-th on hold layers that keep their own rules
abbrev pub places_kept : List ℤ → ℕ → ℕ → Bool
places_kept numbers j n = all_from (λ k. place_kept (place_numbers numbers k)) j n

-- ---- The rows that layers have painted: from the first up to the end.

-- none: the last number of 32 bits for a first row and the first one for an end, so that those of any layer take their place
abbrev pub none_painted : PaintedRows
none_painted = record { first = pos max_i32; end = negsuc max_i32 }

-- with those of one layer more, if it has painted any
unfoldable pub also_painted : PaintedRows → LayerRows → PaintedRows
also_painted p r =
    cond (le_z r.next r.first) p (record { first = smaller p.first r.first; end = larger p.end r.next })

-- all rows that layers have painted keep to those
unfoldable pub KeepTo : PaintedRows → List LayerRows → Type 0
KeepTo p [] = true ≡ true
KeepTo p (r ∷ rest) =
    (lt_z r.first r.next ≡ true → (le_z p.first r.first ≡ true) × (le_z r.next p.end ≡ true)) × KeepTo p rest

-- ---- What a paint call asks: whether the layer has a row left, and whether an earlier one owes row y.

-- with the layer in place i taken in
abbrev pub asked_of : Asked → LayerRows → ℕ → ℕ → ℤ → Asked
asked_of a r i layer y =
    record {
      left = (eqb i layer && lt_z r.next r.end) || a.left;
      owed = (ltb i layer && rows_owe r y) || a.owed;
    }

-- of n places from the j-th on
unfoldable pub asked_from : List ℤ → ℕ → ℤ → ℕ → ℕ → Asked
asked_from numbers layer y j zero = record { left = false; owed = false }
asked_from numbers layer y j (suc n) = asked_of (asked_from numbers layer y (suc j) n) (rows_at numbers j) j layer y

-- ---- All of it, of the layers in the first places.
unfoldable pub places_tested : List ℤ → ℕ → ℕ → ℤ → Option Asked
places_tested numbers count layer y =
    cond (places_kept numbers 0 count && rows_in_order (rows_from numbers 0 count))
    (Some (asked_from numbers layer y 0 count)) None
