-- The numbers of a sheet without layers, made place by place.
-- Assumes nothing.
use mathlib.Core.Path.{◌≡◌, refl, ap}
use mathlib.Core.List.{List}
use Prim.Native.Nat.{ℕ, zero, suc, ◌+◌}
use native.Mathlib.Omega.{arith}
use lib.IntN.{ℤ, pos}
use lib.ListN.{set, replicate}
use Rattle.geometry.specs.Limits.{max_layers}
use Rattle.host_records.specs.RecordNumbers.{absent_paint}
use Rattle.host_sheet_record.specs.SheetRecord.{style_at, sheet_length, place_at}
use Rattle.host_sheet.specs.Sheets.{unused_places, opened_numbers}

-- zeros, with both paints of the first j places absent
unfoldable pub unused_up_to : ℕ → List ℤ
unused_up_to zero = replicate sheet_length (pos 0)
unused_up_to (suc j) = set (set (unused_up_to j) (place_at j + style_at) absent_paint) (place_at j + style_at + 1) absent_paint

pub unused_next : (j : ℕ)
    → set (set (unused_up_to j) (place_at j + style_at) absent_paint) (place_at j + style_at + 1) absent_paint ≡ unused_up_to (j + 1)
unfolding unused_up_to
unused_next j = let next : suc j ≡ j + 1 = omega arith in ap unused_up_to next

-- all of them
pub unused_all : unused_up_to max_layers ≡ opened_numbers 0 0
unfolding unused_up_to unused_places
unused_all = refl
