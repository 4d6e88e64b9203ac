-- Number 7 (document 01, 'The records' and 'Sheet') by the numbers that a host keeps: when a host is told it, by what
-- `wunqaber_sheet_paint`, `wunqaber_sheet_remove` and `wunqaber_sheet_add` promise (`host_sheet`). The rules are the paper's own,
-- `Rules`, over every row y, and not the test by which the code answers. The laws are `paint_told_seven`, `remove_told_seven` and
-- `add_told_seven` (proofs/HostRules.antt).
-- Assumes nothing.
use Rattle.refusal.specs.Refusal.{passed}
use Rattle.std.specs.Prelude.{◌≡◌, ◌↔◌, ◌⊎◌, true, false, List, ℕ, ℤ}
use Rattle.signed.specs.Signed.{floor0}
use Rattle.book.specs.Sheet.{Layers, Rules}
use Rattle.drawing.specs.Drawing.{styled_check, drawing}
use Rattle.sheet_layers.specs.Layers.{layers_of}
use Rattle.host_records.specs.RecordNumbers.{number_at, figure_of, style_of}
use Rattle.host_sheet_record.specs.SheetRecord.{count_at, is_sheet, holds_records, sheet_of}
use Rattle.host_sheet.specs.Sheets.{are_records, add_told, paint_told, remove_told}

-- The layers that a sheet's numbers say ('The records'): those in the first places, as many as the third number says. That
-- number is taken as it stands, where `sheet_of` reads numbers that are no sheet's as one layer too many.
abbrev pub layers_said : List ℤ → Layers drawing
layers_said numbers = layers_of (floor0 (number_at numbers count_at)) (sheet_of numbers).layers

-- The rules ('Sheet') hold of the size and the layers that the numbers say.
abbrev pub RulesHold : List ℤ → Type 0
RulesHold numbers = Rules drawing (sheet_of numbers).width (sheet_of numbers).height (layers_said numbers)

-- The numbers are no sheet's, since one of the first three is negative, or a place that is to hold a layer has numbers out
-- of a figure's or a style's ranges (`holds_records` of `host_sheet_record`); or the rules do not hold ('The records', number 7).
abbrev pub NoSheetOrBroken : List ℤ → Type 0
NoSheetOrBroken numbers = (holds_records numbers ≡ false) ⊎ (RulesHold numbers → ⊥)

-- Painting, with a list of a sheet's length, whatever the layer and the canvas: 7 comes before the other numbers of a paint
-- call ('The records', the table).
abbrev pub PaintToldSeven : Type 0
PaintToldSeven =
    (numbers : List ℤ) → is_sheet numbers ≡ true → (i : ℕ) (canvas : List ℕ)
    → (paint_told numbers i canvas ≡ 7) ↔ NoSheetOrBroken numbers

-- Removing, with a list of that length, whatever the layer, the canvas and the background: 7 comes before the other numbers of a
-- removal, too (document 02, 'Five').
abbrev pub RemoveToldSeven : Type 0
RemoveToldSeven =
    (numbers : List ℤ) → is_sheet numbers ≡ true → (i : ℕ) (canvas background : List ℕ)
    → (remove_told numbers i canvas background ≡ 7) ↔ NoSheetOrBroken numbers

-- Adding, with a list of that length: 1, 2, 3 and 5, of the figure and the style, come before 7 ('The records', the table).
abbrev pub AddToldSeven : Type 0
AddToldSeven =
    (numbers figure style : List ℤ) → are_records numbers figure style ≡ true
    → (add_told numbers figure style ≡ 7) ↔ ((styled_check (figure_of figure) (style_of style) ≡ passed) × NoSheetOrBroken numbers)
