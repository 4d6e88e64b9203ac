-- Whether a place holds a layer that keeps its own rules, by the limits of its numbers and by its rows.
-- Assumes nothing.
use mathlib.Core.Path.{◌≡◌, sym, ap, ◌∙◌}
use mathlib.Core.Bool.{Bool, true, false, ◌&&◌}
use mathlib.Core.List.{List}
use native.Mathlib.Omega.{arith}
use lib.IntN.{ℤ}
use lib.ListN.{length}
use lib.Signed.{le_z, lt_z}
use Rattle.signed.proofs.Laws.{int}
use Rattle.sheet_layers.specs.declared.rows.LayerRows.{LayerRows}
use Rattle.sheet_layers.proofs.RowTests.{and-false}
use Rattle.book.specs.Sheet.{is_accepted, layer_keeps_rules}
use Rattle.book.proofs.Tests.{and_true_parts}
use Rattle.drawing.specs.Drawing.{styled_check}
use Rattle.sheet_layers.specs.Layers.{layer_rows}
use Rattle.host_sheet_record.specs.SheetRecord.{layer_length, is_layer, layer_of}
use Rattle.host_sheet_place.specs.PlaceRules.{place_kept, figure_kept, style_kept}
use Rattle.host_sheet_place.proofs.Limits.{and_assoc, kept_is_layer}

module _ (n : List ℤ) (long : length n ≡ layer_length) where
  abbrev limits : Bool
  limits = figure_kept n && style_kept n

  abbrev rows : LayerRows
  rows = layer_rows (layer_of n)

  place_kept_by : place_kept n ≡ (limits && (le_z rows.first rows.next && le_z rows.next rows.end))
  unfolding layer_keeps_rules layer_rows
  place_kept_by =
      let checked : Bool = is_accepted (styled_check (layer_of n).figure (layer_of n).style) in
      sym (and_assoc (is_layer n) checked (le_z rows.first rows.next && le_z rows.next rows.end))
      ∙ ap (λ (t : Bool). t && (le_z rows.first rows.next && le_z rows.next rows.end)) (sym (kept_is_layer n long))

  pub place_beyond_limits : limits ≡ false → place_kept n ≡ false
  place_beyond_limits beyond = place_kept_by ∙ rw beyond

  pub place_above : lt_z rows.next rows.first ≡ true → place_kept n ≡ false
  place_above above =
      let first : le_z rows.first rows.next ≡ false = omega (arith, int) in
      place_kept_by ∙ rw first (and-false limits)

  pub place_below : lt_z rows.end rows.next ≡ true → place_kept n ≡ false
  place_below below =
      let end : le_z rows.next rows.end ≡ false = omega (arith, int) in
      place_kept_by ∙ rw (end, and-false (le_z rows.first rows.next)) (and-false limits)

  pub place_among : limits ≡ true → lt_z rows.next rows.first ≡ false → lt_z rows.end rows.next ≡ false
      → place_kept n ≡ true
  place_among within from to =
      let first : le_z rows.first rows.next ≡ true = omega (arith, int) in
      let end : le_z rows.next rows.end ≡ true = omega (arith, int) in
      place_kept_by ∙ rw (within, first, end)

  -- and a layer that keeps its rules is within limits
  pub place_within : place_kept n ≡ true → limits ≡ true
  place_within kept =
      (and_true_parts limits (le_z rows.first rows.next && le_z rows.next rows.end) (sym place_kept_by ∙ kept)).0
