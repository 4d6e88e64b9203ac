-- Document 01, 'Sheet': what a layer owes and what overtakes it, by the rows by which the code compares two layers.
-- Assumes nothing.
use Rattle.std.specs.Prelude.{Bool, true, false, not, ◌&&◌, ◌||◌, List, [], ◌∷◌, ℤ}
use Rattle.std.specs.Int.Signed.{le_z, lt_z}
use Rattle.sheet_layers.specs.declared.rows.LayerRows.{LayerRows}

-- `layer_owes`, `some_layer_owes`, `overtakes` and `none_overtakes` of `book`, by rows alone ('Sheet')
unfoldable pub rows_owe : LayerRows → ℤ → Bool
rows_owe r y = (le_z r.first y && lt_z y r.end) && le_z r.next y

unfoldable pub some_rows_owe : List LayerRows → ℤ → Bool
some_rows_owe [] y = false
some_rows_owe (r ∷ rest) y = rows_owe r y || some_rows_owe rest y

unfoldable pub rows_overtake : LayerRows → LayerRows → Bool
rows_overtake earlier later =
    (lt_z later.first later.next && lt_z later.first earlier.end)
    && (lt_z earlier.next later.next && lt_z earlier.next earlier.end)

unfoldable pub no_rows_overtake : LayerRows → List LayerRows → Bool
no_rows_overtake r [] = true
no_rows_overtake r (later ∷ rest) = not (rows_overtake r later) && no_rows_overtake r rest

-- none of a list overtakes an earlier one: what `layers_keep_rules` of `book` asks of two layers ('Sheet')
unfoldable pub rows_in_order : List LayerRows → Bool
rows_in_order [] = true
rows_in_order (r ∷ rest) = no_rows_overtake r rest && rows_in_order rest
