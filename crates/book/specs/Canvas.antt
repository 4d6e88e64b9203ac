-- A canvas as one list of bytes (document 01, "The records"): its rows, W bytes each, from the top.
-- Assumes nothing.
use Rattle.std.specs.Prelude.{List, [], ◌++◌, ℕ, zero, suc, ◌*◌, take, drop}

-- Row y of a canvas of W columns: the W bytes from y × W on ("The records": where pixel (x, y) is).
unfoldable pub canvas_row : ℕ → ℕ → List ℕ → List ℕ
canvas_row W y canvas = take W (drop (y * W) canvas)

-- The canvas with another row at y, and every byte outside that row kept ("The records").
unfoldable pub put_row : ℕ → ℕ → List ℕ → List ℕ → List ℕ
put_row W y row canvas = take (y * W) canvas ++ (row ++ drop W (drop (y * W) canvas))

-- n rows of a canvas, from row y on, one behind the other ("The records").
unfoldable pub rows_from : (ℕ → List ℕ) → ℕ → ℕ → List ℕ
rows_from row y zero = []
rows_from row y (suc n) = row y ++ rows_from row (suc y) n

-- The canvas of H rows whose row y is `row y` ("The records").
abbrev pub canvas_of : (ℕ → List ℕ) → ℕ → List ℕ
canvas_of row H = rows_from row 0 H
