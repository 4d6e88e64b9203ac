-- Document 02, 'One': a picture of format P4 or P5 read into a lent canvas, and what the call promises.
-- Assumes nothing.
use Rattle.refusal.specs.declared.Refusal.{Refusal}
use Rattle.std.specs.Prelude.{List, [], ◌∷◌, ℕ, ◌*◌, ℤ, pos, length, take, Err, Result}
use Rattle.refusal.specs.declared.Refusal.TheVariants.{FileHeader, RasterLength}
use Rattle.refusal.specs.Refusal.{refuse_if, or_else, above, Outcome, unless, keeping, Checked, passed, outcome}
use Rattle.canvas_size.specs.declared.CanvasSize.{CanvasSize}
use Rattle.canvas_size.specs.CanvasSize.{canvas_size_check, canvas_length_check}
use Rattle.netpbm_header.specs.declared.Format.{Format}
use Rattle.netpbm_header.specs.declared.Format.TheVariants.{P4, P5}
use Rattle.netpbm_parser.specs.Parser.{ReadHeader, no_header, headed, file_header}
use Rattle.netpbm_raster.specs.Raster.{raster_length, unpacked_rows}

-- the canvas that the bytes behind a header hold: of P4 its rows of bits without their filling, of P5 a pixel for each byte. Bytes after the
-- raster are not read
abbrev pub pixels : Format → ℕ → ℕ → List ℕ → List ℕ
pixels P4 W H bytes = unpacked_rows W H bytes
pixels P5 W H bytes = take (W * H) bytes

-- 15: raster bytes missing
abbrev pub raster_check : Format → ℕ → ℕ → List ℕ → Checked
raster_check format W H bytes = refuse_if (above (length bytes) (raster_length format W H (W * H))) RasterLength

-- 14, before all others; 6 and 8 of the header's W and H and the length of the canvas; 15, after all others. Before 15 stands what else is
-- looked at: nothing, or the room in a host's list for W and H (13)
abbrev pub read_check : ReadHeader → ℕ → Checked → Checked
read_check no_header n room = Err FileHeader
read_check (headed format W H bytes) n room =
    or_else (or_else (or_else (canvas_size_check W H) (canvas_length_check W H n)) room) (raster_check format W H bytes)

-- W and H
abbrev pub sides_of : ReadHeader → List ℤ
sides_of no_header = []
sides_of (headed format W H bytes) = pos W ∷ pos H ∷ []

-- the canvas read
abbrev pub canvas_of : ReadHeader → List ℕ
canvas_of no_header = []
canvas_of (headed format W H bytes) = pixels format W H bytes

-- what an answer says: a refusal its number, else W and H
abbrev pub read_outcome : Result CanvasSize Refusal → Outcome
read_outcome = outcome (λ size. pos size.width ∷ pos size.height ∷ [])

-- a read with another check before 15: the answer, and the canvas afterwards
abbrev pub read_beside : Checked → List ℕ → List ℕ → Outcome
read_beside room file canvas = unless (read_check (file_header file) (length canvas) room) (sides_of (file_header file))

abbrev pub canvas_beside : Checked → List ℕ → List ℕ → List ℕ
canvas_beside room file canvas = keeping (read_check (file_header file) (length canvas) room) canvas (canvas_of (file_header file))

-- `read`: the answer, and the canvas afterwards
abbrev pub read_call : List ℕ → List ℕ → Outcome
read_call file canvas = read_beside passed file canvas

abbrev pub canvas_after : List ℕ → List ℕ → List ℕ
canvas_after file canvas = canvas_beside passed file canvas
