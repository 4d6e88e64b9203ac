-- Document 01, end of 'Sheet', and document 02, 'One': the bytes of a canvas that is written as Netpbm P5 or P4, and what the calls that
-- write one promise.
-- Assumes nothing.
use Rattle.refusal.specs.declared.Refusal.{Refusal}
use Rattle.std.specs.Prelude.{List, [], ◌∷◌, ◌++◌, ℕ, pos, length, Result}
use Rattle.std.proofs.lemmas.List.Edits.{sets}
use Rattle.refusal.specs.Refusal.{or_else, Outcome, unless, keeping, room_check, Checked, outcome}
use Rattle.canvas_size.specs.CanvasSize.{canvas_size_check, canvas_length_check}
use Rattle.netpbm_header.specs.declared.Format.{Format}
use Rattle.netpbm_header.specs.declared.Format.TheVariants.{P4, P5}
use Rattle.netpbm_header.specs.Header.{header}
use Rattle.netpbm_raster.specs.Raster.{packed_rows}

-- the raster: of P4 the rows as bits, of P5 the bytes of the canvas
abbrev pub raster : Format → ℕ → ℕ → List ℕ → List ℕ
raster P4 W H canvas = packed_rows W H canvas
raster P5 W H canvas = canvas

-- the header, then the raster
abbrev pub picture : Format → ℕ → ℕ → List ℕ → List ℕ
picture format W H canvas = header format W H ++ raster format W H canvas

-- 6, 8 and 13 of a canvas that is written into a file buffer
unfoldable pub write_check : Format → ℕ → ℕ → List ℕ → List ℕ → Checked
write_check format W H canvas file =
    or_else (or_else (canvas_size_check W H) (canvas_length_check W H (length canvas)))
    (room_check (length (picture format W H canvas)) (length file))

-- what an answer says: a refusal its number, else the length of the file
abbrev pub write_outcome : Result ℕ Refusal → Outcome
write_outcome = outcome (λ n. pos n ∷ [])

-- `write_p4` and `write_p5`: the answer, and the file buffer afterwards, in which the bytes past the file stay
abbrev pub write_call : Format → ℕ → ℕ → List ℕ → List ℕ → Outcome
write_call format W H canvas file = unless (write_check format W H canvas file) (pos (length (picture format W H canvas)) ∷ [])

abbrev pub file_after : Format → ℕ → ℕ → List ℕ → List ℕ → List ℕ
file_after format W H canvas file = keeping (write_check format W H canvas file) file (sets file 0 (picture format W H canvas))
