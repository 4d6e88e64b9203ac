-- How long a file is; what a passed check says of the file buffer; and what is left in it.
-- Assumes nothing.
use Rattle.std.specs.Prelude.{Ok, Err}
use mathlib.Core.Path.{◌≡◌, refl, ap, ◌∙◌}
use mathlib.Core.List.{List, [], ◌∷◌, ◌++◌}
use Prim.Native.Nat.{ℕ, ◌+◌, ◌*◌, ◌≤◌}
use native.Mathlib.Omega.{arith}
use lib.IntN.{pos, nat_abs}
use lib.ListN.{length, drop, length-append}
use Rattle.refusal.specs.declared.Refusal.TheVariants.{BufferLength}
use Rattle.refusal.specs.Refusal.{or_else, Outcome, refused, answered, unless, Checked, passed}
use Rattle.refusal.proofs.Checks.{passed_first, passed_next, passed_above}
use Rattle.canvas_size.specs.CanvasSize.{canvas_size_check, canvas_length_check}
use Rattle.canvas_size.proofs.Sides.{canvas_length_passed}
use Rattle.netpbm_text.proofs.Written.{sets_start}
use Rattle.netpbm_header.specs.declared.Format.{Format}
use Rattle.netpbm_header.specs.declared.Format.TheVariants.{P4, P5}
use Rattle.netpbm_header.specs.Header.{header}
use Rattle.netpbm_raster.specs.Raster.{raster_length}
use Rattle.netpbm_raster.proofs.Rows.{length_packed_rows}
use Rattle.netpbm.specs.Netpbm.{raster, picture, write_check, file_after}

pub length_raster : (format : Format) (W H : ℕ) (canvas : List ℕ)
    → length (raster format W H canvas) ≡ raster_length format W H (length canvas)
length_raster P4 W H canvas = length_packed_rows W H canvas
length_raster P5 W H canvas = refl

pub length_picture : (format : Format) (W H : ℕ) (canvas : List ℕ)
    → length (picture format W H canvas) ≡ length (header format W H) + raster_length format W H (length canvas)
length_picture format W H canvas =
    length-append (header format W H) (raster format W H canvas)
    ∙ ap (λ (n : ℕ). length (header format W H) + n) (length_raster format W H canvas)

-- an accepted call has passed its check, and answers the length of the picture
value_of : Outcome → ℕ
value_of (refused n) = 0
value_of (answered []) = 0
value_of (answered (v ∷ rest)) = nat_abs v

pub accepted : (check : Checked) (m n : ℕ) → unless check (pos m ∷ []) ≡ answered (pos n ∷ []) → (check ≡ passed) × (m ≡ n)
unfolding value_of
accepted (Ok _) m n e = (refl, ap value_of e)
accepted (Err refusal) m n e = let z : ◌≡◌ {A = ℕ} 0 1 = cc in absurd (omega arith)

-- a canvas that may be written has W × H bytes
pub write_passed_length : (format : Format) (W H : ℕ) (canvas file : List ℕ) → write_check format W H canvas file ≡ passed
    → length canvas ≡ W * H
unfolding write_check
write_passed_length format W H canvas file e =
    canvas_length_passed W H (length canvas)
    (passed_next (canvas_size_check W H) _ (passed_first (or_else (canvas_size_check W H) (canvas_length_check W H (length canvas))) _ e))

-- a file that may be written fits its buffer
pub write_passed_room : (format : Format) (W H : ℕ) (canvas file : List ℕ) → write_check format W H canvas file ≡ passed
    → length (picture format W H canvas) ≤ length file
unfolding write_check
write_passed_room format W H canvas file e =
    passed_above (length file) (length (picture format W H canvas)) BufferLength
    (passed_next (or_else (canvas_size_check W H) (canvas_length_check W H (length canvas))) _ e)

-- it then stands first, and the bytes past it stay
pub file_after_passed : (format : Format) (W H : ℕ) (canvas file : List ℕ) → write_check format W H canvas file ≡ passed
    → file_after format W H canvas file ≡ picture format W H canvas ++ drop (length (picture format W H canvas)) file
file_after_passed format W H canvas file e =
    rw e (sets_start file (picture format W H canvas) (write_passed_room format W H canvas file e))
