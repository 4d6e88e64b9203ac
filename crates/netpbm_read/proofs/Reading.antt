-- The check that is made is the one that the definition makes, also of a header as far as its numbers are kept; and what it says once it
-- has
-- passed.
-- Assumes nothing.
use Rattle.std.specs.Prelude.{Ok, Err}
use mathlib.Core.Path.{◌≡◌, refl, sym, ap, ap₂, ◌∙◌}
use mathlib.Core.Bool.{Bool, true, false}
use mathlib.Core.List.{List, append-nil}
use Prim.Native.Nat.{ℕ, ◌*◌, ◌-◌, ◌≤◌, min}
use native.Mathlib.Omega.{arith}
use borrow.Author.Tests.{ltb-true, ltb-false, lt-ltb, le-ltb}
use lib.Dec.{ltb}
use lib.ListN.{length, take, drop, length-drop, drop_of_length-le}
use lib.Seq.{sets, take_all, length-take-le}
use Rattle.refusal.specs.declared.Refusal.TheVariants.{CanvasSide, RasterLength}
use Rattle.refusal.specs.Refusal.{refuse_if, or_else, above, Checked, passed}
use Rattle.refusal.proofs.Checks.{passed_first, passed_next, passed_above}
use Rattle.geometry.specs.Limits.{max_canvas_side}
use Rattle.canvas_size.specs.CanvasSize.{side_check, canvas_size_check, canvas_length_check}
use Rattle.canvas_size.proofs.Sides.{canvas_size_passed, canvas_length_passed}
use Rattle.netpbm_text.proofs.Written.{sets_start}
use Rattle.netpbm_header.specs.declared.Format.{Format}
use Rattle.netpbm_parser.specs.Parser.{ReadHeader, no_header, headed}
use Rattle.netpbm_parser.specs.Capped.{most_kept, capped_header}
use Rattle.netpbm_parser.proofs.Capped.{kept}
use Rattle.netpbm_raster.specs.Raster.{raster_length}
use Rattle.netpbm_read.specs.Read.{raster_check, read_check}

-- bytes copied over a whole canvas
pub copied : (canvas bytes : List ℕ) → length canvas ≤ length bytes → sets canvas 0 (take (length canvas) bytes) ≡ take
    (length canvas) bytes
copied canvas bytes enough =
    let long : length (take (length canvas) bytes) ≡ length canvas = length-take-le (length canvas) bytes enough in
    sets_start canvas (take (length canvas) bytes) (omega arith)
    ∙ rw (long, drop_of_length-le canvas {i = (length canvas)} (omega arith)) (append-nil (take (length canvas) bytes))

-- all bytes from a place on, as they are lent
pub lent_from : (l : List ℕ) (at : ℕ) → take (length l - at) (drop at l) ≡ drop at l
lent_from l at = take_all (length l - at) (drop at l) (simp length-drop (omega arith))

-- what stands after a check plays a part only where that has passed
after_passed : (a b c : Checked) → (a ≡ passed → b ≡ c) → or_else a b ≡ or_else a c
after_passed (Ok _) b c same = same refl
after_passed (Err refusal) b c same = refl

-- the check made of a header's numbers, by the length of the canvas and the bytes left
pub check_made : (format : Format) (W H n left : ℕ) (bytes : List ℕ) (room : Checked) → left ≡ length bytes
    → or_else (or_else (or_else (canvas_size_check W H) (canvas_length_check W H n)) room)
    (refuse_if (above left (raster_length format W H n)) RasterLength)
    ≡ read_check (headed format W H bytes) n room
check_made format W H n left bytes room e =
    after_passed (or_else (or_else (canvas_size_check W H) (canvas_length_check W H n)) room) _ _
    (λ (passed : or_else (or_else (canvas_size_check W H) (canvas_length_check W H n)) room ≡ passed).
    let lent = passed_first (or_else (canvas_size_check W H) (canvas_length_check W H n)) room passed in
    let area = canvas_length_passed W H n (passed_next (canvas_size_check W H) (canvas_length_check W H n) lent) in
    ap₂ (λ (k m : ℕ). refuse_if (above k (raster_length format W H m)) RasterLength) e area)

-- a side is refused alike as far as it is kept
side_capped : (n : ℕ) → side_check (min n most_kept) ≡ side_check n
side_capped n =
    ap₂ (λ (a b : Bool). or_else (refuse_if a CanvasSide) (refuse_if b CanvasSide)) (small (ltb n 1) refl) (large (ltb max_canvas_side n) refl)
  where
    small : (t : Bool) → ltb n 1 ≡ t → ltb (min n most_kept) 1 ≡ ltb n 1
    small true e = lt-ltb (min n most_kept) 1 (omega (arith, ltb-true n 1 e)) ∙ sym e
    small false e = le-ltb (min n most_kept) 1 (omega (arith, ltb-false n 1 e)) ∙ sym e

    large : (t : Bool) → ltb max_canvas_side n ≡ t → ltb max_canvas_side (min n most_kept) ≡ ltb max_canvas_side n
    large true e = lt-ltb max_canvas_side (min n most_kept) (omega (arith, ltb-true max_canvas_side n e)) ∙ sym e
    large false e = le-ltb max_canvas_side (min n most_kept) (omega (arith, ltb-false max_canvas_side n e)) ∙ sym e

size_capped : (W H : ℕ) → canvas_size_check (min W most_kept) (min H most_kept) ≡ canvas_size_check W H
unfolding canvas_size_check
size_capped W H = ap₂ or_else (side_capped W) (side_capped H)

-- sides that pass are kept as they are
sides_kept : (format : Format) (W H : ℕ) (bytes : List ℕ) → canvas_size_check W H ≡ passed
    → capped_header (headed format W H bytes) ≡ headed format W H bytes
sides_kept format W H bytes passed =
    let sides = canvas_size_passed W H passed in
    ap₂ (λ (a b : ℕ). headed format a b bytes) (kept W (omega (arith, sides.width_most))) (kept H (omega (arith, sides.height_most)))

-- a header is refused alike as far as its numbers are kept, and one that passes is kept as it is
pub check_capped : (header : ReadHeader) (n : ℕ) (room : Checked) → read_check (capped_header header) n room ≡ read_check header n room
check_capped no_header n room = refl
check_capped (headed format W H bytes) n room = by_sides (canvas_size_check W H) refl
  where
    by_sides : (s : Checked) → canvas_size_check W H ≡ s
        → read_check (capped_header (headed format W H bytes)) n room ≡ read_check (headed format W H bytes) n room
    by_sides (Ok _) e = ap (λ (h : ReadHeader). read_check h n room) (sides_kept format W H bytes e)
    by_sides (Err refusal) e = rw (size_capped W H, e)

pub header_kept : (header : ReadHeader) (n : ℕ) (room : Checked) → read_check header n room ≡ passed → capped_header header ≡ header
header_kept no_header n room e = refl
header_kept (headed format W H bytes) n room e =
    sides_kept format W H bytes
    (passed_first (canvas_size_check W H) (canvas_length_check W H n)
    (passed_first (or_else (canvas_size_check W H) (canvas_length_check W H n)) room
    (passed_first (or_else (or_else (canvas_size_check W H) (canvas_length_check W H n)) room) (raster_check format W H bytes) e)))

-- a check that passes says how long the canvas is, and that there are bytes enough
pub read_passed_length : (format : Format) (W H n : ℕ) (bytes : List ℕ) (room : Checked) → read_check (headed format W H bytes) n room
    ≡ passed
    → n ≡ W * H
read_passed_length format W H n bytes room e =
    canvas_length_passed W H n
    (passed_next (canvas_size_check W H) (canvas_length_check W H n)
    (passed_first (or_else (canvas_size_check W H) (canvas_length_check W H n)) room
    (passed_first (or_else (or_else (canvas_size_check W H) (canvas_length_check W H n)) room) (raster_check format W H bytes) e)))

pub read_passed_bytes : (format : Format) (W H n : ℕ) (bytes : List ℕ) (room : Checked) → read_check (headed format W H bytes) n room
    ≡ passed
    → raster_length format W H n ≤ length bytes
read_passed_bytes format W H n bytes room e =
    let enough = passed_above (length bytes) (raster_length format W H (W * H)) RasterLength
    (passed_next (or_else (or_else (canvas_size_check W H) (canvas_length_check W H n)) room) (raster_check format W H bytes) e) in
    rw (read_passed_length format W H n bytes room e) enough
