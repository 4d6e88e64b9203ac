-- The length of a file that was written fits 32 bits: a raster has at most 1024 by 1024 bytes, and a header at most 29.
-- Assumes nothing.
use mathlib.Core.Path.{◌≡◌, sym}
use mathlib.Core.List.{List, [], ◌∷◌}
use Prim.Native.Nat.{ℕ, ◌*◌, ◌<◌, ◌≤◌, ◌^◌}
use native.Mathlib.Omega.{arith}
use native.Mathlib.Nat.{mul-le-mul}
use lib.IntN.{pos}
use lib.ListN.{length}
use Rattle.refusal.specs.Refusal.{or_else, answered, room_check, passed}
use Rattle.refusal.proofs.Checks.{passed_first, passed_next}
use Rattle.canvas_size.specs.CanvasSize.{canvas_size_check, canvas_length_check}
use Rattle.canvas_size.proofs.Sides.{canvas_size_passed, canvas_length_passed}
use Rattle.netpbm_header.specs.declared.Format.{Format}
use Rattle.netpbm_header.specs.declared.Format.TheVariants.{P4, P5}
use Rattle.netpbm_header.proofs.Header.{length_header_u32}
use Rattle.netpbm_raster.specs.Raster.{row_bytes, raster_length}
use Rattle.netpbm.specs.Netpbm.{picture, write_check, write_call}
use Rattle.netpbm.proofs.File.{length_picture, accepted}
use Rattle.host_netpbm.specs.Netpbm.{write_room}

-- a raster has no more bytes than 1024 by 1024
raster_length_most : (format : Format) (W H pixels : ℕ) → W ≤ 1024 → H ≤ 1024 → pixels ≤ 1024 * 1024
    → raster_length format W H pixels ≤ 1024 * 1024
raster_length_most P4 W H pixels w h p =
    let row : row_bytes W ≤ 1024 = omega arith in
    mul-le-mul h row
raster_length_most P5 W H pixels w h p = p

pub written_length_fits : (format : Format) (W H : ℕ) (canvas file : List ℕ) (room n : ℕ) → write_room W H canvas room ≡ passed
    → answered (pos n ∷ []) ≡ write_call format W H canvas file → n < 2 ^ 32
written_length_fits format W H canvas file room n passed same =
    let lent = passed_first (or_else (canvas_size_check W H) (canvas_length_check W H (length canvas))) (room_check 1 room) passed in
    let sides = canvas_size_passed W H (passed_first (canvas_size_check W H) (canvas_length_check W H (length canvas)) lent) in
    let long = canvas_length_passed W H (length canvas) (passed_next (canvas_size_check W H) (canvas_length_check W H (length canvas)) lent) in
    let few = (accepted (write_check format W H canvas file) (length (picture format W H canvas)) n (sym same)).1 in
    let area : W * H ≤ 1024 * 1024 = mul-le-mul sides.width_most sides.height_most in
    let head = length_header_u32 format W H (omega arith) (omega arith) in
    omega (
      arith,
      length_picture format W H canvas,
      raster_length_most format W H (length canvas) sides.width_most
          sides.height_most (omega arith),
    )
