-- A picture that was written reads back: its header is read as it was written, 6, 8 and 15 pass, and its raster holds the canvas.
-- Assumes nothing.
use mathlib.Core.Path.{◌≡◌, sym, ap, subst, ◌∙◌}
use mathlib.Core.List.{List, ◌++◌, append_assoc}
use Prim.Native.Nat.{ℕ, ◌+◌, ◌*◌, ◌-◌, ◌≤◌}
use native.Mathlib.Nat.{mul_comm}
use native.Mathlib.Omega.{arith}
use borrow.Author.Tests.{le-ltb, eq-eqb}
use lib.ListN.{length, take, drop, length-append}
use lib.Seq.{take_at, take-append-add}
use Rattle.refusal.specs.Refusal.{or_else, passed}
use Rattle.refusal.proofs.Checks.{passed_first}
use Rattle.canvas_size.specs.CanvasSize.{canvas_size_check, canvas_length_check}
use Rattle.netpbm_header.specs.declared.Format.{Format}
use Rattle.netpbm_header.specs.declared.Format.TheVariants.{P4, P5}
use Rattle.netpbm_header.specs.Header.{header}
use Rattle.netpbm_parser.specs.Parser.{headed, file_header}
use Rattle.netpbm_parser.proofs.Headers.{header_read}
use Rattle.netpbm_raster.specs.Raster.{raster_length}
use Rattle.netpbm_raster.proofs.RoundTrip.{rows_unpack}
use Rattle.netpbm.specs.Netpbm.{raster, picture, write_check, file_after}
use Rattle.netpbm_read.specs.Read.{pixels, read_check}
use Rattle.netpbm.specs.RoundTrip.{read_back, ReadsAs, PictureReadsBack, WrittenReadsBack}
use Rattle.netpbm.proofs.File.{length_raster, accepted, write_passed_length, file_after_passed}

-- a raster holds the canvas that it was made of, whatever stands behind it
raster_holds : (format : Format) (W H : ℕ) (canvas behind : List ℕ) → length canvas ≡ W * H
    → pixels format W H (raster format W H canvas ++ behind) ≡ read_back format canvas
raster_holds P4 W H canvas behind long = rows_unpack W H canvas behind (long ∙ mul_comm W H)
raster_holds P5 W H canvas behind long = take_at canvas behind (W * H) long

-- a length that is right passes
length_passes : (W H n : ℕ) → n ≡ W * H → canvas_length_check W H n ≡ passed
unfolding canvas_length_check
length_passes W H n e = rw (eq-eqb n (W * H) e)

module _ (format : Format) (W H : ℕ) (canvas behind : List ℕ) (sides : canvas_size_check W H ≡ passed) (long : length canvas ≡ W * H) where
  seen : file_header (picture format W H canvas ++ behind) ≡ headed format W H (raster format W H canvas ++ behind)
  seen =
      ap file_header (append_assoc (header format W H) (raster format W H canvas) behind)
      ∙ header_read format W H (raster format W H canvas ++ behind)

  enough : raster_length format W H (W * H) ≤ length (raster format W H canvas ++ behind)
  enough =
      let known = length_raster format W H canvas ∙ ap (λ (n : ℕ). raster_length format W H n) long in
      rw length-append (omega arith)

  passes : (n : ℕ) → n ≡ W * H → read_check (headed format W H (raster format W H canvas ++ behind)) n passed ≡ passed
  passes n e = rw (
    sides,
    length_passes W H n e,
    le-ltb (length (raster format W H canvas ++ behind))
        (raster_length format W H (W * H)) enough,
  )

  reads_back : ReadsAs (picture format W H canvas ++ behind) W H (read_back format canvas)
  reads_back =
      record {
        answer = λ (lent : List ℕ) (e : length lent ≡ W * H). rw (seen, passes (length lent) e);
        pixels = λ (lent : List ℕ) (e : length lent ≡ W * H).
            rw (seen, passes (length lent) e) (raster_holds format W H canvas behind long);
      }

pub picture_reads_back : PictureReadsBack
picture_reads_back format W H canvas behind sides long = reads_back format W H canvas behind sides long

pub written_reads_back : WrittenReadsBack
unfolding write_check
written_reads_back format W H canvas file n m e enough =
    let whole = picture format W H canvas in
    let call = accepted (write_check format W H canvas file) (length whole) n e in
    let lent = passed_first (or_else (canvas_size_check W H) (canvas_length_check W H (length canvas))) _ call.0 in
    let sides = passed_first (canvas_size_check W H) (canvas_length_check W H (length canvas)) lent in
    let behind = drop (length whole) file in
    let parts : m ≡ length whole + (m - length whole) = omega (arith, call.1) in
    let first : take m (file_after format W H canvas file) ≡ whole ++ take (m - length whole) behind =
    ap (λ (bytes : List ℕ). take m bytes) (file_after_passed format W H canvas file call.0)
    ∙ ap (λ (k : ℕ). take k (whole ++ behind)) parts
    ∙ take-append-add whole behind (m - length whole) in
    subst (λ (bytes : List ℕ). ReadsAs bytes W H (read_back format canvas)) (sym first)
    (picture_reads_back format W H canvas (take (m - length whole) behind) sides
    (write_passed_length format W H canvas file call.0))
