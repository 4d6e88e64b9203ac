-- Document 02, 'One': a picture that we wrote reads back.
-- Assumes nothing.
use Rattle.std.specs.Prelude.{◌≡◌, List, [], ◌∷◌, ◌++◌, map, ℕ, ◌*◌, ◌≤◌, pos, length, take}
use Rattle.refusal.specs.Refusal.{answered, passed}
use Rattle.canvas_size.specs.CanvasSize.{canvas_size_check}
use Rattle.netpbm_header.specs.declared.Format.{Format}
use Rattle.netpbm_header.specs.declared.Format.TheVariants.{P4, P5}
use Rattle.netpbm_raster.specs.Raster.{bit}
use Rattle.netpbm.specs.Netpbm.{picture, write_call, file_after}
use Rattle.netpbm_read.specs.Read.{read_call, canvas_after}

-- as what a canvas reads back: P4 has each nonzero byte as 1, P5 the same canvas
abbrev pub read_back : Format → List ℕ → List ℕ
read_back P4 canvas = map bit canvas
read_back P5 canvas = canvas

-- a file from which a read into any canvas of W × H bytes gives W and H and leaves that canvas
pub record ReadsAs (file : List ℕ) (W H : ℕ) (canvas : List ℕ) : Type 0 where
  pub answer : (lent : List ℕ) → length lent ≡ W * H → read_call file lent ≡ answered (pos W ∷ pos H ∷ [])
  pub pixels : (lent : List ℕ) → length lent ≡ W * H → canvas_after file lent ≡ canvas

-- the picture of every canvas within limits, whatever stands behind it
abbrev pub PictureReadsBack : Type 0
PictureReadsBack =
    (format : Format) (W H : ℕ) (canvas behind : List ℕ) → canvas_size_check W H ≡ passed → length canvas ≡ W * H
    → ReadsAs (picture format W H canvas ++ behind) W H (read_back format canvas)

-- over the calls: once `write_p4` or `write_p5` has answered n, `read` reads back from the first n bytes of the buffer, or from more of it
abbrev pub WrittenReadsBack : Type 0
WrittenReadsBack =
    (format : Format) (W H : ℕ) (canvas file : List ℕ) (n m : ℕ) → write_call format W H canvas file ≡ answered (pos n ∷ []) → n ≤ m
    → ReadsAs (take m (file_after format W H canvas file)) W H (read_back format canvas)
