-- Document 01, end of 'Sheet', and document 02, 'One': the header of a canvas that is written as Netpbm P5 or P4.
-- Assumes nothing.
use Rattle.std.specs.Prelude.{List, [], ◌∷◌, ◌++◌, ℕ}
use Rattle.netpbm_text.specs.Decimal.{decimal}
use Rattle.netpbm_header.specs.declared.Format.{Format}
use Rattle.netpbm_header.specs.declared.Format.TheVariants.{P4, P5}

-- with what a file of each format begins: `P4`, `P5`
abbrev pub magic : Format → List ℕ
magic P4 = 80 ∷ 52 ∷ []
magic P5 = 80 ∷ 53 ∷ []

-- the other fixed parts of a header: LF before W; space between W and H; after H LF, and for P5 `255` and LF
abbrev pub line_feed : List ℕ
line_feed = 10 ∷ []

abbrev pub space : List ℕ
space = 32 ∷ []

abbrev pub ending : Format → List ℕ
ending P4 = line_feed
ending P5 = 10 ∷ 50 ∷ 53 ∷ 53 ∷ 10 ∷ []

-- `P4`, LF, W, space, H, LF; and `P5`, LF, W, space, H, LF, `255`, LF
unfoldable pub header : Format → ℕ → ℕ → List ℕ
header format W H = magic format ++ line_feed ++ decimal W ++ space ++ decimal H ++ ending format
