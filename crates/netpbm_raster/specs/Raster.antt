-- Document 02, 'One': the rows of a one-colour picture (Netpbm P4) as bits, eight to a byte, for any width.
-- Assumes nothing.
use Rattle.std.specs.Prelude.{cond, List, [], ◌∷◌, ◌++◌, ℕ, zero, suc, ◌+◌, ◌*◌, ◌/◌, ◌%◌, eqb, take, drop, get_or}
use Rattle.netpbm_header.specs.declared.Format.{Format}
use Rattle.netpbm_header.specs.declared.Format.TheVariants.{P4, P5}

-- the bit of a pixel: 1 for a nonzero byte
unfoldable pub bit : ℕ → ℕ
bit pixel = cond (eqb pixel 0) 0 1

-- the byte of a row's first eight pixels, high bit first. Where the row has ended `get_or` reads 0, so the byte is filled up with 0 bits
unfoldable pub packed_byte : List ℕ → ℕ
packed_byte row =
    128 * bit (get_or row 0 0)
    + (64 * bit (get_or row 1 0)
    + (32 * bit (get_or row 2 0)
    + (16 * bit (get_or row 3 0)
    + (8 * bit (get_or row 4 0)
    + (4 * bit (get_or row 5 0)
    + (2 * bit (get_or row 6 0)
    + bit (get_or row 7 0)))))))

-- so many bytes, each of the next eight pixels
unfoldable pub packed_bytes : ℕ → List ℕ → List ℕ
packed_bytes zero row = []
packed_bytes (suc n) row = packed_byte row ∷ packed_bytes n (drop 8 row)

-- the bytes that a row of W pixels takes: it is filled up to a whole byte
abbrev pub row_bytes : ℕ → ℕ
row_bytes W = (W + 7) / 8

-- the bytes of a raster, by how many pixels there are: in P4 those of H rows, in P5 one for each pixel
abbrev pub raster_length : Format → ℕ → ℕ → ℕ → ℕ
raster_length P4 W H pixels = H * row_bytes W
raster_length P5 W H pixels = pixels

-- a row of just W pixels as bits
abbrev pub packed_row : ℕ → List ℕ → List ℕ
packed_row W row = packed_bytes (row_bytes W) row

-- H rows of W pixels, each as bits
unfoldable pub packed_rows : ℕ → ℕ → List ℕ → List ℕ
packed_rows W zero canvas = []
packed_rows W (suc H) canvas = packed_row W (take W canvas) ++ packed_rows W H (drop W canvas)

-- the eight pixels of a byte, high bit first: a 1 bit becomes 1
unfoldable pub pixels_of : ℕ → List ℕ
pixels_of byte =
    byte / 128 % 2 ∷ byte / 64 % 2 ∷ byte / 32 % 2 ∷ byte / 16 % 2 ∷ byte / 8 % 2 ∷ byte / 4 % 2 ∷ byte / 2 % 2 ∷ byte % 2 ∷ []

-- the pixels of bytes, eight of each
unfoldable pub unpacked : List ℕ → List ℕ
unpacked [] = []
unpacked (byte ∷ bytes) = pixels_of byte ++ unpacked bytes

-- the row of W pixels that bytes hold; the filling bits behind it are left out
abbrev pub unpacked_row : ℕ → List ℕ → List ℕ
unpacked_row W bytes = take W (unpacked bytes)

-- H rows of W pixels, each from bytes of its own; what stands behind them is left out
unfoldable pub unpacked_rows : ℕ → ℕ → List ℕ → List ℕ
unpacked_rows W zero raster = []
unpacked_rows W (suc H) raster = unpacked_row W (take (row_bytes W) raster) ++ unpacked_rows W H (drop (row_bytes W) raster)
