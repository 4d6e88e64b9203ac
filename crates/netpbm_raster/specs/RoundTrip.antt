-- Document 02, 'One': packing a row and unpacking it are each the other's way back, whatever the width.
-- Assumes nothing.
use Rattle.std.specs.Prelude.{◌≡◌, List, map, ℕ, ◌≤◌, ◌<◌, length, get_or}
use Rattle.netpbm_raster.specs.Raster.{bit, row_bytes, packed_row, unpacked, unpacked_row}

-- a packed row unpacks to the bits of its pixels
abbrev pub RowUnpacks : Type 0
RowUnpacks = (W : ℕ) (row : List ℕ) → length row ≡ W → unpacked_row W (packed_row W row) ≡ map bit row

-- the bytes of an unpacked row pack to themselves, if their filling bits are 0
abbrev pub RowRepacks : Type 0
RowRepacks =
    (W : ℕ) (bytes : List ℕ) → length bytes ≡ row_bytes W → ((i : ℕ) → get_or bytes i 0 < 256)
    → ((i : ℕ) → W ≤ i → get_or (unpacked bytes) i 0 ≡ 0) → packed_row W (unpacked_row W bytes) ≡ bytes
