-- The form by which the code goes from pixel to pixel; `proofs/Bits.antt` has the law that equates it with `Raster`.
-- Assumes nothing.
use Rattle.std.specs.Prelude.{List, [], ◌∷◌, ℕ, zero, suc, ◌*◌, ◌/◌, ◌%◌}

-- n bits of a byte: its high bit, and then those of the byte shifted up
unfoldable pub shifted_out : ℕ → ℕ → List ℕ
shifted_out zero byte = []
shifted_out (suc n) byte = byte / 128 ∷ shifted_out n (byte % 128 * 2)
