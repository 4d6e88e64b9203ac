-- Document 01, 'Rectangle and offset' and 'Corners', at one corner (`corner_radii.rs`): `CornerRadii` does it at all four.
-- Assumes nothing.
use Rattle.std.specs.Prelude.{ℕ, ◌*◌, ◌/◌, ℤ, pos, ◌+ℤ◌}
use Rattle.signed.specs.Signed.{floor0}
use Rattle.geometry.specs.declared.Size.{Size}

-- ---- 'Rectangle and offset'
-- a radius number offset by k: k added, never below 0
unfoldable pub offset_radius : ℤ → ℕ → ℕ
offset_radius k r = floor0 (pos r +ℤ k)

-- both numbers of a corner
unfoldable pub offset_corner : ℤ → Size → Size
offset_corner k r = record { width = offset_radius k r.width; height = offset_radius k r.height }

-- ---- 'Corners'
-- both numbers r of a corner become floor(r × L / S), by the numbers L and S
unfoldable pub scaled_corner : ℕ → ℕ → Size → Size
scaled_corner l s r = record { width = r.width * l / s; height = r.height * l / s }
