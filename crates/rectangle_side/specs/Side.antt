-- Document 01, 'Rectangle and offset', of one side (`rectangle/mod.rs`).
-- Assumes nothing.
use Rattle.std.specs.Prelude.{ℕ, ◌+◌, ◌-◌, ◌*◌, ◌/◌, ℤ, pos, ◌+ℤ◌, ◌*ℤ◌}
use Rattle.signed.specs.Signed.{floor0}

-- a side that the inner functions take: twice a radius of 4096 grown by 256, wider than the limits
abbrev pub wide_side : ℕ
wide_side = 2 * (4096 + 256)

-- floor(max(side − 1, 0) / 2): how far the centre lies from a side's first pixel. `◌-◌` on ℕ stops at 0
abbrev pub center_term : ℕ → ℕ
center_term side = (side - 1) / 2

-- a side offset by k: 2k added, never below 0
unfoldable pub offset_side : ℕ → ℤ → ℕ
offset_side side k = floor0 (pos side +ℤ pos 2 *ℤ k)
