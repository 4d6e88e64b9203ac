-- When a box is painted as a symmetric one: all of its rows are to be painted.
-- Assumes nothing.
use Rattle.std.specs.Prelude.{◌≡◌, ℕ, ℤ, Some, None, Option}
use Rattle.styled_box.specs.declared.StyledBox.{StyledBox}
use Rattle.styled_symmetric.specs.SymmetricBox.{SymmetricOf}
use Rattle.styled_symmetric.specs.declared.SymmetricBox.{SymmetricBox}

-- the box is symmetric, and the rows from y on are all that it has; else nothing is said
abbrev pub WholeSymmetric : StyledBox → ℤ → ℕ → Option SymmetricBox → Type 0
WholeSymmetric b y count (Some e) = SymmetricOf b (Some e) × (y ≡ b.area.top_left.y) × (count ≡ b.area.size.height)
WholeSymmetric b y count None = Unit {0}
