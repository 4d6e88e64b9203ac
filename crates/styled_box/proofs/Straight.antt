-- Rows that no corner of either area touches are alike.
-- Assumes nothing.
use Rattle.scanline.specs.Rows.{StyledRow}
use Rattle.std.specs.Prelude.{Some}
use mathlib.Core.Path.{sym, ap, ◌∙◌}
use Prim.Native.Nat.{ℕ, zero, suc, ◌+◌, ◌<◌, min}
use native.Mathlib.Omega.{arith}
use lib.IntN.{ℤ, pos, ◌+ℤ◌}
use Rattle.signed.proofs.Laws.{int, add_law}
use Rattle.scanline.specs.Places.{Placed}
use Rattle.rounded_rectangle.specs.declared.RoundedRectangle.{RoundedRectangle}
use Rattle.rounded_rectangle.specs.Quadrants.{top, height}
use Rattle.box_mirrored.specs.Sides.{StraightFor}
use Rattle.styled_row.specs.StyledRow.{box_styled_row}
use Rattle.styled_straight.proofs.Straight.{straight_row_lem}
use Rattle.styled_box.specs.ReadyBox.{Alike}

module _ (a f : RoundedRectangle) where
  -- rows further down
  placed_down : (first y : ℤ) (n dy k : ℕ) → Placed first n y (Some dy) → dy + k < n → Placed first n (y +ℤ pos k) (Some (dy + k))
  placed_down first y n dy k p l =
      let is = p.0 in
      (omega (arith, int, is, add_law y (pos k), add_law first (pos (dy + k)), add_law first (pos dy)), l)

  module _ (y : ℤ) (dy fill_dy n m : ℕ) (at : Placed (top a) (height a) y (Some dy)) (fill_at_lem : Placed (top f) (height f) y (Some fill_dy))
      (s : StraightFor a.corners a.rectangle.size dy n) (t : StraightFor f.corners f.rectangle.size fill_dy m) where
    pub rows_straight : Alike (box_styled_row a f) y (min n m)
    rows_straight zero l = ap (box_styled_row a f) (omega (arith, int, add_law y (pos 0)))
    rows_straight (suc k) l =
        let s₂ = s (suc k) (omega arith) (omega arith) in
        let t₂ = t (suc k) (omega arith) (omega arith) in
        straight_row_lem a f (y +ℤ pos (suc k)) (dy + suc k) (fill_dy + suc k)
        (placed_down (top a) y (height a) dy (suc k) at s₂.1.in_box)
        (placed_down (top f) y (height f) fill_dy (suc k) fill_at_lem t₂.1.in_box) s₂.1 t₂.1
        ∙ sym (straight_row_lem a f y dy fill_dy at fill_at_lem s₂.0 t₂.0)

-- one row is like itself
pub one_alike : (row_at : ℤ → StyledRow) (y : ℤ) → Alike row_at y 1
one_alike row_at y zero l = ap row_at (omega (arith, int, add_law y (pos 0)))
one_alike row_at y (suc k) l = absurd (omega arith)
