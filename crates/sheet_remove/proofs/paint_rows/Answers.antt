-- `sheet_remove::paint_rows` meets its contract. Invariant: the rows that are left, painted from the next one on, make the whole.
use mathlib.Core.Path.{◌≡◌, refl, sym, ap, ◌∙◌}
use mathlib.Core.List.{List}
use Prim.Native.Nat.{ℕ, zero, suc, ◌+◌, ◌-◌, ◌<◌, ◌≤◌}
use native.Mathlib.Omega.{arith}
use lib.IntN.{ℤ, pos}
use lib.ListN.{length}
use mir.Syntax.{w32}
use mir.Val.{to_z, of_z}
use mir.Facts.{to_z-of_z}
use Rattle.signed.proofs.Laws.{int}
use Rattle.book.specs.Sheet.{paint_row}
use Rattle.book.specs.Whole.{paint_rows}
use Rattle.book.proofs.Picture.{paint_row_length}
use Rattle.drawing.specs.Drawing.{StyledFigure, styled_figure, drawing}
use Rattle.sheet_remove.proofs.paint_rows.Lts
use Rattle.sheet_remove.proofs.paint_rows.Reads
use Rattle.sheet_remove.proofs.paint_rows.Tie
use Rattle.sheet_remove.proofs.paint_rows.Goals as goal

-- the facts known at these places
abbrev After-from_u32 : Type 0
After-from_u32 = Lts.After-from_u32 Tie.the-claims Reads.Pre Reads.Post goal.the-invariant-loop-y goal.the-decreases-loop-y Tie.handed_clauses

-- one row more is painted
step : (W H : ℕ) (item : StyledFigure) (y to : ℕ) (canvas : List ℕ) → y < to
    → paint_rows drawing W H item (pos y) (to - y) canvas
    ≡ paint_rows drawing W H item (pos (y + 1)) (to - (y + 1)) (paint_row drawing W H item (pos y) canvas)
unfolding paint_rows
step W H item y to canvas left =
    let one : to - y ≡ suc (to - (y + 1)) = omega arith in
    ap (λ (n : ℕ). paint_rows drawing W H item (pos y) n canvas) one

-- none is left
none_left : (W H : ℕ) (item : StyledFigure) (y to : ℕ) (canvas : List ℕ) → to ≤ y
    → paint_rows drawing W H item (pos y) (to - y) canvas ≡ canvas
unfolding paint_rows
none_left W H item y to canvas past =
    let none : to - y ≡ zero = omega arith in
    ap (λ (n : ℕ). paint_rows drawing W H item (pos y) n canvas) none

-- the row as 32 bits hold it
row_is : (c : After-from_u32) → to_z w32 (of_z w32 c.from_u32.result) ≡ pos c.loop-y.y
row_is c = to_z-of_z c.from_u32.ensures.fits ∙ c.from_u32.ensures.is

pub loop-y-init : goal.loop-y-init
loop-y-init c = (refl, refl)

pub from_u32-requires : goal.from_u32-requires
from_u32-requires c = let high = c.requires.width_le_max_canvas_side.1 in omega arith

pub paint_row-requires : goal.paint_row-requires
paint_row-requires c =
    let walk = c.loop-y in
    let layer = c.requires.layer_within in
    let wide = c.requires.width_le_max_canvas_side.0 in
    let high = c.requires.width_le_max_canvas_side.1 in record { canvas_len = c.loop-y.invariant.1 ∙ c.requires.canvas_len; width_le_wide_side = omega (arith, wide); own_figure = layer.figure; stroke_width_bound = layer.stroke; near = rw (row_is c) (omega (arith, int)) }

pub loop-y-preserved : goal.loop-y-preserved
loop-y-preserved c =
    let walk = c.loop-y in
    let a = c.args in
    let W = a.size.width in
    let H = a.size.height in
    let item = styled_figure a.layer.figure a.layer.style in
    let painted =
    c.paint_row.ensures
    ∙ ap (λ (y : ℤ). paint_row drawing W H item y c.loop-y.canvas) (row_is c.before.before.before.before) in (
      ap (paint_rows drawing W H item (pos (c.loop-y.y + 1)) (a.to - (c.loop-y.y + 1))) painted
          ∙ sym (step W H item c.loop-y.y a.to c.loop-y.canvas c.loop-y-test.true)
          ∙ c.loop-y.invariant.0,
      ap length painted
          ∙ paint_row_length drawing W H item (pos c.loop-y.y) c.loop-y.canvas (c.loop-y.invariant.1 ∙ c.requires.canvas_len)
          ∙ sym c.requires.canvas_len,
    )

pub shape_of-canvas : goal.shape_of-canvas
shape_of-canvas c = c.loop-y.invariant.1

pub returns : goal.returns
returns c =
    let walk = c.loop-y in
    let a = c.args in
    sym (none_left a.size.width a.size.height (styled_figure a.layer.figure a.layer.style) c.loop-y.y a.to c.loop-y.canvas
    (omega arith))
    ∙ c.loop-y.invariant.0
