-- The rows of a place's layer: those of its figure's stroke area, whose top and height are sums of the place's numbers.
-- Assumes nothing.
use mathlib.Core.Path.{◌≡◌, refl, sym, ap, ap₂, subst, ◌∙◌}
use mathlib.Core.Bool.{Bool, true, false, cond}
use mathlib.Core.List.{List}
use Prim.Native.Nat.{ℕ, zero, suc, ◌+◌, ◌-◌, ◌*◌, ◌≤◌, ◌<◌, ◌^◌}
use native.Mathlib.Omega.{arith}
use lib.IntN.{ℤ, pos, ◌+ℤ◌, ◌-ℤ◌}
use borrow.Author.Tests.{ne_eqb}
use lib.Dec.{eqb}
use lib.ListN.{length, take}
use lib.Signed.{lt_z, mag}
use mir.Syntax.{w32}
use mir.Val.{hbits, SFits}
use borrow.Author.Rules.{sfits_of}
use Rattle.signed.specs.Signed.{floor0, Near}
use Rattle.signed.proofs.Laws.{int, add_law, sub_law}
use Rattle.rectangle_side.specs.Side.{center_term, offset_side}
use Rattle.rectangle_side.proofs.Parts.{offset_side_by_parts}
use Rattle.rectangle.specs.declared.Rectangle.{Rectangle}
use Rattle.rectangle.specs.Rectangle.{center, with_center, offset as rectangle_offset}
use Rattle.ellipse_rows.specs.Relative.{first_row_inside}
use Rattle.ellipse_rows.proofs.Rows.{row_count_relative}
use Rattle.figure.specs.declared.Figure.{Figure}
use Rattle.figure.specs.declared.Figure.TheVariants.{Ellipse, CrateBox, W3cBox}
use Rattle.figure.specs.Bounds.{wide_position, wide_offset, wide_own_side, wide_area_position}
use Rattle.style.specs.declared.StrokeAlignment.{StrokeAlignment}
use Rattle.style.specs.declared.Style.{Style}
use Rattle.style.specs.Style.{outside_width, outside_stroke_width}
use Rattle.style.proofs.StrokeWidths.{widths_make_stroke}
use Rattle.drawing.specs.declared.StrokeRows.{StrokeRows}
use Rattle.drawing.specs.Rows.{box_rows, ellipse_rows, stroke_rows}
use Rattle.drawing.proofs.Rows.{rows_of_ellipse, rows_of_crate_box, rows_of_w3c_box}
use Rattle.host_records.specs.RecordNumbers.{figure_length, kind_at, y_at, width_at, height_at, stroke_width_at, alignment_at, crate_box_kind, w3c_box_kind, number_at, list_from, alignment_of, rectangle_of, box_of, figure_of, style_of}
use Rattle.host_sheet_record.specs.SheetRecord.{style_at, layer_length, layer_of}
use Rattle.host_sheet_place.specs.PlaceRules.{rows_above, stroke_count, outside_of, first_row_of, count_of}
use Rattle.host_sheet_place.proofs.Limits.{layer_numbers, PlaceLimits}

-- ---- sums
pub rows_above_le : (h k : ℕ) → rows_above h k ≤ k
rows_above_le h k = by_height (eqb h 0)
  where
    by_height : (t : Bool) → cond t (k - 1) k ≤ k
    by_height true = omega arith
    by_height false = omega arith

pub outside_le : (alignment : StrokeAlignment) (s : ℕ) → outside_width alignment s ≤ s
outside_le alignment s = omega (arith, widths_make_stroke alignment s)

-- ---- what the limits bound
module _ (n : List ℤ) (limits : PlaceLimits (number_at n)) where
  pub top_near : mag (number_at n y_at) < 2 ^ hbits w32 → Near wide_position (number_at n y_at)
  top_near small =
      let y = limits.y in
      record { above = omega (arith, int); below = omega (arith, int); fits = sfits_of small }

  pub sides_small : (floor0 (number_at n width_at) ≤ wide_own_side) × (floor0 (number_at n height_at) ≤ wide_own_side)
  sides_small =
      let width = limits.width in
      let height = limits.height in
      (omega (arith, int), omega (arith, int))

  pub outside_small : outside_of n ≤ wide_offset
  outside_small =
      let width = limits.stroke_width in
      omega (arith, int, outside_le (alignment_of (number_at n (style_at + alignment_at))) (floor0 (number_at n (style_at + stroke_width_at))))

pub less_near : (z : ℤ) (n : ℕ) {r : ℤ} → Near wide_position z → n ≤ wide_offset → r ≡ z -ℤ pos n → SFits w32 r
    → Near wide_area_position r
less_near z n near few is fits =
    let above = near.above in
    let below = near.below in
    record { above = omega (arith, int, sub_law z (pos n)); below = omega (arith, int, sub_law z (pos n)); fits = fits }

side_offset : (side k : ℕ) → offset_side side (pos k) ≡ side + 2 * k
side_offset side k = omega (arith, offset_side_by_parts side (pos k))

-- a stroke area's top, by the centres
top_of_area : (y : ℤ) (h k : ℕ)
    → (y +ℤ pos (center_term h)) -ℤ pos (center_term (offset_side h (pos k))) ≡ y -ℤ pos (rows_above h k)
top_of_area y zero k =
    let grown = side_offset 0 k in
    let term : center_term (offset_side 0 (pos k)) ≡ k - 1 = omega arith in
    ap (λ (n : ℕ). (y +ℤ pos 0) -ℤ pos n) term
    ∙ omega (arith, int, add_law y (pos 0), sub_law (y +ℤ pos 0) (pos (k - 1)), sub_law y (pos (k - 1)))
top_of_area y (suc h) k =
    let grown = side_offset (suc h) k in
    let term : center_term (offset_side (suc h) (pos k)) ≡ center_term (suc h) + k = omega arith in
    let whole : k ≡ rows_above (suc h) k = rw (ne_eqb (suc h) 0 (λ none. omega arith)) in
    let plain : (y +ℤ pos (center_term (suc h))) -ℤ pos (center_term (suc h) + k) ≡ y -ℤ pos k = omega (
      arith,
      int,
      add_law y (pos (center_term (suc h))),
      sub_law (y +ℤ pos (center_term (suc h)))
          (pos (center_term (suc h) + k)),
      sub_law y (pos k),
    ) in
    ap (λ (n : ℕ). (y +ℤ pos (center_term (suc h))) -ℤ pos n) term ∙ plain ∙ ap (λ (n : ℕ). y -ℤ pos n) whole

-- ---- the rows of an area
module _ (r : Rectangle) (k : ℕ) where
  abbrev area : Rectangle
  area = rectangle_offset r (pos k)

  abbrev w : ℕ
  w = r.size.width

  abbrev h : ℕ
  h = r.size.height

  abbrev rows : Bool → StrokeRows
  rows ellipse = record { first = r.top_left.y -ℤ pos (rows_above h k); count = stroke_count ellipse (w + 2 * k) (h + 2 * k) }

  area_top : area.top_left.y ≡ r.top_left.y -ℤ pos (rows_above h k)
  unfolding rectangle_offset center with_center
  area_top = top_of_area r.top_left.y h k

  area_width : area.size.width ≡ w + 2 * k
  unfolding rectangle_offset with_center
  area_width = side_offset w k

  area_height : area.size.height ≡ h + 2 * k
  unfolding rectangle_offset with_center
  area_height = side_offset h k

  box_rows_are : box_rows area ≡ rows false
  box_rows_are i = record { first = area_top i; count = area_height i }

  ellipse_rows_are : ellipse_rows area ≡ rows true
  ellipse_rows_are i =
      record {
        first = area_top i;
        count =
            (row_count_relative area ∙ ap₂ (λ (a b : ℕ). cond (first_row_inside a b) b 0) area_width area_height) i;
      }

-- ---- the rows of a place's layer
module _ (f : ℕ → ℤ) where
  abbrev numbers : List ℤ
  numbers = list_from f 0 layer_length

  abbrev style : Style
  style = (layer_of numbers).style

  outside_is : outside_stroke_width style ≡ outside_of numbers
  unfolding outside_stroke_width style_of list_from
  outside_is = refl

  rows_by_numbers : stroke_rows (layer_of numbers).figure style ≡ record { first = first_row_of numbers; count = count_of numbers }
  unfolding figure_of list_from
  rows_by_numbers = by_kind (lt_z (f kind_at) crate_box_kind) refl (lt_z (f kind_at) w3c_box_kind) refl
    where
      own : Rectangle
      own = rectangle_of (take figure_length numbers)

      by : Bool → ℕ → StrokeRows
      by ellipse k =
          record {
            first = f y_at -ℤ pos (rows_above (floor0 (f height_at)) k);
            count = stroke_count ellipse (floor0 (f width_at) + 2 * k) (floor0 (f height_at) + 2 * k);
          }

      by_kind : (t : Bool) → lt_z (f kind_at) crate_box_kind ≡ t → (s : Bool) → lt_z (f kind_at) w3c_box_kind ≡ s
          → stroke_rows (layer_of numbers).figure style ≡ record { first = first_row_of numbers; count = count_of numbers }
      by_kind true e s d =
          let figure : (layer_of numbers).figure ≡ Ellipse own = rw e in
          ap (λ (g : Figure). stroke_rows g style) figure
          ∙ rows_of_ellipse style own ∙ ellipse_rows_are own (outside_stroke_width style) ∙ ap₂ by (sym e) outside_is
      by_kind false e true d =
          let figure : (layer_of numbers).figure ≡ CrateBox (box_of (take figure_length numbers)) = rw (e, d) in
          ap (λ (g : Figure). stroke_rows g style) figure
          ∙ rows_of_crate_box style (box_of (take figure_length numbers)) ∙ box_rows_are own (outside_stroke_width style)
          ∙ ap₂ by (sym e) outside_is
      by_kind false e false d =
          let figure : (layer_of numbers).figure ≡ W3cBox (box_of (take figure_length numbers)) = rw (e, d) in
          ap (λ (g : Figure). stroke_rows g style) figure
          ∙ rows_of_w3c_box style (box_of (take figure_length numbers)) ∙ box_rows_are own (outside_stroke_width style)
          ∙ ap₂ by (sym e) outside_is

-- the same of any numbers that are as many as a layer's
pub rows_of_place : (l : List ℤ) → length l ≡ layer_length
    → stroke_rows (layer_of l).figure (layer_of l).style ≡ record { first = first_row_of l; count = count_of l }
rows_of_place l long =
    subst (λ (n : List ℤ). stroke_rows (layer_of n).figure
    (layer_of n).style ≡ record { first = first_row_of n; count = count_of n })
    (sym (layer_numbers l long)) (rows_by_numbers (number_at l))
