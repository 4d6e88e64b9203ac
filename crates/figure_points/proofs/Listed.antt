-- The points of a shape, counted and written row by row: what is counted and what is left make the whole.
-- Assumes nothing.
use Rattle.figure_points.specs.Points.{points_check}
use Rattle.refusal.specs.declared.Refusal.{Refusal}
use Rattle.figure.specs.declared.Figure.{Figure}
use Rattle.figure.specs.Calls.{figure_check}
use Rattle.std.specs.Prelude.{Some, Err}
use mathlib.Core.Path.{◌≡◌, sym, ap, subst, ◌∙◌}
use mathlib.Core.Bool.{false}
use mathlib.Core.List.{List, []}
use Prim.Native.Nat.{ℕ, ◌+◌, ◌*◌, ◌≤◌, ◌<◌}
use native.Mathlib.Omega.{arith}
use lib.IntN.{ℤ, pos, ◌+ℤ◌}
use lib.ListN.{length}
use lib.Seq.{sets}
use mir.Syntax.{w32}
use mir.Val.{SFits, to_z, of_z}
use mir.Facts.{to_z-of_z}
use Rattle.signed.specs.Signed.{Is}
use Rattle.geometry.specs.declared.Point.{Point}
use Rattle.geometry.specs.Bounds.{wide_side}
use Rattle.geometry_range.specs.declared.Range.{Range}
use Rattle.rectangle.specs.declared.Rectangle.{Rectangle}
use Rattle.refusal.specs.declared.Refusal.TheVariants.{BufferLength}
use Rattle.refusal.specs.Refusal.{room_check, passed, Checked}
use Rattle.refusal.proofs.Checks.{passed_above}
use Rattle.geometry_range.specs.Range.{is_empty}
use Rattle.scanline.specs.Rows.{Row}
use Rattle.scanline.specs.Points.{EndsWithin, RowWithin, run_length, points_from, entries}
use Rattle.scanline.proofs.Listing.{points_after, points_after_none, length_after_run, RowsLeft, rows_left_start, rows_left_done}
use Rattle.shape.proofs.Runs.{run_length_le, start_is_near}
use Rattle.corner.specs.Bounds.{wide_stroke_side}
use Rattle.shape.specs.declared.Shape.{Shape}
use Rattle.shape.specs.declared.Shape.TheVariants.{Ellipse, RoundedBox}
use Rattle.figure.specs.Bounds.{AreaRectangle, BoundedShape}
use Rattle.figure.specs.Figure.{rectangle, row_of_shape, points_of_shape, points}

-- the rectangle of a bounded shape is bounded
pub shape_area : (s : Shape) → BoundedShape s → AreaRectangle (rectangle s)
shape_area (Ellipse r) b = b
shape_area (RoundedBox q) b = b.rectangle

-- the points by a shape's rectangle
pub points_by_rectangle : (s : Shape) (r : Rectangle) → r ≡ rectangle s
    → points_of_shape s ≡ points_from (row_of_shape s) r.top_left.y r.size.height
unfolding points_of_shape
points_by_rectangle s r is = λ i. points_from (row_of_shape s) (sym is i).top_left.y (sym is i).size.height

-- the row asked for is the one on z
pub row_told : (s : Shape) (z y : ℤ) (q : Row) → Is z y → q ≡ row_of_shape s (to_z w32 (of_z w32 y)) → row_of_shape s z ≡ q
row_told s z y q at is = sym (is ∙ ap (row_of_shape s) (to_z-of_z at.fits ∙ at.is))

-- the run of a row keeps to the shape's columns
module _ (s : Shape) (bounded : BoundedShape s) (q : Row) (run : Range)
    (within : RowWithin (rectangle s).top_left.x (rectangle s).size.width q) (is : q ≡ Some run) where
  run_ends : EndsWithin (rectangle s).top_left.x (rectangle s).size.width run
  run_ends = subst (RowWithin (rectangle s).top_left.x (rectangle s).size.width) is within

  pub run_small : run_length run ≤ wide_stroke_side
  run_small =
      let area = shape_area s bounded in
      let wide = area.size.width in
      omega (arith, run_length_le _ _ _ area.at.x wide run_ends)

  pub run_start_fits : SFits w32 run.start
  run_start_fits = let area = shape_area s bounded in (start_is_near _ _ _ area.at.x area.size.width run_ends).fits

-- the loop that counts: n points stand in the dy rows passed, and with those left they are all
pub record CountLeft (s : Shape) (top : ℤ) (h n dy : ℕ) : Type 0 where
  pub dy_le : dy ≤ h
  pub small : n ≤ dy * wide_stroke_side
  pub whole : n + length (points_after (row_of_shape s) top h dy) ≡ length (points_of_shape s)

pub count_start : (s : Shape) (top : ℤ) (h : ℕ) → points_of_shape s ≡ points_from (row_of_shape s) top h → CountLeft s top h 0 0
count_start s top h is =
    record {
      dy_le = omega arith;
      small = omega arith;
      whole = omega (arith, ap length (is ∙ points_after_none (row_of_shape s) top h));
    }

module _ (s : Shape) (top : ℤ) (h n dy : ℕ) (left : CountLeft s top h n dy) where
  pub count_done : points_after (row_of_shape s) top h dy ≡ [] → n ≡ length (points_of_shape s)
  count_done e = let w = left.whole in omega (arith, ap length e)

  pub count_next : (r : Range) (m : ℕ) → dy < h → row_of_shape s (top +ℤ pos dy) ≡ Some r → is_empty r ≡ false
      → run_length r ≤ wide_stroke_side → m ≡ run_length r → CountLeft s top h (n + m) (dy + 1)
  count_next r m l e full short is =
      let w = left.whole in
      let c = left.small in
      record {
        dy_le = omega arith;
        small = omega arith;
        whole = omega (arith, length_after_run (row_of_shape s) top h dy r l e full);
      }

-- a shape's rectangle at hand: the points go by its height and its top, as a program reads it
module _ (s : Shape) (r : Rectangle) (bounded : BoundedShape s) (is : r ≡ rectangle s) where
  abbrev top : ℤ
  top = to_z w32 (of_z w32 r.top_left.y)

  area : AreaRectangle r
  area = subst AreaRectangle (sym is) (shape_area s bounded)

  pub points_by_top_read : points_of_shape s ≡ points_from (row_of_shape s) top r.size.height
  points_by_top_read =
      points_by_rectangle s r is ∙ ap (λ (z : ℤ). points_from (row_of_shape s) z r.size.height) (sym (to_z-of_z area.at.y.fits))

  pub own_count_start : CountLeft s top r.size.height 0 0
  own_count_start = count_start s top r.size.height points_by_top_read

  -- no points are left: those counted are all, and no more than the rectangle has room for
  pub own_count_done : (n dy : ℕ) → CountLeft s top r.size.height n dy
      → points_after (row_of_shape s) top r.size.height dy ≡ [] → (n ≡ length (points_of_shape s)) × (n ≤ wide_side * wide_side)
  own_count_done n dy left none =
      let l = left.dy_le in
      let m = left.small in
      let tall = area.size.height in (count_done s top r.size.height n dy left none, omega arith)

  -- there is room for them, and where none are left the list holds them
  pub write_start : (list : List ℤ) → 2 * length (points_of_shape s) ≤ length list
      → RowsLeft (row_of_shape s) top r.size.height list list 0 0
  write_start list room =
      rows_left_start (row_of_shape s) top r.size.height list
      (subst (λ (ps : List Point). 2 * length ps ≤ length list) points_by_top_read room)

  pub write_done : {list₀ list : List ℤ} {at dy : ℕ} → RowsLeft (row_of_shape s) top r.size.height list₀ list at dy
      → points_after (row_of_shape s) top r.size.height dy ≡ [] → list ≡ sets list₀ 0 (entries (points_of_shape s))
  write_done {list₀ = list₀} left none =
      rows_left_done (row_of_shape s) top r.size.height left none
      ∙ ap (λ (ps : List Point). sets list₀ 0 (entries ps)) (sym points_by_top_read)

-- ---- there is room for the points where the check of the list finds it
pub room_passed : (needed room : ℕ) → room_check needed room ≡ passed → needed ≤ room
room_passed needed room e = passed_above room needed BufferLength e

-- ---- the check of a list: by the figure, and then by the room that the points need
pub points_check_room : (f : Figure) (room : ℕ) (found : Checked) → figure_check f ≡ passed
    → room_check (2 * length (points f)) room ≡ found → points_check f room ≡ found
unfolding points_check
points_check_room f room found passed is = rw (passed, is)

pub points_check_figure : (f : Figure) (room : ℕ) (refusal : Refusal) → figure_check f ≡ Err refusal → points_check f room
    ≡ Err refusal
unfolding points_check
points_check_figure f room refusal is = rw is
