-- The numbers of a place within limits: by the tests of the numbers, and by `is_layer` and the check of the figure and the style
-- that they are. The two are equal.
-- Assumes nothing.
use Rattle.refusal.specs.Refusal.{passed}
use mathlib.Core.Path.{◌≡◌, refl, sym, ap, subst, ◌∙◌}
use mathlib.Core.Bool.{Bool, true, false, ◌&&◌, ◌||◌}
use mathlib.Core.List.{List, [], ◌∷◌}
use Prim.Native.Nat.{ℕ, zero, suc, ◌+◌, ◌-◌, ◌≤◌, ◌<◌, ◌^◌}
use native.Mathlib.Omega.{arith}
use borrow.Author.Tests.{le-ltb}
use lib.IntN.{ℤ, pos, negsuc, neg_ℤ, nat_abs}
use lib.ListN.{length, take}
use lib.Signed.{le_z, lt_z, mag}
use mir.Syntax.{w32}
use mir.Val.{hbits}
use Rattle.signed.specs.Signed.{floor0, max_i32, Near}
use Rattle.signed.proofs.Laws.{int, magnitude_law}
use Rattle.refusal.proofs.Checks.{passed_first, passed_next}
use Rattle.geometry.specs.Limits.{max_side, max_radius, max_position, max_stroke_width}
use Rattle.geometry.specs.Checks.{size_check, position_check}
use Rattle.geometry.proofs.Checks.{size_passed, position_passed}
use Rattle.corner_radii.specs.Bounds.{RadiiUpTo}
use Rattle.corner_radii.specs.CornerRadii.{radius_check, radii_check}
use Rattle.corner_radii.proofs.Checks.{radii_passed}
use Rattle.rectangle.specs.declared.Rectangle.{Rectangle}
use Rattle.figure.specs.Calls.{corners_check, figure_check}
use Rattle.figure.specs.Figure.{own_rectangle}
use Rattle.figure.proofs.Within.{figure_checked}
use Rattle.style.specs.Style.{style_check}
use Rattle.style.proofs.StrokeWidths.{style_passed}
use Rattle.book.specs.Sheet.{is_accepted}
use Rattle.book.proofs.Tests.{and_true_parts, and_true_of, is_accepted_true, tests_equal}
use Rattle.drawing.specs.Drawing.{styled_check}
use Rattle.host_records.specs.RecordNumbers.{figure_length, kind_at, x_at, y_at, width_at, height_at, radii_at, stroke_at, fill_at, stroke_width_at, alignment_at, ellipse_kind, crate_box_kind, w3c_box_kind, inside_alignment, outside_alignment, absent_paint, max_colour, number_at, list_from, all_from, within, none_negative, is_figure, is_style, size_of, corners_of, figure_of, style_of}
use Rattle.host_sheet_record.specs.SheetRecord.{style_at, layer_length, is_layer, layer_of}
use Rattle.host_sheet_record.proofs.ReadBack.{each_of_all, all_of_each}
use Rattle.host_sheet_place.specs.PlaceRules.{radius_kept, highest_radius, radii_kept, rectangle_kept, figure_kept, style_kept}

-- ---- tests joined
pub and_assoc : (a b c : Bool) → ((a && b) && c) ≡ (a && (b && c))
and_assoc true b c = refl
and_assoc false b c = refl

pub and_true : (a : Bool) → (a && true) ≡ a
and_true true = refl
and_true false = refl

-- ---- a list is its numbers
from_numbers : (l : List ℤ) (f : ℕ → ℤ) (j n : ℕ) → length l ≡ n → ((k : ℕ) → number_at l k ≡ f (k + j)) → l ≡ list_from f j n
unfolding list_from
from_numbers [] f j zero long at = refl
from_numbers [] f j (suc n) long at = absurd (omega arith)
from_numbers (v ∷ l) f j zero long at = absurd (omega arith)
from_numbers (v ∷ l) f j (suc n) long at =
    let first : 0 + j ≡ j = omega arith in
    λ i. (at 0 ∙ ap f first) i ∷ from_numbers l f (suc j) n (omega arith) (λ k. at (suc k) ∙ ap f (omega arith)) i

pub layer_numbers : (l : List ℤ) → length l ≡ layer_length → l ≡ list_from (number_at l) 0 layer_length
layer_numbers l long = from_numbers l (number_at l) 0 layer_length long (λ k. ap (number_at l) (omega arith))

-- ---- a number in its range
abbrev pub Between : ℤ → ℤ → ℤ → Type 0
Between low high v = (le_z low v ≡ true) × (le_z v high ≡ true)

between : (low high v : ℤ) → within low high v ≡ true → Between low high v
between low high v e = and_true_parts (le_z low v) (le_z v high) e

-- a radius by its highest number: an i32 is never above the largest
held_below : (v : ℤ) → mag v < 2 ^ hbits w32 → le_z v (pos max_i32) ≡ true
held_below (pos n) small = omega (arith, int)
held_below (negsuc n) small = omega (arith, int)

pub radius_by_highest : (any : Bool) (v : ℤ) → mag v < 2 ^ hbits w32 → within (pos 0) (highest_radius any) v ≡ radius_kept any v
radius_by_highest true v small = rw (held_below v small)
radius_by_highest false v small = refl

-- how many numbers the radii are
abbrev radii_count : ℕ
radii_count = figure_length - radii_at

-- ---- all numbers of a place in their ranges
pub record PlaceLimits (f : ℕ → ℤ) : Type 0 where
  pub kind : Between ellipse_kind w3c_box_kind (f kind_at)
  pub x : Between (neg_ℤ (pos max_position)) (pos max_position) (f x_at)
  pub y : Between (neg_ℤ (pos max_position)) (pos max_position) (f y_at)
  pub width : Between (pos 0) (pos max_side) (f width_at)
  pub height : Between (pos 0) (pos max_side) (f height_at)
  pub radii : (k : ℕ) → radii_at ≤ k → k < figure_length → radius_kept (lt_z (f kind_at) crate_box_kind) (f k) ≡ true
  pub stroke : Between absent_paint max_colour (f (style_at + stroke_at))
  pub fill : Between absent_paint max_colour (f (style_at + fill_at))
  pub stroke_width : Between (pos 0) (pos max_stroke_width) (f (style_at + stroke_width_at))
  pub alignment : Between inside_alignment outside_alignment (f (style_at + alignment_at))

module _ (f : ℕ → ℤ) where
  abbrev numbers : List ℤ
  numbers = list_from f 0 layer_length

  abbrev any : Bool
  any = lt_z (f kind_at) crate_box_kind

  abbrev radius : ℕ → Bool
  radius k = radius_kept any (f k)

  -- ---- the tests of the numbers say that they are in their ranges, and back
  abbrev kind_within : Bool
  kind_within = within ellipse_kind w3c_box_kind (f kind_at)

  abbrev x_within : Bool
  x_within = within (neg_ℤ (pos max_position)) (pos max_position) (f x_at)

  abbrev y_within : Bool
  y_within = within (neg_ℤ (pos max_position)) (pos max_position) (f y_at)

  abbrev width_within : Bool
  width_within = within (pos 0) (pos max_side) (f width_at)

  abbrev height_within : Bool
  height_within = within (pos 0) (pos max_side) (f height_at)

  abbrev stroke_within : Bool
  stroke_within = within absent_paint max_colour (f (style_at + stroke_at))

  abbrev fill_within : Bool
  fill_within = within absent_paint max_colour (f (style_at + fill_at))

  abbrev stroke_width_within : Bool
  stroke_width_within = within (pos 0) (pos max_stroke_width) (f (style_at + stroke_width_at))

  abbrev alignment_within : Bool
  alignment_within = within inside_alignment outside_alignment (f (style_at + alignment_at))

  radii_are : radii_kept any numbers ≡ all_from radius radii_at radii_count
  unfolding radii_kept list_from all_from
  radii_are = refl

  figure_is : figure_kept numbers ≡ (((((kind_within && x_within) && y_within) && width_within) && height_within)
      && all_from radius radii_at radii_count)
  unfolding figure_kept rectangle_kept list_from
  figure_is = ap (λ (t : Bool). ((((kind_within && x_within) && y_within) && width_within) && height_within) && t) radii_are

  style_is : style_kept numbers ≡ (((stroke_within && fill_within) && stroke_width_within) && alignment_within)
  unfolding style_kept list_from
  style_is = refl

  pub limits_of_kept : (figure_kept numbers && style_kept numbers) ≡ true → PlaceLimits f
  limits_of_kept e =
      let both = and_true_parts (figure_kept numbers) (style_kept numbers) e in
      let a5 = and_true_parts ((((kind_within && x_within) && y_within) && width_within) && height_within) (all_from radius radii_at radii_count)
      (sym figure_is ∙ both.0) in
      let a4 = and_true_parts (((kind_within && x_within) && y_within) && width_within) height_within a5.0 in
      let a3 = and_true_parts ((kind_within && x_within) && y_within) width_within a4.0 in
      let a2 = and_true_parts (kind_within && x_within) y_within a3.0 in
      let a1 = and_true_parts kind_within x_within a2.0 in
      let b3 = and_true_parts ((stroke_within && fill_within) && stroke_width_within) alignment_within (sym style_is ∙ both.1) in
      let b2 = and_true_parts (stroke_within && fill_within) stroke_width_within b3.0 in
      let b1 = and_true_parts stroke_within fill_within b2.0 in
      record {
        kind = between ellipse_kind w3c_box_kind (f kind_at) a1.0;
        x = between (neg_ℤ (pos max_position)) (pos max_position) (f x_at) a1.1;
        y = between (neg_ℤ (pos max_position)) (pos max_position) (f y_at) a2.1;
        width = between (pos 0) (pos max_side) (f width_at) a3.1;
        height = between (pos 0) (pos max_side) (f height_at) a4.1;
        radii = λ k from to. each_of_all radius radii_count radii_at k from (omega arith) a5.1;
        stroke = between absent_paint max_colour (f (style_at + stroke_at)) b1.0;
        fill = between absent_paint max_colour (f (style_at + fill_at)) b1.1;
        stroke_width = between (pos 0) (pos max_stroke_width) (f (style_at + stroke_width_at)) b2.1;
        alignment = between inside_alignment outside_alignment (f (style_at + alignment_at)) b3.1;
      }

  kept_of_limits : PlaceLimits f → (figure_kept numbers && style_kept numbers) ≡ true
  kept_of_limits l =
      let a0 : kind_within ≡ true = and_true_of l.kind.0 l.kind.1 in
      let a1 : x_within ≡ true = and_true_of l.x.0 l.x.1 in
      let a2 : y_within ≡ true = and_true_of l.y.0 l.y.1 in
      let a3 : width_within ≡ true = and_true_of l.width.0 l.width.1 in
      let a4 : height_within ≡ true = and_true_of l.height.0 l.height.1 in
      let a5 : all_from radius radii_at radii_count ≡ true = all_of_each radius radii_count radii_at
      (λ k from to. l.radii k from (omega arith)) in
      let b13 : stroke_within ≡ true = and_true_of l.stroke.0 l.stroke.1 in
      let b14 : fill_within ≡ true = and_true_of l.fill.0 l.fill.1 in
      let b15 : stroke_width_within ≡ true = and_true_of l.stroke_width.0 l.stroke_width.1 in
      let b16 : alignment_within ≡ true = and_true_of l.alignment.0 l.alignment.1 in
      and_true_of
      (figure_is ∙ and_true_of (and_true_of (and_true_of (and_true_of (and_true_of a0 a1) a2) a3) a4) a5)
      (style_is ∙ and_true_of (and_true_of (and_true_of b13 b14) b15) b16)

  -- ---- they are a layer's
  radius_sign : PlaceLimits f → (k : ℕ) → radii_at ≤ k → k < figure_length → le_z (pos 0) (f k) ≡ true
  radius_sign l k from to = (and_true_parts (le_z (pos 0) (f k)) (any || le_z (f k) (pos max_radius)) (l.radii k from to)).0

  layer_of_limits : PlaceLimits f → is_layer numbers ≡ true
  unfolding is_figure is_style none_negative list_from
  layer_of_limits l =
      rw (
        l.kind.0,
        l.kind.1,
        l.width.0,
        l.height.0,
        radius_sign l radii_at (omega arith) (omega arith),
        radius_sign l (radii_at + 1) (omega arith) (omega arith),
        radius_sign l (radii_at + 2) (omega arith) (omega arith),
        radius_sign l (radii_at + 3) (omega arith) (omega arith),
        radius_sign l (radii_at + 4) (omega arith) (omega arith),
        radius_sign l (radii_at + 5) (omega arith) (omega arith),
        radius_sign l (radii_at + 6) (omega arith) (omega arith),
        radius_sign l (radii_at + 7) (omega arith) (omega arith),
        l.stroke.0,
        l.stroke.1,
        l.fill.0,
        l.fill.1,
        l.stroke_width.0,
        l.alignment.0,
        l.alignment.1,
      )

  -- ---- and their figure and style pass their checks
  size_passes : PlaceLimits f → size_check (size_of (f width_at) (f height_at)) ≡ passed
  unfolding size_check
  size_passes l =
      let width = l.width in
      let height = l.height in
      let wide : floor0 (f width_at) ≤ max_side = omega (arith, int) in
      let high : floor0 (f height_at) ≤ max_side = omega (arith, int) in
      rw (le-ltb max_side (floor0 (f width_at)) wide, le-ltb max_side (floor0 (f height_at)) high)

  position_passes : PlaceLimits f → position_check (record { x = f x_at; y = f y_at }) ≡ passed
  unfolding position_check
  position_passes l =
      let at_x = l.x in
      let at_y = l.y in
      let x : nat_abs (f x_at) ≤ max_position = omega (arith, int, magnitude_law (f x_at)) in
      let y : nat_abs (f y_at) ≤ max_position = omega (arith, int, magnitude_law (f y_at)) in
      rw (le-ltb max_position (nat_abs (f x_at)) x, le-ltb max_position (nat_abs (f y_at)) y)

  radius_small : PlaceLimits f → any ≡ false → (k : ℕ) → radii_at ≤ k → k < figure_length → floor0 (f k) ≤ max_radius
  radius_small l box k from to =
      let parts = and_true_parts (le_z (pos 0) (f k)) (any || le_z (f k) (pos max_radius)) (l.radii k from to) in
      let small : le_z (f k) (pos max_radius) ≡ true = sym (ap (λ (t : Bool). t || le_z (f k) (pos max_radius)) box) ∙ parts.1 in
      omega (arith, int)

  radii_pass : PlaceLimits f → any ≡ false → radii_check (corners_of (take figure_length numbers)) ≡ passed
  unfolding radii_check radius_check list_from
  radii_pass l box =
      rw (
        le-ltb max_radius (floor0 (f radii_at)) (radius_small l box radii_at (omega arith) (omega arith)),
        le-ltb max_radius (floor0 (f (radii_at + 1))) (radius_small l box (radii_at + 1) (omega arith) (omega arith)),
        le-ltb max_radius (floor0 (f (radii_at + 2))) (radius_small l box (radii_at + 2) (omega arith) (omega arith)),
        le-ltb max_radius (floor0 (f (radii_at + 3))) (radius_small l box (radii_at + 3) (omega arith) (omega arith)),
        le-ltb max_radius (floor0 (f (radii_at + 4))) (radius_small l box (radii_at + 4) (omega arith) (omega arith)),
        le-ltb max_radius (floor0 (f (radii_at + 5))) (radius_small l box (radii_at + 5) (omega arith) (omega arith)),
        le-ltb max_radius (floor0 (f (radii_at + 6))) (radius_small l box (radii_at + 6) (omega arith) (omega arith)),
        le-ltb max_radius (floor0 (f (radii_at + 7))) (radius_small l box (radii_at + 7) (omega arith) (omega arith)),
      )

  style_passes : PlaceLimits f → style_check (layer_of numbers).style ≡ passed
  unfolding style_check style_of list_from
  style_passes l =
      let width = l.stroke_width in
      let thin : floor0 (f (style_at + stroke_width_at)) ≤ max_stroke_width = omega (arith, int) in
      rw (le-ltb max_stroke_width (floor0 (f (style_at + stroke_width_at))) thin)

  checks_of_limits : PlaceLimits f → styled_check (layer_of numbers).figure (layer_of numbers).style ≡ passed
  unfolding styled_check figure_of list_from
  checks_of_limits l = by_kind any refl (lt_z (f kind_at) w3c_box_kind) refl
    where
      by_kind : (t : Bool) → any ≡ t → (s : Bool) → lt_z (f kind_at) w3c_box_kind ≡ s
          → styled_check (layer_of numbers).figure (layer_of numbers).style ≡ passed
      by_kind true e s d = rw (e, size_passes l, position_passes l) (style_passes l)
      by_kind false e true d = rw (e, d, size_passes l, radii_pass l e, position_passes l) (style_passes l)
      by_kind false e false d = rw (e, d, size_passes l, radii_pass l e, position_passes l) (style_passes l)

  -- ---- and the other way round
  abbrev signs : ℕ → ℕ → Bool
  signs j n = none_negative (list_from f j n)

  is_layer_by : is_layer numbers
      ≡ ((within ellipse_kind w3c_box_kind (f kind_at) && signs width_at (figure_length - width_at)) &&
      (stroke_within && (fill_within && (le_z (pos 0) (f (style_at + stroke_width_at)) && alignment_within))))
  unfolding is_figure is_style list_from
  is_layer_by = refl

  sign_of : (n j k : ℕ) → j ≤ k → suc k ≤ j + n → signs j n ≡ true → le_z (pos 0) (f k) ≡ true
  unfolding none_negative list_from
  sign_of zero j k from to e = absurd (omega arith)
  sign_of (suc n) j k from to e =
      let parts = and_true_parts (le_z (pos 0) (f j)) (signs (suc j) n) e in
      by_place (k - j) refl parts.0 (λ later. sign_of n (suc j) k later (omega arith) parts.1)
    where
      by_place : (d : ℕ) → k - j ≡ d → le_z (pos 0) (f j) ≡ true → (suc j ≤ k → le_z (pos 0) (f k) ≡ true)
          → le_z (pos 0) (f k) ≡ true
      by_place zero at here later = let same : k ≡ j = omega arith in ap (λ (i : ℕ). le_z (pos 0) (f i)) same ∙ here
      by_place (suc d) at here later = later (omega arith)

  -- the rectangle of the figure, whatever its kind
  abbrev rectangle : Rectangle
  rectangle = record { top_left = record { x = f x_at; y = f y_at }; size = size_of (f width_at) (f height_at) }

  figure_rectangle : own_rectangle (layer_of numbers).figure ≡ rectangle
  unfolding figure_of list_from
  figure_rectangle = by_kind any refl (lt_z (f kind_at) w3c_box_kind) refl
    where
      by_kind : (t : Bool) → any ≡ t → (s : Bool) → lt_z (f kind_at) w3c_box_kind ≡ s → own_rectangle (layer_of numbers).figure ≡ rectangle
      by_kind true e s d = rw e
      by_kind false e true d = rw (e, d)
      by_kind false e false d = rw (e, d)

  -- its radii, where it is a box
  figure_corners : any ≡ false → corners_check (layer_of numbers).figure ≡ radii_check (corners_of (take figure_length numbers))
  unfolding figure_of list_from
  figure_corners box = by_kind (lt_z (f kind_at) w3c_box_kind) refl
    where
      by_kind : (s : Bool) → lt_z (f kind_at) w3c_box_kind ≡ s → corners_check (layer_of numbers).figure ≡ radii_check
          (corners_of (take figure_length numbers))
      by_kind true d = rw (box, d)
      by_kind false d = rw (box, d)

  thin_stroke : (layer_of numbers).style.stroke_width ≤ max_stroke_width → le_z (f (style_at + stroke_width_at)) (pos max_stroke_width) ≡ true
  unfolding style_of list_from
  thin_stroke thin = omega (arith, int)

  -- each radius is one of the four corners'
  corner_radius : (d : ℕ) → d < radii_count → RadiiUpTo max_radius (corners_of (take figure_length numbers)) → floor0
      (f (radii_at + d)) ≤ max_radius
  unfolding list_from
  corner_radius zero few r = r.top_left.width
  corner_radius (suc zero) few r = r.top_left.height
  corner_radius (suc (suc zero)) few r = r.top_right.width
  corner_radius (suc (suc (suc zero))) few r = r.top_right.height
  corner_radius (suc (suc (suc (suc zero)))) few r = r.bottom_right.width
  corner_radius (suc (suc (suc (suc (suc zero))))) few r = r.bottom_right.height
  corner_radius (suc (suc (suc (suc (suc (suc zero)))))) few r = r.bottom_left.width
  corner_radius (suc (suc (suc (suc (suc (suc (suc zero))))))) few r = r.bottom_left.height
  corner_radius (suc (suc (suc (suc (suc (suc (suc (suc d)))))))) few r = absurd (omega arith)

  small_radius : (k : ℕ) → radii_at ≤ k → k < figure_length → RadiiUpTo max_radius (corners_of (take figure_length numbers)) → floor0
      (f k) ≤ max_radius
  small_radius k from to r =
      let same : radii_at + (k - radii_at) ≡ k = omega arith in
      subst (λ (j : ℕ). floor0 (f j) ≤ max_radius) same (corner_radius (k - radii_at) (omega arith) r)

  limits_of_layer : is_layer numbers ≡ true → styled_check (layer_of numbers).figure (layer_of numbers).style ≡ passed
      → PlaceLimits f
  unfolding styled_check
  limits_of_layer layer within_limits =
      let both = and_true_parts (within ellipse_kind w3c_box_kind (f kind_at) && signs width_at (figure_length - width_at))
      (stroke_within && (fill_within && (le_z (pos 0) (f (style_at + stroke_width_at)) && alignment_within)))
      (sym is_layer_by ∙ layer) in
      let figure = and_true_parts (within ellipse_kind w3c_box_kind (f kind_at)) (signs width_at (figure_length - width_at)) both.0 in
      let a = and_true_parts stroke_within (fill_within && (le_z (pos 0) (f (style_at + stroke_width_at)) && alignment_within)) both.1 in
      let b = and_true_parts fill_within (le_z (pos 0) (f (style_at + stroke_width_at)) && alignment_within) a.1 in
      let c = and_true_parts (le_z (pos 0) (f (style_at + stroke_width_at))) alignment_within b.1 in
      let fig = figure_check (layer_of numbers).figure in
      let sty = style_check (layer_of numbers).style in
      let checked = figure_checked (layer_of numbers).figure (passed_first fig sty within_limits) in
      let place = sym (ap (λ (r : Rectangle). position_check r.top_left) figure_rectangle) ∙ checked.place in
      let size = sym (ap (λ (r : Rectangle). size_check r.size) figure_rectangle) ∙ checked.sides in
      let sign : (k : ℕ) → width_at ≤ k → k < figure_length → le_z (pos 0) (f k) ≡ true = λ k from to. sign_of
      (figure_length - width_at) width_at k from (omega arith)
      figure.1 in
      record {
        kind = between ellipse_kind w3c_box_kind (f kind_at) figure.0;
        x = near_between (f x_at) (position_passed _ place).x;
        y = near_between (f y_at) (position_passed _ place).y;
        width = (sign width_at (omega arith) (omega arith), below_limit max_side (f width_at) (size_passed _ size).width);
        height = (sign height_at (omega arith) (omega arith), below_limit max_side (f height_at) (size_passed _ size).height);
        radii = λ k from to. radius_kept_lem k from to (sign k (omega arith) to) (λ box. sym (figure_corners box) ∙ checked.corners);
        stroke = between absent_paint max_colour (f (style_at + stroke_at)) a.0;
        fill = between absent_paint max_colour (f (style_at + fill_at)) b.0;
        stroke_width = (c.0, thin_stroke (style_passed (layer_of numbers).style (passed_next fig sty within_limits)));
        alignment = between inside_alignment outside_alignment (f (style_at + alignment_at)) c.1;
      }
    where
      near_between : (v : ℤ) → Near max_position v → Between (neg_ℤ (pos max_position)) (pos max_position) v
      near_between v near = (omega (arith, int), omega (arith, int))

      below_limit : (n : ℕ) (v : ℤ) → floor0 v ≤ n → le_z v (pos n) ≡ true
      below_limit n v small = omega (arith, int)

      radius_kept_lem : (k : ℕ) → radii_at ≤ k → k < figure_length → le_z (pos 0) (f k) ≡ true
          → (any ≡ false → radii_check (corners_of (take figure_length numbers)) ≡ passed) → radius_kept any (f k) ≡ true
      radius_kept_lem k from to sign checked = by_kind any refl
        where
          by_kind : (t : Bool) → any ≡ t → radius_kept any (f k) ≡ true
          by_kind true e = rw (sign, e)
          by_kind false e = rw (sign, e) (below_limit max_radius (f k) (small_radius k from to (radii_passed _ (checked e))))

  kept_by_limits : (figure_kept numbers && style_kept numbers)
      ≡ (is_layer numbers && is_accepted (styled_check (layer_of numbers).figure (layer_of numbers).style))
  kept_by_limits =
      let check = styled_check (layer_of numbers).figure (layer_of numbers).style in
      tests_equal (figure_kept numbers && style_kept numbers) (is_layer numbers && is_accepted check)
      (λ e. let l = limits_of_kept e in and_true_of (layer_of_limits l) (rw (checks_of_limits l)))
      (λ e. let p = and_true_parts (is_layer numbers) (is_accepted check) e in
      kept_of_limits (limits_of_layer p.0 (is_accepted_true check p.1)))

-- ---- the same of any numbers that are as many as a layer's
module _ (l : List ℤ) (long : length l ≡ layer_length) where
  pub kept_is_layer : (figure_kept l && style_kept l)
      ≡ (is_layer l && is_accepted (styled_check (layer_of l).figure (layer_of l).style))
  kept_is_layer =
      subst (λ (n : List ℤ). (figure_kept n && style_kept n) ≡
      (is_layer n && is_accepted (styled_check (layer_of n).figure (layer_of n).style)))
      (sym (layer_numbers l long)) (kept_by_limits (number_at l))

  pub kept_limits : (figure_kept l && style_kept l) ≡ true → PlaceLimits (number_at l)
  kept_limits e =
      limits_of_kept (number_at l) (sym (ap (λ (n : List ℤ). figure_kept n && style_kept n) (layer_numbers l long)) ∙ e)
