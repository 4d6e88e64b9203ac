-- Rows whose two sides are alike: the columns between those that a corner leaves out on the left, and as many on the right, are
-- contained. In its quadrant a corner's test, once true, stays true.
-- Assumes nothing.
use Rattle.std.specs.Prelude.{Some, None}
use mathlib.Core.Path.{◌≡◌, refl, sym, ap, subst, ◌∙◌}
use mathlib.Core.Bool.{Bool, true, false, false≢true}
use Prim.Native.Nat.{ℕ, ◌+◌, ◌-◌, ◌*◌, ◌≤◌, ◌<◌, max}
use native.Mathlib.Omega.{arith}
use borrow.Author.Tests.{le-ltb, eqb-true}
use lib.Dec.{eqb}
use Rattle.geometry.specs.declared.Size.{Size}
use Rattle.geometry.specs.Bounds.{wide_side}
use Rattle.corner.specs.Bounds.{wide_radius, wide_stroke_side}
use Rattle.scanline.specs.Places.{find_from, Place}
use Rattle.scanline.proofs.Find.{found_at}
use Rattle.ellipse.specs.Relative.{gap, contains_of}
use Rattle.ellipse_search.proofs.Search.{columns_rise}
use Rattle.corner_radii.specs.declared.CornerRadii.{CornerRadii}
use Rattle.corner_quadrant.proofs.Within.{and_first, and_second}
use Rattle.rounded_rectangle.specs.Relative.{inside_corner, in_quadrant, side_inset, row_insets}
use Rattle.rounded_rectangle.proofs.Contains.{decided_top_left, decided_top_right, decided_bottom_left, decided_bottom_right, decided_straight}
use Rattle.box_columns.specs.Columns.{covered, place_else, left_out, contained_from_left}
use Rattle.box_mirrored.specs.Sides.{alike, Between, Straight, StraightFor}
use Rattle.box_columns.proofs.Searches.{by_order}
use Rattle.box_columns.proofs.Skips.{in_quadrant_lem, not_in_quadrant, covered_le, top_left_skips, top_right_skips, bottom_left_skips, bottom_right_skips}

-- ---- what fits
-- a corner covers no more than its width
pub cover_small : (radius : Size) (e n : ℕ) → n ≡ covered radius e → radius.width ≤ wide_radius → n ≤ wide_radius
cover_small radius e n is small = let le = covered_le radius e in omega (arith, is)

-- the sides of stroke areas are sides
pub side_wide : {n : ℕ} → n ≤ wide_stroke_side → n ≤ wide_side
side_wide le = omega arith

-- ---- past the columns that it leaves out, a corner's quadrant is inside
module _ (radius : Size) (e n : ℕ) (small : n ≤ radius.width) where
  inside_rises : (i j : ℕ) → i ≤ j → j < n → inside_corner radius i e ≡ true → inside_corner radius j e ≡ true
  unfolding inside_corner
  inside_rises i j ij jn here =
      by_test (inside_corner radius j e) refl
    where
      by_test : (t : Bool) → inside_corner radius j e ≡ t → inside_corner radius j e ≡ true
      by_test true is = is
      by_test false is =
          absurd
          (false≢true
          (sym (columns_rise (contains_of (2 * radius.width) (2 * radius.height)) (2 * radius.width) (gap (2 * radius.height) e) 0 j
          (omega arith) i j (omega arith) ij (omega arith) is)
          ∙ here))

  pub past_left_out : (d : ℕ) → left_out radius e n ≤ d → d < n → inside_corner radius d e ≡ true
  unfolding left_out
  past_left_out d = by_answer (find_from (λ d. inside_corner radius d e) n 0) refl
    where
      by_answer : (p : Place) → find_from (λ d. inside_corner radius d e) n 0 ≡ p → place_else n p ≤ d → d < n → inside_corner radius d e ≡ true
      by_answer (Some k) found l dn = inside_rises k d l dn (found_at (λ d. inside_corner radius d e) n 0 k found).holds
      by_answer None found l dn = absurd (omega arith)

  pub left_out_le : left_out radius e n ≤ n
  unfolding left_out
  left_out_le = by_answer (find_from (λ d. inside_corner radius d e) n 0) refl
    where
      by_answer : (p : Place) → find_from (λ d. inside_corner radius d e) n 0 ≡ p → place_else n p ≤ n
      by_answer (Some k) found = let b = (found_at (λ d. inside_corner radius d e) n 0 k found).below in omega arith
      by_answer None found = omega arith

-- ---- rows that only the upper corners have, and rows that only the lower ones have
module _ (c : CornerRadii) (s : Size) (dy : ℕ) (r : ℕ) where
  abbrev w : ℕ
  w = s.width

  abbrev below : ℕ
  below = s.height - 1 - dy

  abbrev bottom : ℕ
  bottom = max (covered c.bottom_left below) (covered c.bottom_right below)

  abbrev top : ℕ
  top = max (covered c.top_left dy) (covered c.top_right dy)

  module _ (alike : c.top_left ≡ c.top_right) (half : 2 * covered c.top_left dy ≤ w) (no_bottom : bottom ≡ 0)
      (is : r ≡ left_out c.top_left dy (covered c.top_left dy)) where
    abbrev upper : ℕ
    upper = covered c.top_left dy

    same_upper : covered c.top_right dy ≡ upper
    same_upper = ap (λ (q : Size). covered q dy) (sym alike)

    upper_le : r ≤ upper
    upper_le = rw is (left_out_le c.top_left dy upper (covered_le c.top_left dy))

    upper_past : (d : ℕ) → r ≤ d → d < upper → inside_corner c.top_left d dy ≡ true
    upper_past d l = past_left_out c.top_left dy upper (covered_le c.top_left dy) d (omega (arith, is))

    upper_inside : (dx : ℕ) → r ≤ dx → dx + r < w → contained_from_left c s dy dx ≡ true
    upper_inside dx l m =
        by_order dx upper
        (λ in_left. sym (decided_top_left c w s.height dx dy (in_quadrant_lem c.top_left dx dy in_left)) ∙ upper_past dx l in_left)
        (λ not_left.
        let not_tl = not_in_quadrant c.top_left dx dy not_left in
        by_order (w - 1 - dx) upper
        (λ in_right.
        sym (decided_top_right c w s.height dx dy not_tl (in_quadrant_lem c.top_right (w - 1 - dx) dy (omega (arith, same_upper))))
        ∙ subst (λ (q : Size). inside_corner q (w - 1 - dx) dy ≡ true) alike (upper_past (w - 1 - dx) (omega arith) in_right))
        (λ not_right.
        sym
        (decided_straight c w s.height dx dy not_tl (not_in_quadrant c.top_right (w - 1 - dx) dy (omega (arith, same_upper)))
        (not_in_quadrant c.bottom_left dx below (omega arith))
        (not_in_quadrant c.bottom_right (w - 1 - dx) below (omega arith)))))

    pub between_upper : Between c s dy r
    between_upper =
        let le = upper_le in
        record {
          half = omega arith;
          none_left = top_left_skips c s dy r is;
          none_right =
              top_right_skips c s dy r upper (omega (arith, same_upper)) (omega arith)
              (is ∙ ap (λ (q : Size). left_out q dy upper) alike);
          inside = upper_inside;
        }

  module _ (alike : c.bottom_left ≡ c.bottom_right) (half : 2 * covered c.bottom_left below ≤ w) (no_top : top ≡ 0)
      (is : r ≡ left_out c.bottom_left below (covered c.bottom_left below)) where
    abbrev lower : ℕ
    lower = covered c.bottom_left below

    same_lower : covered c.bottom_right below ≡ lower
    same_lower = ap (λ (q : Size). covered q below) (sym alike)

    lower_le : r ≤ lower
    lower_le = rw is (left_out_le c.bottom_left below lower (covered_le c.bottom_left below))

    lower_past : (d : ℕ) → r ≤ d → d < lower → inside_corner c.bottom_left d below ≡ true
    lower_past d l = past_left_out c.bottom_left below lower (covered_le c.bottom_left below) d (omega (arith, is))

    lower_inside : (dx : ℕ) → r ≤ dx → dx + r < w → contained_from_left c s dy dx ≡ true
    lower_inside dx l m =
        let not_tl = not_in_quadrant c.top_left dx dy (omega arith) in
        let not_tr = not_in_quadrant c.top_right (w - 1 - dx) dy (omega arith) in
        by_order dx lower
        (λ in_left.
        sym (decided_bottom_left c w s.height dx dy not_tl not_tr (in_quadrant_lem c.bottom_left dx below in_left))
        ∙ lower_past dx l in_left)
        (λ not_left.
        let not_bl = not_in_quadrant c.bottom_left dx below not_left in
        by_order (w - 1 - dx) lower
        (λ in_right.
        sym (decided_bottom_right c w s.height dx dy not_tl not_tr not_bl
        (in_quadrant_lem c.bottom_right (w - 1 - dx) below (omega (arith, same_lower))))
        ∙ subst (λ (q : Size). inside_corner q (w - 1 - dx) below ≡ true) alike (lower_past (w - 1 - dx) (omega arith) in_right))
        (λ not_right.
        sym
        (decided_straight c w s.height dx dy not_tl not_tr not_bl
        (not_in_quadrant c.bottom_right (w - 1 - dx) below (omega (arith, same_lower))))))

    pub between_lower : Between c s dy r
    between_lower =
        let le = lower_le in
        record {
          half = omega arith;
          none_left = bottom_left_skips c s dy r lower (omega arith) (omega arith) (omega arith) is;
          none_right =
              bottom_right_skips c s dy r lower (omega arith) (omega (arith, same_lower)) (omega arith)
              (is ∙ ap (λ (q : Size). left_out q below lower) alike);
          inside = lower_inside;
        }

-- ---- the insets of a row whose corners are alike on both sides
pub insets_alike : (c : CornerRadii) (w h dy inset : ℕ) → c.top_left ≡ c.top_right → c.bottom_left ≡ c.bottom_right
    → inset ≡ side_inset c.top_left c.bottom_left h w dy → record { left = inset; right = inset } ≡ row_insets c w h dy
insets_alike c w h dy inset upper lower is i =
    record { left = is i; right = (is ∙ (λ j. side_inset (upper j) (lower j) h w dy)) i }

-- ---- rows with straight sides
pub covered_none : (r : Size) (e : ℕ) → r.height ≤ e → covered r e ≡ 0
unfolding covered
covered_none r e l = rw (le-ltb e r.height l)

-- every column is contained
pub between_straight : (c : CornerRadii) (s : Size) (dy : ℕ) → Straight c s dy → Between c s dy 0
between_straight c s dy straight =
    let u = straight.past_upper in
    let l = straight.before_lower in
    let out : (r : Size) (d e : ℕ) → r.height ≤ e → in_quadrant r d e ≡ false = λ r d e h. not_in_quadrant r d e
    (let z = covered_none r e h in omega (arith, z)) in
    record {
      half = omega arith;
      none_left = λ k h. absurd (omega arith);
      none_right = λ k h. absurd (omega arith);
      inside = λ dx _ _.
          sym (decided_straight c s.width s.height dx dy (out c.top_left _ _ (omega arith))
          (out c.top_right _ _ (omega arith)) (out c.bottom_left _ _ (omega arith)) (out c.bottom_right _ _ (omega arith)));
    }

-- the code's count of them
room_left : (h dy k n low : ℕ) → 0 < k → k < n → n ≡ max 1 (h - dy - low) → dy + k + low < h
room_left h dy k n low p l is = omega (arith, is)

room_below : (h dy k low : ℕ) → dy + k + low < h → low ≤ h - 1 - (dy + k)
room_below h dy k low l = omega arith

room_above : (h dy k low : ℕ) → dy + k + low < h → low ≤ h - 1 - dy
room_above h dy k low l = omega arith

room_in : (h dy k low : ℕ) → dy + k + low < h → dy + k < h
room_in h dy k low l = omega arith

past_later : {m : ℕ} (dy k : ℕ) → m ≤ dy → m ≤ dy + k
past_later {m} dy k l = omega arith

pub straight_counted : (c : CornerRadii) (s : Size) (dy n low : ℕ) → dy < s.height → max c.top_left.height
    c.top_right.height ≤ dy
    → low ≡ max c.bottom_left.height c.bottom_right.height → n ≡ max 1 (s.height - dy - low) → StraightFor c s dy n
straight_counted c s dy n low in_box past is n_is k p l = (
  record {
    in_box = in_box;
    past_upper = past;
    before_lower = rw (sym is)
        (room_above s.height dy k low (room_left s.height dy k n low p l n_is));
  },
  record {
    in_box = room_in s.height dy k low (room_left s.height dy k n low p l n_is);
    past_upper = past_later dy k past;
    before_lower = rw (sym is) (room_below s.height dy k low (room_left s.height dy k n low p l n_is));
  },
)

-- ---- corners that are called alike are equal
pub alike_equal : {r : Bool} {a b : Size} → r ≡ alike a b → r ≡ true → a ≡ b
unfolding alike
alike_equal {r} {a} {b} is true_here =
    let both = sym is ∙ true_here in
    let width = eqb-true a.width b.width (and_first (eqb a.width b.width) (eqb a.height b.height) both) in
    let height = eqb-true a.height b.height (and_second (eqb a.width b.width) (eqb a.height b.height) both) in
    λ i. record { width = width i; height = height i }
