-- A part of a list that was lent and came back: what stands at each index afterwards; and a canvas row put
-- back.
-- Assumes nothing.
use mathlib.Core.Path.{◌≡◌, ap, subst, ◌∙◌}
use mathlib.Core.List.{List, ◌++◌}
use Prim.Native.Nat.{ℕ, ◌+◌, ◌-◌, ◌*◌, ◌≤◌, ◌<◌}
use native.Mathlib.Omega.{arith}
use lib.ListN.{length, take, drop, get_or, length-append, length-take, length-drop, get_or-append}
use lib.Seq.{length-take-le, get_or-append-add, get_or-take, get_or-drop}
use Rattle.book.specs.Canvas.{canvas_row, put_row}

-- xs with ys in the place of its n elements from index a on
abbrev pub with_part : List ℕ → ℕ → ℕ → List ℕ → List ℕ
with_part xs a n ys = take a xs ++ (ys ++ drop n (drop a xs))

-- the part itself is as long as its ends say
pub lent_length : (xs : List ℕ) (a b : ℕ) → a ≤ b → b ≤ length xs → length (take (b - a) (drop a xs)) ≡ b - a
lent_length xs a b in_order within = length-take-le (b - a) (drop a xs) (simp length-drop (omega arith))

module _ (xs : List ℕ) (a n : ℕ) (ys : List ℕ) (within : a + n ≤ length xs) (long : length ys ≡ n) where
  front_length : length (take a xs) ≡ a
  front_length = length-take-le a xs (omega arith)

  pub with_part_length : length (with_part xs a n ys) ≡ length xs
  with_part_length = simp (length-append, front_length, long, length-drop) (omega arith)

  pub with_part_before : (i : ℕ) → i < a → get_or (with_part xs a n ys) i 0 ≡ get_or xs i 0
  with_part_before i h =
      get_or-append (take a xs) (ys ++ drop n (drop a xs)) 0 i (rw front_length h) ∙ get_or-take a xs i 0 h

  pub with_part_here : (i : ℕ) → i < n → get_or (with_part xs a n ys) (a + i) 0 ≡ get_or ys i 0
  with_part_here i h =
      subst (λ (k : ℕ). get_or (with_part xs a n ys) (k + i) 0 ≡ get_or ys i 0) front_length
      (get_or-append-add (take a xs) (ys ++ drop n (drop a xs)) i 0 ∙ get_or-append ys (drop n (drop a xs)) 0 i (rw long h))

  pub with_part_after : (i : ℕ) → get_or (with_part xs a n ys) (a + (n + i)) 0 ≡ get_or xs (a + (n + i)) 0
  with_part_after i =
      subst (λ (k : ℕ). get_or (with_part xs a n ys) (k + (n + i)) 0 ≡ get_or xs (a + (n + i)) 0) front_length
      (get_or-append-add (take a xs) (ys ++ drop n (drop a xs)) (n + i) 0
      ∙ subst (λ (k : ℕ). get_or (ys ++ drop n (drop a xs)) (k + i) 0 ≡ get_or xs (a + (n + i)) 0) long
      (get_or-append-add ys (drop n (drop a xs)) i 0 ∙ get_or-drop n (drop a xs) i 0 ∙ get_or-drop a xs (n + i) 0))

-- ---- a row of a canvas that was lent and came back: it is put in its place, and all else is kept
row_ends : (W y : ℕ) → y * W + W - y * W ≡ W
row_ends W y = omega arith

pub lent_row_length : (W y : ℕ) (canvas : List ℕ) → length (take (y * W + W - y * W) (drop (y * W) canvas)) ≤ W
lent_row_length W y canvas = simp (row_ends W y, length-take) (omega arith)

pub lent_row_put : (W y : ℕ) (canvas : List ℕ) (over : List ℕ → List ℕ) (row : List ℕ)
    → row ≡ over (take (y * W + W - y * W) (drop (y * W) canvas))
    → with_part canvas (y * W) (y * W + W - y * W) row ≡ put_row W y (over (canvas_row W y canvas)) canvas
unfolding canvas_row put_row
lent_row_put W y canvas over row e =
    ap (with_part canvas (y * W) (y * W + W - y * W)) e
    ∙ ap (λ (n : ℕ). with_part canvas (y * W) n (over (take n (drop (y * W) canvas)))) (row_ends W y)
