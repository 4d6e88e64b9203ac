-- Document 01, 'Ellipse' (`ellipse/mod.rs`): C, X, Y, t, and the test of a point.
-- Assumes nothing.
use Rattle.std.specs.Prelude.{Bool, cond, ℕ, ◌-◌, ◌*◌, ◌/◌, leb, eqb, ℤ, pos, ◌+ℤ◌, ◌-ℤ◌, ◌*ℤ◌}
use Rattle.std.specs.Int.Signed.{lt_z}
use Rattle.geometry.specs.declared.Point.{Point}
use Rattle.geometry.specs.declared.Size.{Size}
use Rattle.rectangle.specs.declared.Rectangle.{Rectangle}

-- C on one axis: 2 × top-left + max(side − 1, 0) (`center_2x`). `◌-◌` on ℕ stops at 0
unfoldable pub center2x : ℤ → ℕ → ℤ
center2x top_left side = pos 2 *ℤ top_left +ℤ pos (side - 1)

-- X, and Y on the other axis: 2 × point − C
unfoldable pub from_center2x : ℤ → ℤ → ℤ
from_center2x point c = pos 2 *ℤ point -ℤ c

-- t: w² − floor(w / 2) for w ≤ 4 and w² above (`circle::diameter_to_threshold`)
unfoldable pub threshold : ℕ → ℕ
threshold w = cond (leb w 4) (w * w - w / 2) (w * w)

-- inside, by the sides w, h and the point's X, Y: X² + Y² < t if w = h, else h²X² + w²Y² < w²h² (`EllipseContains::contains`)
unfoldable pub inside : ℕ → ℕ → ℤ → ℤ → Bool
inside w h X Y =
    cond (eqb w h)
    (lt_z (X *ℤ X +ℤ Y *ℤ Y) (pos (threshold w)))
    (lt_z (pos (h * h) *ℤ (X *ℤ X) +ℤ pos (w * w) *ℤ (Y *ℤ Y)) (pos (w * w * (h * h))))

-- the point (x, y) is inside the ellipse of the given sides about the C of a rectangle
unfoldable pub inside_about : Size → Rectangle → ℤ → ℤ → Bool
inside_about sides r x y =
    inside sides.width sides.height
    (from_center2x x (center2x r.top_left.x r.size.width))
    (from_center2x y (center2x r.top_left.y r.size.height))

-- `Ellipse::contains`
abbrev pub contains : Rectangle → Point → Bool
contains e p = inside_about e.size e p.x p.y
