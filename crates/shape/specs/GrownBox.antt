-- Document 02, 'Four', of a whole W3C box that is offset outward, for a reader. It follows from the definitions (proofs/GrownBox.antt).
-- Assumes nothing.
use Rattle.std.specs.Prelude.{◌≡◌, ℕ, pos}
use Rattle.geometry.specs.declared.Size.{Size}
use Rattle.corner_radii.specs.declared.CornerRadii.{CornerRadii}
use Rattle.corner_radii.specs.CornerRadii.{grown, confine_w3c}
use Rattle.rounded_rectangle.specs.declared.RoundedRectangle.{RoundedRectangle}
use Rattle.shape.specs.BoxRules.{w3c_area}

-- a number that is 0 remains 0: at one corner, and at all four
pub record SharpCorner (given made : Size) : Type 0 where
  pub width : given.width ≡ 0 → made.width ≡ 0
  pub height : given.height ≡ 0 → made.height ≡ 0

pub record SharpCorners (given made : CornerRadii) : Type 0 where
  pub top_left : SharpCorner given.top_left made.top_left
  pub top_right : SharpCorner given.top_right made.top_right
  pub bottom_right : SharpCorner given.bottom_right made.bottom_right
  pub bottom_left : SharpCorner given.bottom_left made.bottom_left

-- the radii of a W3C box offset outward by k
pub record GrownBox (b : RoundedRectangle) (k : ℕ) : Type 0 where
  -- are the confined ones, grown: confining them again changes none
  pub grown_once : (w3c_area b (pos k)).corners ≡ grown (confine_w3c b.corners b.rectangle.size).radii k
  -- and those that are given sharp are sharp
  pub sharp : SharpCorners b.corners (w3c_area b (pos k)).corners
