-- Bounds: a box or rectangle that passes its check is within the wide bounds of a figure's own numbers; an offset area of it, and a
-- confined box, are within those of an area. And radii that the W3C rule has confined stay when they are confined again.
-- Assumes nothing.
use Rattle.refusal.specs.Refusal.{passed}
use mathlib.Core.Path.{◌≡◌, refl}
use Prim.Native.Nat.{ℕ, ◌+◌, ◌≤◌}
use native.Mathlib.Omega.{arith}
use lib.IntN.{ℤ}
use Rattle.signed.specs.Signed.{Near}
use Rattle.geometry.specs.declared.Point.{Point}
use Rattle.geometry.specs.declared.Size.{Size}
use Rattle.rectangle.specs.declared.Rectangle.{Rectangle}
use Rattle.geometry.specs.Limits.{max_radius}
use Rattle.geometry.specs.Bounds.{PointNear, SizeUpTo}
use Rattle.rectangle.specs.Bounds.{Bounded}
use Rattle.geometry.specs.Checks.{size_check, position_check}
use Rattle.rectangle.specs.Rectangle.{with_center, offset as rectangle_offset}
use Rattle.rectangle.proofs.Offset.{offset_size_up_to, offset_position_near}
use Rattle.geometry.proofs.Checks.{size_passed, position_passed}
use Rattle.corner.specs.Bounds.{wide_radius}
use Rattle.corner_radii.specs.CornerRadii.{radii_check}
use Rattle.corner_radii.proofs.Bounds.{confine_up_to, w3c_up_to, offset_up_to, radii_up_to_wider, radii_within_up_to, spread_within_offset}
use Rattle.corner_radii.proofs.Checks.{radii_passed}
use Rattle.corner_radii.proofs.Fraction.{w3c_confine_twice}
use Rattle.rounded_rectangle.specs.declared.RoundedRectangle.{RoundedRectangle}
use Rattle.rounded_rectangle.specs.Relative.{BoundedBox}
use Rattle.rounded_rectangle.specs.ConfinedBox.{plain_box}
use Rattle.shape.specs.BoxRules.{confined, confined_w3c, offset_box, spread_box}
use Rattle.shape.proofs.Fields.{box_by_fields}
use Rattle.shape.specs.BoxBounds.{wide_position, wide_own_side, wide_offset, OwnRectangle, OwnBox, AreaRectangle, AreaBox, ConfinedAreaBox}

-- ---- wider bounds
near_wider : {m n : ℕ} {z : ℤ} → m ≤ n → Near m z → Near n z
near_wider l a =
    record { above = let h = a.above in omega arith; below = let h = a.below in omega arith; fits = a.fits }

pub point_wider : {m n : ℕ} {p : Point} → m ≤ n → PointNear m p → PointNear n p
point_wider l a = record { x = near_wider l a.x; y = near_wider l a.y }

pub size_wider : {m n : ℕ} {s : Size} → m ≤ n → SizeUpTo m s → SizeUpTo n s
size_wider l a = record { width = let h = a.width in omega arith; height = let h = a.height in omega arith }

-- ---- what passes its check
pub own_rectangle_passed : (r : Rectangle) → size_check r.size ≡ passed → position_check r.top_left ≡ passed → OwnRectangle r
own_rectangle_passed r size at =
    record {
      at = point_wider (omega arith) (position_passed r.top_left at);
      size = size_wider (omega arith) (size_passed r.size size);
    }

pub own_box_passed : (b : RoundedRectangle) → size_check b.rectangle.size ≡ passed → radii_check b.corners ≡ passed
    → position_check b.rectangle.top_left ≡ passed → OwnBox b
own_box_passed b size corners at =
    record {
      rectangle = own_rectangle_passed b.rectangle size at;
      corners = radii_up_to_wider max_radius wide_own_side b.corners (omega arith) (radii_passed b.corners corners);
    }

-- ---- a figure's own numbers are an area's
pub own_area : (r : Rectangle) → OwnRectangle r → AreaRectangle r
own_area r o = record { at = point_wider (omega arith) o.at; size = size_wider (omega arith) o.size }

pub own_box_bounded : (b : RoundedRectangle) → OwnBox b → AreaBox b
own_box_bounded b o =
    record {
      rectangle = own_area b.rectangle o.rectangle;
      corners = radii_up_to_wider wide_own_side wide_radius b.corners (omega arith) o.corners;
    }

pub area_bounded : (r : Rectangle) → AreaRectangle r → Bounded r
area_bounded r a = record { at = point_wider (omega arith) a.at; size = size_wider (omega arith) a.size }

pub area_box_bounded : (b : RoundedRectangle) → AreaBox b → BoundedBox b
area_box_bounded b a =
    record { at = point_wider (omega arith) a.rectangle.at; size = a.rectangle.size; corners = a.corners }

-- ---- offset and confined
pub offset_area : (r : Rectangle) (k : ℤ) → OwnRectangle r → Near wide_offset k → AreaRectangle (rectangle_offset r k)
offset_area r k o near =
    record {
      at = offset_position_near wide_position wide_offset r k o.at near (omega arith);
      size =
          unfold rectangle_offset with_center in size_wider (omega arith)
          (offset_size_up_to wide_own_side wide_offset r.size k o.size near);
    }

pub offset_box_bounded : (b : RoundedRectangle) (k : ℤ) → OwnBox b → Near wide_offset k → AreaBox (offset_box b k)
unfolding offset_box
offset_box_bounded b k o near =
    record {
      rectangle = offset_area b.rectangle k o.rectangle near;
      corners =
          radii_up_to_wider (wide_own_side + wide_offset) wide_radius _ (omega arith)
          (offset_up_to wide_own_side wide_offset b.corners k o.corners near);
    }

-- the radii of a W3C box grow by no more than a crate box's
pub spread_box_bounded : (b : RoundedRectangle) (k : ℤ) → OwnBox b → Near wide_offset k → AreaBox (spread_box b k)
unfolding offset_box spread_box
spread_box_bounded b k o near =
    let like_crate = offset_box_bounded b k o near in
    record {
      rectangle = like_crate.rectangle;
      corners = radii_within_up_to wide_radius _ _ (spread_within_offset b.corners k) like_crate.corners;
    }

pub confined_bounded : (b : RoundedRectangle) → AreaBox b → ConfinedAreaBox (confined b)
unfolding confined
confined_bounded b o =
    record { rectangle = o.rectangle; corners = confine_up_to wide_radius b.corners b.rectangle.size o.corners }

pub confined_w3c_bounded : (b : RoundedRectangle) → AreaBox b → ConfinedAreaBox (confined_w3c b)
unfolding confined_w3c
confined_w3c_bounded b o =
    record { rectangle = o.rectangle; corners = w3c_up_to wide_radius b.corners b.rectangle.size o.corners }

pub confined_w3c_own : (b : RoundedRectangle) → OwnBox b → OwnBox (plain_box (confined_w3c b))
unfolding confined_w3c
confined_w3c_own b o = record { rectangle = o.rectangle; corners = w3c_up_to wide_own_side b.corners b.rectangle.size o.corners }

-- ---- confined again
pub confined_again_stays : (b : RoundedRectangle)
    → plain_box (confined_w3c (plain_box (confined_w3c b))) ≡ plain_box (confined_w3c b)
unfolding confined_w3c
confined_again_stays b = box_by_fields refl (w3c_confine_twice b.corners b.rectangle.size)
