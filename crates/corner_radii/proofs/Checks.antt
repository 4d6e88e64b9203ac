-- What a passed check says: every radius number is within its limit.
-- Assumes nothing.
use mathlib.Core.Path.{◌≡◌}
use Rattle.geometry.specs.Limits.{max_radius}
use Rattle.geometry.specs.Bounds.{SizeUpTo}
use Rattle.geometry.specs.declared.Size.{Size}
use Rattle.refusal.specs.declared.Refusal.TheVariants.{Radius}
use Rattle.refusal.specs.Refusal.{refuse_if, or_else, above, passed}
use Rattle.refusal.proofs.Checks.{passed_first, passed_next, passed_above}
use Rattle.corner_radii.specs.declared.CornerRadii.{CornerRadii}
use Rattle.corner_radii.specs.Bounds.{RadiiUpTo}
use Rattle.corner_radii.specs.CornerRadii.{radius_check, radii_check}

radius_passed : (r : Size) → radius_check r ≡ passed → SizeUpTo max_radius r
unfolding radius_check
radius_passed r e =
    record {
      width = passed_above max_radius r.width Radius (passed_first _ _ e);
      height = passed_above max_radius r.height Radius (passed_next (refuse_if (above max_radius r.width) Radius) _ e);
    }

pub radii_passed : (r : CornerRadii) → radii_check r ≡ passed → RadiiUpTo max_radius r
unfolding radii_check
radii_passed r e =
    let top = passed_first (or_else (radius_check r.top_left) (radius_check r.top_right)) _ e in
    let bottom = passed_next (or_else (radius_check r.top_left) (radius_check r.top_right)) _ e in
    record {
      top_left = radius_passed _ (passed_first _ _ top);
      top_right = radius_passed _ (passed_next (radius_check r.top_left) _ top);
      bottom_right = radius_passed _ (passed_first _ _ bottom);
      bottom_left = radius_passed _ (passed_next (radius_check r.bottom_right) _ bottom);
    }
