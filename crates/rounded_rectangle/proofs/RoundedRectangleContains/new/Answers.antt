-- `rounded_rectangle::RoundedRectangleContains::new` meets its contract: each quadrant is made ready from its radii.
use mathlib.Core.Path.{refl}
use Rattle.corner_radii.proofs.Fields.{corner_radii_by_fields}
use Rattle.rounded_rectangle.proofs.RoundedRectangleContains.new.Goals as goal

pub returns : goal.returns
returns c =
    let at_new = c.new in (
      refl,
      corner_radii_by_fields c.new.ensures.0 c.new-2.ensures.0 c.new-3.ensures.0 c.new-4.ensures.0,
      record {
        size = c.requires.size_up_to;
        top_left = c.new.ensures.1;
        top_right = c.new-2.ensures.1;
        bottom_right = c.new-3.ensures.1;
        bottom_left = c.new-4.ensures.1;
      },
    )
