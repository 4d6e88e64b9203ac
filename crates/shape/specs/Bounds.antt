-- What the inner functions ask of a shape, by the bounds of `shape::box_rules`.
-- Assumes nothing.
use Rattle.shape.specs.BoxBounds.{AreaRectangle, ConfinedAreaBox}
use Rattle.shape.specs.declared.Shape.{Shape}
use Rattle.shape.specs.declared.Shape.TheVariants.{Ellipse, RoundedBox}

-- a shape of a figure or of one of its areas
abbrev pub BoundedShape : Shape → Type 0
BoundedShape (Ellipse r) = AreaRectangle r
BoundedShape (RoundedBox b) = ConfinedAreaBox b
