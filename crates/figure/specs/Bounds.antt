-- What the inner functions ask of figures and shapes: wider than the limits, at the numbers that a later raise of them brings.
-- Assumes nothing.
use Rattle.figure.specs.declared.Figure.{Figure}
use Rattle.figure.specs.declared.Figure.TheVariants.{Ellipse, CrateBox, W3cBox}
pub use Rattle.shape.specs.BoxBounds.{wide_position, wide_own_side, wide_offset, OwnRectangle, OwnBox, wide_area_position, AreaRectangle, AreaBox, ConfinedAreaBox}
-- a shape of one of these areas
pub use Rattle.shape.specs.Bounds.{BoundedShape}

-- a figure as it is given
abbrev pub OwnFigure : Figure → Type 0
OwnFigure (Ellipse r) = OwnRectangle r
OwnFigure (CrateBox b) = OwnBox b
OwnFigure (W3cBox b) = OwnBox b

-- a figure or one of its areas
abbrev pub BoundedFigure : Figure → Type 0
BoundedFigure (Ellipse r) = AreaRectangle r
BoundedFigure (CrateBox b) = AreaBox b
BoundedFigure (W3cBox b) = AreaBox b
