-- `rectangle::Rectangle::offset` meets its contract: a passed check bounds the rectangle.
use mathlib.Core.Path.{sym, ◌∙◌}
use Rattle.rectangle.proofs.Checks.{rectangle_bounded}
use Rattle.rectangle.proofs.Rectangle.offset.Goals as goal

pub offset-requires-clause-bounded : goal.offset-requires-clause-bounded
offset-requires-clause-bounded c = rectangle_bounded _ (sym c.check.ensures ∙ c.in_ok-check.was)
