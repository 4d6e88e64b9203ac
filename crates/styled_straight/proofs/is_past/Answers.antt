-- `styled_straight::is_past` meets its contract: a row that passes both tests is past the upper corners and before the lower ones.
use mathlib.Core.Bool.{false≢true}
use Rattle.styled_straight.proofs.is_past.Goals as goal

pub returns-then-dy-reaches : goal.returns-then-dy-reaches
returns-then-dy-reaches c = λ e. absurd (false≢true e)

pub returns-then-height-dy : goal.returns-then-height-dy
returns-then-height-dy c = λ e. absurd (false≢true e)
