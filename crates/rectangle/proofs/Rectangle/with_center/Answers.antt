-- `rectangle::Rectangle::with_center` meets its contract: about a centre that passes the difference is small, and about
-- any other every rectangle of these sides is out of position.
use mathlib.Core.Path.{sym, ◌∙◌}
use borrow.Author.Rules.{rules}
use Rattle.geometry.proofs.Checks.{size_passed, center_passed}
use Rattle.rectangle.proofs.Checks.{center_refused}
use Rattle.rectangle.proofs.Rectangle.with_center.Goals as goal

pub returns-in_err-check_center : goal.returns-in_err-check_center
returns-in_err-check_center c =
    let small = size_passed c.args.size (sym c.check_size.ensures ∙ c.in_ok-check_size.was) in
    let far = center_refused c.args.center c.args.size _ small (sym c.check_center.ensures ∙ c.in_err-check_center.was) in
    search (rules, far)

pub with_center-requires-clause-point_near : goal.with_center-requires-clause-point_near
with_center-requires-clause-point_near c = center_passed c.args.center (sym c.check_center.ensures ∙ c.in_ok-check_center.was)
