-- `ellipse_search::inside_left` meets its contract: up to the middle the gap is the one difference.
use mathlib.Core.Path.{◌≡◌, ap, ◌∙◌}
use Rattle.ellipse.specs.Relative.{gap}
use Rattle.ellipse.specs.Row.{inside_on_row}
use Rattle.ellipse_search.specs.Row.{column_on_row}
use native.Mathlib.Omega.{arith}
use Rattle.ellipse_search.proofs.inside_left.Goals as goal

pub returns : goal.returns
unfolding column_on_row
returns c =
    let entry = c.args in
    let near : c.wide.result ≡ gap entry.width entry.k = omega (arith, c.wide.ensures) in
    c.contains.ensures ∙ ap (inside_on_row entry.row) near
