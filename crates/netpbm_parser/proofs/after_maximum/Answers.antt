-- `netpbm_parser::after_maximum` meets its contract: behind 255 the raster follows after whitespace.
use mathlib.Core.Path.{◌∙◌}
use Rattle.netpbm_parser.proofs.Capped.{right_maximum}
use Rattle.netpbm_parser.proofs.after_maximum.Goals as goal

pub returns-then-maximum-eq255-clause-result_value : goal.returns-then-maximum-eq255-clause-result_value
returns-then-maximum-eq255-clause-result_value c =
    c.after_white.ensures.result_value ∙ right_maximum _ _ _ c.in_ok-maximum.ensures.result_value c.if-maximum-eq255.true
