-- `netpbm_parser::comment_end` meets its contract. Invariant: what follows the comment is what follows it from the byte reached on.
use mathlib.Core.Path.{◌≡◌}
use mathlib.Core.Bool.{true}
use lib.ListN.{drop}
use Rattle.netpbm_parser.specs.Parser.{after_gap}
use Rattle.netpbm_parser.proofs.comment_end.Given as goal

abbrev pub invariant-loop-i : goal.invariant-loop-i
invariant-loop-i l = after_gap true (drop l.at l.file) ≡ after_gap true (drop l.i l.file)
