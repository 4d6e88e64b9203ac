-- `netpbm_parser::read_digits` meets its contract. Invariant: the number so far with the digits left makes the whole, as far as it is kept.
use mathlib.Core.Path.{◌≡◌}
use Prim.Native.Nat.{◌≤◌}
use lib.ListN.{drop}
use Rattle.netpbm_parser.specs.Parser.{digits, digits_from}
use Rattle.netpbm_parser.specs.Capped.{most_kept, capped}
use Rattle.netpbm_parser.proofs.read_digits.Given as goal

abbrev pub invariant-loop-i : goal.invariant-loop-i
invariant-loop-i l = (l.n ≤ most_kept) × (capped (digits (drop l.at l.file)) ≡ capped (digits_from l.n (drop l.i l.file)))
