-- `netpbm_parser::read_number` meets its contract: no piece of a gap, no number; else the digits behind the whole gap.
use mathlib.Core.Path.{sym, ap, ◌∙◌}
use Rattle.netpbm_parser.specs.Capped.{capped}
use native.Mathlib.Omega.{arith}
use Rattle.netpbm_parser.proofs.read_number.Goals as goal

pub returns-then-behind-at : goal.returns-then-behind-at
returns-then-behind-at c =
    let piece = c.piece_end-behind.ensures in record { result_value = sym (ap capped (c.piece_end-behind.ensures.none (omega arith)).0); number_within = tt }

pub gap_end-requires : goal.gap_end-requires
gap_end-requires c = c.piece_end-behind.ensures.to

pub read_digits-requires : goal.read_digits-requires
read_digits-requires c = c.gap_end.ensures.0

pub returns : goal.returns
returns c =
    let piece = c.piece_end-behind.ensures in
    let gap = c.gap_end.ensures in
    let behind = c.piece_end-behind.ensures.some (omega arith) ∙ c.gap_end.ensures.1 in record { result_value = c.read_digits.ensures.result_value ∙ sym (ap capped behind); number_within = c.read_digits.ensures.number_within }
