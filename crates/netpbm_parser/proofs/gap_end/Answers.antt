-- `netpbm_parser::gap_end` meets its contract. Invariant: what follows the gap is what follows it from the place reached on. A piece
-- takes at least
-- a byte, so the walk ends.
use mathlib.Core.Path.{refl, sym, ◌∙◌}
use mathlib.Core.Bool.{false}
use Rattle.netpbm_parser.proofs.Gaps.{gap_at_end, digits_at_end}
use native.Mathlib.Omega.{arith}
use Rattle.netpbm_parser.proofs.gap_end.Goals as goal

pub loop-i-init : goal.loop-i-init
loop-i-init c = (c.requires, refl)

pub piece_end-next-requires : goal.piece_end-next-requires
piece_end-next-requires c = c.loop-i.invariant.0

pub returns-then-next-i : goal.returns-then-next-i
returns-then-next-i c =
    let head = c.loop-i in
    (c.loop-i.invariant.0, c.loop-i.invariant.1 ∙ (c.piece_end-next.ensures.none c.if-next-i.true).1)

pub loop-i-smaller : goal.loop-i-smaller
loop-i-smaller c =
    let piece = c.piece_end-next.ensures in
    omega (arith, c.piece_end-next.ensures.to)

pub loop-i-preserved : goal.loop-i-preserved
loop-i-preserved c =
    let head = c.loop-i in
    let piece = c.piece_end-next.ensures in
    (c.piece_end-next.ensures.to, c.loop-i.invariant.1 ∙ c.piece_end-next.ensures.past)

pub returns : goal.returns
returns c =
    let head = c.loop-i in
    let file = c.args.file.now in
    (c.loop-i.invariant.0, c.loop-i.invariant.1 ∙ gap_at_end false file c.loop-i.i (omega arith) ∙ sym (digits_at_end file c.loop-i.i (omega arith)))
