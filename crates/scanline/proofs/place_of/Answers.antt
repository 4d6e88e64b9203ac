-- `scanline::place_of` meets its contract: before the first and from the end on v is none of the n; else its distance is below n.
use lib.IntN.{pos}
use Rattle.signed.proofs.Laws.{int, add_law}
use Rattle.scanline.proofs.Placed.{placed_before, placed_after}
use native.Mathlib.Omega.{arith}
use Rattle.scanline.proofs.place_of.Goals as goal

pub returns-then-v-first : goal.returns-then-v-first
returns-then-v-first c = let entry = c.args in placed_before entry.first entry.n entry.v (omega (arith, int))

pub sub-requires : goal.sub-requires
sub-requires c = omega (arith, int)

pub returns-then-n-k : goal.returns-then-n-k
returns-then-n-k c =
    let entry = c.args in
    placed_after entry.first entry.n entry.v (omega (arith, int, add_law entry.first (pos entry.n)))

pub returns : goal.returns
returns c = (omega (arith, int), omega (arith, int))
