-- `signed::from_u32` meets its contract: what fits 31 bits is read back as it was.
use borrow.Author.Rules.{rules}
use native.Mathlib.Omega.{arith}
use Rattle.signed.proofs.Laws.{int}
use Rattle.signed.proofs.from_u32.Goals as goal

pub overflow_cast-result : goal.overflow_cast-result
overflow_cast-result c = search rules

pub returns : goal.returns
returns c =
    let cast = overflow_cast-result c in
    omega (arith, int)
