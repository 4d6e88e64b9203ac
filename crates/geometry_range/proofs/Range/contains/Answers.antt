-- `geometry_range::Range::contains` meets its contract: the first test decides, or else the second does.
use Rattle.std.specs.Prelude.{◌≡◌, true, false}
use lib.Signed.{le_z}
use mir.Syntax.{w32}
use mir.Val.{SFits}
use borrow.Author.Rules.{rules}
use native.Mathlib.Omega.{arith}
use Rattle.signed.proofs.Laws.{int, tests_agree}
use Rattle.geometry_range.proofs.Range.contains.Goals as goal

pub returns-then-self-v : goal.returns-then-self-v
returns-then-self-v c =
    let start_fits : SFits w32 c.args.self.start = search rules in
    let end_fits : SFits w32 c.args.self.end = search rules in
    let from_start : le_z c.args.self.start c.args.v ≡ true = omega (arith, int) in
    rw from_start (tests_agree (λ e. omega (arith, int)) (λ e. omega (arith, int)))

pub returns-else-self-v : goal.returns-else-self-v
returns-else-self-v c =
    let start_fits : SFits w32 c.args.self.start = search rules in
    let before_start : le_z c.args.self.start c.args.v ≡ false = omega (arith, int) in
    rw before_start c.if-self-v.false
