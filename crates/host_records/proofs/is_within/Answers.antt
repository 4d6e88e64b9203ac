-- `host_records::is_within` meets its contract: not below the lowest, and then not above the highest.
use mathlib.Core.Path.{◌≡◌, sym, ap₂, ◌∙◌}
use mathlib.Core.Bool.{Bool, true, false}
use native.Mathlib.Omega.{arith}
use borrow.Author.Rules.{rules}
use lib.Signed.{le_z, lt_z}
use mir.Syntax.{w32}
use mir.Val.{SFits, to_z, of_z}
use mir.Facts.{to_z-of_z}
use Rattle.signed.proofs.Laws.{int}
use Rattle.host_records.proofs.is_within.Lts
use Rattle.host_records.proofs.is_within.Reads
use Rattle.host_records.proofs.is_within.Goals as goal

-- the facts known at these places
abbrev Start : Type 0
Start = Lts.Start Reads.Pre Reads.Post

-- the first test, of the numbers as they are held
held : (c : Start) {t : Bool} → lt_z (to_z w32 (of_z w32 c.args.v)) (to_z w32 (of_z w32 c.args.low)) ≡ t → lt_z c.args.v
    c.args.low ≡ t
held c test =
    let v_fits : SFits w32 c.args.v = search rules in
    let low_fits : SFits w32 c.args.low = search rules in
    sym (ap₂ lt_z (to_z-of_z v_fits) (to_z-of_z low_fits)) ∙ test

pub returns-then-v-low : goal.returns-then-v-low
returns-then-v-low c =
    let below = held c.before c.if-v-low.true in
    let low : le_z c.args.low c.args.v ≡ false = omega (arith, int) in
    rw low

pub returns : goal.returns
returns c =
    let a = c.args in
    let from = held c.before c.if-v-low.false in
    let low : le_z a.low a.v ≡ true = omega (arith, int) in
    let v_fits : SFits w32 a.v = search rules in
    let high_fits : SFits w32 a.high = search rules in
    rw low (ap₂ le_z (to_z-of_z v_fits) (to_z-of_z high_fits))
