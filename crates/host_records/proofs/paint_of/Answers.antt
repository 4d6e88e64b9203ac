-- `host_records::paint_of` meets its contract: its test is the definition's.
use Rattle.std.specs.Prelude.{Some}
use mathlib.Core.Path.{◌≡◌, sym, ap, ◌∙◌}
use mathlib.Core.Bool.{Bool}
use Prim.Native.Nat.{ℕ, ◌%◌}
use borrow.Author.Rules.{rules}
use lib.IntN.{ℤ, pos}
use lib.Signed.{lt_z}
use mir.Syntax.{w32}
use mir.Val.{SFits, to_z, of_z}
use mir.Facts.{to_z-of_z}
use Rattle.signed.specs.Signed.{floor0}
use Rattle.host_records.specs.RecordNumbers.{paint_of}
use Rattle.host_records.proofs.paint_of.Lts
use Rattle.host_records.proofs.paint_of.Reads
use Rattle.host_records.proofs.paint_of.Tie
use Rattle.host_records.proofs.paint_of.Goals as goal

-- the facts known at these places
abbrev Start : Type 0
Start = Lts.Start Tie.the-claims Reads.Pre Reads.Post

fits : (c : Start) → SFits w32 c.args.v
fits c = search rules

-- the test, of the number as it is held
held : (c : Start) {t : Bool} → lt_z (to_z w32 (of_z w32 c.args.v)) (pos 0) ≡ t → lt_z c.args.v (pos 0) ≡ t
held c test = sym (ap (λ (z : ℤ). lt_z z (pos 0)) (to_z-of_z (fits c))) ∙ test

pub returns-then-v-lt0 : goal.returns-then-v-lt0
unfolding paint_of
returns-then-v-lt0 c = rw (held c.before c.if-v-lt0.true)

pub returns : goal.returns
unfolding paint_of
returns c =
    rw (held c.before.before c.if-v-lt0.false)
    (ap (λ (n : ℕ). Some (n % 256)) (c.floor0.ensures ∙ ap (λ (z : ℤ). floor0 z) (to_z-of_z (fits c.before.before))))
