-- `host_records::alignment_of` meets its contract: its tests are the definition's.
use mathlib.Core.Path.{◌≡◌, sym, ap, ◌∙◌}
use mathlib.Core.Bool.{Bool}
use borrow.Author.Rules.{rules}
use lib.IntN.{ℤ}
use lib.Signed.{lt_z}
use mir.Syntax.{w32}
use mir.Val.{SFits, to_z, of_z}
use mir.Facts.{to_z-of_z}
use Rattle.host_records.specs.RecordNumbers.{center_alignment, outside_alignment, alignment_of}
use Rattle.host_records.proofs.alignment_of.Lts
use Rattle.host_records.proofs.alignment_of.Reads
use Rattle.host_records.proofs.alignment_of.Goals as goal

-- the facts known at these places
abbrev Start : Type 0
Start = Lts.Start Reads.Pre Reads.Post

-- a test of the number as it is held
held : (c : Start) (b : ℤ) {t : Bool} → lt_z (to_z w32 (of_z w32 c.args.v)) b ≡ t → lt_z c.args.v b ≡ t
held c b test =
    let fits : SFits w32 c.args.v = search rules in
    sym (ap (λ (z : ℤ). lt_z z b) (to_z-of_z fits)) ∙ test

pub returns-then-v-lt-CENTER : goal.returns-then-v-lt-CENTER
unfolding alignment_of
returns-then-v-lt-CENTER c = rw (held c.before center_alignment c.if-v-lt-CENTER.true)

pub returns-then-v-lt-OUTSIDE : goal.returns-then-v-lt-OUTSIDE
unfolding alignment_of
returns-then-v-lt-OUTSIDE c =
    rw (held c.before.before center_alignment c.if-v-lt-CENTER.false, held c.before.before outside_alignment c.if-v-lt-OUTSIDE.true)

pub returns : goal.returns
unfolding alignment_of
returns c = rw (held c.before.before center_alignment c.if-v-lt-CENTER.false, held c.before.before outside_alignment c.if-v-lt-OUTSIDE.false)
