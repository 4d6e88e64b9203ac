-- `host_sheet_place::radii_kept` meets its contract. Invariant: what is found so far and what is asked of the radii that are left
-- make what is asked of all.
use mathlib.Core.Path.{◌≡◌, refl, sym, ap, ap₂, ◌∙◌}
use mathlib.Core.Bool.{Bool, ◌&&◌}
use mathlib.Core.List.{List}
use Prim.Native.Nat.{ℕ, ◌+◌, ◌-◌}
use native.Mathlib.Omega.{arith}
use lib.IntN.{ℤ, pos}
use mir.Facts.{to_z-of_z}
use Rattle.host_records.specs.RecordNumbers.{figure_length, number_at, all_from, within}
use Rattle.host_records.proofs.Walks.{read_back, all_from_here, all_from_past}
use Rattle.host_sheet_place.specs.PlaceRules.{radius_kept, radii_kept}
use Rattle.host_sheet_place.proofs.Limits.{and_assoc, and_true, radius_by_highest}
use Rattle.host_sheet_place.proofs.radii_kept.Lts
use Rattle.host_sheet_place.proofs.radii_kept.Reads
use Rattle.host_sheet_place.proofs.radii_kept.Tie
use Rattle.host_sheet_place.proofs.radii_kept.Goals as goal

-- the facts known at these places
abbrev Start : Type 0
Start = Lts.Start Tie.the-claims Reads.Pre Reads.Post goal.the-invariant-loop-k goal.the-decreases-loop-k

abbrev After-is_within-kept : Type 0
After-is_within-kept = Lts.After-is_within Tie.the-claims Reads.Pre Reads.Post goal.the-invariant-loop-k goal.the-decreases-loop-k

-- the test of the radius in place k
abbrev test : List ℤ → Bool → ℕ → Bool
test numbers any k = radius_kept any (number_at numbers k)

abbrev place : After-is_within-kept → ℕ
place c = c.loop-k.k

abbrev left : After-is_within-kept → ℕ → Bool
left c k = all_from (test c.args.numbers.now c.args.any) k (figure_length - k)

step : (c : After-is_within-kept) → left c (place c) ≡ (c.is_within-kept.result && left c (place c + 1))
step c =
    let limit = c.highest_radius-limit.ensures in
    let a = c.args in
    let k = place c in
    let read = c.is_within-arg-1.given in
    let here = c.is_within-kept.ensures
    ∙ ap₂ (within (pos 0)) (to_z-of_z c.highest_radius-limit.ensures.fits ∙ c.highest_radius-limit.ensures.is) (read_back a.numbers.now k c.is_within-arg-1.given)
    ∙ radius_by_highest a.any (number_at a.numbers.now k) c.is_within-arg-1.given in
    all_from_here (test a.numbers.now a.any) figure_length k c.loop-k-test.true
    ∙ ap (λ (t : Bool). t && left c (k + 1)) (sym here)

pub loop-k-init : goal.loop-k-init
loop-k-init c = refl

pub loop-k-preserved : goal.loop-k-preserved
loop-k-preserved c =
    and_assoc c.loop-k.kept c.is_within-kept.result (left c (c.loop-k.k + 1)) ∙ ap (λ (t : Bool). c.loop-k.kept && t) (sym (step c))
    ∙ c.loop-k.invariant

pub returns : goal.returns
unfolding radii_kept
returns c =
    let walk = c.loop-k in
    let a = c.args in
    let done = all_from_past (test a.numbers.now a.any) figure_length c.loop-k.k (omega arith) in
    sym (ap (λ (t : Bool). c.loop-k.kept && t) done ∙ and_true c.loop-k.kept) ∙ c.loop-k.invariant
