-- `host_sheet_record::places_of` meets its contract. Invariant: the places that are left, put from j on, make all 16.
use mathlib.Core.Path.{refl, sym, ap, ◌∙◌}
use Prim.Native.Nat.{◌+◌, ◌-◌}
use borrow.Author.Rules.{rules}
use lib.ListN.{set, length-set}
use lib.Seq.{sets}
use Rattle.geometry.specs.Limits.{max_layers}
use Rattle.host_records.specs.RecordNumbers.{list_from}
use Rattle.sheet_layers.specs.declared.Layer.{Layer}
use Rattle.host_sheet_record.specs.SheetRecord.{place_numbers, layer_of, sheet_of}
use Rattle.host_sheet_record.proofs.Parts.{put_place, all_put, whole}
use native.Mathlib.Omega.{arith}
use Rattle.signed.proofs.Laws.{int}
use Rattle.host_sheet_record.proofs.places_of.Goals as goal

pub blank-blank-requires : goal.blank-blank-requires
blank-blank-requires c = omega (arith, int)

pub loop-j-init : goal.loop-j-init
loop-j-init c = (refl, whole (λ k. layer_of (place_numbers c.args.numbers.now k)) c.blank-blank.result)

pub layer_at-requires : goal.layer_at-requires
layer_at-requires c = (search rules, c.loop-j-test.true)

pub loop-j-preserved : goal.loop-j-preserved
loop-j-preserved c =
    let numbers = c.args.numbers.now in
    let walk = c.loop-j in (
      simp length-set c.loop-j.invariant.0,
      ap (λ (l : Layer). sets (set c.loop-j.places c.loop-j.j l) (c.loop-j.j + 1)
          (list_from (λ k. layer_of (place_numbers numbers k)) (c.loop-j.j + 1) (max_layers - (c.loop-j.j + 1)))) c.layer_at.ensures
          ∙ sym (put_place (λ k. layer_of (place_numbers numbers k)) c.loop-j.places c.loop-j.j c.loop-j-test.true) ∙ c.loop-j.invariant.1,
    )

pub returns : goal.returns
unfolding sheet_of
returns c =
    let numbers = c.args.numbers.now in
    let walk = c.loop-j in
    sym (all_put (λ k. layer_of (place_numbers numbers k)) c.loop-j.places c.loop-j.j (omega arith)) ∙ c.loop-j.invariant.1
