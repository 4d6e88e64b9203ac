-- `host_sheet_rules::none_overtakes` meets its contract: whether a layer that is left overtakes is whether one of all does.
use mathlib.Core.Path.{◌≡◌, sym, ap, ◌∙◌}
use mathlib.Core.List.{List}
use mathlib.Core.Bool.{Bool, true, false, not, ◌&&◌}
use Prim.Native.Nat.{ℕ, ◌+◌, ◌-◌, ◌<◌}
use native.Mathlib.Omega.{arith}
use lib.IntN.{ℤ}
use lib.Signed.{lt_z}
use mir.Syntax.{w32}
use mir.Val.{SFits, to_z, of_z}
use mir.Facts.{to_z-of_z}
use Rattle.signed.proofs.Laws.{int}
use Rattle.sheet_layers.specs.declared.rows.LayerRows.{LayerRows}
use Rattle.sheet_layers.specs.LayerRows.{rows_overtake, no_rows_overtake}
use Rattle.host_records.proofs.Walks.{list_from_here, list_from_past}
use Rattle.host_sheet_record.specs.SheetRecord.{place_numbers}
use Rattle.host_sheet_place.specs.PlaceRules.{place_kept}
use Rattle.host_sheet_record.proofs.ReadBack.{each_of_all}
use Rattle.host_sheet_rules.specs.RecordRules.{rows_at, rows_from}
use Rattle.host_sheet_rules.proofs.Painted.{overtake_by_painted, overtakes_none_behind, none_overtake_by_owed}
use Rattle.host_sheet_rules.proofs.none_overtakes.Invariants.{owing}
use Rattle.host_sheet_rules.proofs.none_overtakes.Goals as goal
use Rattle.host_sheet_rules.proofs.none_overtakes.Goals.{else-next-next_at-via-then-next-next_at+else-is_overtaken, else-next-next_at-via-else-next-next_at}

-- what the earlier layer owes, as the code holds it, and as it was given
abbrev held : ℤ → ℤ → LayerRows
held next end = owing (to_z w32 (of_z w32 next)) (to_z w32 (of_z w32 end))

as_given : (next end : ℤ) → SFits w32 next → SFits w32 end → (later : List LayerRows)
    → no_rows_overtake (held next end) later ≡ no_rows_overtake (owing next end) later
as_given next end next_fits end_fits later =
    none_overtake_by_owed (held next end) (owing next end) later (to_z-of_z next_fits) (to_z-of_z end_fits)

-- what is left of the answer at place j, of an earlier layer
abbrev left : LayerRows → List ℤ → ℕ → ℕ → Bool
left earlier n count j = no_rows_overtake earlier (rows_from n j (count - j))

step : (earlier : LayerRows) (n : List ℤ) (count j : ℕ) (t : Bool) → j < count → rows_overtake earlier (rows_at n j) ≡ t
    → left earlier n count j ≡ (not t && left earlier n count (j + 1))
unfolding no_rows_overtake
step earlier n count j t here found =
    ap (no_rows_overtake earlier) (list_from_here (rows_at n) count j here)
    ∙ ap (λ (s : Bool). not s && left earlier n count (j + 1)) found

pub painted_at-requires : goal.painted_at-requires
painted_at-requires c =
    let n = c.args.numbers.now in
    let here = c.loop-j-test.true in
    let few = c.requires.from_le_count.1 in record {
      numbers_len = (c.requires.numbers_len, omega arith);
      j_value = each_of_all (λ k. place_kept (place_numbers n k)) (c.args.count - c.args.from) c.args.from
          c.loop-j.j (omega arith) (omega arith) c.requires.from_value;
    }

pub returns-then-is_overtaken : goal.returns-then-is_overtaken
returns-then-is_overtaken c =
    let a = c.args in
    sym (sym (as_given a.next a.end c.ranges.next c.ranges.end (rows_from a.numbers.now a.from (a.count - a.from)))
    ∙ sym c.loop-j.invariant ∙ step (held a.next a.end) a.numbers.now a.count c.loop-j.j true c.loop-j-test.true
    (sym (overtake_by_painted (held a.next a.end) c.painted_at.result (rows_at a.numbers.now c.loop-j.j)
    c.painted_at.ensures.0 c.painted_at.ensures.1) ∙ sym c.is_overtaken.ensures ∙ c.if-is_overtaken.true))

pub loop-j-preserved : goal.loop-j-preserved
loop-j-preserved c =
    let a = c.args in
    let earlier = held a.next a.end in
    let here = rows_at a.numbers.now c.loop-j.j in
    sym (step earlier a.numbers.now a.count c.loop-j.j false c.loop-j-test.true
    (elim c.else-next-next_at.branch [
      | else-next-next_at-via-then-next-next_at+else-is_overtaken w ↦
          sym (overtake_by_painted earlier w.painted_at.result here w.painted_at.ensures.0 w.painted_at.ensures.1)
          ∙ sym w.is_overtaken.ensures ∙ w.if-is_overtaken.false
      | else-next-next_at-via-else-next-next_at w ↦
          let read = to_z-of_z c.next_at.ensures.fits ∙ c.next_at.ensures.is in
          let behind : lt_z earlier.next here.next ≡ false =
          ap (lt_z earlier.next) (sym read) ∙ w.if-next-next_at.false in
          overtakes_none_behind earlier here (omega (arith, int))
    ])) ∙ c.loop-j.invariant

pub returns : goal.returns
unfolding no_rows_overtake
returns c =
    let a = c.args in
    let n = a.numbers.now in
    sym (sym (as_given a.next a.end c.ranges.next c.ranges.end (rows_from n a.from (a.count - a.from)))
    ∙ sym c.loop-j.invariant
    ∙ ap (no_rows_overtake (held a.next a.end)) (list_from_past (rows_at n) a.count c.loop-j.j (omega arith)))
