-- The rows that later layers have painted: one layer more widens them, and an earlier layer whose rows left lie apart from them
-- is overtaken by none.
-- Assumes nothing.
use mathlib.Core.Path.{◌≡◌, refl, sym, ap, subst, ◌∙◌}
use mathlib.Core.Bool.{Bool, true, false, cond, not, ◌&&◌}
use mathlib.Core.List.{List, [], ◌∷◌}
use Prim.Native.Nat.{ℕ, ◌+◌}
use native.Mathlib.Omega.{arith}
use lib.IntN.{ℤ, pos}
use lib.ListN.{drop}
use lib.Seq.{get_or-take, get_or-drop}
use lib.Signed.{le_z, lt_z}
use Rattle.signed.specs.Signed.{larger, smaller}
use Rattle.signed.proofs.Laws.{int, larger_law, smaller_law}
use Rattle.sheet_layers.specs.declared.rows.LayerRows.{LayerRows}
use Rattle.sheet_layers.specs.LayerRows.{rows_overtake, no_rows_overtake}
use Rattle.sheet_layers.proofs.RowTests.{and-false, overtakes_none_painted, overtakes_none_reached}
use Rattle.host_records.specs.RecordNumbers.{number_at}
use Rattle.host_sheet_record.specs.SheetRecord.{next_row_at, layer_length, place_at, place_numbers}
use Rattle.host_sheet_rules.specs.declared.PaintedRows.{PaintedRows}
use Rattle.host_sheet_rules.specs.RecordRules.{also_painted, KeepTo}

-- the last number of a place is its next row
pub next_in_place : (n : List ℤ) (j : ℕ) → number_at (place_numbers n j) next_row_at ≡ number_at n (place_at j + next_row_at)
next_in_place n j =
    get_or-take layer_length (drop (place_at j) n) next_row_at (pos 0) (omega arith) ∙ get_or-drop (place_at j) n next_row_at (pos 0)

-- whether a layer is overtaken goes by the first and the next row of the later one
pub overtake_by_painted : (earlier a b : LayerRows) → a.first ≡ b.first → a.next ≡ b.next
    → rows_overtake earlier a ≡ rows_overtake earlier b
unfolding rows_overtake
overtake_by_painted earlier a b p q i =
    (lt_z (p i) (q i) && lt_z (p i) earlier.end) && (lt_z earlier.next (q i) && lt_z earlier.next earlier.end)

-- and by what the earlier one owes
overtake_by_owed : (a b later : LayerRows) → a.next ≡ b.next → a.end ≡ b.end → rows_overtake a later ≡ rows_overtake b later
unfolding rows_overtake
overtake_by_owed a b later p q i =
    (lt_z later.first later.next && lt_z later.first (q i)) && (lt_z (p i) later.next && lt_z (p i) (q i))

pub none_overtake_by_owed : (a b : LayerRows) (rest : List LayerRows) → a.next ≡ b.next → a.end ≡ b.end
    → no_rows_overtake a rest ≡ no_rows_overtake b rest
unfolding no_rows_overtake
none_overtake_by_owed a b [] p q i = true
none_overtake_by_owed a b (later ∷ rest) p q i =
    not (overtake_by_owed a b later p q i) && none_overtake_by_owed a b rest p q i

-- a layer that has not passed the next row of an earlier one does not overtake it
pub overtakes_none_behind : (earlier later : LayerRows) → le_z later.next earlier.next ≡ true → rows_overtake earlier later ≡ false
unfolding rows_overtake
overtakes_none_behind earlier later behind =
    let ahead : lt_z earlier.next later.next ≡ false = omega (arith, int) in
    rw (ahead, and-false (lt_z later.first later.next && lt_z later.first earlier.end)) refl

-- ---- one layer more
keep_wider : (p q : PaintedRows) (rest : List LayerRows) → le_z q.first p.first ≡ true → le_z p.end q.end ≡ true
    → KeepTo p rest → KeepTo q rest
unfolding KeepTo
keep_wider p q [] above below keep = refl
keep_wider p q (r ∷ rest) above below keep = (λ begun. wider (keep.0 begun), keep_wider p q rest above below keep.1)
  where
    wider : (le_z p.first r.first ≡ true) × (le_z r.next p.end ≡ true)
        → (le_z q.first r.first ≡ true) × (le_z r.next q.end ≡ true)
    wider within = (omega (arith, int), omega (arith, int))

module _ (p : PaintedRows) (r : LayerRows) (rest : List LayerRows) where
  abbrev grown : PaintedRows
  grown = record { first = smaller p.first r.first; end = larger p.end r.next }

  -- the rows with this layer's, by whether it has painted none
  also_by : (t : Bool) → le_z r.next r.first ≡ t → also_painted p r ≡ cond t p grown
  unfolding also_painted
  also_by t e = ap (λ (s : Bool). cond s p grown) e

  pub keep_more : KeepTo p rest → KeepTo (also_painted p r) (r ∷ rest)
  unfolding KeepTo also_painted
  keep_more keep = by_begun (le_z r.next r.first) refl
    where
      none : le_z r.next r.first ≡ true → lt_z r.first r.next ≡ true
          → (le_z p.first r.first ≡ true) × (le_z r.next p.end ≡ true)
      none e begun = absurd (omega (arith, int))

      some : (le_z grown.first r.first ≡ true) × (le_z r.next grown.end ≡ true)
      some = (omega (arith, int, smaller_law p.first r.first), omega (arith, int, larger_law p.end r.next))

      wide : KeepTo grown rest
      wide =
          keep_wider p grown rest (omega (arith, int, smaller_law p.first r.first))
          (omega (arith, int, larger_law p.end r.next)) keep

      by_begun : (t : Bool) → le_z r.next r.first ≡ t → KeepTo (also_painted p r) (r ∷ rest)
      by_begun true e = subst (λ (q : PaintedRows). KeepTo q (r ∷ rest)) (sym (also_by true e)) (none e, keep)
      by_begun false e = subst (λ (q : PaintedRows). KeepTo q (r ∷ rest)) (sym (also_by false e)) (λ begun. some, wide)

-- ---- rows left that lie apart
module _ (earlier : LayerRows) (p : PaintedRows) where
  module _ (behind : le_z p.end earlier.next ≡ true) where
    not_past : (r : LayerRows)
        → (lt_z r.first r.next ≡ true → (le_z p.first r.first ≡ true) × (le_z r.next p.end ≡ true))
        → rows_overtake earlier r ≡ false
    not_past r keep = by_begun (le_z r.next r.first) refl
      where
        by_begun : (t : Bool) → le_z r.next r.first ≡ t → rows_overtake earlier r ≡ false
        by_begun true e = sym (overtakes_none_painted earlier r e)
        by_begun false e =
            let begun : lt_z r.first r.next ≡ true = omega (arith, int) in
            let within = keep begun in
            overtakes_none_behind earlier r (omega (arith, int))

    pub none_past_next : (rest : List LayerRows) → KeepTo p rest → no_rows_overtake earlier rest ≡ true
    unfolding KeepTo no_rows_overtake
    none_past_next [] keep = refl
    none_past_next (r ∷ rest) keep = rw (not_past r keep.0) (none_past_next rest keep.1)

  module _ (below : le_z earlier.end p.first ≡ true) where
    not_within : (r : LayerRows)
        → (lt_z r.first r.next ≡ true → (le_z p.first r.first ≡ true) × (le_z r.next p.end ≡ true))
        → rows_overtake earlier r ≡ false
    not_within r keep = by_begun (le_z r.next r.first) refl
      where
        by_begun : (t : Bool) → le_z r.next r.first ≡ t → rows_overtake earlier r ≡ false
        by_begun true e = sym (overtakes_none_painted earlier r e)
        by_begun false e =
            let begun : lt_z r.first r.next ≡ true = omega (arith, int) in
            let within = keep begun in
            sym (overtakes_none_reached earlier r e (omega (arith, int)))

    pub none_before_end : (rest : List LayerRows) → KeepTo p rest → no_rows_overtake earlier rest ≡ true
    unfolding KeepTo no_rows_overtake
    none_before_end [] keep = refl
    none_before_end (r ∷ rest) keep = rw (not_within r keep.0) (none_before_end rest keep.1)
