-- The tests of rows as the code makes them: each test that returns early decides the definition, and a walk over the places
-- asks of those that are left what is asked of all.
-- Assumes nothing.
use mathlib.Core.Path.{◌≡◌, refl, sym, ap₂, ◌∙◌}
use mathlib.Core.Bool.{Bool, true, false, not, ◌&&◌, ◌||◌}
use mathlib.Core.List.{List, [], ◌∷◌}
use Prim.Native.Nat.{ℕ, zero, suc, ◌+◌, ◌<◌, ◌≤◌}
use native.Mathlib.Omega.{arith}
use native.Mathlib.Numerals.{add-one}
use lib.IntN.{ℤ, pos}
use lib.ListN.{length, take, drop, get_or, set, drop_of_length-le, length-take}
use lib.Seq.{drop-cons, get_or-take}
use lib.Signed.{le_z, lt_z}
use mir.Syntax.{w32}
use mir.Val.{SFits, to_z, of_z}
use mir.Facts.{to_z-of_z}
use Rattle.signed.proofs.Laws.{int}
use Rattle.sheet_layers.specs.declared.rows.LayerRows.{LayerRows}
use Rattle.sheet_layers.specs.LayerRows.{rows_owe, some_rows_owe, rows_overtake, no_rows_overtake, rows_in_order}

-- ---- a test of two numbers as they are held is one of the numbers
module _ {a b : ℤ} {t : Bool} (a_fits : SFits w32 a) (b_fits : SFits w32 b) where
  pub lt_held : lt_z (to_z w32 (of_z w32 a)) (to_z w32 (of_z w32 b)) ≡ t → lt_z a b ≡ t
  lt_held test = sym (ap₂ lt_z (to_z-of_z a_fits) (to_z-of_z b_fits)) ∙ test

  pub le_held : le_z (to_z w32 (of_z w32 a)) (to_z w32 (of_z w32 b)) ≡ t → le_z a b ≡ t
  le_held test = sym (ap₂ le_z (to_z-of_z a_fits) (to_z-of_z b_fits)) ∙ test

-- an i32 holds each row of a layer
pub record RowsFit (r : LayerRows) : Type 0 where
  pub first : SFits w32 r.first
  pub next : SFits w32 r.next
  pub end : SFits w32 r.end

-- ---- one layer, one row
module _ (r : LayerRows) (y : ℤ) where
  pub owes_none_above : lt_z y r.first ≡ true → false ≡ rows_owe r y
  unfolding rows_owe
  owes_none_above above =
      let first : le_z r.first y ≡ false = omega (arith, int) in
      rw first

  module _ (from : lt_z y r.first ≡ false) where
    pub owes_none_below : le_z r.end y ≡ true → false ≡ rows_owe r y
    unfolding rows_owe
    owes_none_below below =
        let first : le_z r.first y ≡ true = omega (arith, int) in
        let end : lt_z y r.end ≡ false = omega (arith, int) in
        rw (first, end)

    pub owes_by_next : le_z r.end y ≡ false → le_z r.next y ≡ rows_owe r y
    unfolding rows_owe
    owes_by_next among =
        let first : le_z r.first y ≡ true = omega (arith, int) in
        let end : lt_z y r.end ≡ true = omega (arith, int) in
        rw (first, end)

-- ---- two layers
pub and-false : (a : Bool) → (a && false) ≡ false
and-false true = refl
and-false false = refl

module _ (earlier later : LayerRows) where
  pub overtakes_none_painted : le_z later.next later.first ≡ true → false ≡ rows_overtake earlier later
  unfolding rows_overtake
  overtakes_none_painted none =
      let painted : lt_z later.first later.next ≡ false = omega (arith, int) in
      rw painted

  module _ (some : le_z later.next later.first ≡ false) where
    pub overtakes_none_reached : le_z earlier.end later.first ≡ true → false ≡ rows_overtake earlier later
    unfolding rows_overtake
    overtakes_none_reached apart =
        let painted : lt_z later.first later.next ≡ true = omega (arith, int) in
        let reached : lt_z later.first earlier.end ≡ false = omega (arith, int) in
        rw (painted, reached)

    module _ (meets : le_z earlier.end later.first ≡ false) where
      pub overtakes_none_left : le_z later.next earlier.next ≡ true → false ≡ rows_overtake earlier later
      unfolding rows_overtake
      overtakes_none_left behind =
          let painted : lt_z later.first later.next ≡ true = omega (arith, int) in
          let reached : lt_z later.first earlier.end ≡ true = omega (arith, int) in
          let ahead : lt_z earlier.next later.next ≡ false = omega (arith, int) in
          rw (painted, reached, ahead)

      pub overtakes_by_left : le_z later.next earlier.next ≡ false → lt_z earlier.next earlier.end ≡ rows_overtake earlier later
      unfolding rows_overtake
      overtakes_by_left behind =
          let painted : lt_z later.first later.next ≡ true = omega (arith, int) in
          let reached : lt_z later.first earlier.end ≡ true = omega (arith, int) in
          let ahead : lt_z earlier.next later.next ≡ true = omega (arith, int) in
          rw (painted, reached, ahead)

-- a layer that owes nothing is overtaken by none
overtakes_none_owed : (earlier later : LayerRows) → le_z earlier.end earlier.next ≡ true → rows_overtake earlier later ≡ false
unfolding rows_overtake
overtakes_none_owed earlier later done =
    let owed : lt_z earlier.next earlier.end ≡ false = omega (arith, int) in
    rw (
      owed,
      and-false (lt_z earlier.next later.next),
      and-false
          (lt_z later.first later.next && lt_z later.first earlier.end),
    )

pub none_owed : (earlier : LayerRows) (rest : List LayerRows) → le_z earlier.end earlier.next ≡ true → no_rows_overtake earlier rest
    ≡ true
unfolding no_rows_overtake
none_owed earlier [] done = refl
none_owed earlier (later ∷ rest) done = rw (overtakes_none_owed earlier later done) (none_owed earlier rest done)

-- ---- a walk over the first n places
module _ {A : Type 0} (places : List A) (n i : ℕ) where
  pub place_here : (d : A) → i < n → n ≤ length places
      → drop i (take n places) ≡ get_or places i d ∷ drop (i + 1) (take n places)
  place_here d here enough =
      let within : i < length (take n places) = rw (length-take n places) (omega arith) in
      rw (drop-cons (take n places) i d within, get_or-take n places i d here, add-one i)

  pub place_past : n ≤ i → drop i (take n places) ≡ []
  place_past past = drop_of_length-le (take n places) {i = i} (rw (length-take n places) (omega arith))

-- what is put in a place stands first of what is left from there on
put_first : {A : Type 0} (places : List A) (n i : ℕ) (v : A) → i < n → i < length places
    → drop i (take n (set places i v)) ≡ v ∷ drop (suc i) (take n places)
put_first [] n i v here within = absurd (omega arith)
put_first (x ∷ places) zero i v here within = absurd (omega arith)
put_first (x ∷ places) (suc n) zero v here within = refl
put_first (x ∷ places) (suc n) (suc i) v here within = put_first places n i v (omega arith) (omega arith)

pub put_here : {A : Type 0} (places : List A) (n i : ℕ) (v : A) → i < n → i < length places
    → drop i (take n (set places i v)) ≡ v ∷ drop (i + 1) (take n places)
put_here places n i v here within = rw (add-one i) (put_first places n i v here within)

-- the rows in a place that nothing was put in
abbrev pub no_rows : LayerRows
no_rows = record { first = pos 0; next = pos 0; end = pos 0 }

module _ (places : List LayerRows) (n i : ℕ) where
  pub owe_here : (y : ℤ) → i < n → n ≤ length places
      → some_rows_owe (drop i (take n places)) y
      ≡ (rows_owe (get_or places i no_rows) y || some_rows_owe (drop (i + 1) (take n places)) y)
  unfolding some_rows_owe
  owe_here y here enough = rw (place_here places n i no_rows here enough)

  pub owe_past : (y : ℤ) → n ≤ i → some_rows_owe (drop i (take n places)) y ≡ false
  unfolding some_rows_owe
  owe_past y past = rw (place_past places n i past)

  pub overtake_here : (r : LayerRows) → i < n → n ≤ length places
      → no_rows_overtake r (drop i (take n places))
      ≡ (not (rows_overtake r (get_or places i no_rows)) && no_rows_overtake r (drop (i + 1) (take n places)))
  unfolding no_rows_overtake
  overtake_here r here enough = rw (place_here places n i no_rows here enough)

  pub overtake_past : (r : LayerRows) → n ≤ i → no_rows_overtake r (drop i (take n places)) ≡ true
  unfolding no_rows_overtake
  overtake_past r past = rw (place_past places n i past)

  pub order_here : i < n → n ≤ length places
      → rows_in_order (drop i (take n places))
      ≡ (no_rows_overtake (get_or places i no_rows) (drop (i + 1) (take n places)) && rows_in_order (drop (i + 1) (take n places)))
  unfolding rows_in_order
  order_here here enough = rw (place_here places n i no_rows here enough)

  pub order_past : n ≤ i → rows_in_order (drop i (take n places)) ≡ true
  unfolding rows_in_order
  order_past past = rw (place_past places n i past)

-- rows are equal by their parts
pub rows_by_fields : {a b : LayerRows} → a.first ≡ b.first → a.next ≡ b.next → a.end ≡ b.end → a ≡ b
rows_by_fields p q r i = record { first = p i; next = q i; end = r i }
