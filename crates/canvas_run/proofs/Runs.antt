-- A run painted over a row: its length, its bytes, and that the columns which the code sets are those of the run.
-- Assumes nothing.
use Rattle.style.specs.Style.{Paint}
use Rattle.std.specs.Prelude.{Some, None}
use mathlib.Core.Path.{◌≡◌, refl, sym, ap, ap₂, ◌∙◌}
use mathlib.Core.Bool.{Bool, true, false, cond, ◌&&◌, and-false}
use mathlib.Core.List.{List, [], ◌∷◌}
use Prim.Native.Nat.{ℕ, zero, suc, ◌+◌, ◌-◌, ◌≤◌, ◌<◌}
use native.Mathlib.Nat.{le_of_suc-le-suc, not-suc-le-zero}
use native.Mathlib.Omega.{arith}
use borrow.Author.Tests.{ltb-true, ltb-false}
use lib.Dec.{ltb}
use lib.IntN.{pos}
use lib.ListN.{length, take, drop, get_or, replicate, length-replicate, get_or-replicate}
use lib.Seq.{ext_get_or}
use lib.Signed.{le_z, lt_z}
use Rattle.signed.proofs.Laws.{le_le_z, lt_le_z, lt_lt_z, le_lt_z}
use Rattle.geometry_range.specs.declared.Range.{Range}
use Rattle.geometry_range.specs.Range.{contains}
use Rattle.canvas_run.specs.declared.Columns.{Columns}
use Rattle.canvas_run.specs.Run.{byte_over, run_over_from, run_over}
use Rattle.canvas_run.specs.Columns.{clipped, columns_over}
use Rattle.canvas_run.proofs.LentPart.{with_part, lent_length, with_part_length, with_part_before, with_part_here, with_part_after}

-- two structs are equal by their fields
pub columns_by_fields : {a b : Columns} → a.from ≡ b.from → a.to ≡ b.to → a ≡ b
columns_by_fields p q i = record { from = p i; to = q i }

-- ---- length and bytes
run_over_from_length : (run : Range) (paint : Paint) (x : ℕ) (row : List ℕ) → length (run_over_from run paint x row) ≡ length row
unfolding run_over_from
run_over_from_length run paint x [] = refl
run_over_from_length run paint x (byte ∷ row) = ap suc (run_over_from_length run paint (suc x) row)

pub run_over_length : (run : Range) (paint : Paint) (row : List ℕ) → length (run_over run paint row) ≡ length row
run_over_length run paint row = run_over_from_length run paint 0 row

run_over_from_byte : (run : Range) (paint : Paint) (x : ℕ) (row : List ℕ) (k : ℕ) → k < length row
    → get_or (run_over_from run paint x row) k 0 ≡ byte_over run paint (x + k) (get_or row k 0)
unfolding run_over_from
run_over_from_byte run paint x [] k h = absurd (not-suc-le-zero h)
run_over_from_byte run paint x (byte ∷ row) zero h = ap (λ (z : ℕ). byte_over run paint z byte) (omega arith)
run_over_from_byte run paint x (byte ∷ row) (suc k) h =
    run_over_from_byte run paint (suc x) row k (le_of_suc-le-suc h)
    ∙ ap (λ (z : ℕ). byte_over run paint z (get_or row k 0)) (omega arith)

pub run_over_byte : (run : Range) (paint : Paint) (row : List ℕ) (k : ℕ) → k < length row
    → get_or (run_over run paint row) k 0 ≡ byte_over run paint k (get_or row k 0)
run_over_byte run paint row k h =
    run_over_from_byte run paint 0 row k h ∙ ap (λ (z : ℕ). byte_over run paint z (get_or row k 0)) (omega arith)

-- an absent paint leaves the row
run_over_from_absent : (run : Range) (x : ℕ) (row : List ℕ) → run_over_from run None x row ≡ row
unfolding run_over_from
run_over_from_absent run x [] = refl
run_over_from_absent run x (byte ∷ row) =
    ap₂ (λ (b : ℕ) (l : List ℕ). b ∷ l) (either_way (contains run (pos x))) (run_over_from_absent run (suc x) row)
  where
    either_way : (t : Bool) → cond t byte byte ≡ byte
    either_way true = refl
    either_way false = refl

pub run_over_absent : (run : Range) (row : List ℕ) → run_over run None row ≡ row
run_over_absent run row = run_over_from_absent run 0 row

-- ---- the columns of a clipped run are those that the run holds
module _ (run : Range) (width : ℕ) where
  pub clipped_in_order : (clipped run width).from ≤ (clipped run width).to
  unfolding clipped
  clipped_in_order = omega arith

  pub clipped_within : (clipped run width).to ≤ width
  unfolding clipped
  clipped_within = omega arith

  clipped_holds : (k : ℕ) → (clipped run width).from ≤ k → k < (clipped run width).to → contains run (pos k) ≡ true
  unfolding clipped
  clipped_holds k f t =
      ap₂ (λ (a b : Bool). a && b) (le_le_z run.start (pos k) (omega arith)) (lt_lt_z (pos k) run.end (omega arith))

  clipped_not_before : (k : ℕ) → k < (clipped run width).from → contains run (pos k) ≡ false
  unfolding clipped
  clipped_not_before k h =
      ap (λ (a : Bool). a && lt_z (pos k) run.end) (lt_le_z run.start (pos k) (omega arith))

  clipped_not_after : (k : ℕ) → (clipped run width).to ≤ k → k < width → contains run (pos k) ≡ false
  unfolding clipped
  clipped_not_after k h w =
      ap (λ (b : Bool). le_z run.start (pos k) && b) (le_lt_z (pos k) run.end (omega arith))
      ∙ and-false (le_z run.start (pos k))

-- ---- a part of the row that was lent and came back in one colour: its columns are set
pub lent_columns_set : (row : List ℕ) (from to colour : ℕ) (part : List ℕ) → from ≤ to → to ≤ length row
    → part ≡ replicate (length (take (to - from) (drop from row))) colour
    → with_part row from (to - from) part ≡ columns_over from to colour row
unfolding columns_over
lent_columns_set row from to colour part in_order within e =
    ap (with_part row from (to - from)) (e ∙ ap (λ (n : ℕ). replicate n colour) (lent_length row from to in_order within))

-- ---- a row with the columns of a clipped run set is the row with the run painted
module _ (run : Range) (colour from to : ℕ) (row : List ℕ) (in_order : from ≤ to) (within : to ≤ length row)
    (holds : (k : ℕ) → from ≤ k → k < to → contains run (pos k) ≡ true)
    (not_before : (k : ℕ) → k < from → contains run (pos k) ≡ false)
    (not_after : (k : ℕ) → to ≤ k → k < length row → contains run (pos k) ≡ false) where
  abbrev coloured : List ℕ
  coloured = replicate (to - from) colour

  columns_within : from + (to - from) ≤ length row
  columns_within = omega arith

  columns_length : length (columns_over from to colour row) ≡ length row
  unfolding columns_over
  columns_length = with_part_length row from (to - from) coloured columns_within (length-replicate (to - from) colour)

  columns_byte : (k : ℕ) → k < length row → (before before_end : Bool) → ltb k from ≡ before → ltb k to ≡ before_end
      → get_or (columns_over from to colour row) k 0 ≡ byte_over run (Some colour) k (get_or row k 0)
  unfolding columns_over
  columns_byte k h true t b e =
      with_part_before row from (to - from) coloured columns_within (length-replicate (to - from) colour) k (ltb-true k from b)
      ∙ rw (not_before k (ltb-true k from b))
  columns_byte k h false true b e =
      let here : k ≡ from + (k - from) = omega (arith, ltb-false k from b) in
      let low : k - from < to - from = omega (arith, ltb-false k from b, ltb-true k to e) in
      ap (λ (i : ℕ). get_or (columns_over from to colour row) i 0) here
      ∙ with_part_here row from (to - from) coloured columns_within (length-replicate (to - from) colour) (k - from) low
      ∙ get_or-replicate (to - from) (k - from) colour 0 low
      ∙ rw (holds k (ltb-false k from b) (ltb-true k to e))
  columns_byte k h false false b e =
      let here : k ≡ from + (to - from + (k - to)) = omega (arith, ltb-false k to e) in
      ap (λ (i : ℕ). get_or (columns_over from to colour row) i 0) here
      ∙ with_part_after row from (to - from) coloured columns_within (length-replicate (to - from) colour) (k - to)
      ∙ ap (λ (i : ℕ). get_or row i 0) (sym here)
      ∙ rw (not_after k (ltb-false k to e) h)

  columns_over_run : columns_over from to colour row ≡ run_over run (Some colour) row
  columns_over_run =
      ext_get_or 0 (columns_over from to colour row) (run_over run (Some colour) row)
      (columns_length ∙ sym (run_over_length run (Some colour) row))
      (λ k h.
      let inside : k < length row = omega (arith, columns_length) in
      columns_byte k inside (ltb k from) (ltb k to) refl refl ∙ sym (run_over_byte run (Some colour) row k inside))

run_over_clipped : (run : Range) (colour : ℕ) (row : List ℕ)
    → columns_over (clipped run (length row)).from (clipped run (length row)).to colour row ≡ run_over run (Some colour) row
run_over_clipped run colour row =
    columns_over_run run colour (clipped run (length row)).from (clipped run (length row)).to row
    (clipped_in_order run (length row)) (clipped_within run (length row)) (clipped_holds run (length row))
    (clipped_not_before run (length row)) (clipped_not_after run (length row))

-- a row after the columns of the clipped run were set is the row with the run painted
pub run_over_by_columns : (run : Range) (colour : ℕ) (row after : List ℕ) (columns : Columns) (paint : Paint)
    → paint ≡ Some colour → columns ≡ clipped run (length row) → after ≡ columns_over columns.from columns.to colour row
    → after ≡ run_over run paint row
run_over_by_columns run colour row after columns paint p c e =
    e
    ∙ ap (λ (d : Columns). columns_over d.from d.to colour row) c
    ∙ run_over_clipped run colour row
    ∙ ap (λ (q : Paint). run_over run q row) (sym p)
