-- `box_fill::row_fill` meets its contract: the skipped columns are not contained, so both searches are the definition's
-- (`fill_found`); where the first finds none, the second would not either (`fill_none`).
use Rattle.scanline.specs.Places.{Place}
use Rattle.std.specs.Prelude.{Some}
use mathlib.Core.Path.{◌≡◌, sym, ap, ◌∙◌}
use Prim.Native.Nat.{ℕ, ◌+◌, ◌-◌, max}
use lib.IntN.{ℤ, pos, ◌+ℤ◌, ◌-ℤ◌}
use mir.Facts.{to_z-of_z}
use Rattle.geometry.specs.declared.Size.{Size}
use Rattle.geometry_range.proofs.Fields.{range_by_fields}
use Rattle.corner_radii.specs.declared.CornerRadii.{CornerRadii}
use Rattle.rounded_rectangle.specs.Relative.{radii}
use Rattle.box_columns.specs.Columns.{first_contained, last_contained}
use Rattle.box_fill.proofs.Rows.{Looked, first_in, first_mirrored, right_start, fill_none, fill_found, place_read}
use native.Mathlib.Omega.{arith}
use Rattle.box_fill.proofs.row_fill.Lts
use Rattle.box_fill.proofs.row_fill.Reads
use Rattle.box_fill.proofs.row_fill.Tie
use Rattle.box_fill.proofs.row_fill.Goals as goal

-- the facts known at these places
abbrev Start : Type 0
Start = Lts.Start Tie.the-claims Reads.Pre Reads.Post Tie.handed_clauses

abbrev After-first_contained : Type 0
After-first_contained = Lts.After-first_contained Tie.the-claims Reads.Pre Reads.Post Tie.handed_clauses

abbrev In-At : Type 0
In-At = Lts.Past-After-known_told Tie.the-claims Reads.Pre Reads.Post Tie.handed_clauses

abbrev corners : After-first_contained → CornerRadii
corners c = radii c.args.b

abbrev size : After-first_contained → Size
size c = c.args.b.size

abbrev dy : After-first_contained → ℕ
dy c = c.args.dy

abbrev from : After-first_contained → ℕ
from c = c.place_in-from.result

abbrev to : After-first_contained → ℕ
to c = c.place_in-to.result

abbrev skipped : After-first_contained → ℕ
skipped c = c.left_skip-from_left.result

looked : (c : After-first_contained)
    → Looked (corners c) (size c) c.args.left (dy c) c.args.run (from c) (to c) (skipped c)
looked c =
    let left = c.requires.near.fits in
    let run = c.requires.near_run in
    record {
      from_is = place_read _ _ _ _ left run.start.fits c.place_in-from.ensures.0;
      to_is = place_read _ _ _ _ left run.end.fits c.place_in-to.ensures.0;
      to_le = c.place_in-to.ensures.1;
      none_left = c.left_skip-from_left.ensures;
    }

-- where the search must end
abbrev answer : After-first_contained → Place
answer c = first_contained (corners c) (size c) (dy c) (max (from c) (skipped c)) (to c)

answer_is : (c : After-first_contained) → c.first_contained.result ≡ answer c
answer_is c =
    c.first_contained.ensures ∙ ap (λ (k : ℕ). first_contained (corners c) (size c) (dy c) k (to c)) c.most.ensures

abbrev first : In-At → ℕ
first c = c.in-Some.first

first_is : (c : In-At) → Some (first c) ≡ answer c.before
first_is c = sym c.in-Some.is ∙ answer_is c.before

-- none is contained
pub returns-in_default : goal.returns-in_default
returns-in_default c =
    let run = c.requires.near_run in
    range_by_fields (to_z-of_z run.start.fits) (to_z-of_z run.end.fits)
    ∙ fill_none (looked c.before.before) (sym c.in_default.is ∙ answer_is c.before.before)

pub overflow_sub-size-2 : goal.overflow_sub-size-2
overflow_sub-size-2 c =
    let l = first_in (looked c.before.before.before.before.before) _ (first_is c.before.before.before.before) in
    omega arith

pub overflow_sub-size-3 : goal.overflow_sub-size-3
overflow_sub-size-3 c =
    let l = first_in (looked c.before.before.before.before.before) _ (first_is c.before.before.before.before) in
    omega arith

pub last_contained-last-requires : goal.last_contained-last-requires
last_contained-last-requires c =
    let l = first_in (looked c.before.before.before.before.before) _ (first_is c.before.before.before.before) in
    let start = right_start (looked c.before.before.before.before.before) _ (first_is c.before.before.before.before) _ c.right_skip-from_right.ensures in record { ready_box = c.requires.ready_box; dy_lt_height = (c.requires.dy_lt_height, omega arith, rw c.most-2.ensures start); to_value = first_mirrored (looked c.before.before.before.before.before) _ (first_is c.before.before.before.before) }

pub from_first-requires : goal.from_first-requires
from_first-requires c =
    let near = c.requires.near in
    let wide = c.requires.ready_box.size.width in
    let l = first_in (looked c.before.before.before.before.before.before) _ (first_is c.before.before.before.before.before) in record { near = rw (to_z-of_z near.fits) near; k_le_wide_side = omega arith }

pub before_end-requires : goal.before_end-requires
before_end-requires c =
    let near = c.requires.near in
    let wide = c.requires.ready_box.size.width in
    let l = first_in (looked c.before.before.before.before.before.before.before) _ (first_is c.before.before.before.before.before.before) in
    let m = c.last_contained-last.ensures.1 in record { near = rw (to_z-of_z near.fits) near; n_le_wide_side = (omega arith, omega arith) }

pub returns : goal.returns
returns c =
    let at_most2 = c.most-2 in
    let left_is = to_z-of_z c.requires.near.fits in
    let w = (size c.before.before.before.before.before.before.before.before).width in
    let start = c.from_first.ensures in
    let end = c.before_end.ensures in
    let last = c.last_contained-last in
    range_by_fields
    (to_z-of_z c.from_first.ensures.fits ∙ c.from_first.ensures.is ∙ ap (λ (z : ℤ). z +ℤ pos (first c.before.before.before.before.before.before.before)) left_is)
    (to_z-of_z c.before_end.ensures.fits ∙ c.before_end.ensures.is ∙ ap (λ (z : ℤ). z +ℤ pos w -ℤ pos c.last_contained-last.result) left_is)
    ∙ fill_found (looked c.before.before.before.before.before.before.before.before) _ (first_is c.before.before.before.before.before.before.before) _ c.right_skip-from_right.ensures _
    (c.last_contained-last.ensures.0
    ∙ ap (λ (k : ℕ). last_contained (corners c.before.before.before.before.before.before.before.before) (size c.before.before.before.before.before.before.before.before) (dy c.before.before.before.before.before.before.before.before) k (w - 1 - first c.before.before.before.before.before.before.before + 1)) c.most-2.ensures)
