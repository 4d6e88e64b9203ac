-- `host_sheet_place::rows_within` meets its contract: the numbers read are the place's, and the rows made of them those of its
-- layer.
use mathlib.Core.Path.{◌≡◌, sym, ap, ap₂, ◌∙◌}
use Prim.Native.Nat.{ℕ, ◌+◌, ◌*◌}
use native.Mathlib.Omega.{arith}
use lib.IntN.{ℤ, pos, ◌+ℤ◌, ◌-ℤ◌}
use lib.Signed.{lt_z}
use mir.Facts.{to_z-of_z}
use borrow.Author.Rules.{sfits_of}
use Rattle.signed.specs.Signed.{floor0}
use Rattle.signed.proofs.Laws.{int}
use Rattle.style.specs.Style.{outside_width}
use Rattle.drawing.specs.declared.StrokeRows.{StrokeRows}
use Rattle.sheet_layers.proofs.RowTests.{rows_by_fields}
use Rattle.sheet_layers.specs.Layers.{layer_rows}
use Rattle.host_records.specs.RecordNumbers.{kind_at, y_at, width_at, height_at, stroke_width_at, alignment_at, crate_box_kind, number_at, alignment_of}
use Rattle.host_sheet_record.specs.SheetRecord.{style_at, next_row_at}
use Rattle.host_records.proofs.Walks.{read_back}
use Rattle.host_sheet_place.specs.PlaceRules.{rows_above, stroke_count, outside_of, first_row_of, count_of}
use Rattle.host_sheet_place.proofs.Limits.{PlaceLimits, kept_limits}
use Rattle.host_sheet_place.proofs.Area.{top_near, sides_small, outside_small, rows_of_place}
use Rattle.host_sheet_place.proofs.rows_within.Lts
use Rattle.host_sheet_place.proofs.rows_within.Reads
use Rattle.host_sheet_place.proofs.rows_within.Tie
use Rattle.host_sheet_place.proofs.rows_within.Goals as goal

-- the facts known at these places
abbrev Start : Type 0
Start = Lts.Start Tie.the-claims Reads.Pre Reads.Post Tie.handed_clauses

abbrev After-outside_width-outside : Type 0
After-outside_width-outside = Lts.After-outside_width Tie.the-claims Reads.Pre Reads.Post Tie.handed_clauses

abbrev After-area_top-first : Type 0
After-area_top-first = Lts.After-area_top Tie.the-claims Reads.Pre Reads.Post Tie.handed_clauses

abbrev After-floor0 : Type 0
After-floor0 = Lts.After-floor02 Tie.the-claims Reads.Pre Reads.Post Tie.handed_clauses

abbrev After-area_rows-count : Type 0
After-area_rows-count = Lts.After-area_rows Tie.the-claims Reads.Pre Reads.Post Tie.handed_clauses

limits : (c : Start) → PlaceLimits (number_at c.args.numbers.now)
limits c = kept_limits c.args.numbers.now c.requires.numbers_len c.requires.numbers_value

height_is : (c : After-outside_width-outside)
    → c.floor0-height.result ≡ floor0 (number_at c.args.numbers.now height_at)
height_is c =
    c.floor0-height.ensures
    ∙ ap (λ (z : ℤ). floor0 z)
    (read_back c.args.numbers.now height_at c.floor0-arg-1.given)

outside_is : (c : After-outside_width-outside) → c.outside_width-outside.result ≡ outside_of c.args.numbers.now
outside_is c =
    let n = c.args.numbers.now in
    let width = read_back n (style_at + stroke_width_at) c.outside_width-arg-1.given in
    let alignment = read_back n (style_at + alignment_at) c.outside_width-arg-2-1.given in
    c.outside_width-outside.ensures ∙ (λ i. outside_width (alignment_of (alignment i)) (floor0 (width i)))

first_is : (c : After-area_top-first) → c.area_top-first.result ≡ first_row_of c.args.numbers.now
first_is c =
    let y = read_back c.args.numbers.now y_at c.area_top-arg-1.given in
    c.area_top-first.ensures.is.is ∙ (λ i. y i -ℤ pos (rows_above (height_is c.before.before i) (outside_is c.before.before i)))

width_is : (c : After-floor0)
    → c.floor0.result ≡ floor0 (number_at c.args.numbers.now width_at)
width_is c =
    c.floor0.ensures
    ∙ ap (λ (z : ℤ). floor0 z)
    (read_back c.args.numbers.now width_at c.floor0-arg-2-1.given)

count_is : (c : After-area_rows-count)
    → c.area_rows-count.result ≡ count_of c.args.numbers.now
count_is c =
    let kind = read_back c.args.numbers.now kind_at c.area_rows-arg-1.given in
    c.area_rows-count.ensures.value
    ∙ (λ i. stroke_count (lt_z (kind i) crate_box_kind) (width_is c.before i + 2 * outside_is c.before.before.before.before.before.before i)
    (height_is c.before.before.before.before.before.before i + 2 * outside_is c.before.before.before.before.before.before i))

pub area_top-first-requires : goal.area_top-first-requires
area_top-first-requires c =
    let n = c.args.numbers.now in
    let given = c.area_top-arg-1.given in
    (rw (read_back n y_at c.area_top-arg-1.given) (top_near n (limits c.before.before.before.before.before.before) c.area_top-arg-1.given), omega (arith, outside_small n (limits c.before.before.before.before.before.before), outside_is c.before))

pub area_rows-count-requires : goal.area_rows-count-requires
area_rows-count-requires c =
    let n = c.args.numbers.now in
    let sides = sides_small n (limits c.before.before.before.before.before.before.before.before.before.before) in (
      omega (arith, width_is c, sides.0),
      omega (arith, height_is c.before.before.before.before.before, sides.1),
      omega (arith, outside_small n (limits c.before.before.before.before.before.before.before.before.before.before), outside_is c.before.before.before.before.before),
    )

pub from_u32-requires : goal.from_u32-requires
from_u32-requires c = omega (arith, c.area_rows-count.ensures.upper_bound)

pub add-requires : goal.add-requires
add-requires c =
    let first = c.area_top-first.ensures.near in
    let count = c.area_rows-count.ensures.upper_bound in
    let wide = c.from_u32.ensures in
    rw (to_z-of_z c.area_top-first.ensures.near.fits, to_z-of_z c.from_u32.ensures.fits, c.from_u32.ensures.is) (omega (arith, int))

pub returns : goal.returns
unfolding layer_rows
returns c =
    let wide = c.from_u32.ensures in
    let n = c.args.numbers.now in
    let made = c.add.ensures in
    let next = c.result-1.given in
    let first = to_z-of_z c.area_top-first.ensures.is.fits ∙ first_is c.before.before.before.before.before.before.before in
    let place = rows_of_place n c.requires.numbers_len in
    let end = to_z-of_z c.add.ensures.fits ∙ c.add.ensures.is
    ∙ ap₂ ◌+ℤ◌ first (to_z-of_z c.from_u32.ensures.fits ∙ c.from_u32.ensures.is ∙ ap (λ (k : ℕ). pos k) (count_is c.before.before.before)) in (
      rows_by_fields (first ∙ sym (ap (λ (r : StrokeRows). r.first) place)) (read_back n next_row_at c.result-1.given)
          (end ∙ sym (ap (λ (r : StrokeRows). r.first +ℤ pos r.count) place)),
      record {
        first = rw (to_z-of_z c.area_top-first.ensures.is.fits) c.area_top-first.ensures.is.fits;
        next = rw (read_back n next_row_at c.result-1.given) (sfits_of c.result-1.given);
        end = rw (to_z-of_z c.add.ensures.fits) c.add.ensures.fits;
      },
    )
