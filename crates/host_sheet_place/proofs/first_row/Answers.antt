-- `host_sheet_place::first_row` meets its contract: the numbers read are the place's, and within limits.
use mathlib.Core.Path.{◌≡◌, ap, ◌∙◌}
use Prim.Native.Nat.{◌+◌}
use native.Mathlib.Omega.{arith}
use lib.IntN.{ℤ, pos, ◌-ℤ◌}
use mir.Facts.{to_z-of_z}
use Rattle.signed.specs.Signed.{floor0}
use Rattle.style.specs.Style.{outside_width}
use Rattle.host_records.specs.RecordNumbers.{y_at, height_at, stroke_width_at, alignment_at, alignment_of}
use Rattle.host_sheet_record.specs.SheetRecord.{style_at}
use Rattle.host_records.proofs.Walks.{read_back}
use Rattle.host_sheet_place.specs.PlaceRules.{rows_above, outside_of}
use Rattle.host_sheet_place.proofs.Limits.{kept_limits}
use Rattle.host_sheet_place.proofs.Area.{top_near, outside_small}
use Rattle.host_sheet_place.proofs.first_row.Lts
use Rattle.host_sheet_place.proofs.first_row.Reads
use Rattle.host_sheet_place.proofs.first_row.Tie
use Rattle.host_sheet_place.proofs.first_row.Goals as goal

-- the facts known at these places
abbrev After-outside_width : Type 0
After-outside_width = Lts.After-outside_width Tie.the-claims Reads.Pre Reads.Post Tie.handed_clauses

-- the outside width read is the place's
outside_is : (c : After-outside_width)
    → c.outside_width.result ≡ outside_of c.args.numbers.now
outside_is c =
    let n = c.args.numbers.now in
    let width = read_back n (style_at + stroke_width_at) c.outside_width-arg-1.given in
    let alignment = read_back n (style_at + alignment_at) c.outside_width-arg-2-1.given in
    c.outside_width.ensures ∙ (λ i. outside_width (alignment_of (alignment i)) (floor0 (width i)))

pub area_top-requires : goal.area_top-requires
area_top-requires c =
    let n = c.args.numbers.now in
    let read = c.area_top-arg-1.given in
    let limits = kept_limits n c.requires.numbers_len c.requires.numbers_value in
    (rw (read_back n y_at c.area_top-arg-1.given) (top_near n limits c.area_top-arg-1.given), omega (arith, outside_small n limits, outside_is c))

pub returns : goal.returns
returns c =
    let n = c.args.numbers.now in
    let made = c.area_top.ensures.is in
    let y = read_back n y_at c.area_top-arg-1.given in
    let height = c.floor0.ensures
    ∙ ap (λ (z : ℤ). floor0 z) (read_back n height_at c.floor0-arg-1.given) in
    rw (to_z-of_z c.area_top.ensures.is.fits)
    (record { is = c.area_top.ensures.is.is ∙ (λ i. y i -ℤ pos (rows_above (height i) (outside_is c.before i))); fits = c.area_top.ensures.is.fits })
