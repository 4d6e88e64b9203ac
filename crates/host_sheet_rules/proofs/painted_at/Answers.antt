-- `host_sheet_rules::painted_at` meets its contract: the part that is lent is the place's.
use mathlib.Core.Path.{◌≡◌, sym, ap, subst, ◌∙◌}
use mathlib.Core.Bool.{true, ◌&&◌}
use mathlib.Core.List.{List}
use lib.IntN.{ℤ}
use lib.ListN.{length}
use mir.Facts.{to_z-of_z}
use Rattle.drawing.specs.declared.StrokeRows.{StrokeRows}
use Rattle.sheet_layers.specs.Layers.{layer_rows}
use Rattle.host_sheet_record.specs.SheetRecord.{layer_length, place_numbers}
use Rattle.host_sheet_record.proofs.Parts.{place_part, place_part_length}
use Rattle.host_sheet_place.specs.PlaceRules.{figure_kept, style_kept, first_row_of}
use Rattle.host_sheet_place.proofs.Rules.{place_within}
use Rattle.host_sheet_place.proofs.Area.{rows_of_place}
use Rattle.host_sheet_rules.proofs.painted_at.Lts
use Rattle.host_sheet_rules.proofs.painted_at.Reads
use Rattle.host_sheet_rules.proofs.painted_at.Tie
use Rattle.host_sheet_rules.proofs.painted_at.Goals as goal

-- the facts known at these places
abbrev Start : Type 0
Start = Lts.Start Tie.the-claims Reads.Pre Reads.Post Tie.handed_clauses

-- a place has a layer's numbers
long_place : (c : Start) → length (place_numbers c.args.numbers.now c.args.j) ≡ layer_length
long_place c =
    sym (ap length (place_part c.args.numbers.now c.args.j))
    ∙ place_part_length c.args.numbers.now c.args.j c.requires.numbers_len.0 c.requires.numbers_len.1

pub first_row-requires : goal.first_row-requires
first_row-requires c =
    let a = c.args in
    let n = a.numbers.now in
    let within = place_within (place_numbers n a.j) (long_place c.before) c.requires.j_value in record { numbers_len = place_part_length n a.j c.requires.numbers_len.0 c.requires.numbers_len.1; numbers_value = subst (λ (p : List ℤ). (figure_kept p && style_kept p) ≡ true) (sym (place_part n a.j)) within }

pub returns : goal.returns
unfolding layer_rows
returns c =
    let n = c.args.numbers.now in
    let j = c.args.j in
    let made = c.first_row.ensures in
    let place = rows_of_place (place_numbers n j) (long_place c.before.before.before) in (
      to_z-of_z c.first_row.ensures.fits ∙ c.first_row.ensures.is ∙ ap (λ (p : List ℤ). first_row_of p) (place_part n j)
          ∙ sym (ap (λ (r : StrokeRows). r.first) place),
      to_z-of_z c.next_at.ensures.fits ∙ c.next_at.ensures.is,
    )
