-- `styled_row::crate_row_at` meets its contract: each area is the box offset and confined.
use mathlib.Core.Path.{◌≡◌, sym, ap, subst, ◌∙◌}
use mir.Facts.{to_z-of_z}
use Rattle.rounded_rectangle.specs.ConfinedBox.{plain_box}
use Rattle.shape.specs.BoxRules.{confined, offset_box}
use Rattle.figure.specs.Bounds.{AreaBox, ConfinedAreaBox}
use Rattle.figure.proofs.Within.{offset_box_bounded, confined_bounded}
use Rattle.styled_row.specs.StyledRow.{box_styled_row}
use Rattle.styled_row.proofs.crate_row_at.Lts
use Rattle.styled_row.proofs.crate_row_at.Reads
use Rattle.styled_row.proofs.crate_row_at.Tie
use Rattle.styled_row.proofs.crate_row_at.Goals as goal

-- the facts known at these places
abbrev Start : Type 0
Start = Lts.Start Tie.the-claims Reads.Pre Reads.Post Tie.handed_clauses

abbrev After-offset_box : Type 0
After-offset_box = Lts.After-offset_box Tie.the-claims Reads.Pre Reads.Post Tie.handed_clauses

abbrev After-offset_box-2 : Type 0
After-offset_box-2 = Lts.After-offset_box2 Tie.the-claims Reads.Pre Reads.Post Tie.handed_clauses

-- the box offset outward and inward
outer_is : (c : After-offset_box) → c.offset_box.result ≡ offset_box c.args.b c.args.outward
outer_is c = c.offset_box.ensures ∙ ap (offset_box c.args.b) (to_z-of_z c.requires.near.0.fits)

inner_is : (c : After-offset_box-2) → c.offset_box-2.result ≡ offset_box c.args.b c.args.inward
inner_is c = c.offset_box-2.ensures ∙ ap (offset_box c.args.b) (to_z-of_z c.requires.near.1.fits)

outer_bounded : (c : After-offset_box) → AreaBox c.offset_box.result
outer_bounded c =
    subst AreaBox (sym (outer_is c))
    (offset_box_bounded c.args.b c.args.outward c.requires.own_box c.requires.near.0)

inner_bounded : (c : After-offset_box-2) → AreaBox c.offset_box-2.result
inner_bounded c =
    subst AreaBox (sym (inner_is c))
    (offset_box_bounded c.args.b c.args.inward c.requires.own_box c.requires.near.1)

pub confined-area-requires : goal.confined-area-requires
confined-area-requires c = outer_bounded c

pub confined-inner-requires : goal.confined-inner-requires
confined-inner-requires c = inner_bounded c

pub box_row-requires : goal.box_row-requires
box_row-requires c =
    let near = c.requires.near_2 in record {
      confined_area_box = subst ConfinedAreaBox (sym c.confined-area.ensures)
          (confined_bounded _ (outer_bounded c.before.before.before));
      confined_area_box_2 = subst ConfinedAreaBox (sym c.confined-inner.ensures) (confined_bounded _ (inner_bounded c.before));
      near = rw
          (to_z-of_z near.fits) near;
    }

pub returns : goal.returns
returns c =
    c.box_row.ensures
    ∙ (λ i.
    box_styled_row (plain_box ((c.confined-area.ensures ∙ ap confined (outer_is c.before.before.before.before)) i))
    (plain_box ((c.confined-inner.ensures ∙ ap confined (inner_is c.before.before)) i))
    (to_z-of_z c.requires.near_2.fits i))
