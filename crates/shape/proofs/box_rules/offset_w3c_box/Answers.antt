-- `shape::box_rules::offset_w3c_box` meets its contract: the callees' equations chain to the definition, and the laws of `Within` carry
-- the bounds from each to the next.
use mathlib.Core.Path.{◌≡◌, ap, sym, subst, ◌∙◌}
use mir.Facts.{to_z-of_z}
use Rattle.corner.specs.Bounds.{wide_radius}
use Rattle.corner_radii.proofs.Bounds.{radii_up_to_wider}
use Rattle.rounded_rectangle.specs.declared.RoundedRectangle.{RoundedRectangle}
use Rattle.rounded_rectangle.specs.declared.ConfinedBox.{ConfinedBox}
use Rattle.rounded_rectangle.specs.ConfinedBox.{plain_box}
use Rattle.shape.specs.BoxBounds.{wide_own_side, OwnBox, AreaBox, ConfinedAreaBox}
use Rattle.shape.specs.BoxRules.{confined_w3c, spread_box}
use Rattle.shape.proofs.Fields.{box_by_fields}
use Rattle.shape.proofs.Within.{own_area, area_bounded, own_box_bounded, spread_box_bounded, confined_w3c_bounded, confined_w3c_own}
use native.Mathlib.Omega.{arith}
use Rattle.signed.proofs.Laws.{int}
use Rattle.shape.proofs.box_rules.offset_w3c_box.Lts
use Rattle.shape.proofs.box_rules.offset_w3c_box.Reads
use Rattle.shape.proofs.box_rules.offset_w3c_box.Tie
use Rattle.shape.proofs.box_rules.offset_w3c_box.Goals as goal

-- the facts known at these places
abbrev Start : Type 0
Start = Lts.Start Tie.the-claims Reads.Pre Reads.Post Tie.handed_clauses

abbrev After-plain-once : Type 0
After-plain-once = Lts.After-plain Tie.the-claims Reads.Pre Reads.Post Tie.handed_clauses

abbrev After-spread : Type 0
After-spread = Lts.After-spread Tie.the-claims Reads.Pre Reads.Post Tie.handed_clauses

pub confined_w3c-requires : goal.confined_w3c-requires
confined_w3c-requires c = own_box_bounded _ c.requires.own_box

-- the box as it was confined first
once_is : (c : After-plain-once) → c.plain-once.result ≡ plain_box (confined_w3c c.args.b)
once_is c = c.plain-once.ensures ∙ ap (λ (q : ConfinedBox). plain_box q) c.confined_w3c.ensures

once_own : (c : After-plain-once) → OwnBox c.plain-once.result
once_own c = subst OwnBox (sym (once_is c)) (confined_w3c_own _ c.requires.own_box)

pub offset-requires : goal.offset-requires
offset-requires c =
    let near = c.requires.near in record { bounded = area_bounded _ (own_area _ (once_own c.before.before).rectangle); near = omega (arith, int) }

pub spread-requires : goal.spread-requires
spread-requires c =
    let near = c.requires.near in record { radii_up_to = radii_up_to_wider wide_own_side wide_radius _ (omega arith) (once_own c.before.before.before).corners; near = omega (arith, int) }

abbrev spread_box_lem : After-spread → RoundedRectangle
spread_box_lem c = record { rectangle = c.offset.result; corners = c.spread.result }

spread_is : (c : After-spread) → spread_box_lem c ≡ spread_box (plain_box (confined_w3c c.args.b)) c.args.k
unfolding spread_box
spread_is c =
    box_by_fields c.offset.ensures c.spread.ensures
    ∙ ap (spread_box c.plain-once.result) (to_z-of_z c.ranges.k)
    ∙ ap (λ (q : RoundedRectangle). spread_box q c.args.k) (once_is c.before.before.before.before)

spread_area : (c : After-spread) → AreaBox (spread_box (plain_box (confined_w3c c.args.b)) c.args.k)
spread_area c = spread_box_bounded _ c.args.k (confined_w3c_own _ c.requires.own_box) c.requires.near

pub confined_w3c-requires-2 : goal.confined_w3c-requires-2
confined_w3c-requires-2 c = subst AreaBox (sym (spread_is c)) (spread_area c)

pub returns : goal.returns
returns c =
    let is = c.confined_w3c-2.ensures ∙ ap confined_w3c (spread_is c.before) in
    (is, subst ConfinedAreaBox (sym is) (confined_w3c_bounded _ (spread_area c.before)))
