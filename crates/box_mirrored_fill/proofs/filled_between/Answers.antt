-- `box_mirrored_fill::filled_between` meets its contract: the test says whether a column between is in the run.
use mathlib.Core.Path.{◌≡◌, ap, ◌∙◌}
use Prim.Native.Nat.{ℕ, ◌-◌, min, max}
use lib.IntN.{ℤ, pos, ◌+ℤ◌}
use mir.Facts.{to_z-of_z}
use Rattle.geometry_range.proofs.Fields.{range_by_fields}
use Rattle.box_fill.specs.Relative.{place_in}
use Rattle.box_fill.proofs.Rows.{place_read}
use Rattle.box_mirrored_fill.proofs.MirroredFill.{between_some, between_none}
use Rattle.box_mirrored_fill.proofs.filled_between.Lts
use Rattle.box_mirrored_fill.proofs.filled_between.Reads
use Rattle.box_mirrored_fill.proofs.filled_between.Tie
use Rattle.box_mirrored_fill.proofs.filled_between.Goals as goal

abbrev After-least-end : Type 0
After-least-end = Lts.After-least Tie.the-claims Reads.Pre Reads.Post Tie.handed_clauses

first_is : (c : After-least-end) → c.most-begin.result
    ≡ max (place_in c.args.left c.args.width c.args.run.start) c.args.k
first_is c =
    let at_place_in = c.place_in in
    let pre = c.requires in
    c.most-begin.ensures
    ∙ ap (λ (n : ℕ). max n c.args.k) (place_read _ _ _ _ c.requires.near.fits c.requires.near_run.start.fits c.place_in.ensures.0)

end_is : (c : After-least-end) → c.least-end.result
    ≡ min (place_in c.args.left c.args.width c.args.run.end) (c.args.width - c.args.k)
end_is c =
    let pre = c.requires in
    c.least-end.ensures
    ∙ ap (λ (n : ℕ). min n (c.args.width - c.args.k))
    (place_read _ _ _ _ c.requires.near.fits c.requires.near_run.end.fits c.place_in-2.ensures.0)

pub returns-then-begin-end : goal.returns-then-begin-end
returns-then-begin-end c =
    let a = c.args in
    let left_is = to_z-of_z c.requires.near.fits in
    let start = c.from_first.ensures in
    let end = c.from_first-then-begin-end.ensures in
    range_by_fields
    (to_z-of_z c.from_first.ensures.fits ∙ c.from_first.ensures.is ∙ ap (λ (z : ℤ). z +ℤ pos c.most-begin.result) left_is)
    (to_z-of_z c.from_first-then-begin-end.ensures.fits ∙ c.from_first-then-begin-end.ensures.is ∙ ap (λ (z : ℤ). z +ℤ pos c.least-end.result) left_is)
    ∙ between_some a.left a.width a.run a.k _ _ (first_is c.before.before.before) (end_is c.before.before.before) c.if-begin-end.true

pub returns : goal.returns
returns c =
    let a = c.args in
    between_none a.left a.width a.run a.k _ _ (first_is c.before) (end_is c.before) c.if-begin-end.false
