-- `canvas_row::paint_row_on` meets its contract: by where the row lies, and by whether there is one.
use native.Mathlib.Omega.{arith}
use mathlib.Core.Path.{◌≡◌, sym, ap, subst, ◌∙◌}
use mathlib.Core.Bool.{true, false}
use Prim.Native.Nat.{ℕ, ◌<◌}
use lib.IntN.{ℤ, pos}
use lib.Signed.{lt_z}
use mir.Facts.{to_z-of_z}
use mir.Syntax.{w32}
use mir.Val.{to_z, of_z}
use Rattle.signed.specs.Signed.{floor0}
use Rattle.book.proofs.CanvasRows.{row_within}
use Rattle.canvas.specs.Canvas.{overpaint_at}
use Rattle.canvas_row.proofs.PaintBy.{paint_by_above, paint_by_below, paint_by_runs, paint_by_lacking}
use Rattle.canvas_row.proofs.paint_row_on.Lts
use Rattle.canvas_row.proofs.paint_row_on.Reads
use Rattle.canvas_row.proofs.paint_row_on.Tie
use Rattle.canvas_row.proofs.paint_row_on.Goals as goal

-- the facts known at these places
abbrev Start : Type 0
Start = Lts.Start Tie.the-claims Reads.Pre Reads.Post Tie.handed_clauses

abbrev Else-y-lt0 : Type 0
Else-y-lt0 = Lts.Else1 Tie.the-claims Reads.Pre Reads.Post Tie.handed_clauses

abbrev After-floor0-place : Type 0
After-floor0-place = Lts.After-floor0 Tie.the-claims Reads.Pre Reads.Post Tie.handed_clauses

abbrev Else-size-place : Type 0
Else-size-place = Lts.Else2 Tie.the-claims Reads.Pre Reads.Post Tie.handed_clauses

-- the asked row as it is held is the asked row
row_held : (c : Start) → to_z w32 (of_z w32 c.args.y) ≡ c.args.y
row_held c = to_z-of_z c.requires.near.fits

-- on the canvas: not above it, and not below it
not_above : (c : Else-y-lt0) → lt_z c.args.y (pos 0) ≡ false
not_above c = subst (λ (z : ℤ). lt_z z (pos 0) ≡ false) (row_held c.before.before) c.if-y-lt0.false

place_is : (c : After-floor0-place) → c.floor0-place.result ≡ floor0 c.args.y
place_is c = c.floor0-place.ensures ∙ ap (λ (z : ℤ). floor0 z) (row_held c.before.before.before)

not_below : (c : Else-size-place) → floor0 c.args.y < c.args.size.height
not_below c =
    let left = c.if-size-place.false in
    omega (arith, place_is c.before.before)

pub returns-then-y-lt0 : goal.returns-then-y-lt0
returns-then-y-lt0 c =
    let a = c.args in
    sym (paint_by_above (λ _. a.row) a.style a.size.width a.size.height a.canvas.now a.y
    (subst (λ (z : ℤ). lt_z z (pos 0) ≡ true) (row_held c.before.before.before) c.if-y-lt0.true))

pub returns-then-size-place : goal.returns-then-size-place
returns-then-size-place c =
    let a = c.args in
    let past = c.if-size-place.true in
    sym (paint_by_below (λ _. a.row) a.style a.size.width a.size.height a.canvas.now a.y
    (not_above c.before.before.before.before) (omega (arith, place_is c.before.before.before)))

pub returns-in_default : goal.returns-in_default
returns-in_default c =
    let a = c.args in
    sym (paint_by_lacking (λ _. a.row) a.style a.size.width a.size.height a.canvas.now a.y c.in_default.is)

pub paint_row_at-requires : goal.paint_row_at-requires
paint_row_at-requires c =
    let at_floor0 = c.floor0-place in
    let low = not_below c.before.before in
    let place_low : c.floor0-place.result < c.args.size.height = omega
    (arith, place_is c.before.before.before.before) in record {
      width_le_wide_side = c.requires.width_le_wide_side;
      width_in_bounds = row_within c.args.size.width c.args.size.height _ c.args.canvas.now place_low
          c.requires.canvas_len;
    }

pub returns : goal.returns
returns c =
    let a = c.args in
    let runs = c.in-Some.runs in
    c.paint_row_at.ensures
    ∙ ap (λ (n : ℕ). overpaint_at a.size.width n a.style runs a.canvas.now) (place_is c.before.before.before.before.before.before.before.before)
    ∙ sym (paint_by_runs (λ _. a.row) a.style a.size.width a.size.height a.canvas.now a.y (not_above c.before.before.before.before.before.before.before.before.before)
    (not_below c.before.before.before.before.before.before) runs c.in-Some.is)
