-- `styled::straight_row_of` meets its contract: what is told of a box's row is told of the figure's.
use mathlib.Core.Path.{sym, ap, subst, ◌∙◌}
use mathlib.Core.Logic.{inl, inr}
use Prim.Native.Nat.{◌≤◌}
use native.Mathlib.Omega.{arith}
use lib.IntN.{ℤ}
use mir.Facts.{to_z-of_z}
use Rattle.figure.specs.declared.Figure.TheVariants.{CrateBox, W3cBox}
use Rattle.figure.specs.Bounds.{wide_offset}
use Rattle.style.proofs.StrokeWidths.{outside_within_stroke, inside_within_stroke}
use Rattle.styled.specs.Styled.{styled_row}
use Rattle.styled_straight.specs.StraightRow.{Told}
use Rattle.styled.proofs.Told.{IsBox, own_box, figure_told}
use Rattle.styled.proofs.straight_row_of.Lts
use Rattle.styled.proofs.straight_row_of.Reads
use Rattle.styled.proofs.straight_row_of.Tie
use Rattle.styled.proofs.straight_row_of.Goals as goal
use Rattle.styled.proofs.straight_row_of.Goals.{in-CrateBox, in-W3cBox}

-- the facts known at these places
abbrev Start : Type 0
Start = Lts.Start Tie.the-claims Reads.Pre Reads.Post Tie.handed_clauses

abbrev After-inside_stroke_width-inside : Type 0
After-inside_stroke_width-inside = Lts.After-inside_stroke_width Tie.the-claims Reads.Pre Reads.Post Tie.handed_clauses

abbrev Joined-figure : Type 0
Joined-figure = Lts.At-match-branch Tie.the-claims Reads.Pre Reads.Post Tie.handed_clauses

abbrev After-straight_row : Type 0
After-straight_row = Lts.After-straight_row Tie.the-claims Reads.Pre Reads.Post Tie.handed_clauses

-- the stroke's widths are within bounds
widths : (c : After-inside_stroke_width-inside)
    → (c.outside_stroke_width-outside.result ≤ wide_offset) × (c.inside_stroke_width-inside.result ≤ wide_offset)
widths c =
    let style = c.args.style in
    let small = c.requires.stroke_width_bound in (
      omega (arith, c.outside_stroke_width-outside.ensures, outside_within_stroke style),
      omega
          (arith, c.inside_stroke_width-inside.ensures, inside_within_stroke style),
    )

-- past the match the figure is a box
is_box : (c : Joined-figure) → IsBox c.args.figure c.match-figure.b
is_box c =
    elim c.match-figure.branch [
      | in-CrateBox w ↦ inl (w.in-CrateBox.is ∙ ap CrateBox (sym w.b-is))
      | in-W3cBox w ↦ inr (w.in-W3cBox.is ∙ ap W3cBox (sym w.b-is))
    ]

pub straight_row-requires : goal.straight_row-requires
straight_row-requires c =
    let near = c.requires.near in record { own_box = own_box _ _ (is_box c) c.requires.own_figure; outside_le_wide_offset = widths c.before; near = rw (to_z-of_z near.fits) near }

-- what is told of the box, of the figure
straight_told : (c : After-straight_row)
    → Told c.straight_row.result (styled_row c.args.figure c.args.style
    c.args.y)
straight_told c =
    subst (λ (z : ℤ). Told c.straight_row.result (styled_row c.args.figure c.args.style z))
    (to_z-of_z c.requires.near.fits)
    (figure_told c.match-figure.b c.args.style _ c.straight_row.result _ _
    c.outside_stroke_width-outside.ensures c.inside_stroke_width-inside.ensures
    c.args.figure (is_box c.before)
    c.straight_row.ensures.told c.straight_row.ensures.told_2)

pub returns : goal.returns
returns c = straight_told c
