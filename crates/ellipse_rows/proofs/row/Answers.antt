-- `ellipse_rows::row` meets its contract: the place of the asked row, the test of the first row and the search say which case of
-- `row` holds.
use Rattle.std.specs.Prelude.{Some, None}
use mathlib.Core.Path.{sym, ap, subst, ◌∙◌}
use lib.IntN.{ℤ}
use mir.Facts.{to_z-of_z}
use Rattle.scanline.specs.Points.{EndsWithin}
use Rattle.scanline.proofs.Placed.{placed_told}
use Rattle.scanline.proofs.Find.{found_at}
use Rattle.ellipse_rows.specs.Relative.{mirrored_run}
use Rattle.ellipse_rows.proofs.Rows.{first_row_wide, row_out, row_lacking, row_found, mirrored_within}
use native.Mathlib.Omega.{arith}
use Rattle.signed.proofs.Laws.{int}
use Rattle.ellipse_rows.proofs.row.Goals as goal

pub returns-in_err-dy : goal.returns-in_err-dy
returns-in_err-dy c = rw c.from_residual.ensures (
  sym (row_out c.args.ellipse c.args.y
      (placed_told _ _ _ c.requires.bounded.at.y.fits c.requires.near.fits c.place_of.ensures c.in_err-dy.was)),
  tt,
)

pub returns-then-not-has_rows : goal.returns-then-not-has_rows
returns-then-not-has_rows c = (
  sym (row_lacking c.args.ellipse c.args.y (sym c.has_rows.ensures ∙ c.if-not-has_rows.true)),
  tt,
)

pub first_inside-requires : goal.first_inside-requires
first_inside-requires c =
    let wide = first_row_wide _ _ (sym c.has_rows.ensures ∙ c.if-not-has_rows.false) in
    let tall = c.requires.bounded.size.height in record { small_weights = c.new-test.ensures.1; width_nonzero = (wide, c.requires.bounded.size.width, omega arith); from_bound = (omega arith, c.requires.bounded.size.width) }

pub returns-in_err-k : goal.returns-in_err-k
returns-in_err-k c = rw c.from_residual-in_err-k.ensures (
  row_found c.args.ellipse c.args.y _ _ _ None
      (placed_told _ _ _ c.requires.bounded.at.y.fits c.requires.near.fits c.place_of.ensures c.in_ok-dy.was)
      (sym c.has_rows.ensures ∙ c.if-not-has_rows.false) c.new-test.ensures.0 c.gap.ensures.0
      (sym c.in_err-k.was ∙ c.first_inside.ensures),
  tt,
)

pub mirrored-requires : goal.mirrored-requires
mirrored-requires c =
    let found = (found_at _ _ _ _ (sym c.first_inside.ensures ∙ c.in_ok-k.was)).below in record { near = omega (arith, int); width_le_wide_side = (c.requires.bounded.size.width, omega arith) }

pub returns : goal.returns
returns c =
    let k = c.in_ok-k.k in
    let e = c.args.ellipse in
    let run = c.mirrored.ensures ∙ ap (λ (z : ℤ). mirrored_run z e.size.width k) (to_z-of_z c.requires.bounded.at.x.fits) in
    let found = (found_at _ _ _ _ (sym c.first_inside.ensures ∙ c.in_ok-k.was)).below in (
      ap Some run
          ∙ row_found e c.args.y _ _ _ (Some k)
          (placed_told _ _ _ c.requires.bounded.at.y.fits c.requires.near.fits c.place_of.ensures c.in_ok-dy.was)
          (sym c.has_rows.ensures ∙ c.if-not-has_rows.false) c.new-test.ensures.0 c.gap.ensures.0
          (sym c.in_ok-k.was ∙ c.first_inside.ensures),
      subst (EndsWithin e.top_left.x e.size.width) (sym run)
          (mirrored_within e.top_left.x e.size.width k (omega arith)),
    )
