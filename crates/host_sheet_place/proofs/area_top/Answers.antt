-- `host_sheet_place::area_top` meets its contract: the figure's top less the rows above it.
use mathlib.Core.Path.{ap, ap₂, ◌∙◌}
use Prim.Native.Nat.{ℕ}
use native.Mathlib.Omega.{arith}
use lib.IntN.{pos, ◌-ℤ◌}
use mir.Facts.{to_z-of_z}
use Rattle.signed.proofs.Laws.{int}
use Rattle.host_sheet_place.specs.PlaceRules.{rows_above}
use Rattle.host_sheet_place.proofs.Area.{rows_above_le, less_near}
use Rattle.host_sheet_place.proofs.area_top.Goals as goal

pub from_u32-requires : goal.from_u32-requires
from_u32-requires c =
    let a = c.args in
    let few = c.requires.1 in
    omega (arith, c.rows_above.ensures, rows_above_le a.height a.outside)

pub sub-requires : goal.sub-requires
sub-requires c =
    let a = c.args in
    let near = c.requires.0 in
    let few = c.requires.1 in
    let wide = c.from_u32.ensures in
    let is = c.from_u32.ensures.is in
    let fits = c.from_u32.ensures.fits in
    let held = to_z-of_z near.fits in
    omega (arith, int, c.rows_above.ensures, rows_above_le a.height a.outside)

pub returns : goal.returns
returns c =
    let near = c.requires.0 in
    let wide = c.from_u32.ensures in
    let made = c.sub.ensures in
    let a = c.args in
    let few = c.requires.1 in
    let above = c.rows_above.ensures in
    let is = c.sub.ensures.is ∙ ap₂ ◌-ℤ◌ (to_z-of_z near.fits) (to_z-of_z c.from_u32.ensures.fits ∙ c.from_u32.ensures.is ∙ ap (λ (n : ℕ). pos n) c.rows_above.ensures) in
    rw (to_z-of_z c.sub.ensures.fits) (record {
      is = record { is = is; fits = c.sub.ensures.fits };
      near = less_near a.top (rows_above a.height a.outside) near
          (omega (arith, rows_above_le a.height a.outside)) is c.sub.ensures.fits;
    })
