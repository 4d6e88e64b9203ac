-- `ellipse_styled::runs_at` meets its contract: the search says where the fill starts, if anywhere.
use mathlib.Core.Path.{sym, ◌∙◌}
use mir.Facts.{to_z-of_z}
use Rattle.scanline.proofs.Find.{found_at}
use native.Mathlib.Omega.{arith}
use Rattle.ellipse_styled.proofs.runs_at.Goals as goal

pub filled_runs-requires : goal.filled_runs-requires
filled_runs-requires c =
    let below = (found_at _ _ _ _ (sym c.scan_inside.ensures ∙ c.in-Some.is)).below in record { near = rw (to_z-of_z c.ranges.left) c.requires.near; width_le_wide_side = (omega arith, omega arith, omega arith) }
