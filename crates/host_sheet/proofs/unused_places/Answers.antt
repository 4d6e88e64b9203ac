-- `host_sheet::unused_places` meets its contract. Invariant: the paints of the first j places are absent.
use mathlib.Core.Path.{◌≡◌, refl, ap, ◌∙◌}
use mathlib.Core.List.{List}
use Prim.Native.Nat.{◌+◌}
use native.Mathlib.Omega.{arith}
use lib.IntN.{ℤ}
use lib.ListN.{set}
use Rattle.geometry.specs.Limits.{max_layers}
use Rattle.host_records.specs.RecordNumbers.{absent_paint}
use Rattle.host_sheet_record.specs.SheetRecord.{style_at, place_at}
use Rattle.host_sheet.proofs.Unused.{unused_up_to, unused_next, unused_all}
use Rattle.host_sheet.proofs.unused_places.Goals as goal

pub loop-j-init : goal.loop-j-init
unfolding unused_up_to
loop-j-init c = refl

pub loop-j-preserved : goal.loop-j-preserved
loop-j-preserved c =
    ap (λ (l : List ℤ). set (set l (place_at c.loop-j.j + style_at) absent_paint) (place_at c.loop-j.j + style_at + 1) absent_paint)
    c.loop-j.invariant ∙ unused_next c.loop-j.j

pub returns : goal.returns
returns c =
    let turn = c.loop-j in
    let all : c.loop-j.j ≡ max_layers = omega arith in
    c.loop-j.invariant ∙ ap unused_up_to all ∙ unused_all
