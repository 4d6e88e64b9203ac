-- `host_sheet_record::remove_place` meets its contract: later places moved down, then the last one made an unused one.
use mathlib.Core.Path.{ap₂, ◌∙◌}
use mathlib.Core.List.{List}
use Prim.Native.Nat.{◌-◌}
use lib.IntN.{ℤ}
use lib.Seq.{sets}
use Rattle.host_sheet_record.specs.SheetRecord.{layer_length, sheet_length}
use Rattle.host_sheet_record.proofs.Removed.{removed_by_sets}
use Rattle.host_sheet_record.proofs.remove_place.Goals as goal

pub returns : goal.returns
returns c =
    let numbers = c.args.numbers.now in
    let i = c.args.place in
    c.put_from.ensures
    ∙ ap₂ (λ (l unused : List ℤ). sets l (sheet_length - layer_length) unused) c.move_down.ensures
    c.unused_place-unused.ensures
    ∙ removed_by_sets numbers c.requires.0 i c.requires.1
