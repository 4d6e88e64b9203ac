-- `sheet_remove::lay_over` meets its contract. Invariant: the layers that are left, laid over the canvas, make the whole.
use mathlib.Core.Path.{◌≡◌}
use mathlib.Core.List.{map}
use lib.ListN.{length, take, drop}
use Rattle.sheet_layers.specs.Layers.{layer_of}
use Rattle.sheet_remove.specs.Removal.{laid_over}
use Rattle.sheet_remove.proofs.lay_over.Given as goal

abbrev pub invariant-loop-j : goal.invariant-loop-j
invariant-loop-j l =
    (laid_over l.size.width l.size.height l.from l.to (map layer_of (drop l.j (take l.end l.layers))) l.canvas
    ≡ laid_over l.size.width l.size.height l.from l.to (map layer_of (drop l.first (take l.end l.layers))) l.initial.canvas)
    × (length l.canvas ≡ length l.initial.canvas)
