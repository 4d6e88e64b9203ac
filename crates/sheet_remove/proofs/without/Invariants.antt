-- `sheet_remove::without` meets its contract. Invariant: up to place j the places are those of the list without the one taken out.
use mathlib.Core.Path.{◌≡◌}
use lib.ListN.{length, take}
use Rattle.book.specs.Book.{without}
use Rattle.sheet_remove.proofs.without.Given as goal

abbrev pub invariant-loop-j : goal.invariant-loop-j
invariant-loop-j l =
    (length l.moved ≡ 16) × (take l.j l.moved ≡ take l.j (without l.place l.places))
