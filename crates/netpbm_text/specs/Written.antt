-- What the functions that put bytes into a lent buffer promise, for every format alike: which bytes stand where, that all others
-- stay, and where the next ones go.
-- Assumes nothing.
use Rattle.std.specs.Prelude.{◌≡◌, List, ℕ, ◌+◌, length}
use Rattle.std.proofs.lemmas.List.Edits.{sets}

-- the bytes were put into before from the place at on, which left after, and next is the place behind them
pub record Wrote (before : List ℕ) (at : ℕ) (bytes after : List ℕ) (next : ℕ) : Type 0 where
  pub list : after ≡ sets before at bytes
  pub place : next ≡ at + length bytes
