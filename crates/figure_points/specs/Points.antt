-- What the call that lists a figure's points promises: document 01, 'Box rows and points', with the refusals 1, 2, 3 and 13.
-- Assumes nothing.
use Rattle.refusal.specs.declared.Refusal.{Refusal}
use Rattle.std.specs.Prelude.{List, [], ◌∷◌, ℕ, ◌*◌, ℤ, pos, length, Result}
use Rattle.std.proofs.lemmas.List.Edits.{sets}
use Rattle.refusal.specs.Refusal.{or_else, Outcome, unless, keeping, room_check, Checked, outcome}
use Rattle.scanline.specs.Points.{entries}
use Rattle.figure.specs.declared.Figure.{Figure}
use Rattle.figure.specs.Figure.{points}
use Rattle.figure.specs.Calls.{figure_check}

-- the number of pairs
abbrev pub points_outcome : Result ℕ Refusal → Outcome
points_outcome = outcome (λ n. pos n ∷ [])

-- `points`: 1, 2, 3, 13; the list needs two entries for each pair, and entries past the pairs stay
unfoldable pub points_check : Figure → ℕ → Checked
points_check f room = or_else (figure_check f) (room_check (2 * length (points f)) room)

abbrev pub points_call : Figure → List ℤ → Outcome
points_call f list = unless (points_check f (length list)) (pos (length (points f)) ∷ [])

abbrev pub list_after : Figure → List ℤ → List ℤ
list_after f list = keeping (points_check f (length list)) list (sets list 0 (entries (points f)))
