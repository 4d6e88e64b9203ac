-- What the call that lists points says to a host that gives numbers, and what it leaves.
-- Assumes nothing.
use Rattle.std.specs.Prelude.{List, ℕ, ℤ}
use Rattle.refusal.specs.Refusal.{or_else, Outcome, keeping, room_check, Checked}
use Rattle.figure.specs.Calls.{figure_check}
use Rattle.figure_points.specs.Points.{points_call, list_after}
use Rattle.host_records.specs.RecordNumbers.{is_figure, figure_of}
use Rattle.host_answers.specs.HostAnswers.{of_record, if_record, after_check}

-- `figure_points::points`: of the host's two lists the one for the number of pairs is looked at first, so that nothing is written where
-- it has no room
abbrev pub points_room : List ℤ → ℕ → Checked
points_room figure room = or_else (figure_check (figure_of figure)) (room_check 1 room)

-- what it says
abbrev pub points_said : List ℤ → List ℤ → ℕ → Outcome
points_said figure list room = of_record (is_figure figure) (after_check (points_room figure room) (points_call (figure_of figure) list))

-- and the list of pairs afterwards
abbrev pub pairs_after : List ℤ → List ℤ → ℕ → List ℤ
pairs_after figure list room = if_record (is_figure figure) list (keeping (points_room figure room) list (list_after (figure_of figure) list))
