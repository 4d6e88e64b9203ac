-- What writing a canvas as P4 or P5 and reading such a file say to a host, and what they leave.
-- Assumes nothing.
use Rattle.std.specs.Prelude.{List, ℕ, length}
use Rattle.refusal.specs.Refusal.{or_else, Outcome, keeping, room_check, Checked}
use Rattle.canvas_size.specs.CanvasSize.{canvas_size_check, canvas_length_check}
use Rattle.netpbm_header.specs.declared.Format.{Format}
use Rattle.netpbm.specs.Netpbm.{write_call, file_after}
use Rattle.netpbm_read.specs.Read.{read_beside, canvas_beside}
use Rattle.host_answers.specs.HostAnswers.{after_check}

-- `write_p4`, `write_p5`: of the host's two buffers the one for the length is looked at first, so that nothing is written where it has no
-- room
abbrev pub write_room : ℕ → ℕ → List ℕ → ℕ → Checked
write_room W H canvas room =
    or_else (or_else (canvas_size_check W H) (canvas_length_check W H (length canvas))) (room_check 1 room)

-- what they say
abbrev pub write_said : Format → ℕ → ℕ → List ℕ → List ℕ → ℕ → Outcome
write_said format W H canvas file room = after_check (write_room W H canvas room) (write_call format W H canvas file)

-- and the file buffer afterwards
abbrev pub written_after : Format → ℕ → ℕ → List ℕ → List ℕ → ℕ → List ℕ
written_after format W H canvas file room = keeping (write_room W H canvas room) file (file_after format W H canvas file)

-- `read`: the room for W and H is looked at before 15. What it says, and the canvas afterwards
abbrev pub read_said : List ℕ → List ℕ → ℕ → Outcome
read_said file canvas room = read_beside (room_check 2 room) file canvas

abbrev pub read_after : List ℕ → List ℕ → ℕ → List ℕ
read_after file canvas room = canvas_beside (room_check 2 room) file canvas
