-- What a list of sheet calls run for a host says, and what it leaves.
-- Assumes nothing.
use Rattle.std.specs.Prelude.{List, ℕ, ℤ, length}
use Rattle.sheet.specs.declared.Sheet.{Sheet}
use Rattle.sheet_call_numbers.specs.CallNumbers.{calls_of}
use Rattle.sheet_calls.specs.SheetCalls.{RunSays, all_ran, not_calls, refused_by, run_answer, RunLeaves}
use Rattle.host_answers.specs.HostAnswers.{no_record}

-- `run_calls`: the number for what the run says
abbrev pub run_number : RunSays → ℕ
run_number all_ran = 0
run_number not_calls = no_record
run_number (refused_by n) = n

-- and what it leaves: the canvas and the answers are those of the run, each removal with the background that is lent, and with some
-- sheet that the host does not get
pub record RunTold (W H : ℕ) (numbers : List ℤ) (lent background list canvas told : List ℕ) : Type 0 where
  pub sheet : Sheet
  pub leaves : RunLeaves (run_answer W H numbers (length lent) (length list)) W H (calls_of background numbers) lent list sheet canvas told
