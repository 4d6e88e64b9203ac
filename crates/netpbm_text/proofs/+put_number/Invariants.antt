-- `netpbm_text::put_number` calls itself: the number is the measure.
use Rattle.netpbm_text.proofs.+put_number.Given as goal

abbrev pub decreases-put_number : goal.decreases-put_number
decreases-put_number l = l.n
