-- `netpbm_header::fixed_length` meets its contract: in each format it counts the magic, LF, space and ending.
use Rattle.netpbm_header.proofs.fixed_length.Goals as goal

pub returns-in-P4 : goal.returns-in-P4
returns-in-P4 c = rw c.in-P4.is

pub returns-in-P5 : goal.returns-in-P5
returns-in-P5 c = rw c.in-P5.is
