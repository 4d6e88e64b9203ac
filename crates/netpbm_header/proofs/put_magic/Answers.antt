-- `netpbm_header::put_magic` meets its contract: the bytes put are those of the format.
use Rattle.netpbm_header.proofs.put_magic.Goals as goal

pub returns-in-P4 : goal.returns-in-P4
returns-in-P4 c = rw c.in-P4.is c.put.ensures

pub returns-in-P5 : goal.returns-in-P5
returns-in-P5 c = rw c.in-P5.is c.put-in-P5.ensures
