-- `host_values::put_flag` meets its contract: 1 or 0, by the flag.
use Rattle.host_values.proofs.put_flag.Goals as goal

pub returns-then-inside : goal.returns-then-inside
returns-then-inside c = rw c.if-inside.true c.put_count.ensures

pub returns : goal.returns
returns c = rw c.if-inside.false c.put_count-2.ensures
