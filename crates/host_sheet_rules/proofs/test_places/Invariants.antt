-- `host_sheet_rules::test_places` meets its contract: what is known of the places behind is known of one more, or the whole breaks
-- a rule. At the end it is known of all.
use Rattle.host_sheet_rules.proofs.Walk.{WalkedTo}
use Rattle.host_sheet_rules.proofs.test_places.Given as goal

abbrev pub invariant-loop-place : goal.invariant-loop-place
invariant-loop-place l = WalkedTo l.numbers l.count l.layer l.y l.painted l.asked l.place
