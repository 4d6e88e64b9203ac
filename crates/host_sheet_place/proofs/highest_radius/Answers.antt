-- `host_sheet_place::highest_radius` meets its contract: by whether any will do.
use borrow.Author.Rules.{rules}
use mathlib.Core.Path.{refl}
use Rattle.host_sheet_place.proofs.highest_radius.Goals as goal

pub returns-then-any : goal.returns-then-any
returns-then-any c = rw c.if-any.true (record { is = refl; fits = search rules })

pub returns-else-any : goal.returns-else-any
returns-else-any c = rw c.if-any.false (record { is = refl; fits = search rules })
