-- `netpbm_header::put_header` meets its contract: five writes, each from where the one before ended, are one write of the header. There is
-- room for each because there is room for all.
use native.Mathlib.Omega.{arith}
use Rattle.netpbm_header.specs.Header.{header}
use Rattle.netpbm_text.proofs.Written.{wrote_then}
use Rattle.netpbm_header.proofs.Header.{length_opening, length_header}
use Rattle.netpbm_header.proofs.put_header.Lts
use Rattle.netpbm_header.proofs.put_header.Reads
use Rattle.netpbm_header.proofs.put_header.Tie
use Rattle.netpbm_header.proofs.put_header.Goals as goal

-- the facts known at these places
abbrev Start : Type 0
Start = Lts.Start Tie.the-claims Reads.Pre Reads.Post

abbrev After-put_magic-width_at : Type 0
After-put_magic-width_at = Lts.After-put_magic Tie.the-claims Reads.Pre Reads.Post

abbrev After-put_number-space_at : Type 0
After-put_number-space_at = Lts.After-put_number Tie.the-claims Reads.Pre Reads.Post

abbrev After-put-height_at : Type 0
After-put-height_at = Lts.After-put Tie.the-claims Reads.Pre Reads.Post

abbrev After-put_number-ending_at : Type 0
After-put_number-ending_at = Lts.After-put_number2 Tie.the-claims Reads.Pre Reads.Post

abbrev After-put_ending : Type 0
After-put_ending = Lts.After-put_ending Tie.the-claims Reads.Pre Reads.Post

-- from each write back to the one before it, and from the first to the entry
abbrev entry : After-put_magic-width_at → Start
entry c = c.before.before.before

abbrev magic_put : After-put_number-space_at → After-put_magic-width_at
magic_put c = c.before.before.before.before

abbrev width_put : After-put-height_at → After-put_number-space_at
width_put c = c.before.before.before.before.before.before

pub put_magic-width_at-requires : goal.put_magic-width_at-requires
put_magic-width_at-requires c =
    let a = c.args in
    omega (arith, length_header a.format a.size.width a.size.height, length_opening a.format)

pub put_number-space_at-requires : goal.put_number-space_at-requires
put_number-space_at-requires c =
    let a = c.args in
    omega (arith, length_header a.format a.size.width a.size.height, length_opening a.format)

pub put-height_at-requires : goal.put-height_at-requires
put-height_at-requires c =
    let a = c.args in
    omega (arith, length_header a.format a.size.width a.size.height, length_opening a.format)

pub put_number-ending_at-requires : goal.put_number-ending_at-requires
put_number-ending_at-requires c =
    let a = (entry (magic_put c.before.before.before.before.before.before.before.before.before)).args in
    omega (arith, length_header a.format a.size.width a.size.height, length_opening a.format)

pub put_ending-requires : goal.put_ending-requires
put_ending-requires c =
    let a = (entry (magic_put (width_put c.before.before.before.before.before.before.before))).args in
    omega (arith, length_header a.format a.size.width a.size.height, length_opening a.format)

pub returns : goal.returns
unfolding header
returns c =
    let to_width = wrote_then c.put_magic-width_at.ensures c.put_number-space_at.ensures in
    let to_height = wrote_then (wrote_then to_width c.put-height_at.ensures) c.put_number-ending_at.ensures in
    wrote_then to_height c.put_ending.ensures
