-- `netpbm_read::read_beside` meets its contract: what is read of the header, as far as it is kept, is checked as the definition says;
-- and one that passes is kept as it is.
use Rattle.std.specs.Prelude.{Option}
use Rattle.std.proofs.Common.{rules}
use mathlib.Core.Path.{◌≡◌, sym, ap, ◌∙◌}
use lib.ListN.{length, drop, length-drop}
use Rattle.refusal.specs.Refusal.{answered}
use Rattle.netpbm_parser.specs.declared.Header.{Header}
use Rattle.netpbm_parser.specs.Parser.{ReadHeader, headed, file_header}
use Rattle.netpbm_parser.specs.Capped.{capped_header, header_in}
use Rattle.netpbm_read.specs.Read.{read_check, sides_of, canvas_of}
use Rattle.netpbm_read.proofs.Reading.{check_made, check_capped, header_kept, read_passed_length, read_passed_bytes}
use Rattle.netpbm_read.proofs.read_beside.Lts
use Rattle.netpbm_read.proofs.read_beside.Reads
use Rattle.netpbm_read.proofs.read_beside.Tie
use Rattle.netpbm_read.proofs.read_beside.Goals as goal

-- the facts known at this place
abbrev After-check_read : Type 0
After-check_read = Lts.After-check_read Tie.the-claims Reads.Pre Reads.Post Tie.handed_clauses

seen : (c : After-check_read)
    → let h = c.in_ok-header.header in
    headed h.format h.width h.height (drop h.raster c.args.file.now) ≡ capped_header (file_header c.args.file.now)
seen c = sym (ap (λ (r : (Option Header)). header_in c.args.file.now r) (c.in_ok-header.ensures.ok_part)) ∙ c.read_header.ensures.result_value

-- the check made is the definition's, of the header as it is kept and as it is
checked : (c : After-check_read)
    → let h = c.in_ok-header.header in
    c.check_read.result ≡ read_check (headed h.format h.width h.height (drop h.raster c.args.file.now)) (length c.args.canvas.now) c.args.room
checked c = let h = c.in_ok-header.header in
    c.check_read.ensures
    ∙ check_made h.format h.width h.height (length c.args.canvas.now) _ (drop h.raster c.args.file.now)
    c.args.room
    (sym (length-drop h.raster c.args.file.now))

made : (c : After-check_read)
    → c.check_read.result ≡ read_check (file_header c.args.file.now) (length c.args.canvas.now) c.args.room
made c =
    checked c
    ∙ ap (λ (h : ReadHeader). read_check h (length c.args.canvas.now) c.args.room) (seen c)
    ∙ check_capped (file_header c.args.file.now) (length c.args.canvas.now) c.args.room

pub returns-in_err-check_read : goal.returns-in_err-check_read
returns-in_err-check_read c = rw (sym (made c.before.before.before.before) ∙ c.in_err-check_read.was) (search rules)

pub read_headed-requires-clause-canvas_len : goal.read_headed-requires-clause-canvas_len
read_headed-requires-clause-canvas_len c =
    read_passed_length _ _ _ _ _ c.args.room (sym (checked c.before.before.before.before) ∙ c.in_ok-check_read.was)

pub read_headed-requires-clause-canvas_in_bounds : goal.read_headed-requires-clause-canvas_in_bounds
read_headed-requires-clause-canvas_in_bounds c =
    read_passed_bytes _ _ _ _ _ c.args.room (sym (checked c.before.before.before.before) ∙ c.in_ok-check_read.was)

pub returns : goal.returns
returns c =
    let a = c.args in
    let passed = sym (made c.before.before.before.before.before.before.before) ∙ c.in_ok-check_read.was in
    let whole = seen c.before.before.before.before.before.before.before ∙ header_kept (file_header a.file.now) (length a.canvas.now) a.room passed in
    rw passed
    (record { result_value = c.read_headed.ensures.result_value ∙ ap (λ (h : ReadHeader). answered (sides_of h)) whole; canvas_after = c.read_headed.ensures.canvas_after ∙ ap (λ (h : ReadHeader). canvas_of h) whole })
