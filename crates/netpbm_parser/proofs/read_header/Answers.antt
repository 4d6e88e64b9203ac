-- `netpbm_parser::read_header` meets its contract: the magic says the format, and what follows it is read.
use mathlib.Core.Path.{sym, ◌∙◌}
use mathlib.Core.List.{[], ◌∷◌}
use Rattle.netpbm_parser.specs.Parser.{file_header}
use Rattle.netpbm_parser.proofs.Capped.{begins, starts_long}
use Rattle.netpbm_parser.proofs.read_header.Goals as goal

pub read_sides-requires : goal.read_sides-requires
read_sides-requires c = starts_long _ _ (sym (c.starts_with.ensures.value ∙ begins (80 ∷ 52 ∷ []) c.args.file.now) ∙ c.if-starts_with.true)

pub returns-then-starts_with : goal.returns-then-starts_with
unfolding file_header
returns-then-starts_with c =
    let is = sym (c.starts_with.ensures.value ∙ begins (80 ∷ 52 ∷ []) c.args.file.now) ∙ c.if-starts_with.true in record { result_value = rw is c.read_sides.ensures.result_value; header_within = c.read_sides.ensures.header_within }

pub read_sides-requires-then-starts_with-2 : goal.read_sides-requires-then-starts_with-2
read_sides-requires-then-starts_with-2 c = starts_long _ _ (sym (c.starts_with-2.ensures.value ∙ begins (80 ∷ 53 ∷ []) c.args.file.now) ∙ c.if-starts_with-2.true)

pub returns-then-starts_with-2 : goal.returns-then-starts_with-2
unfolding file_header
returns-then-starts_with-2 c =
    let other = sym (c.starts_with.ensures.value ∙ begins (80 ∷ 52 ∷ []) c.args.file.now) ∙ c.if-starts_with.false in
    let is = sym (c.starts_with-2.ensures.value ∙ begins (80 ∷ 53 ∷ []) c.args.file.now) ∙ c.if-starts_with-2.true in record { result_value = rw (other, is) c.read_sides-then-starts_with-2.ensures.result_value; header_within = c.read_sides-then-starts_with-2.ensures.header_within }

pub returns : goal.returns
unfolding file_header
returns c =
    let other = sym (c.starts_with.ensures.value ∙ begins (80 ∷ 52 ∷ []) c.args.file.now) ∙ c.if-starts_with.false in
    let neither = sym (c.starts_with-2.ensures.value ∙ begins (80 ∷ 53 ∷ []) c.args.file.now) ∙ c.if-starts_with-2.false in record { result_value = rw (other, neither); header_within = tt }
