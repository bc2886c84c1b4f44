use Rattle.std.proofs.Common.{sym, ◌∙◌}
use Rattle.wc_options.proofs.QuotesLemmas.{plain_byte, no_byte}
use Rattle.wc_options.proofs.quotes.escaped_byte.Goals as goal

pub returns-else-is_marked-clause-value : goal.returns-else-is_marked-clause-value
returns-else-is_marked-clause-value c =
    plain_byte c.args.text.now c.in-Some.others.now c.in-Some.byte.now c.in-Some.ensures.cases.0 (sym c.is_marked.ensures ∙ c.if-is_marked.false)

pub returns-in-None-clause-value : goal.returns-in-None-clause-value
returns-in-None-clause-value c = no_byte c.args.text.now c.in-None.ensures.cases
