use Rattle.wc_options.proofs.QuotesLemmas.{only-quoted}
use Rattle.wc_options.proofs.quotes.unquote.Goals as goal

pub returns-in-Some-clause-only : goal.returns-in-Some-clause-only
returns-in-Some-clause-only c = only-quoted c.unescape.result c.args.text.now c.in-Some.rest.now c.in-Some.ensures.cases.1 c.in-Some.ensures.cases.0 c.unescape.ensures
