use Rattle.wc_core.proofs.AnswerLemmas.{asked-open, asked-text}
use Rattle.wc_core.proofs.CoreLemmas.{ask-done}
use Rattle.wc_core.proofs.core_state.Core.ask.Goals as goal

pub follow-requires-clause-opened : goal.follow-requires-clause-opened
follow-requires-clause-opened c = asked-open c.args.link.0 c.args.request c.answer-outcome.result c.args.self.now c.answer-outcome.new.self c.requires.text c.answer-outcome.ensures

pub follow-requires-clause-text : goal.follow-requires-clause-text
follow-requires-clause-text c = asked-text c.args.link.0 c.args.request c.answer-outcome.result c.args.self.now c.answer-outcome.new.self c.requires.text c.answer-outcome.ensures

pub returns : goal.returns
returns c = ask-done c.args.self.now c.answer-outcome.new.self c.follow.new.self c.args.link.0 c.args.request c.answer-outcome.result c.requires.opened c.answer-outcome.ensures c.requires.text c.follow.ensures.does c.follow.ensures.refused c.follow.ensures.rises
