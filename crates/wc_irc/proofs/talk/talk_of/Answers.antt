use Rattle.std.proofs.Common.{ap, ◌∙◌}
use Rattle.wc_irc.specs.SpeechActs.{talk_in}
use Rattle.wc_irc.proofs.TalkLemmas.{request_made, request_none}
use Rattle.wc_irc.proofs.talk.talk_of.Goals as goal

pub returns-in-Some : goal.returns-in-Some
returns-in-Some c = c.requested.ensures c.args.text.now ∙ ap (talk_in c.args.text.now) (request_made c.args.text.now c.in-Some.word.now c.in-Some.rest.now c.in-Some.ensures.found)

pub returns-in-None : goal.returns-in-None
returns-in-None c = ap (talk_in c.args.text.now) (request_none c.args.text.now (λ word rest ctcp. c.in-None.ensures.only word rest ctcp))
