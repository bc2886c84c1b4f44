use Rattle.std.proofs.Common.{ap, sym, ◌∙◌, Some}
use Rattle.wc_irc_words.proofs.TypedLemmas.{command_named, asked_by}
use Rattle.wc_irc_words.proofs.typed.command.Goals as goal

pub returns-in-Some : goal.returns-in-Some
returns-in-Some c =
    ap Some c.asked.ensures ∙ sym (ap (λ o. asked_by o c.args.text.now) (sym c.named.ensures ∙ c.in-Some.is)) ∙ command_named c.args.name.now c.args.text.now

pub returns-in-None : goal.returns-in-None
returns-in-None c =
    sym (ap (λ o. asked_by o c.args.text.now) (sym c.named.ensures ∙ c.in-None.is)) ∙ command_named c.args.name.now c.args.text.now
