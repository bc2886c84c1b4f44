use Rattle.wc_core.proofs.CoreLemmas.{starves-as}
use Rattle.std.proofs.Common.{ap, sym, ◌∙◌, ◌++◌, None, Some}
use Rattle.wc_irc_words.specs.Typed.{asked_of}
use Rattle.wc_irc_words.specs.TypedSeen.{meaning}
use Rattle.wc_core.proofs.AskedLemmas.{serves-as}
use Rattle.wc_core.proofs.core_state.Core.serve_line.Goals as goal

pub serve_command-requires-clause-asked : goal.serve_command-requires-clause-asked
serve_command-requires-clause-asked c = sym (c.in-Some.ensures ∙ ap asked_of (c.as_slice.ensures ∙ c.in-Ok.ensures))

pub returns-in-Some : goal.returns-in-Some
returns-in-Some c =
    serves-as c.args.self.now c.serve_command.new.self c.args.buffer c.args.line.now (c.args.front.now ++ c.args.name.now) (Some (meaning c.in-Some.command)) (c.in-Some.ensures ∙ ap asked_of (c.as_slice.ensures ∙ c.in-Ok.ensures))
    (c.serve_command.ensures (c.args.front.now ++ c.args.name.now))

pub returns-in_default : goal.returns-in_default
returns-in_default c = λ told. starves-as c.args.self.now c.starve.new.self c.starve.ensures.counts c.starve.ensures.rises told _

pub returns : goal.returns
returns c =
    serves-as c.args.self.now c.refuse.new.self c.args.buffer c.args.line.now (c.args.front.now ++ c.args.name.now) None (c.in-None.ensures ∙ ap asked_of (c.as_slice.ensures ∙ c.in-Ok.ensures)) c.refuse.ensures
