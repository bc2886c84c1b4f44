use Rattle.std.proofs.Common.{sym, subst}
use Rattle.std.proofs.lemmas.Result.{IfOk-weaker}
use Rattle.wc_irc.specs.CommandLaws.{AreInLine}
use Rattle.wc_irc.specs.ServersSeen.{seen}
use Rattle.wc_irc.proofs.CommandLawLemmas.{typed_lines, typed_spelled}
use Rattle.wc_irc.proofs.server.Server.on_command.Goals as goal

pub returns-clause-one_line : goal.returns-clause-one_line
returns-clause-one_line c =
    IfOk-weaker c.on_command.result _ AreInLine
    (λ acts is. subst AreInLine (sym is) (typed_lines c.args.buffers.now (seen c.self.inside.state) c.args.buffer c.args.text.now c.on_command.ensures.held c.requires))
    c.on_command.ensures.acts

pub returns-clause-spelled : goal.returns-clause-spelled
returns-clause-spelled c = typed_spelled c.args.buffers.now c.args.self.now c.args.buffer c.args.text.now c.on_command.ensures.held c.requires
