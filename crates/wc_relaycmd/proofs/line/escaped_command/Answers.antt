use Rattle.wc_relaycmd.proofs.ReadLemmas.{command_plain}
use Rattle.wc_relaycmd.proofs.line.escaped_command.Goals as goal

pub returns-then-is_empty : goal.returns-then-is_empty
returns-then-is_empty c = command_plain _ c.args.word c.args.arguments.now _ _ c.if-is_empty.true c.is_empty.ensures c.cut_at.ensures.back c.command.ensures
