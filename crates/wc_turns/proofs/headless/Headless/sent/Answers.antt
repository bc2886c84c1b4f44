use Rattle.std.proofs.Common.{refl, sym, ◌∙◌}
use Rattle.wc_turns.proofs.SocketLemmas.{Sends-owed, copied-none}
use Rattle.wc_turns.proofs.headless.Headless.sent.Goals as goal

pub returns-else-is_some : goal.returns-else-is_some
returns-else-is_some c = Sends-owed c.args.link.0 c.args.count c.args.self.now _ (sym c.frames.ensures ∙ copied-none c.frames.result (sym c.if-is_some.ensures)) refl refl c.gone.ensures
