use Rattle.wc_core.proofs.ActLemmas.{text_by, tries-not, tries-told, tries-made}
use Rattle.wc_core.proofs.core_state.Core.try_change.Goals as goal

pub tell_change-requires : goal.tell_change-requires
tell_change-requires c = text_by c.args.change.what c.is_change_text.result c.is_change_text.ensures c.if-not-is_change_text.false

pub make_change-requires : goal.make_change-requires
make_change-requires c = text_by c.args.change.what c.is_change_text.result c.is_change_text.ensures c.if-not-is_change_text.false

pub returns-then-not-is_change_text-clause-does : goal.returns-then-not-is_change_text-clause-does
returns-then-not-is_change_text-clause-does c = tries-not c.args.self.now c.args.tells c.args.change c.is_change_text.result c.is_change_text.ensures c.if-not-is_change_text.true

pub returns-then-tells-clause-does : goal.returns-then-tells-clause-does
returns-then-tells-clause-does c = tries-told c.args.self.now c.tell_change.new.self c.args.tells c.args.change c.is_change_text.result c.is_change_text.ensures c.if-not-is_change_text.false c.if-tells.true c.tell_change.ensures.does

pub returns-else-tells-clause-does : goal.returns-else-tells-clause-does
returns-else-tells-clause-does c = tries-made c.args.self.now c.make_change.new.self c.args.tells c.args.change c.is_change_text.result c.is_change_text.ensures c.if-not-is_change_text.false c.if-tells.false c.make_change.ensures.does
