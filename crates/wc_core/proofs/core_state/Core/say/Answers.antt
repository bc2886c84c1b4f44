use Rattle.std.proofs.Common.{ap, ◌∙◌}
use Rattle.std.specs.Str.{is_utf8}
use Rattle.wc_core.proofs.ActLemmas.{utf8_by, says-not, says-told}
use Rattle.wc_core.proofs.core_state.Core.say.Goals as goal

pub tell_refusal-requires : goal.tell_refusal-requires
tell_refusal-requires c = utf8_by c.args.text c.is_utf8.result (c.is_utf8.ensures ∙ ap is_utf8 c.as_slice.ensures) c.if-not-is_utf8.false

pub returns-then-not-is_utf8-clause-does : goal.returns-then-not-is_utf8-clause-does
returns-then-not-is_utf8-clause-does c = says-not c.args.self.now c.args.text c.is_utf8.result (c.is_utf8.ensures ∙ ap is_utf8 c.as_slice.ensures) c.if-not-is_utf8.true

pub returns-clause-does : goal.returns-clause-does
returns-clause-does c = says-told c.args.self.now c.tell_refusal.new.self c.args.text c.is_utf8.result (c.is_utf8.ensures ∙ ap is_utf8 c.as_slice.ensures) c.if-not-is_utf8.false c.tell_refusal.ensures.does
