use Rattle.std.proofs.Common.{sym, ◌∙◌}
use Rattle.std.proofs.lemmas.Str.{IsUtf8-from_is_utf8}
use Rattle.wc_eval.proofs.scope.text_in.Goals as goal

pub returns-then-is_text-clause-utf8 : goal.returns-then-is_text-clause-utf8
returns-then-is_text-clause-utf8 c = IsUtf8-from_is_utf8 c.args.value.now (sym c.is_text.ensures ∙ c.if-is_text.true)
