use Rattle.std.proofs.Common.{All, sym, subst}
use Rattle.std.proofs.lemmas.List.Elements.{All-push}
use Rattle.std.specs.Str.{IsUtf8}
use Rattle.wc_change_words.proofs.lines.texts.Goals as goal

pub loop-word-preserved : goal.loop-word-preserved
loop-word-preserved c = subst (All IsUtf8) (sym c.in_ok-push.ensures.ok) (All-push IsUtf8 c.loop-word.texts c.in_ok-text.text c.loop-word.invariant c.in_ok-text.ensures)
