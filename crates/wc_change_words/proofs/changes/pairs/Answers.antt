use Rattle.std.proofs.Common.{All, sym, subst}
use Rattle.std.proofs.lemmas.List.Elements.{All-push}
use Rattle.wc_buffers.specs.Entries.{IsText}
use Rattle.wc_change_words.proofs.changes.pairs.Goals as goal

pub loop-word-preserved : goal.loop-word-preserved
loop-word-preserved c = subst (All IsText) (sym c.in_ok-push.ensures.ok) (All-push IsText c.loop-word.pairs c.in_ok-pair.pair c.loop-word.invariant c.in_ok-pair.ensures)
