use Rattle.std.proofs.Common.{◌∙◌}
use Rattle.wc_irc_texts.proofs.TextLemmas.{concat_more}
use Rattle.wc_irc_texts.proofs.line_text.joined.Goals as goal

pub loop-piece-preserved : goal.loop-piece-preserved
loop-piece-preserved c = c.in_ok-append.ensures.ok ∙ concat_more c.loop-piece.text c.args.pieces.now c.loop-piece.piece-index _ c.loop-piece-test.true c.loop-piece.invariant
