use Rattle.std.proofs.Common.{arith, sym, ◌∙◌}
use Rattle.wc_irc_texts.proofs.PieceLemmas.{some_left}
use Rattle.wc_irc.proofs.autojoin.put_joins.Goals as goal

pub loop-left-smaller : goal.loop-left-smaller
loop-left-smaller c = omega (arith, c.next_piece.ensures.shorter, some_left c.loop-left.left (sym c.is_some.ensures ∙ c.loop-left-test.true))
