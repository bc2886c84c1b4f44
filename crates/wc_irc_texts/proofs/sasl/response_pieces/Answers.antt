use Rattle.std.proofs.Common.{◌≤◌, length, arith}
use Rattle.wc_irc_texts.proofs.SaslLemmas.{one_piece_more}
use Rattle.wc_irc_texts.proofs.sasl.response_pieces.Goals as goal

pub loop-rest-preserved : goal.loop-rest-preserved
loop-rest-preserved c =
    let long : 400 ≤ length c.loop-rest.rest.now = omega (arith, c.loop-rest-test.true) in
    one_piece_more c.loop-rest.pieces _ _ c.loop-rest.rest.now _ _ long c.split_at.ensures.front c.split_at.ensures.back c.in_ok-put_piece.ensures c.loop-rest.invariant
