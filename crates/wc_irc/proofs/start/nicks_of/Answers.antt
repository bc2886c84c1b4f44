use Rattle.std.proofs.Common.{◌≡◌, ◌∷◌, ap, ◌∙◌}
use Rattle.wc_irc_texts.specs.Pieces.{pieces_left}
use Rattle.wc_irc_texts.proofs.PieceLemmas.{pieces_split}
use Rattle.wc_irc.proofs.StartLemmas.{one_nick_more}
use Rattle.wc_irc.proofs.start.nicks_of.Goals as goal

pub loop-left-preserved : goal.loop-left-preserved
loop-left-preserved c =
    let parts : pieces_left c.loop-left.left ≡ c.split_once.result.0.now ∷ pieces_left c.split_once.result.1 =
    ap pieces_left c.in-Some.is ∙ pieces_split c.in-Some.rest.now c.split_once.result.0.now c.split_once.result.1 c.split_once.ensures.front c.split_once.ensures.back in
    one_nick_more c.loop-left.nicks _ c.split_once.result.0.now (pieces_left c.split_once.result.1) (pieces_left c.loop-left.left) _ c.in_ok-put_nick.ensures parts c.loop-left.invariant
