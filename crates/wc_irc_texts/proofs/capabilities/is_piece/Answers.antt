use Rattle.std.proofs.Common.{◌≡◌, ◌∷◌, true, false, ap, sym, ◌∙◌}
use Rattle.wc_irc_texts.specs.Pieces.{pieces_left}
use Rattle.wc_irc_texts.proofs.CapabilityLemmas.{piece_hit, piece_miss}
use Rattle.wc_irc_texts.proofs.PieceLemmas.{pieces_split}
use Rattle.wc_irc_texts.proofs.capabilities.is_piece.Goals as goal

pub returns-then-eq : goal.returns-then-eq
returns-then-eq c =
    let parts : pieces_left c.loop-left.left ≡ c.split_once.result.0.now ∷ pieces_left c.split_once.result.1 =
    ap pieces_left c.in-Some.is ∙ pieces_split c.in-Some.rest.now c.split_once.result.0.now c.split_once.result.1 c.split_once.ensures.front c.split_once.ensures.back in
    sym (piece_hit c.args.name.now _ (pieces_left c.loop-left.left) _ parts (sym c.eq.ensures ∙ c.if-eq.true)) ∙ c.loop-left.invariant

pub loop-left-preserved : goal.loop-left-preserved
loop-left-preserved c =
    let parts : pieces_left c.loop-left.left ≡ c.split_once.result.0.now ∷ pieces_left c.split_once.result.1 =
    ap pieces_left c.in-Some.is ∙ pieces_split c.in-Some.rest.now c.split_once.result.0.now c.split_once.result.1 c.split_once.ensures.front c.split_once.ensures.back in
    sym (piece_miss c.args.name.now _ (pieces_left c.loop-left.left) _ parts (sym c.eq.ensures ∙ c.if-eq.false)) ∙ c.loop-left.invariant
