use Rattle.std.proofs.Common.{◌≡◌, ◌≤◌, ◌+◌, ◌∷◌, ap, sym, ◌∙◌, arith}
use Rattle.wc_irc_texts.specs.Pieces.{pieces_left}
use Rattle.wc_irc_texts.proofs.PieceLemmas.{pieces_split, piece_here, piece_later}
use Rattle.wc_irc_texts.proofs.modes.mode_list.Goals as goal

pub returns-then-skipped-number : goal.returns-then-skipped-number
returns-then-skipped-number c =
    let parts : pieces_left c.loop-left.left ≡ c.split_once.result.0.now ∷ pieces_left c.split_once.result.1 =
    ap pieces_left c.in-Some.is ∙ pieces_split c.in-Some.rest.now c.split_once.result.0.now c.split_once.result.1 c.split_once.ensures.front c.split_once.ensures.back in
    sym (piece_here (pieces_left c.loop-left.left) _ _ c.args.number c.loop-left.skipped parts (omega arith)) ∙ c.loop-left.invariant.same

pub loop-left-preserved : goal.loop-left-preserved
loop-left-preserved c =
    let parts : pieces_left c.loop-left.left ≡ c.split_once.result.0.now ∷ pieces_left c.split_once.result.1 =
    ap pieces_left c.in-Some.is ∙ pieces_split c.in-Some.rest.now c.split_once.result.0.now c.split_once.result.1 c.split_once.ensures.front c.split_once.ensures.back in
    let later : c.loop-left.skipped + 1 ≤ c.args.number = omega arith in
    record {
      within = later;
      same = sym (piece_later (pieces_left c.loop-left.left) _ _ c.args.number c.loop-left.skipped parts later) ∙ c.loop-left.invariant.same;
    }
