use Rattle.std.proofs.Common.{ap, sym, ◌∙◌, arith, drop, slice_index_or, List, ℕ, []}
use Rattle.wc_irc_texts.specs.Pieces.{pieces_left, is_bare_left, length_left}
use Rattle.wc_irc_texts.proofs.PieceLemmas.{pieces_split, bare_front, bare_others, left_shorter}
use Rattle.wc_irc.proofs.autojoin.next_piece.Goals as goal

pub returns-in-Some-clause-piece : goal.returns-in-Some-clause-piece
returns-in-Some-clause-piece c =
    let parts = ap pieces_left c.in-Some.is ∙ pieces_split c.in-Some.text.now c.split_once.result.0.now c.split_once.result.1 c.split_once.ensures.front c.split_once.ensures.back in
    sym (ap (λ (l : List (List ℕ)). slice_index_or l 0 []) parts)

pub returns-in-Some-clause-others : goal.returns-in-Some-clause-others
returns-in-Some-clause-others c =
    let parts = ap pieces_left c.in-Some.is ∙ pieces_split c.in-Some.text.now c.split_once.result.0.now c.split_once.result.1 c.split_once.ensures.front c.split_once.ensures.back in
    sym (ap (λ (l : List (List ℕ)). drop 1 l) parts)

pub returns-in-Some-clause-bare : goal.returns-in-Some-clause-bare
returns-in-Some-clause-bare c =
    bare_front c.in-Some.text.now c.split_once.result.0.now c.split_once.ensures.front (sym (ap is_bare_left c.in-Some.is) ∙ c.requires)

pub returns-in-Some-clause-bare_left : goal.returns-in-Some-clause-bare_left
returns-in-Some-clause-bare_left c =
    bare_others c.in-Some.text.now c.split_once.result.1 c.split_once.ensures.back (sym (ap is_bare_left c.in-Some.is) ∙ c.requires)

pub returns-in-Some-clause-shorter : goal.returns-in-Some-clause-shorter
returns-in-Some-clause-shorter c =
    omega (arith, left_shorter c.in-Some.text.now c.split_once.result.1 c.split_once.ensures.shorter, ap length_left c.in-Some.is)
