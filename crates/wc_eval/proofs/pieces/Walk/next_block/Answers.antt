use Rattle.std.proofs.Common.{ap, sym, ◌∙◌, ◌∷◌}
use Rattle.wc_eval.specs.Pieces.{Group, with_groups}
use Rattle.wc_eval.specs.Walks.{meant, left_of}
use Rattle.wc_eval.proofs.PieceLemmas.{pieces_text}
use Rattle.wc_eval.proofs.GroupPieces.{block_group, block_loose}
use Rattle.wc_eval.proofs.pieces.Walk.next_block.Goals as goal

pub returns-in-Some-clause-steps : goal.returns-in-Some-clause-steps
returns-in-Some-clause-steps c =
    let after = c.in_ok-piece.after in
    let end = c.in-Some.end in
    block_group (left_of c.args.self) (meant c.in_ok-piece.piece) (left_of after)
    c.in_ok-piece.ensures.steps (left_of end) after.rest.now end.rest.now
    (sym c.if-not-is_byte.ensures) c.in-Some.ensures.found
    (pieces_text after.has_bytes_alone after.rest.now) (pieces_text end.has_bytes_alone end.rest.now)
    ∙ ap (λ text. Group text ∷ with_groups (left_of end)) (sym c.before-in-Some.ensures)

pub returns-in-None-clause-steps : goal.returns-in-None-clause-steps
returns-in-None-clause-steps c =
    block_loose (left_of c.args.self) (meant c.in_ok-piece.piece) (left_of c.in_ok-piece.after)
    c.in_ok-piece.ensures.steps (sym c.if-not-is_byte.ensures) c.in-None.ensures.found
