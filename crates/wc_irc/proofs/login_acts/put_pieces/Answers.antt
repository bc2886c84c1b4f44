use Rattle.std.proofs.Common.{◌≡◌, ◌++◌, ◌∷◌, [], ◌+◌, ℕ, List, get_or, map, drop, codes, ap, sym, ◌∙◌}
use Rattle.std.proofs.lemmas.List.{drop_more, append_assoc}
use Rattle.wc_irc.specs.TalkActs.{sent}
use Rattle.wc_irc.specs.declared.act.Act.{Act}
use Rattle.wc_irc.proofs.login_acts.put_pieces.Goals as goal

pub loop-piece-preserved : goal.loop-piece-preserved
loop-piece-preserved c =
    let pieces = c.args.pieces.now in
    let i = c.loop-piece.piece-index in
    let said : List (List ℕ) → List Act = map (sent (codes "AUTHENTICATE")) in
    let piece : List ℕ = get_or pieces i c.piece-item.result in
    let next : drop i pieces ≡ piece ∷ drop (i + 1) pieces = drop_more pieces i c.piece-item.result c.loop-piece-test.true in
    ap (λ (acts : List Act). acts ++ said (drop (i + 1) pieces)) (c.in_ok-put_piece.ensures ∙ ap (λ (p : List ℕ). c.loop-piece.acts ++ sent (codes "AUTHENTICATE") p ∷ []) (c.as_slice.ensures ∙ c.piece-item.is))
    ∙ append_assoc c.loop-piece.acts (sent (codes "AUTHENTICATE") piece ∷ []) (said (drop (i + 1) pieces))
    ∙ ap (λ (rest : List (List ℕ)). c.loop-piece.acts ++ said rest) (sym next)
    ∙ c.loop-piece.invariant
