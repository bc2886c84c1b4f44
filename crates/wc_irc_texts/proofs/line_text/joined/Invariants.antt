use Rattle.std.proofs.Common.{◌≡◌, take, map, List, ℕ}
use Rattle.std.specs.List.{concat}
use Rattle.std.specs.Borrow.{Bor}
use Rattle.wc_irc_texts.proofs.line_text.joined.Given as goal

abbrev pub invariant-loop-piece : goal.invariant-loop-piece
invariant-loop-piece l = l.text ≡ concat (map (λ (piece : Bor (List ℕ)). piece.now) (take l.piece-index l.pieces))
