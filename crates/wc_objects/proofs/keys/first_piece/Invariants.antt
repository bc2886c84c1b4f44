use Rattle.wc_objects.proofs.Pieces.{PiecesFrom}
use Rattle.wc_objects.proofs.keys.first_piece.Given as goal

abbrev pub invariant-loop-i : goal.invariant-loop-i
invariant-loop-i l = PiecesFrom l.mark l.text l.i
