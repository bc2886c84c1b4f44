use Rattle.wc_objects.proofs.Pieces.{starts_pieces}
use Rattle.wc_objects.proofs.keys.first_piece.Goals as goal

pub loop-i-init : goal.loop-i-init
loop-i-init c = starts_pieces c.args.mark c.args.text.now
