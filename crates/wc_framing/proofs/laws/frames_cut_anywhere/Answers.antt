use Rattle.wc_framing.proofs.CutLaws.{adds_pieces, joins_pieces, reads_one_way, cut_anywhere}
use Rattle.wc_framing.proofs.laws.frames_cut_anywhere.Goals as goal

pub returns-clause-adds : goal.returns-clause-adds
returns-clause-adds c = adds_pieces

pub returns-clause-joins : goal.returns-clause-joins
returns-clause-joins c = joins_pieces

pub returns-clause-alone : goal.returns-clause-alone
returns-clause-alone c = reads_one_way

pub returns-clause-anywhere : goal.returns-clause-anywhere
returns-clause-anywhere c = cut_anywhere
