use Rattle.std.proofs.Common.{take}
use Rattle.wc_eval.specs.Cuts.{AreSeparators}
use Rattle.wc_eval.proofs.split.set_of.Given as goal

abbrev pub invariant-loop-character : goal.invariant-loop-character
invariant-loop-character l = AreSeparators (take l.character-index l.characters) l.set
