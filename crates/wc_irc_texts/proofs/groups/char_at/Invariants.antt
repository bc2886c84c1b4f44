use Rattle.std.proofs.Common.{◌≡◌, length, codes, slice_index_or}
use Rattle.wc_irc_texts.specs.Texts.{char_texts}
use Rattle.wc_irc_texts.proofs.groups.char_at.Given as goal

abbrev pub invariant-loop-rest : goal.invariant-loop-rest
invariant-loop-rest l = slice_index_or (char_texts l.rest) l.left (codes " ") ≡ slice_index_or (char_texts l.characters) l.place (codes " ")

abbrev pub decreases-loop-rest : goal.decreases-loop-rest
decreases-loop-rest l = length l.rest
