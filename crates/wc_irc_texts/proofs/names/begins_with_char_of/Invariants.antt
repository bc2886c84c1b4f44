use Rattle.std.proofs.Common.{◌≡◌, length}
use Rattle.wc_irc_texts.specs.Names.{begins_with_char_of}
use Rattle.wc_irc_texts.proofs.names.begins_with_char_of.Given as goal

abbrev pub invariant-loop-rest : goal.invariant-loop-rest
invariant-loop-rest l = begins_with_char_of l.rest l.text ≡ begins_with_char_of l.characters l.text

abbrev pub decreases-loop-rest : goal.decreases-loop-rest
decreases-loop-rest l = length l.rest
