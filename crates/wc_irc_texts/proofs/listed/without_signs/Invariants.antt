use Rattle.std.proofs.Common.{◌≡◌, length}
use Rattle.wc_irc_texts.specs.Listed.{signs_of, front_signs, after_signs, bits_of, listed_bits}
use Rattle.wc_irc_texts.specs.Texts.{char_texts}
use Rattle.wc_irc_texts.proofs.listed.without_signs.Given as goal

abbrev pub invariant-loop-place : goal.invariant-loop-place
invariant-loop-place l = record {
  nick : after_signs (signs_of l.prefixes) (char_texts l.nick) ≡ after_signs (signs_of l.prefixes) (char_texts l.name);
  bits : bits_of l.modes.0 (front_signs (signs_of l.prefixes) (char_texts l.nick)) ≡ listed_bits l.prefixes l.name;
}

abbrev pub decreases-loop-place : goal.decreases-loop-place
decreases-loop-place l = length l.nick
