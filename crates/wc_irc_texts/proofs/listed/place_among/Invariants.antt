use Rattle.std.proofs.Common.{◌≡◌, ◌+◌, ◌≤◌, length}
use Rattle.wc_irc_texts.specs.Listed.{place_among}
use Rattle.wc_irc_texts.specs.Texts.{char_texts}
use Rattle.wc_irc_texts.proofs.ListedLemmas.{shifted}
use Rattle.wc_irc_texts.proofs.listed.place_among.Given as goal

abbrev pub invariant-loop-character : goal.invariant-loop-character
invariant-loop-character l = record {
  few : l.place + length l.rest ≤ length l.signs;
  same : shifted l.place (place_among (char_texts l.rest) l.character) ≡ place_among (char_texts l.signs) l.character;
}

abbrev pub decreases-loop-character : goal.decreases-loop-character
decreases-loop-character l = length l.rest
