use Rattle.std.proofs.Common.{◌≡◌, ◌<◌, ◌||◌, ℕ, drop}
use Rattle.wc_irc_texts.specs.Modes.{has_letter}
use Rattle.wc_irc_texts.specs.ModesSeen.{stands_in}
use Rattle.wc_irc_texts.proofs.mode_kinds.table_of.Given as goal

abbrev pub invariant-loop-letter : goal.invariant-loop-letter
invariant-loop-letter l = (letter : ℕ) → letter < 256 → (stands_in l.table letter || has_letter letter (drop l.letter-index l.letters)) ≡ has_letter letter l.letters
