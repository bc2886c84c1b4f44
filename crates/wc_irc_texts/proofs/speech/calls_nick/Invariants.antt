use Rattle.std.proofs.Common.{◌≡◌, true, length}
use Rattle.wc_irc_texts.specs.Speech.{calls_from}
use Rattle.wc_irc_texts.proofs.speech.calls_nick.Given as goal

abbrev pub invariant-loop-rest : goal.invariant-loop-rest
invariant-loop-rest l = calls_from l.bare l.nick l.rest ≡ calls_from true l.nick l.text

abbrev pub decreases-loop-rest : goal.decreases-loop-rest
decreases-loop-rest l = length l.rest
