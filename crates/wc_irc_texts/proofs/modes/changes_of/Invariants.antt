use Rattle.std.proofs.Common.{◌≡◌, ◌++◌, true, drop}
use Rattle.wc_irc_texts.specs.Modes.{changes_from}
use Rattle.wc_irc_texts.specs.ModesSeen.{changes_in}
use Rattle.wc_irc_texts.proofs.modes.changes_of.Given as goal

abbrev pub invariant-loop-letter : goal.invariant-loop-letter
invariant-loop-letter l = changes_in l.changes.items ++ changes_from l.features l.walk.adds (drop l.letter-index l.letters) l.walk.params.now ≡ changes_from l.features true l.letters l.params
