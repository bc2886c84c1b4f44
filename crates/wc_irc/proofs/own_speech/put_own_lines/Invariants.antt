use Rattle.std.proofs.Common.{◌≡◌, ◌++◌, drop}
use Rattle.wc_irc.specs.OwnSpeech.{own_lines}
use Rattle.wc_irc.specs.ServersSeen.{seen}
use Rattle.wc_irc.proofs.own_speech.put_own_lines.Given as goal

abbrev pub invariant-loop-text : goal.invariant-loop-text
invariant-loop-text l = l.acts ++ own_lines (seen l.state) l.aim.target.now l.aim.does (drop l.text-index l.texts) l.buffer ≡ l.fn.acts ++ own_lines (seen l.state) l.aim.target.now l.aim.does l.texts l.buffer
