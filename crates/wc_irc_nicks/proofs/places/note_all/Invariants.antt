use Rattle.wc_nicklist.specs.Index.{at_long}
use Rattle.wc_irc_nicks.specs.Kept.{IsNoted}
use Rattle.wc_irc_nicks.proofs.places.note_all.Given as goal

abbrev pub invariant-loop-place : goal.invariant-loop-place
invariant-loop-place l = IsNoted l.case_map l.places (at_long l.index) l.place
