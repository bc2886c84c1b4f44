use Rattle.wc_nicklist.specs.Index.{at_long}
use Rattle.wc_irc_nicks.proofs.KeptLemmas.{noted_all}
use Rattle.wc_irc_nicks.proofs.places.note_all.Goals as goal

pub returns : goal.returns
returns c = noted_all c.args.case_map c.args.places.now (at_long c.loop-place.index) c.loop-place.place c.loop-place-test.false c.loop-place.invariant
