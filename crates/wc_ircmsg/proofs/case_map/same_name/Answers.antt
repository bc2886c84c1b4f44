use Rattle.wc_ircmsg.specs.CaseMaps.{fold_by, folded_signs}
use Rattle.wc_ircmsg.proofs.NameLemmas.{same_long}
use Rattle.wc_ircmsg.proofs.case_map.same_name.Goals as goal

pub returns-then-a-b : goal.returns-then-a-b
returns-then-a-b c = same_long (fold_by (folded_signs c.args.map)) c.args.a.now c.args.b.now _ c.if-a-b.true c.are_same.ensures
