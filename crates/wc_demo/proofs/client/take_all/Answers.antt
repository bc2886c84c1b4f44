use Rattle.wc_demo.proofs.ClientLemmas.{takes_more}
use Rattle.wc_demo.proofs.client.take_all.Goals as goal

pub loop-rest-preserved : goal.loop-rest-preserved
loop-rest-preserved c = λ new all. c.loop-rest.invariant new (takes_more c.loop-rest.mirror c.take_one.new.mirror new c.loop-rest.rest.now c.in-Some.left.now c.in-Some.ensures.takes all)
