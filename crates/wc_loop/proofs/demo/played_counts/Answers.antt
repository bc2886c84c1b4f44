use Rattle.wc_loop.proofs.DemoLemmas.{counted-by}
use Rattle.wc_loop.proofs.demo.played_counts.Goals as goal

pub returns : goal.returns
returns c = counted-by c.args.lines c.agreed_counts.result _ c.args.last.now c.requires c.in_ok-gave_all.ensures.tells c.in_ok-gave_all.ensures.taken c.agreed_counts.ensures.are c.agreed_counts.ensures.mirrored
