use Rattle.wc_hooks_play.proofs.passes.+nested.Given as goal

abbrev pub decreases-nested : goal.decreases-nested
decreases-nested l = l.most
