use Rattle.std.proofs.Math.Seq.{take-add}
use Rattle.wc_scripted.proofs.PlayLemmas.{play_more}
use Rattle.wc_scripted.proofs.play.Play.wake.Goals as goal

pub invariant_of-self : goal.invariant_of-self
invariant_of-self c = record { fits = rw (c.wake.ensures.steps, c.wake.ensures.released, take-add) (play_more _ _ _ _ _ c.args.self.now.fits) }
