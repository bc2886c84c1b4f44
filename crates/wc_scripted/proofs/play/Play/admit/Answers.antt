use Rattle.std.proofs.Common.{take}
use Rattle.wc_scripted.proofs.PlayLemmas.{play_admitted}
use Rattle.wc_scripted.proofs.play.Play.admit.Goals as goal

pub invariant_of-self : goal.invariant_of-self
invariant_of-self c =
    let placed = rw (c.ready.ensures, c.len.ensures) at c.seek-has_news.ensures.placed in
    record { fits = rw (c.push_reserved.ensures.items, c.push_reserved.ensures.len) (play_admitted (take c.args.self.now.script.released c.args.self.now.script.steps) c.args.self.now.listener _ c.args.self.now.cursors.items c.seek-has_news.new.self c.args.self.now.fits placed) }
