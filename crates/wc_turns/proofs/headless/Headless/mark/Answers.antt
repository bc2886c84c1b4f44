use Rattle.std.proofs.Common.{refl, ap}
use Rattle.wc_outside.specs.Happenings.{is_link, is_listener}
use Rattle.wc_turns.proofs.WakeLemmas.{MarksLink-link}
use Rattle.wc_turns.proofs.headless.Headless.mark.Goals as goal

pub returns-in-Link : goal.returns-in-Link
returns-in-Link c = MarksLink-link c.args.self.now _ c.args.token c.in-Link.link.0 (λ k. ap (is_link k) c.in-Link.is) (ap is_listener c.in-Link.is) refl refl refl refl refl refl refl refl (ap (λ v. v.items) c.mark_reported.ensures.closed) c.mark_reported.ensures.opened
