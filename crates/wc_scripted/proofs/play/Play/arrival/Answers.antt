use Rattle.std.proofs.Common.{◌+◌, take}
use Rattle.wc_scripted.proofs.CursorLemmas.{drop_read}
use Rattle.wc_scripted.proofs.PlayLemmas.{play_passed, arrived_same, nonce_next, nonce_none}
use Rattle.wc_scripted.proofs.play.Play.arrival.Goals as goal

pub invariant_of-self : goal.invariant_of-self
invariant_of-self c =
    let place = rw (c.split_at.ensures.back, c.ready.ensures) at c.before_arrival.ensures.place in
    let within = rw (c.split_at.ensures.back, c.ready.ensures) at c.before_arrival.ensures.within in
    record { fits = play_passed (take c.args.self.now.script.released c.args.self.now.script.steps) c.args.self.now.listener _ c.before_arrival.result _ c.args.self.now.fits place within }

pub returns-clause-found : goal.returns-clause-found
returns-clause-found c =
    let place = rw (c.split_at.ensures.back, c.ready.ensures) at c.before_arrival.ensures.place in
    let x = c.in-Some.ensures.lookup in
    let inside = rw c.ready-2.ensures at x.3.0 in
    let read = rw c.ready-2.ensures at (x.3.1 c.in-Some.step.now) in
    let e = drop_read (take c.args.self.now.script.released c.args.self.now.script.steps) (c.args.self.now.listener + c.before_arrival.result) c.in-Some.step.now inside read in
    rw c.nonce.ensures (nonce_next (take c.args.self.now.script.released c.args.self.now.script.steps) c.args.self.now.listener c.args.used c.before_arrival.result c.in-Some.step.now _ place e).0

pub returns-clause-arrived : goal.returns-clause-arrived
returns-clause-arrived c =
    let place = rw (c.split_at.ensures.back, c.ready.ensures) at c.before_arrival.ensures.place in
    arrived_same _ _ _ place

pub returns-in_default-clause-arrived : goal.returns-in_default-clause-arrived
returns-in_default-clause-arrived c =
    let place = rw (c.split_at.ensures.back, c.ready.ensures) at c.before_arrival.ensures.place in
    arrived_same _ _ _ place

pub returns-in_default-clause-found : goal.returns-in_default-clause-found
returns-in_default-clause-found c =
    let place = rw (c.split_at.ensures.back, c.ready.ensures) at c.before_arrival.ensures.place in
    let x = c.in_default.ensures.lookup in
    let past = rw c.ready-2.ensures at x.3 in
    nonce_none (take c.args.self.now.script.released c.args.self.now.script.steps) c.args.self.now.listener c.before_arrival.result c.args.used place past
