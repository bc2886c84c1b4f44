use Rattle.std.proofs.Common.{◌≡◌, take, length, arith, ap}
use Rattle.wc_scripted.proofs.PlayLemmas.{begins-within, play_arrived, arrived_one}
use Rattle.wc_scripted.proofs.play.Play.pass_arrival.Goals as goal

pub invariant_of-self : goal.invariant_of-self
invariant_of-self c =
    let more = begins-within _ c.requires.begins in
    let size = ap length (rw c.ready.ensures at c.split_at.ensures.back) in
    let one : c.min.result ≡ 1 = omega arith in
    rw one (record { fits = play_arrived _ _ _ _ c.args.self.now.fits c.requires.begins })

pub returns-clause-arrived : goal.returns-clause-arrived
returns-clause-arrived c =
    let more = begins-within _ c.requires.begins in
    let size = ap length (rw c.ready.ensures at c.split_at.ensures.back) in
    let one : c.min.result ≡ 1 = omega arith in
    rw one (arrived_one (take c.args.self.now.script.released c.args.self.now.script.steps) c.args.self.now.listener c.requires.begins)
