use Rattle.std.proofs.Common.{refl}
use Rattle.wc_outside.specs.declared.happening.Happening.TheVariants.{Ended, Failed}
use Rattle.wc_core.specs.Events.{Ends, Fails}
use Rattle.wc_turns.proofs.AgreesLemmas.{timeless-ended, timeless-failed}
use Rattle.wc_turns.proofs.LossLemmas.{LosesLink-of}
use Rattle.wc_turns.proofs.TakesLemmas.{TakesHappening-lost, TakesHappening-broken}
use Rattle.wc_turns.proofs.headless.Headless.link_gone.Goals as goal
use Rattle.wc_turns.specs.Goes.{LosesWhole}

pub returns-clause-ended : goal.returns-clause-ended
returns-clause-ended c = λ q.
    let e = c.link_gone.ensures in
    TakesHappening-lost c.args.self.now _ (Ended c.args.link) (Ends c.args.link.0) c.requires.going (λ k. refl) (λ k. refl) (timeless-ended c.args.link) (λ r. refl) (λ k. refl) (λ taken. refl) refl refl refl refl refl refl refl c.saturating_add-self.ensures (rw q at e.does) (let whole : LosesWhole c.args.link.0 c.args.cause c.args.self.now.core c.link_gone.new.self = (record { does = e.does; contained = e.contained; counted = e.counts; drops = e.drops }) in rw q at whole)

pub returns-clause-failed : goal.returns-clause-failed
returns-clause-failed c = λ q.
    let e = c.link_gone.ensures in
    TakesHappening-lost c.args.self.now _ (Failed c.args.link) (Fails c.args.link.0) c.requires.going (λ k. refl) (λ k. refl) (timeless-failed c.args.link) (λ r. refl) (λ k. refl) (λ taken. refl) refl refl refl refl refl refl refl c.saturating_add-self.ensures (rw q at e.does) (let whole : LosesWhole c.args.link.0 c.args.cause c.args.self.now.core c.link_gone.new.self = (record { does = e.does; contained = e.contained; counted = e.counts; drops = e.drops }) in rw q at whole)

pub returns-clause-broken : goal.returns-clause-broken
returns-clause-broken c = λ q is.
    let e = c.link_gone.ensures in
    TakesHappening-broken c.args.self.now _ c.args.link c.requires.going refl refl refl refl refl refl refl c.saturating_add-self.ensures (rw q at e.does) is (let whole : LosesWhole c.args.link.0 c.args.cause c.args.self.now.core c.link_gone.new.self = (record { does = e.does; contained = e.contained; counted = e.counts; drops = e.drops }) in rw q at whole)

pub returns-clause-core : goal.returns-clause-core
returns-clause-core c =
    let e = c.link_gone.ensures in
    LosesLink-of c.args.self.now.core c.link_gone.new.self c.args.link.0 c.args.cause e.does e.stays e.gone e.servers (record { does = e.does; contained = e.contained; counted = e.counts; drops = e.drops })
