use Rattle.std.proofs.Common.{◌≡◌, false, true, sym, ◌∙◌, arith}
use Rattle.wc_turns.specs.Events.{is_tick}
use Rattle.wc_turns.proofs.WakeLemmas.{MayRun-start, MayRun-tick, start-causes, tick-causes}
use Rattle.wc_turns.proofs.headless.Headless.wake_core.Goals as goal

pub returns-in_default-clause-takes : goal.returns-in_default-clause-takes
returns-in_default-clause-takes c = rw (c.in_default.is, c.reach.ensures) (MayRun-start c.args.self.now.core c.start.new.self c.args.moment c.start.ensures.does c.start.ensures.each)

pub returns-in_default-clause-causes : goal.returns-in_default-clause-causes
returns-in_default-clause-causes c = rw c.reach.ensures (record { causes = λ distinct k. start-causes c.args.self.now.core c.start.new.self c.args.moment c.start.ensures.does distinct k })

pub returns-then-not-is_tick-clause-ran : goal.returns-then-not-is_tick-clause-ran
returns-then-not-is_tick-clause-ran c =
    let test : is_tick c.in-Some.last c.args.moment ≡ false = sym c.is_tick.ensures ∙ c.if-not-is_tick.true in
    let fits = c.ran-ran.type_inv in
    let same = c.ran-ran.ensures in
    rw (c.in-Some.is, test) (omega arith)

pub returns-clause-takes : goal.returns-clause-takes
returns-clause-takes c =
    let test : is_tick c.in-Some.last c.args.moment ≡ true = sym c.is_tick.ensures ∙ c.if-not-is_tick.false in
    rw (c.in-Some.is, c.reach-2.ensures) (MayRun-tick c.args.self.now.core c.tick.new.self c.in-Some.last c.args.moment test c.tick.ensures.does (record { does = c.tick.ensures.does; contained = c.tick.ensures.contained; counted = c.tick.ensures.counted; drops = c.tick.ensures.drops }))

pub returns-clause-causes : goal.returns-clause-causes
returns-clause-causes c = rw c.reach-2.ensures (record { causes = λ distinct k. tick-causes c.args.self.now.core c.tick.new.self c.args.moment c.tick.ensures.does distinct k })
