use Rattle.std.proofs.Common.{◌∙◌, ◌++◌, drop, take, sym, ap, arith}
use Rattle.wc_hooks.specs.Slots.{with_opening}
use Rattle.wc_hooks.proofs.Changes.{changes_at}
use Rattle.wc_hooks.proofs.Opens.{cut_in_two, opens_none, opened_all}
use Rattle.wc_hooks.proofs.slots.open_range.Goals as goal

pub loop-at-init : goal.loop-at-init
loop-at-init c = sym (ap (λ l. l ++ drop c.args.start c.args.slots.now) (opens_none c.args.place c.args.kind c.args.key.now (take c.args.start c.args.slots.now) c.requires.range.front) ∙ cut_in_two c.args.start c.args.slots.now)

pub loop-at-preserved : goal.loop-at-preserved
loop-at-preserved c =
    let inside = c.requires.range.inside in
    changes_at (with_opening c.args.place c.args.kind c.args.key.now) c.loop-at.at c.args.slots.now c.loop-at.slots _ c.see_opening.new.self (omega (arith, inside)) c.loop-at.invariant c.see_opening.ensures

pub returns : goal.returns
returns c = c.loop-at.invariant ∙ opened_all c.args.place c.args.kind c.args.key.now c.args.slots.now c.args.start c.args.count c.loop-at.at c.requires.range c.loop-at-test.false
