use Rattle.std.proofs.Common.{refl, sym, ◌∙◌}
use Rattle.wc_turns.proofs.FeedLemmas.{Fed-none, Fed-line, Fed-tail, Fed-takes, Fed-quit}
use Rattle.wc_turns.proofs.feed.feed.Goals as goal

pub loop-line-init : goal.loop-line-init
loop-line-init c = record { going = c.requires.going; idle = λ none. (none, refl); fed = Fed-none c.args.core.now c.args.link.0 c.args.tail.now c.args.ran.now c.args.bytes.now c.type_inv._ran.fits }

pub loop-line-preserved : goal.loop-line-preserved
loop-line-preserved c =
    let e = c.end_line.ensures in
    record {
      going = sym c.quits.ensures ∙ c.if-quits.false;
      idle = λ none. (let before = c.loop-line.invariant.idle (e.idle none).0 in (before.0, (e.idle none).1 ∙ before.1));
      fed = Fed-line _ _ _ _ _ _ _ _ _ _ _ _ _ _ c.loop-line.invariant.going c.loop-line.invariant.fed c.in-Some.ensures.some c.in-Some.ensures.line e.begins (λ line h. record { takes = e.does line h; counts = e.ran line h }) e.causes;
    }

pub returns-then-quits-clause-takes : goal.returns-then-quits-clause-takes
returns-then-quits-clause-takes c =
    let e = c.end_line.ensures in
    Fed-quit c.args.core.now c.end_line.new.core c.args.link.0 c.args.tail.now c.end_line.new.tail c.args.ran.now c.end_line.new.ran c.args.bytes.now c.in-Some.following.now c.requires.going (sym c.quits.ensures ∙ c.if-quits.true)
    (Fed-line _ _ _ _ _ _ _ _ _ _ _ _ _ _ c.loop-line.invariant.going c.loop-line.invariant.fed c.in-Some.ensures.some c.in-Some.ensures.line e.begins (λ line h. record { takes = e.does line h; counts = e.ran line h }) e.causes)

pub returns-then-quits-clause-causes : goal.returns-then-quits-clause-causes
returns-then-quits-clause-causes c =
    let e = c.end_line.ensures in
    (Fed-line _ _ _ _ _ _ _ _ _ _ _ _ _ _ c.loop-line.invariant.going c.loop-line.invariant.fed c.in-Some.ensures.some c.in-Some.ensures.line e.begins (λ line h. record { takes = e.does line h; counts = e.ran line h }) e.causes).causes

pub returns-clause-tail : goal.returns-clause-tail
returns-clause-tail c = λ going. Fed-tail _ _ _ _ _ _ _ _ _ _ c.loop-line.invariant.fed (c.in_default.ensures.none refl) c.extend.ensures

pub returns-clause-takes : goal.returns-clause-takes
returns-clause-takes c = Fed-takes _ _ _ _ _ _ _ _ _ c.requires.going c.loop-line.invariant.fed (c.in_default.ensures.none refl)

pub returns-clause-causes : goal.returns-clause-causes
returns-clause-causes c = c.loop-line.invariant.fed.causes

pub returns-then-quits-clause-idle : goal.returns-then-quits-clause-idle
returns-then-quits-clause-idle c = λ none.
    let e = c.end_line.ensures in
    let before = c.loop-line.invariant.idle (e.idle none).0 in
    (before.0, (e.idle none).1 ∙ before.1)

pub returns-clause-idle : goal.returns-clause-idle
returns-clause-idle c = λ none. c.loop-line.invariant.idle none
