use Rattle.std.proofs.Common.{arith}
use Rattle.wc_turns.proofs.WakeLemmas.{ReportsSources-more}
use Rattle.wc_turns.proofs.headless.Headless.report.Goals as goal

pub loop-place-preserved : goal.loop-place-preserved
loop-place-preserved c =
    let inside = c.loop-place-test.true in
    let within = c.type_inv.ready in
    ReportsSources-more c.args.self.now c.loop-place.self c.mark.new.self c.args.ready.now.tokens c.loop-place.place _ (omega arith) c.loop-place.invariant c.mark.ensures
