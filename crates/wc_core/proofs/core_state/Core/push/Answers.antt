use Rattle.std.proofs.Common.{arith}
use Rattle.wc_core.proofs.AnswerLemmas.{push-counted, idle-counted}
use Rattle.wc_core.proofs.CountLemmas.{kept_dropped}
use Rattle.wc_core.proofs.core_state.Core.push.Goals as goal

pub count_dropped-requires : goal.count_dropped-requires
count_dropped-requires c = (let less = (kept_dropped _ _ c.push-to_all.ensures.kept).less in omega (arith, less, c.open_count-before.ensures))

pub returns-clause-does : goal.returns-clause-does
returns-clause-does c =
    let e = c.push-to_all.ensures in
    rw (← c.self.view_is) (push-counted _ c.push-to_all.new.self c.count_dropped.new.self c.open_count-before.result (record { each = e.each; kept = e.kept; clients = e.clients; forgets = e.forgets; rows = e.rows; world = e.world }) c.count_dropped.ensures.counts c.open_count-before.ensures c.count_dropped.ensures.rises)

pub returns-clause-idle : goal.returns-clause-idle
returns-clause-idle c =
    rw (← c.self.view_is) (λ none. idle-counted _ c.push-to_all.new.self c.count_dropped.new.self c.open_count-before.result none c.push-to_all.ensures.world (c.push-to_all.ensures.idle none).1 c.count_dropped.ensures.counts c.open_count-before.ensures c.count_dropped.ensures.rises)
