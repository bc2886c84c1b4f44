use Rattle.std.proofs.Common.{rules, ◌≡◌, ◌++◌, ap, sym, ◌∙◌}
use Rattle.wc_buffers.specs.Kept.{handles}
use Rattle.wc_world.specs.Near.{all_numbers}
use Rattle.wc_world.proofs.NearLemmas.{order_handles}
use Rattle.wc_core.specs.Fitted.{flips_among}
use Rattle.wc_core.proofs.core_state.Core.flips_everywhere.Goals as goal

pub loop-group-init : goal.loop-group-init
loop-group-init c =
    let w = c.args.self.now.world in
    let plan = c.args.plan.now in
    let all : c.into_iter-group-iterator.result ≡ handles w.groups = search rules in
    ap (λ flips. flips ++ flips_among plan w (all_numbers c.into_iter-group-iterator.result)) c.new-flips.ensures ∙ ap (λ groups. flips_among plan w (all_numbers groups)) all ∙ ap (flips_among plan w) (sym (order_handles w.groups))
