use Rattle.std.proofs.Common.{rules, ◌≡◌, eqb, cond, [], ap, sym, ◌∙◌}
use Rattle.std.specs.List.{list_any}
use Rattle.wc_buffers.specs.Kept.{handles}
use Rattle.wc_nickdiff.specs.Held.{touches_of}
use Rattle.wc_world.specs.Near.{all_numbers}
use Rattle.wc_world.proofs.NearLemmas.{order_handles}
use Rattle.wc_board.proofs.pushes.forget_nicks.Goals as goal

pub loop-group-init : goal.loop-group-init
loop-group-init c = λ b.
    let all : c.into_iter-group-iterator.result ≡ handles c.args.world.now.groups = search rules in
    ap (λ ns. cond (list_any (λ n. eqb n b.0) ns) [] (touches_of b c.args.pending.now)) (ap all_numbers all ∙ sym (order_handles c.args.world.now.groups))
