use Rattle.std.proofs.Common.{rules, sym}
use Rattle.std.proofs.lemmas.List.Sorted.{answers_always}
use Rattle.wc_events.specs.FlipOrders.{number_of}
use Rattle.wc_events.proofs.FlipLemmas.{found_named, not_named}
use Rattle.wc_events.proofs.flip_lookup.place_of.Goals as goal

pub returns-in-Ok : goal.returns-in-Ok
returns-in-Ok c =
    sym (found_named c.args.order.now c.args.content c.in-Ok.place (record { 0 = 0 })
    (c.in-Ok.ensures.position number_of (answers_always _ _ _ (λ f a r q k. search rules))) c.in-Ok.ensures.bound)

pub returns-in-Err : goal.returns-in-Err
returns-in-Err c =
    sym (not_named c.args.order.now c.args.content c.in-Err.field-0 c.requires
    (c.in-Err.ensures.position number_of (answers_always _ _ _ (λ f a r q k. search rules))))
