use Rattle.std.proofs.Common.{[], ◌∷◌, ◌++◌, sym}
use Rattle.wc_filters.specs.Kept.{new_filter}
use Rattle.wc_core.proofs.FilterLemmas.{adds-filter, refused-filter, judges-rules}
use Rattle.wc_core.proofs.core_state.Core.add_filter.Goals as goal

pub returns-in-Ok : goal.returns-in-Ok
returns-in-Ok c =
    let filter = new_filter c.args.name.now c.args.buffers.now c.args.tags.now c.args.pattern.now in
    let e = c.in-Ok.ensures in
    rw (← c.self.view_is) (adds-filter _ _ c.take_filters.new.self filter c.in-Ok.plan (judges-rules _ c.plan_add.new.self e.only e.stay) e.added (λ told agrees. sym (e.plan told.oracle agrees).0) c.take_filters.ensures)

pub returns-in-Err : goal.returns-in-Err
returns-in-Err c =
    let filter = new_filter c.args.name.now c.args.buffers.now c.args.tags.now c.args.pattern.now in
    let e = c.in-Err.ensures in
    rw (← c.self.view_is) (refused-filter _ _ c.refuse_filter.new.self filter (c.self.inside.rules.filters ++ filter ∷ []) c.in-Err.refused (judges-rules _ c.plan_add.new.self e.only e.stay) (λ told agrees. e.plan told.oracle agrees) c.refuse_filter.ensures.told c.refuse_filter.ensures.starves)
