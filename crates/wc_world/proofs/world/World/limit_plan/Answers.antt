use Rattle.std.proofs.Common.{◌∙◌, ap}
use Rattle.wc_buffers.specs.Calls.{buffer_of}
use Rattle.wc_model.specs.Notices.{name_in}
use Rattle.wc_model.specs.Order.{order}
use Rattle.wc_model.specs.World.{World}
use Rattle.wc_world.specs.Near.{numbers}
use Rattle.wc_world.specs.Nicks.{rows_map}
use Rattle.wc_world.proofs.LimitDone.{found_trims}
use Rattle.wc_world.proofs.world.World.limit_plan.Goals as goal

pub returns-clause-order : goal.returns-clause-order
returns-clause-order c = c.in_ok-order.ensures ∙ ap (λ (w : World). order w.groups) c.self.view_is

pub returns-clause-name : goal.returns-clause-name
returns-clause-name c = c.in_ok-full_name.ensures ∙ ap (λ (w : World). name_in (buffer_of (record { 0 = 0 }) w.groups)) c.self.view_is

pub returns-clause-trims : goal.returns-clause-trims
returns-clause-trims c =
    c.in_ok-trims.ensures
    ∙ found_trims c.self.inside.buffers c.self.inside.held (rows_map c.self.inside.nicks) c.self.inside.limit c.self.inside.next c.args.self.now c.self.view_is c.args.limit _ (ap numbers c.as_slice.ensures ∙ c.in_ok-order.ensures)
