use Rattle.std.proofs.Common.{◌∙◌, ap}
use Rattle.wc_lines.specs.Flags.{flag_at}
use Rattle.wc_model.specs.Order.{order}
use Rattle.wc_model.specs.World.{World}
use Rattle.wc_world.specs.Near.{numbers}
use Rattle.wc_world.specs.Nicks.{rows_map}
use Rattle.wc_world.proofs.FlipsDone.{refused_at, first_refused, found_all}
use Rattle.wc_world.proofs.world.World.plan.Goals as goal

pub returns-in-Some : goal.returns-in-Some
returns-in-Some c = λ n.
    first_refused c.self.inside.buffers c.self.inside.held (rows_map c.self.inside.nicks) c.self.inside.limit c.self.inside.next c.args.self.now c.self.view_is c.args.flips.now _ (ap numbers c.as_slice-buffers.ensures ∙ c.in_ok-order.ensures) c.in_ok-handle.field-0 c.in_ok-handle.ensures
    ∙ ap refused_at c.in-Some.is

pub returns : goal.returns
returns c =
    let ordered = ap numbers c.as_slice-buffers.ensures ∙ c.in_ok-order.ensures in
    record {
      all_held = first_refused c.self.inside.buffers c.self.inside.held (rows_map c.self.inside.nicks) c.self.inside.limit c.self.inside.next c.args.self.now c.self.view_is c.args.flips.now _ ordered c.in_ok-handle.field-0 c.in_ok-handle.ensures ∙ ap refused_at c.in_default.is;
      last = c.in_ok-flags.ensures;
      ordered = c.in_ok-order.ensures ∙ ap (λ (w : World). order w.groups) c.self.view_is;
      found = found_all c.self.inside.buffers c.self.inside.held (rows_map c.self.inside.nicks) c.self.inside.limit c.self.inside.next c.args.self.now c.self.view_is c.args.flips.now _ ordered (flag_at c.in_ok-flags.flags) c.in_ok-differing.differing c.in_ok-flags.ensures c.in_ok-differing.ensures;
    }
