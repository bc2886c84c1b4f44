use Rattle.std.proofs.Common.{rules, ◌∙◌, refl, ap, sym}
use Rattle.wc_model.specs.declared.change.What.TheVariants.{Limit}
use Rattle.wc_model.specs.Order.{order}
use Rattle.wc_model.specs.World.{World}
use Rattle.wc_world.specs.Near.{numbers}
use Rattle.wc_world.specs.Nicks.{rows_map}
use Rattle.wc_world.proofs.LimitDone.{roomier_view, kept_roomier, room_in_all, world_kept, world_done}
use Rattle.wc_world.proofs.Refused.{out_of_memory}
use Rattle.wc_world.proofs.world.World.set_limit.Goals as goal

-- memory was refused, and some buffers may have more room

pub invariant_of-self : goal.invariant_of-self
invariant_of-self c = (kept_roomier c.self.inside.buffers c.self.inside.held c.make_room.new.held c.self.inside.limit c.self.inside.next c.in_err-make_room.ensures.err c.self.invariant.0, c.self.invariant.1)

pub returns-in_err-make_room : goal.returns-in_err-make_room
returns-in_err-make_room c =
    out_of_memory c.args.self.now _ (record { buffer = c.args.h; what = Limit c.args.limit }) c.from_residual-in_err-make_room.result (search rules)
    (roomier_view c.self.inside.buffers c.self.inside.held c.make_room.new.held c.self.inside.limit c.self.inside.next c.in_err-make_room.ensures.err (rows_map c.self.inside.nicks) c.args.self.now c.self.view_is)

-- room was made in all

pub set_limits-requires-clause-room : goal.set_limits-requires-clause-room
set_limits-requires-clause-room c =
    let ordered = c.in_ok-plan.ensures.order ∙ sym (ap (λ (w : World). order w.groups) c.self.view_is) in
    room_in_all c.self.inside.buffers c.self.inside.held c.make_room.new.held c.self.inside.limit c.self.inside.next c.self.invariant.0 c.args.limit _ (ap numbers c.as_slice.ensures ∙ ordered) c.in_ok-make_room.ensures.ok

pub invariant_of-self-2 : goal.invariant_of-self-2
invariant_of-self-2 c =
    let ordered = c.in_ok-plan.ensures.order ∙ sym (ap (λ (w : World). order w.groups) c.self.view_is) in (
      world_kept c.self.inside.buffers c.self.inside.held c.make_room.new.held c.self.inside.limit c.self.inside.next c.self.invariant.0 c.args.limit _ (ap numbers c.as_slice.ensures ∙ ordered) c.in_ok-make_room.ensures.ok
          c.set_limits.new.held _ (ap numbers c.as_slice-2.ensures ∙ ordered) c.set_limits.ensures c.changed-self-inside.result c.changed-self-inside.ensures (rows_map c.self.inside.nicks) c.requires.0 c.requires.1,
      c.self.invariant.1,
    )

pub returns : goal.returns
returns c =
    let ordered = c.in_ok-plan.ensures.order ∙ sym (ap (λ (w : World). order w.groups) c.self.view_is) in
    world_done c.self.inside.buffers c.self.inside.held c.make_room.new.held c.self.inside.limit c.self.inside.next c.self.invariant.0 c.args.limit _ (ap numbers c.as_slice.ensures ∙ ordered) c.in_ok-make_room.ensures.ok
    c.set_limits.new.held _ (ap numbers c.as_slice-2.ensures ∙ ordered) c.set_limits.ensures c.changed-self-inside.result c.changed-self-inside.ensures
    (rows_map c.self.inside.nicks) c.args.self.now c.args.h c.in_ok-plan.plan.full_name c.in_ok-plan.plan.trims c.told_limit.result c.self.view_is c.in_ok-plan.ensures.name c.in_ok-plan.ensures.trims c.told_limit.ensures
