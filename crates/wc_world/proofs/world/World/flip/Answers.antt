use Rattle.std.proofs.Common.{rules, ◌∙◌, [], refl, ap, sym}
use Rattle.wc_lines.specs.Flags.{flag_at}
use Rattle.wc_model.specs.Order.{order}
use Rattle.wc_model.specs.World.{World}
use Rattle.wc_world.specs.Flips.{IsPlan}
use Rattle.wc_world.specs.Near.{numbers}
use Rattle.wc_world.specs.Told.{told_at}
use Rattle.wc_model.specs.declared.notice.EventKind.TheVariants as kinds
use Rattle.wc_world.specs.Nicks.{rows_map}
use Rattle.wc_world.proofs.FlipsDone.{not_planned, flips_refused, all_set, kept_set, flips_done}
use Rattle.wc_world.proofs.world.World.flip.Goals as goal

pub returns-in_err-plan : goal.returns-in_err-plan
returns-in_err-plan c =
    let e = c.in_err-plan.field-0.0 in
    not_planned c.args.self.now c.args.self.now _ e c.from_residual.result (search rules) refl
    (λ n. flips_refused c.args.self.now c.args.h c.args.flips e (c.in_err-plan.ensures n))

pub invariant_of-self : goal.invariant_of-self
invariant_of-self c =
    let plan : IsPlan c.args.flips c.args.self.now c.in_ok-plan.plan = c.in_ok-plan.ensures in
    let ordered = ap numbers c.as_slice.ensures ∙ plan.ordered ∙ sym (ap (λ (w : World). order w.groups) c.self.view_is) in (
      kept_set c.self.inside.buffers c.self.inside.held c.set_flags.new.held (rows_map c.self.inside.nicks) c.self.inside.limit c.self.inside.next c.self.invariant.0 c.args.flips
          (all_set c.self.inside.buffers c.self.inside.held c.set_flags.new.held c.self.inside.limit c.self.inside.next c.args.flips (flag_at c.in_ok-plan.plan.flags) _ c.self.invariant.0 ordered plan.last c.set_flags.ensures),
      c.self.invariant.1,
    )

pub returns : goal.returns
returns c =
    let plan : IsPlan c.args.flips c.args.self.now c.in_ok-plan.plan = c.in_ok-plan.ensures in
    let ordered = ap numbers c.as_slice.ensures ∙ plan.ordered ∙ sym (ap (λ (w : World). order w.groups) c.self.view_is) in
    flips_done c.self.inside.buffers c.self.inside.held c.set_flags.new.held (rows_map c.self.inside.nicks) c.self.inside.limit c.self.inside.next c.self.invariant.0 c.args.flips
    (all_set c.self.inside.buffers c.self.inside.held c.set_flags.new.held c.self.inside.limit c.self.inside.next c.args.flips (flag_at c.in_ok-plan.plan.flags) _ c.self.invariant.0 ordered plan.last c.set_flags.ensures)
    c.args.self.now c.args.h c.self.view_is plan.all_held [] c.into_differing.result c.noticed.result refl (c.into_differing.ensures ∙ plan.found) c.in_ok-full_name.full_name c.in_ok-full_name.ensures (c.noticed.ensures ∙ ap (λ lines. told_at kinds.LineDataChanged (record { 0 = 0 }) c.self.inside.buffers c.in_ok-full_name.full_name lines c.into_differing.result) c.none.ensures)
