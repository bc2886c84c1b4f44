use Rattle.std.proofs.Common.{rules, ◌∙◌, [], refl, ap, sym}
use Rattle.wc_lines.specs.Flags.{flag_at}
use Rattle.wc_buffers.specs.Calls.{rename_refusal}
use Rattle.wc_buffers.proofs.RefusalLemmas.{not_due}
use Rattle.wc_model.specs.declared.change.What.TheVariants.{Rename}
use Rattle.wc_model.specs.declared.notice.EventKind.TheVariants as kinds
use Rattle.wc_model.specs.Order.{order}
use Rattle.wc_model.specs.World.{World}
use Rattle.wc_world.specs.Flips.{IsPlan}
use Rattle.wc_world.specs.Kept.{world_of}
use Rattle.wc_world.specs.Nicks.{rows_map}
use Rattle.wc_world.specs.Near.{numbers}
use Rattle.wc_world.specs.Told.{told_at}
use Rattle.wc_world.proofs.FlipsDone.{not_planned, rename_refused, rename_flips_refused, all_set, kept_set, kept_renamed, nicks_renamed, rename_done}
use Rattle.wc_world.proofs.Refused.{refusing, by_world}
use Rattle.wc_world.proofs.world.World.rename.Goals as goal

pub returns-in-Some : goal.returns-in-Some
returns-in-Some c =
    let old = world_of c.self.inside.buffers c.self.inside.held (rows_map c.self.inside.nicks) c.self.inside.limit c.self.inside.next in
    refusing c.args.self.now _ (record { buffer = c.args.h; what = Rename c.args.name c.args.flips }) c.in-Some.refused c.into.result c.into.ensures refl
    (λ n. by_world old c.args.self.now c.args.h (Rename c.args.name c.args.flips) _ c.self.view_is (rename_refused old c.args.h c.args.name c.args.flips c.in-Some.refused c.in-Some.ensures n))

pub returns-in_err-plan : goal.returns-in_err-plan
returns-in_err-plan c =
    let e = c.in_err-plan.field-0.0 in
    let good = ap (λ (w : World). rename_refusal c.args.h c.args.name w.groups) (sym c.self.view_is) ∙ not_due _ _ c.rename_refusal.ensures c.in_default.is in
    not_planned c.args.self.now c.args.self.now _ e c.from_residual.result (search rules) refl
    (λ n. rename_flips_refused c.args.self.now c.args.h c.args.name c.args.flips e good (c.in_err-plan.ensures n))

pub invariant_of-self-2 : goal.invariant_of-self-2
invariant_of-self-2 c =
    let plan : IsPlan c.args.flips c.args.self.now c.in_ok-plan.plan = c.in_ok-plan.ensures in
    let ordered = ap numbers c.as_slice.ensures ∙ plan.ordered ∙ sym (ap (λ (w : World). order w.groups) c.self.view_is) in (
      kept_renamed c.self.inside.buffers c.rename.new.self c.set_flags.new.held c.self.inside.limit c.self.inside.next c.args.h c.args.name c.in_default-rename.ensures.after
          (kept_set c.self.inside.buffers c.self.inside.held c.set_flags.new.held (rows_map c.self.inside.nicks) c.self.inside.limit c.self.inside.next c.self.invariant.0 c.args.flips
          (all_set c.self.inside.buffers c.self.inside.held c.set_flags.new.held c.self.inside.limit c.self.inside.next c.args.flips (flag_at c.in_ok-plan.plan.flags) _ c.self.invariant.0 ordered plan.last c.set_flags.ensures)),
      nicks_renamed c.self.inside.buffers c.rename.new.self c.self.inside.nicks c.self.inside.row_count c.args.h c.args.name c.in_default-rename.ensures.after c.self.invariant.1,
    )

pub returns : goal.returns
returns c =
    let plan : IsPlan c.args.flips c.args.self.now c.in_ok-plan.plan = c.in_ok-plan.ensures in
    let ordered = ap numbers c.as_slice.ensures ∙ plan.ordered ∙ sym (ap (λ (w : World). order w.groups) c.self.view_is) in
    rename_done c.self.inside.buffers c.self.inside.held c.set_flags.new.held (rows_map c.self.inside.nicks) c.self.inside.limit c.self.inside.next c.self.invariant.0 c.args.flips
    (all_set c.self.inside.buffers c.self.inside.held c.set_flags.new.held c.self.inside.limit c.self.inside.next c.args.flips (flag_at c.in_ok-plan.plan.flags) _ c.self.invariant.0 ordered plan.last c.set_flags.ensures)
    c.args.self.now c.args.h c.self.view_is plan.all_held [] c.into_differing.result c.noticed.result refl (c.into_differing.ensures ∙ plan.found)
    c.rename.new.self c.args.name c.in_default-rename.ensures.accepted c.in_default-rename.ensures.after (c.noticed.ensures ∙ ap (λ lines. told_at kinds.Renamed c.args.h c.rename.new.self c.args.name lines c.into_differing.result) c.none.ensures)
