use Rattle.std.proofs.Common.{ap, ◌∙◌}
use Rattle.std.specs.Prelude.{map, string_bytes}
use Rattle.wc_core.specs.CoreView.{CoreView}
use Rattle.wc_core.proofs.StartLemmas.{started-by, idle-by, starts-by}
use Rattle.wc_core.proofs.core_state.Core.start.Goals as goal

pub returns-clause-does : goal.returns-clause-does
returns-clause-does c =
    let none = ap (λ v. map string_bytes v.items) c.replace-commands.ensures.after ∙ ap (map string_bytes) c.new.ensures.items in
    let commands = ap (map string_bytes) (c.as_slice.ensures.value ∙ ap (λ v. v.items) c.replace-commands.ensures.value) in
    let done = rw (← c.self-2.view_is) at c.run_start.ensures.does in
    rw (← c.self.view_is) (started-by _ _ _ _ _ _ _ c.args.moment _ c.first_handle-handle.ensures c.skip_to.ensures none c.replace-quit.ensures.after c.replace-quit.ensures.value commands done)

pub returns-clause-idle : goal.returns-clause-idle
returns-clause-idle c empty held =
    let none = ap (λ v. map string_bytes v.items) c.replace-commands.ensures.after ∙ ap (map string_bytes) c.new.ensures.items in
    let commands = ap (map string_bytes) (c.as_slice.ensures.value ∙ ap (λ v. v.items) c.replace-commands.ensures.value) in
    let same = rw (← c.self-2.view_is) at c.run_start.ensures.idle in
    let without = ap (λ (core : CoreView). core.commands) c.self.view_is ∙ empty in
    let off = ap (λ (core : CoreView). core.connects) c.self.view_is ∙ held in
    idle-by _ _ _ _ _ _ _ c.args.moment _ c.self.view_is c.first_handle-handle.ensures c.skip_to.ensures none c.replace-quit.ensures.after c.replace-quit.ensures.value empty (same (commands ∙ without) off)

pub returns-clause-each : goal.returns-clause-each
returns-clause-each c =
    let none = ap (λ v. map string_bytes v.items) c.replace-commands.ensures.after ∙ ap (map string_bytes) c.new.ensures.items in
    let commands = ap (map string_bytes) (c.as_slice.ensures.value ∙ ap (λ v. v.items) c.replace-commands.ensures.value) in
    let done = rw (← c.self-2.view_is) at c.run_start.ensures.each in
    rw (← c.self.view_is) (starts-by _ _ _ _ _ _ _ c.args.moment _ c.first_handle-handle.ensures c.skip_to.ensures none c.replace-quit.ensures.after c.replace-quit.ensures.value commands done)
