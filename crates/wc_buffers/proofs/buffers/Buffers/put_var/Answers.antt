use Rattle.std.proofs.Common.{◌≡◌, ◌∙◌, ◌&&◌, Some, ap, sym, refl}
use Rattle.wc_buffers.specs.Calls.{with_var, with_entry, lacks_var, is_full, entry_of}
use Rattle.wc_buffers.proofs.EditLemmas.{is_stored, shown_changed_at}
use Rattle.wc_buffers.proofs.Fits.{var_fits}
use Rattle.wc_buffers.proofs.Keeps.{kept_changed, kept_same, unchanged}
use Rattle.wc_buffers.proofs.Shown.{entry-shown}
use Rattle.wc_buffers.proofs.buffers.Buffers.put_var.Goals as goal

pub set_var-requires-clause-there : goal.set_var-requires-clause-there
set_var-requires-clause-there c = is_stored c.self.inside.table c.self.inside.entries c.self.inside.names c.self.invariant c.args.h (rw c.self.view_is c.requires.there)

pub invariant_of-self : goal.invariant_of-self
invariant_of-self c = kept_same c.self.inside.table c.self.inside.entries c.set_var.new.entries c.self.inside.names c.self.inside.names (unchanged c.args.h.0 c.self.inside.entries c.set_var.new.entries c.in_err-new.ensures.err) (λ s. refl) c.self.invariant

pub invariant_of-self-2 : goal.invariant_of-self-2
invariant_of-self-2 c =
    let name = c.args.name.now in
    kept_changed c.args.h.0 (with_var name c.args.value.now) c.self.inside.table c.self.inside.entries c.set_var.new.entries c.self.inside.names (λ e. refl) (λ e. refl)
    (λ e i is.
    let here : entry_of c.args.h c.args.self.now ≡ Some e = ap (entry_of c.args.h) (sym c.self.view_is) ∙ sym (entry-shown c.self.inside.table c.self.inside.entries c.self.inside.names c.self.invariant c.args.h.0) ∙ i in
    var_fits name c.args.value.now e c.requires.own (ap (λ o. lacks_var name o && is_full o) (sym here) ∙ c.requires.room) c.requires.utf8 is)
    c.in_ok-new.ensures.ok c.self.invariant

pub returns-clause-ok : goal.returns-clause-ok
returns-clause-ok c =
    let f = with_var c.args.name.now c.args.value.now in
    shown_changed_at c.args.h f c.self.inside.table c.self.inside.entries c.set_var.new.entries c.self.inside.names c.self.invariant c.in_ok-new.ensures.ok (rw c.self.view_is c.requires.there) ∙ ap (with_entry c.args.h f) c.self.view_is

pub returns-clause-new : goal.returns-clause-new
returns-clause-new c =
    c.in_ok-new.ensures.new ∙ ap (lacks_var c.args.name.now) (entry-shown c.self.inside.table c.self.inside.entries c.self.inside.names c.self.invariant c.args.h.0 ∙ ap (entry_of c.args.h) c.self.view_is)
