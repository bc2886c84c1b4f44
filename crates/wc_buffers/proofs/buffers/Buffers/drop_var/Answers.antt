use Rattle.std.proofs.Common.{◌∙◌, ap, refl}
use Rattle.wc_buffers.specs.Calls.{without_var, with_entry}
use Rattle.wc_buffers.proofs.EditLemmas.{is_stored, kept_changed_at, shown_changed_at}
use Rattle.wc_buffers.proofs.Fits.{removed_fits}
use Rattle.wc_buffers.proofs.buffers.Buffers.drop_var.Goals as goal

pub remove_var-requires : goal.remove_var-requires
remove_var-requires c = is_stored c.self.inside.table c.self.inside.entries c.self.inside.names c.self.invariant c.args.h (rw c.self.view_is c.requires.there)

pub invariant_of-self : goal.invariant_of-self
invariant_of-self c = kept_changed_at c.args.h (without_var c.args.name.now) c.self.inside.table c.self.inside.entries c.remove_var.new.entries c.self.inside.names (λ e. refl) (λ e. refl) (λ e. removed_fits c.args.name.now e c.requires.own) c.remove_var.ensures c.self.invariant

pub returns : goal.returns
returns c = shown_changed_at c.args.h (without_var c.args.name.now) c.self.inside.table c.self.inside.entries c.remove_var.new.entries c.self.inside.names c.self.invariant c.remove_var.ensures (rw c.self.view_is c.requires.there) ∙ ap (with_entry c.args.h (without_var c.args.name.now)) c.self.view_is
