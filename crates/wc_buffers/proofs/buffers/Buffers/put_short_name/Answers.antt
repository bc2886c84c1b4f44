use Rattle.std.proofs.Common.{◌∙◌, ap, refl}
use Rattle.wc_buffers.specs.Calls.{with_short_name, with_entry}
use Rattle.wc_buffers.proofs.EditLemmas.{is_stored, kept_changed_at, shown_changed_at}
use Rattle.wc_buffers.proofs.Fits.{short_name_fits}
use Rattle.wc_buffers.proofs.buffers.Buffers.put_short_name.Goals as goal

pub set_short_name-requires : goal.set_short_name-requires
set_short_name-requires c = is_stored c.self.inside.table c.self.inside.entries c.self.inside.names c.self.invariant c.args.h (rw c.self.view_is c.requires.there)

pub invariant_of-self : goal.invariant_of-self
invariant_of-self c = kept_changed_at c.args.h (with_short_name c.args.name) c.self.inside.table c.self.inside.entries c.set_short_name.new.entries c.self.inside.names (λ e. refl) (λ e. refl) (λ e. short_name_fits c.args.name e c.requires.fits c.requires.utf8) c.set_short_name.ensures c.self.invariant

pub returns : goal.returns
returns c = shown_changed_at c.args.h (with_short_name c.args.name) c.self.inside.table c.self.inside.entries c.set_short_name.new.entries c.self.inside.names c.self.invariant c.set_short_name.ensures (rw c.self.view_is c.requires.there) ∙ ap (with_entry c.args.h (with_short_name c.args.name)) c.self.view_is
