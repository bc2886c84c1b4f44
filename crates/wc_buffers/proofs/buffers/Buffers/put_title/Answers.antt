use Rattle.std.proofs.Common.{◌∙◌, ap, refl}
use Rattle.wc_buffers.specs.Calls.{with_title, with_entry}
use Rattle.wc_buffers.proofs.EditLemmas.{is_stored, kept_changed_at, shown_changed_at}
use Rattle.wc_buffers.proofs.Fits.{title_fits}
use Rattle.wc_buffers.proofs.buffers.Buffers.put_title.Goals as goal

pub set_title-requires : goal.set_title-requires
set_title-requires c = is_stored c.self.inside.table c.self.inside.entries c.self.inside.names c.self.invariant c.args.h (rw c.self.view_is c.requires.there)

pub invariant_of-self : goal.invariant_of-self
invariant_of-self c = kept_changed_at c.args.h (with_title c.args.title) c.self.inside.table c.self.inside.entries c.set_title.new.entries c.self.inside.names (λ e. refl) (λ e. refl) (λ e. title_fits c.args.title e c.requires.fits c.requires.utf8) c.set_title.ensures c.self.invariant

pub returns : goal.returns
returns c = shown_changed_at c.args.h (with_title c.args.title) c.self.inside.table c.self.inside.entries c.set_title.new.entries c.self.inside.names c.self.invariant c.set_title.ensures (rw c.self.view_is c.requires.there) ∙ ap (with_entry c.args.h (with_title c.args.title)) c.self.view_is
