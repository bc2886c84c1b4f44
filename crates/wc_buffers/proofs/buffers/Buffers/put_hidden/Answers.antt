use Rattle.std.proofs.Common.{◌∙◌, ap, refl}
use Rattle.wc_buffers.specs.Calls.{with_hidden, with_entry}
use Rattle.wc_buffers.proofs.EditLemmas.{is_stored, kept_changed_at, shown_changed_at}
use Rattle.wc_buffers.proofs.Fits.{hidden_fits}
use Rattle.wc_buffers.proofs.buffers.Buffers.put_hidden.Goals as goal

pub set_hidden-requires : goal.set_hidden-requires
set_hidden-requires c = is_stored c.self.inside.table c.self.inside.entries c.self.inside.names c.self.invariant c.args.h (rw c.self.view_is c.requires)

pub invariant_of-self : goal.invariant_of-self
invariant_of-self c = kept_changed_at c.args.h (with_hidden c.args.hidden) c.self.inside.table c.self.inside.entries c.set_hidden.new.entries c.self.inside.names (λ e. refl) (λ e. refl) (λ e. hidden_fits c.args.hidden e) c.set_hidden.ensures c.self.invariant

pub returns : goal.returns
returns c = shown_changed_at c.args.h (with_hidden c.args.hidden) c.self.inside.table c.self.inside.entries c.set_hidden.new.entries c.self.inside.names c.self.invariant c.set_hidden.ensures (rw c.self.view_is c.requires) ∙ ap (with_entry c.args.h (with_hidden c.args.hidden)) c.self.view_is
