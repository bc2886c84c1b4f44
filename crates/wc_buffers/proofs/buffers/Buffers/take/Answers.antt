use Rattle.std.proofs.Common.{◌∙◌, None, cond, bytes_eq, ap, sym, subst, option_map}
use Rattle.wc_buffers.specs.declared.row.BufferEntry.{BufferEntry}
use Rattle.wc_buffers.specs.Calls.{buffer_of, without_buffer}
use Rattle.wc_buffers.specs.Kept.{at_name, groups_of_handles, AreBuffersKept}
use Rattle.wc_buffers.proofs.EditLemmas.{is_stored, is_grouped}
use Rattle.wc_buffers.proofs.Keeps.{kept_taken, shown_taken}
use Rattle.wc_buffers.proofs.Shown.{entry-shown}
use Rattle.wc_buffers.proofs.buffers.Buffers.take.Goals as goal

pub remove-entry-requires : goal.remove-entry-requires
remove-entry-requires c = is_stored c.self.inside.table c.self.inside.entries c.self.inside.names c.self.invariant c.args.h (rw c.self.view_is c.requires)

pub remove-requires-2 : goal.remove-requires-2
remove-requires-2 c = is_grouped c.self.inside.table c.self.inside.entries c.self.inside.names c.self.invariant c.args.h (rw c.self.view_is c.requires)

pub invariant_of-self : goal.invariant_of-self
invariant_of-self c =
    let e = c.remove-entry.result in
    subst (λ gs. AreBuffersKept gs c.remove-entry.new.entries c.remove.new.names) (sym c.remove-2.ensures)
    (kept_taken c.args.h.0 e c.self.inside.table c.self.inside.entries c.remove-entry.new.entries c.self.inside.names c.remove.new.names c.remove-entry.ensures.entry c.remove-entry.ensures.left
    (λ s. c.remove.ensures.left s ∙ ap (λ name. cond (bytes_eq name s) None (at_name c.self.inside.names s)) c.as_slice.ensures) c.self.invariant)

pub returns-clause-row : goal.returns-clause-row
returns-clause-row c =
    ap (buffer_of c.args.h) (sym c.self.view_is)
    ∙ ap (option_map (λ (e : BufferEntry). e.row)) (sym (entry-shown c.self.inside.table c.self.inside.entries c.self.inside.names c.self.invariant c.args.h.0) ∙ c.remove-entry.ensures.entry)

pub returns-clause-after : goal.returns-clause-after
returns-clause-after c =
    ap (groups_of_handles c.remove-entry.new.entries) c.remove-2.ensures
    ∙ shown_taken c.args.h.0 c.self.inside.table c.self.inside.entries c.remove-entry.new.entries c.self.inside.names c.self.invariant c.remove-entry.ensures.left
    ∙ ap (without_buffer c.args.h) c.self.view_is
