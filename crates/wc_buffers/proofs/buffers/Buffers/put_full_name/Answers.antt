use Rattle.std.proofs.Common.{◌∙◌, List, ℕ, Some, None, cond, bytes_eq, ap, sym, subst}
use Rattle.wc_buffers.specs.Calls.{with_full_name, with_entry}
use Rattle.wc_buffers.specs.Kept.{at_handle, at_name, IsEntryChanged}
use Rattle.wc_buffers.proofs.EditLemmas.{is_stored, shown_changed_at, stored_entry}
use Rattle.wc_buffers.proofs.Fits.{full_name_fits}
use Rattle.wc_buffers.proofs.Keeps.{kept_renamed, kept_same, unchanged}
use Rattle.wc_buffers.proofs.Named.{free_but}
use Rattle.wc_buffers.proofs.buffers.Buffers.put_full_name.Goals as goal

pub set_full_name-requires : goal.set_full_name-requires
set_full_name-requires c = is_stored c.self.inside.table c.self.inside.entries c.self.inside.names c.self.invariant c.args.h (rw c.self.view_is c.requires.there)

pub invariant_of-self-in_err-old : goal.invariant_of-self-in_err-old
invariant_of-self-in_err-old c = kept_same c.self.inside.table c.self.inside.entries c.set_full_name.new.entries c.self.inside.names c.reserve.new.names (unchanged c.args.h.0 c.self.inside.entries c.set_full_name.new.entries c.in_err-old.ensures.err) c.reserve.ensures.same c.self.invariant

pub invariant_of-self-2 : goal.invariant_of-self-2
invariant_of-self-2 c =
    let es = c.self.inside.entries in
    let ns = c.self.inside.names in
    let name = c.args.name.now in
    let there = is_stored c.self.inside.table es ns c.self.invariant c.args.h (rw c.self.view_is c.requires.there) in
    let old = stored_entry (at_handle es c.args.h.0) c.in_ok-old.old there c.in_ok-old.ensures.old in
    let new : IsEntryChanged c.args.h.0 (with_full_name name) es c.set_full_name.new.entries = subst (λ (n : List ℕ). IsEntryChanged c.args.h.0 (with_full_name n) es c.set_full_name.new.entries) c.in_ok-name.ensures c.in_ok-old.ensures.ok in
    kept_renamed c.args.h old.0 name c.self.inside.table es c.set_full_name.new.entries ns c.remove.new.names c.insert.new.names old.1
    (λ is. full_name_fits name old.0 c.requires.fits c.requires.utf8 is)
    (λ other e. free_but c.self.inside.table es ns c.self.invariant name c.args.h other (rw c.self.view_is c.requires.free) e)
    new
    (λ s. c.remove.ensures.left s ∙ ap (λ n. cond (bytes_eq n s) None (at_name c.reserve.new.names s)) (c.as_slice-2.ensures ∙ sym old.2) ∙ ap (cond (bytes_eq old.0.row.full_name s) None) (c.reserve.ensures.same s))
    (λ s. c.insert.ensures s ∙ ap (λ n. cond (bytes_eq n s) (Some c.args.h) (at_name c.remove.new.names s)) (c.in_ok-key.ensures ∙ c.as_slice.ensures))
    c.self.invariant

pub returns-clause-ok : goal.returns-clause-ok
returns-clause-ok c =
    let es = c.self.inside.entries in
    let name = c.args.name.now in
    let new : IsEntryChanged c.args.h.0 (with_full_name name) es c.set_full_name.new.entries = subst (λ (n : List ℕ). IsEntryChanged c.args.h.0 (with_full_name n) es c.set_full_name.new.entries) c.in_ok-name.ensures c.in_ok-old.ensures.ok in
    shown_changed_at c.args.h (with_full_name name) c.self.inside.table es c.set_full_name.new.entries c.self.inside.names c.self.invariant new (rw c.self.view_is c.requires.there) ∙ ap (with_entry c.args.h (with_full_name name)) c.self.view_is
