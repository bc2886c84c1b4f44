use Rattle.std.proofs.Common.{◌∙◌, ◌++◌, ◌∷◌, [], List, Some, cond, eqb, bytes_eq, ap, sym, subst}
use Rattle.wc_buffers.specs.declared.row.BufferEntry.{BufferEntry}
use Rattle.wc_buffers.specs.Kept.{at_name, groups_of_handles, AreBuffersKept}
use Rattle.wc_buffers.proofs.EditLemmas.{is_not_grouped, room_shown}
use Rattle.wc_buffers.proofs.Keeps.{kept_same, kept_added, shown_added}
use Rattle.wc_buffers.proofs.Named.{free_for_new}
use Rattle.wc_buffers.proofs.buffers.Buffers.put.Goals as goal

pub invariant_of-self : goal.invariant_of-self
invariant_of-self c = kept_same c.self.inside.table c.self.inside.entries c.reserve.new.entries c.self.inside.names c.reserve.new.names c.reserve.ensures.entries c.reserve.ensures.names c.self.invariant

pub add-requires-clause-room : goal.add-requires-clause-room
add-requires-clause-room c = room_shown c.self.inside.table c.self.inside.entries c.self.inside.names c.self.invariant (rw c.self.view_is c.requires.room)

pub add-requires-clause-absent : goal.add-requires-clause-absent
add-requires-clause-absent c = is_not_grouped c.self.inside.table c.self.inside.entries c.self.inside.names c.self.invariant c.args.entry.row.handle (rw c.self.view_is c.requires.absent)

pub invariant_of-self-2 : goal.invariant_of-self-2
invariant_of-self-2 c =
    let e = c.args.entry in
    let gs = c.self.inside.table in
    let absent = is_not_grouped gs c.self.inside.entries c.self.inside.names c.self.invariant e.row.handle (rw c.self.view_is c.requires.absent) in
    subst (λ g. AreBuffersKept g c.insert-2.new.entries c.insert.new.names) (sym c.add.ensures)
    (kept_added e gs c.self.inside.entries c.insert-2.new.entries c.self.inside.names c.insert.new.names c.requires.handle absent c.requires.fits
    (free_for_new gs c.self.inside.entries c.self.inside.names c.self.invariant e.row.full_name e.row.handle absent (rw c.self.view_is c.requires.free))
    (λ q. c.insert-2.ensures q ∙ ap (cond (eqb e.row.handle.0 q) (Some e)) (c.reserve.ensures.entries q))
    (λ s. c.insert.ensures s ∙ ap (λ name. cond (bytes_eq name s) (Some e.row.handle) (at_name c.reserve.new.names s)) (c.in_ok-name.ensures.name ∙ c.as_slice-full_name.ensures) ∙ ap (cond (bytes_eq e.row.full_name s) (Some e.row.handle)) (c.reserve.ensures.names s))
    c.self.invariant)

pub returns-clause-ok : goal.returns-clause-ok
returns-clause-ok c =
    let e = c.args.entry in
    let gs = c.self.inside.table in
    let absent = is_not_grouped gs c.self.inside.entries c.self.inside.names c.self.invariant e.row.handle (rw c.self.view_is c.requires.absent) in
    ap (groups_of_handles c.insert-2.new.entries) c.add.ensures
    ∙ shown_added e gs c.self.inside.entries c.insert-2.new.entries absent (λ q. c.insert-2.ensures q ∙ ap (cond (eqb e.row.handle.0 q) (Some e)) (c.reserve.ensures.entries q))
    ∙ ap (λ (l : List (List BufferEntry)). l ++ (e ∷ []) ∷ []) c.self.view_is
