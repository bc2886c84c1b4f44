use Rattle.std.proofs.Common.{◌∙◌, ◌∷◌, [], ap, sym, arith, length}
use Rattle.wc_buffers.specs.Groups.{rows, has, append_to, merge, take_out}
use Rattle.wc_buffers.specs.Table.{key}
use Rattle.wc_buffers.proofs.TableLemmas.{rows-taken, taken_has, taken_lacks, picked, rows-put}
use Rattle.wc_buffers.proofs.GroupLaws.{has_from_times, times-merge}
use Rattle.wc_buffers.proofs.table.GroupTable.merge.Goals as goal

pub append-requires-clause-there : goal.append-requires-clause-there
append-requires-clause-there c = ap (has key c.args.into.0) c.remove.ensures.removed ∙ taken_has c.args.h.0 c.args.into.0 c.self.inside.groups.items c.requires.apart (rw c.self.view_is c.requires.target)

pub append-requires-clause-absent : goal.append-requires-clause-absent
append-requires-clause-absent c = ap (has key c.args.h.0) c.remove.ensures.removed ∙ taken_lacks c.args.h.0 c.self.inside.groups.items

pub append-requires-clause-room : goal.append-requires-clause-room
append-requires-clause-room c =
    let few = c.self.invariant.stored.groups_are.few in
    omega (arith, ap (λ l. length (rows l)) c.remove.ensures.removed, rows-taken c.args.h.0 c.self.inside.groups.items c.self.invariant.stored.groups_are (rw c.self.view_is c.requires.there))

pub invariant_of-self : goal.invariant_of-self
invariant_of-self c = record {
  stored = c.append.ensures.stored;
  counted = (
      let counted = c.self.invariant.counted in
      omega (
        arith,
        ap (λ l. length (rows l)) c.append.ensures.appended,
        rows-put c.args.into.0 c.args.h c.remove.new.groups.items c.remove.ensures.stored.groups_are (ap (has key c.args.into.0) c.remove.ensures.removed ∙ taken_has c.args.h.0 c.args.into.0 c.self.inside.groups.items c.requires.apart (rw c.self.view_is c.requires.target)),
        ap (λ l. length (rows l)) c.remove.ensures.removed,
        rows-taken c.args.h.0 c.self.inside.groups.items c.self.invariant.stored.groups_are (rw c.self.view_is c.requires.there),
      )
      );
}

pub returns-clause-merged : goal.returns-clause-merged
returns-clause-merged c =
    c.append.ensures.appended ∙ ap (append_to key c.args.into.0 (c.args.h ∷ [])) c.remove.ensures.removed
    ∙ ap (λ new. append_to key c.args.into.0 new (take_out key c.args.h.0 c.self.inside.groups.items)) (sym (picked c.args.h c.self.inside.groups.items c.self.invariant.stored.groups_are (rw c.self.view_is c.requires.there)))
    ∙ ap (merge key c.args.h.0 c.args.into.0) c.self.view_is

pub returns-clause-same : goal.returns-clause-same
returns-clause-same c = λ q.
    ap (has key q) (returns-clause-merged c)
    ∙ has_from_times key q c.args.self.now (merge key c.args.h.0 c.args.into.0 c.args.self.now)
    (times-merge key q c.args.h.0 c.args.into.0 c.args.self.now (rw c.self.view_is at (c.self.invariant.stored.groups_are.once c.args.into.0)) c.requires.target c.requires.apart)
