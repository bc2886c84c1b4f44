use Rattle.std.proofs.Common.{◌∙◌, ap}
use Rattle.wc_buffers.specs.Calls.{handle_of, are_together, merge_groups}
use Rattle.wc_buffers.specs.Kept.{entry_at, groups_of_handles}
use Rattle.wc_buffers.specs.Table.{key}
use Rattle.wc_buffers.proofs.EditLemmas.{is_grouped, not_together}
use Rattle.wc_buffers.proofs.GroupLaws.{merge-map}
use Rattle.wc_buffers.proofs.Keeps.{kept_moved}
use Rattle.wc_buffers.proofs.Shown.{key_at, together-shown}
use Rattle.wc_buffers.proofs.buffers.Buffers.append.Goals as goal

pub merge-requires-clause-there : goal.merge-requires-clause-there
merge-requires-clause-there c = is_grouped c.self.inside.table c.self.inside.entries c.self.inside.names c.self.invariant c.args.h (rw c.self.view_is c.requires.there)

pub merge-requires-clause-target : goal.merge-requires-clause-target
merge-requires-clause-target c = is_grouped c.self.inside.table c.self.inside.entries c.self.inside.names c.self.invariant c.args.into (rw c.self.view_is c.requires.target)

pub merge-requires-clause-apart : goal.merge-requires-clause-apart
merge-requires-clause-apart c =
    not_together c.args.h.0 c.args.into.0 c.self.inside.table
    (is_grouped c.self.inside.table c.self.inside.entries c.self.inside.names c.self.invariant c.args.h (rw c.self.view_is c.requires.there))
    (together-shown c.self.inside.table c.self.inside.entries c.self.inside.names c.self.invariant c.args.h c.args.into ∙ ap (are_together c.args.h c.args.into) c.self.view_is ∙ c.requires.apart)

pub invariant_of-self : goal.invariant_of-self
invariant_of-self c = kept_moved c.self.inside.table c.merge.new.self c.self.inside.entries c.self.inside.names c.merge.ensures.same c.self.invariant

pub returns : goal.returns
returns c =
    ap (groups_of_handles c.self.inside.entries) c.merge.ensures.merged
    ∙ merge-map (entry_at c.self.inside.entries) key handle_of (key_at c.self.inside.entries c.self.invariant.keyed) c.args.h.0 c.args.into.0 c.self.inside.table
    ∙ ap (merge_groups c.args.h c.args.into) c.self.view_is
