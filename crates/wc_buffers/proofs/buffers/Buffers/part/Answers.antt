use Rattle.std.proofs.Common.{◌∙◌, ap}
use Rattle.wc_buffers.specs.Calls.{handle_of, is_alone, unmerge_group}
use Rattle.wc_buffers.specs.Groups.{has, unmerge}
use Rattle.wc_buffers.specs.Kept.{entry_at, groups_of_handles}
use Rattle.wc_buffers.specs.Table.{key}
use Rattle.wc_buffers.proofs.EditLemmas.{is_grouped}
use Rattle.wc_buffers.proofs.GroupLaws.{unmerge-map, has_from_times, times-unmerge}
use Rattle.wc_buffers.proofs.Keeps.{kept_moved}
use Rattle.wc_buffers.proofs.Shown.{key_at, alone-shown}
use Rattle.wc_buffers.proofs.buffers.Buffers.part.Goals as goal

pub unmerge-requires-clause-there : goal.unmerge-requires-clause-there
unmerge-requires-clause-there c = is_grouped c.self.inside.table c.self.inside.entries c.self.inside.names c.self.invariant c.args.h (rw c.self.view_is c.requires.there)

pub unmerge-requires-clause-merged : goal.unmerge-requires-clause-merged
unmerge-requires-clause-merged c = alone-shown c.self.inside.table c.self.inside.entries c.self.inside.names c.self.invariant c.args.h ∙ ap (is_alone c.args.h) c.self.view_is ∙ c.requires.merged

pub invariant_of-self : goal.invariant_of-self
invariant_of-self c =
    let gs = c.self.inside.table in
    kept_moved gs c.unmerge.new.self c.self.inside.entries c.self.inside.names (λ q. ap (has key q) c.unmerge.ensures ∙ has_from_times key q gs (unmerge key c.args.h.0 gs) (times-unmerge key q c.args.h.0 gs)) c.self.invariant

pub returns : goal.returns
returns c =
    ap (groups_of_handles c.self.inside.entries) c.unmerge.ensures
    ∙ unmerge-map (entry_at c.self.inside.entries) key handle_of (key_at c.self.inside.entries c.self.invariant.keyed) c.args.h.0 c.self.inside.table
    ∙ ap (unmerge_group c.args.h) c.self.view_is
