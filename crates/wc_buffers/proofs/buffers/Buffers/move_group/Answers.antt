use Rattle.std.proofs.Common.{◌∙◌, ◌-◌, ap}
use Rattle.wc_buffers.specs.Calls.{handle_of, move_group_to}
use Rattle.wc_buffers.specs.Groups.{has, move_group}
use Rattle.wc_buffers.specs.Kept.{entry_at, groups_of_handles}
use Rattle.wc_buffers.specs.Table.{key}
use Rattle.wc_buffers.proofs.EditLemmas.{is_grouped, within_shown}
use Rattle.wc_buffers.proofs.GroupLaws.{move_group-map, has_from_times, times-move_group}
use Rattle.wc_buffers.proofs.Keeps.{kept_moved}
use Rattle.wc_buffers.proofs.Shown.{key_at}
use Rattle.wc_buffers.proofs.buffers.Buffers.move_group.Goals as goal

pub move_group-requires-clause-there : goal.move_group-requires-clause-there
move_group-requires-clause-there c = is_grouped c.self.inside.table c.self.inside.entries c.self.inside.names c.self.invariant c.args.h (rw c.self.view_is c.requires.there)

pub move_group-requires-clause-within : goal.move_group-requires-clause-within
move_group-requires-clause-within c = within_shown c.self.inside.table c.self.inside.entries (c.args.number - 1) (rw c.self.view_is c.requires.within)

pub invariant_of-self : goal.invariant_of-self
invariant_of-self c =
    let gs = c.self.inside.table in
    kept_moved gs c.move_group.new.self c.self.inside.entries c.self.inside.names (λ q. ap (has key q) c.move_group.ensures ∙ has_from_times key q gs (move_group key c.args.h.0 (c.args.number - 1) gs) (times-move_group key q c.args.h.0 (c.args.number - 1) gs)) c.self.invariant

pub returns : goal.returns
returns c =
    ap (groups_of_handles c.self.inside.entries) c.move_group.ensures
    ∙ move_group-map (entry_at c.self.inside.entries) key handle_of (key_at c.self.inside.entries c.self.invariant.keyed) c.args.h.0 (c.args.number - 1) c.self.inside.table
    ∙ ap (move_group_to c.args.h c.args.number) c.self.view_is
