use Rattle.std.proofs.Common.{◌≡◌, List, Some, true, false, map, sym, subst, ◌∙◌}
use Rattle.wc_buffers.specs.Calls.{is_there}
use Rattle.wc_nicklist.specs.declared.item.Row.{Row}
use Rattle.wc_nicklist.specs.Rows.{IsRows}
use Rattle.wc_nickdiff.specs.NickPush.{full_list, root_item}
use Rattle.wc_text.specs.declared.names.Handle.{Handle}
use Rattle.wc_objects.specs.declared.object.Object.{Object}
use Rattle.wc_events.specs.NickForms.{on_nick_path}
use Rattle.wc_events.specs.NickObjects.{nick_keys, nick_item}
use Rattle.wc_events.proofs.NickLemmas.{list_there, list_absent}
use Rattle.wc_events.proofs.NicksFormed.{one_formed}
use Rattle.wc_events.proofs.nicks.Nicks.of_buffer.Goals as goal

pub returns-in-None-clause-objects : goal.returns-in-None-clause-objects
returns-in-None-clause-objects c =
    let absent : is_there c.args.buffer c.args.world.now.groups ≡ false = sym c.in-None.ensures.there in
    sym (list_absent c.args.world.now c.args.buffer absent)

pub returns-in-Some-clause-objects : goal.returns-in-Some-clause-objects
returns-in-Some-clause-objects c =
    let there : is_there c.args.buffer c.args.world.now.groups ≡ true = sym c.in-Some.ensures.there in
    let of : Handle → List Row → List Object = λ root rows. on_nick_path nick_keys (map (nick_item c.args.buffer) (full_list (root_item root) rows)) in
    (λ i. Some (of (c.in-Some.ensures.root i) (c.in-Some.ensures.rows i))) ∙ sym (list_there c.args.world.now c.args.buffer there)

pub returns-in-Some-clause-formed : goal.returns-in-Some-clause-formed
returns-in-Some-clause-formed c =
    let list = c.in-Some.list.now in
    one_formed c.args.buffer list.root list.rows (subst IsRows (sym c.in-Some.ensures.rows) (c.in-Some.ensures.held c.args.buffer.0))
