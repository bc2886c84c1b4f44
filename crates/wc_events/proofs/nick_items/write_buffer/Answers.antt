use Rattle.std.proofs.Common.{◌≡◌, List, true, false, map, sym, subst, ◌∙◌}
use Rattle.wc_buffers.specs.Calls.{is_there}
use Rattle.wc_nicklist.specs.declared.item.Row.{Row}
use Rattle.wc_nickdiff.specs.NickPush.{full_list, root_item}
use Rattle.wc_text.specs.declared.names.Handle.{Handle}
use Rattle.wc_objects.specs.declared.object.HdaItem.{HdaItem}
use Rattle.wc_events.specs.NickBytes.{Written, Writes}
use Rattle.wc_events.specs.NickObjects.{nick_item}
use Rattle.wc_events.proofs.NickLemmas.{listed_there, listed_absent}
use Rattle.wc_events.proofs.NickWalks.{none_written}
use Rattle.wc_events.proofs.nick_items.write_buffer.Goals as goal

pub returns-in-Some : goal.returns-in-Some
returns-in-Some c =
    let there : is_there c.args.buffer c.args.world.now.groups ≡ true = sym c.in-Some.ensures.there in
    let of : Handle → List Row → List HdaItem = λ root rows. map (nick_item c.args.buffer) (full_list (root_item root) rows) in
    let same = (λ i. of (c.in-Some.ensures.root i) (c.in-Some.ensures.rows i)) ∙ sym (listed_there c.args.world.now c.args.buffer there) in
    subst (λ (items : List HdaItem). Writes c.write_list.result c.args.left c.args.out.now c.write_list.new.out items) same c.write_list.ensures

pub returns-in-None : goal.returns-in-None
returns-in-None c =
    let absent : is_there c.args.buffer c.args.world.now.groups ≡ false = sym c.in-None.ensures.there in
    subst (λ (items : List HdaItem). Written c.args.left c.args.left c.args.out.now c.args.out.now items) (sym (listed_absent c.args.world.now c.args.buffer absent)) (none_written c.args.left c.args.out.now)
