use Rattle.std.proofs.Common.{sym, ◌∙◌, arith}
use Rattle.std.specs.Vec.Iter.{into_iter_items}
use Rattle.wc_view.proofs.NickListing.{empty_items, answered, listed_none, listed_other, listed_rows}
use Rattle.wc_view.proofs.nick_list.list_of.Goals as goal

pub returns-in_default : goal.returns-in_default
returns-in_default c = listed_none c.args.items.items (empty_items c.args.items.items (omega (arith, c.args.items.ok.0, c.into_iter-rows.ensures.len, c.in_default.ensures.cases.0)))

pub returns-then-not-is_root_item : goal.returns-then-not-is_root_item
returns-then-not-is_root_item c =
    listed_other c.args.items.items (into_iter_items c.next.new.self) c.in-Some.root (sym c.into_iter-rows.ensures.rest ∙ c.in-Some.ensures.items)
    (sym c.is_root_item.ensures ∙ c.if-not-is_root_item.true)

pub returns : goal.returns
returns c =
    answered (λ list. list.rows) c.list_after.result _ _ c.list_after.ensures
    (listed_rows c.args.items.items (into_iter_items c.next.new.self) c.in-Some.root (sym c.into_iter-rows.ensures.rest ∙ c.in-Some.ensures.items) (sym c.is_root_item.ensures ∙ c.if-not-is_root_item.false))
