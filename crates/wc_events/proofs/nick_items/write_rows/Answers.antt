use Rattle.std.proofs.Common.{rules, ◌≡◌, ◌∷◌, [], map, ap, subst, arith}
use Rattle.std.proofs.lemmas.Result.{err_from_is_err_and}
use Rattle.wc_nicklist.specs.declared.item.Item.{Item}
use Rattle.wc_nicklist.specs.declared.item.Row.{Row}
use Rattle.wc_events.specs.NickObjects.{nick_item}
use Rattle.wc_events.specs.NickBytes.{Written, Refused}
use Rattle.wc_events.proofs.NickWalks.{walk_start, walk_on, walk_refused, walk_end}
use Rattle.wc_events.proofs.nick_items.write_rows.Goals as goal

pub loop-row-init : goal.loop-row-init
loop-row-init c =
    let all : c.into_iter-row-iterator.result ≡ c.args.list.now.rows = search rules in
    walk_start c.args.whole c.args.out.now _ _ (ap (map (λ (r : Row). nick_item c.args.buffer r.item)) all)

pub write_nick-requires : goal.write_nick-requires
write_nick-requires c = omega (arith, c.requires, c.loop-row.invariant.amid.few)

pub returns-in_err-left : goal.returns-in_err-left
returns-in_err-left c =
    let next : c.loop-row.row-iterator ≡ c.in-Some.row ∷ c.next.new.self = c.in-Some.ensures.steps in
    let one : Refused c.in_err-left.field-0.0 c.loop-row.left c.loop-row.out c.write_nick.new.out (nick_item c.args.buffer c.in-Some.row.item ∷ []) =
    subst (λ (i : Item). Refused c.in_err-left.field-0.0 c.loop-row.left c.loop-row.out c.write_nick.new.out (nick_item c.args.buffer i ∷ [])) c.item.ensures c.in_err-left.ensures in
    let p = err_from_is_err_and c.from_residual.result c.from_residual.ensures.1 in
    rw (p.1, p.2)
    (walk_refused c.in_err-left.field-0.0 c.args.whole c.loop-row.left c.args.out.now c.loop-row.out c.write_nick.new.out _ _ (nick_item c.args.buffer c.in-Some.row.item ∷ []) (map (λ (r : Row). nick_item c.args.buffer r.item) c.next.new.self) (ap (map (λ (r : Row). nick_item c.args.buffer r.item)) next) c.loop-row.invariant one)

pub loop-row-preserved : goal.loop-row-preserved
loop-row-preserved c =
    let next : c.loop-row.row-iterator ≡ c.in-Some.row ∷ c.next.new.self = c.in-Some.ensures.steps in
    let one : Written c.loop-row.left c.in_ok-left.left c.loop-row.out c.write_nick.new.out (nick_item c.args.buffer c.in-Some.row.item ∷ []) =
    subst (λ (i : Item). Written c.loop-row.left c.in_ok-left.left c.loop-row.out c.write_nick.new.out (nick_item c.args.buffer i ∷ [])) c.item.ensures c.in_ok-left.ensures in
    walk_on c.args.whole c.loop-row.left c.in_ok-left.left c.args.out.now c.loop-row.out c.write_nick.new.out _ _ (nick_item c.args.buffer c.in-Some.row.item ∷ []) (map (λ (r : Row). nick_item c.args.buffer r.item) c.next.new.self) (ap (map (λ (r : Row). nick_item c.args.buffer r.item)) next) c.loop-row.invariant one

pub returns : goal.returns
returns c =
    let end : c.loop-row.row-iterator ≡ [] = search rules in
    walk_end c.args.whole c.loop-row.left c.args.out.now c.loop-row.out _ _ (ap (map (λ (r : Row). nick_item c.args.buffer r.item)) end) c.loop-row.invariant
