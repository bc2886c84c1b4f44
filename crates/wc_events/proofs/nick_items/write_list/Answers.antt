use Rattle.std.proofs.Common.{◌∷◌, [], map, subst, arith}
use Rattle.std.proofs.lemmas.Result.{err_from_is_err_and}
use Rattle.wc_nicklist.specs.declared.item.Row.{Row}
use Rattle.wc_nickdiff.specs.NickPush.{root_item}
use Rattle.wc_text.specs.declared.names.Handle.{Handle}
use Rattle.wc_events.specs.NickBytes.{Written, Refused}
use Rattle.wc_events.specs.NickObjects.{nick_item}
use Rattle.wc_events.proofs.NickLemmas.{root_then_rows}
use Rattle.wc_events.proofs.NickWalks.{first_refused, then_writes}
use Rattle.wc_events.proofs.nick_items.write_list.Goals as goal

pub write_rows-requires : goal.write_rows-requires
write_rows-requires c = omega (arith, c.requires, c.in_ok-left.ensures.after.few)

pub returns-in_err-left : goal.returns-in_err-left
returns-in_err-left c =
    let buffer = c.args.buffer in
    let list = c.args.list.now in
    let one : Refused c.in_err-left.field-0.0 c.args.left c.args.out.now c.write_root.new.out (nick_item buffer (root_item list.root) ∷ []) =
    subst (λ (h : Handle). Refused c.in_err-left.field-0.0 c.args.left c.args.out.now c.write_root.new.out (nick_item buffer (root_item h) ∷ [])) c.root.ensures c.in_err-left.ensures in
    let p = err_from_is_err_and c.from_residual.result c.from_residual.ensures.1 in
    rw (p.1, p.2)
    (first_refused c.in_err-left.field-0.0 c.args.left c.args.out.now c.write_root.new.out _ (nick_item buffer (root_item list.root) ∷ []) (map (λ (r : Row). nick_item buffer r.item) list.rows) (root_then_rows buffer list.root list.rows) one)

pub returns : goal.returns
returns c =
    let buffer = c.args.buffer in
    let list = c.args.list.now in
    let one : Written c.args.left c.in_ok-left.left c.args.out.now c.write_root.new.out (nick_item buffer (root_item list.root) ∷ []) =
    subst (λ (h : Handle). Written c.args.left c.in_ok-left.left c.args.out.now c.write_root.new.out (nick_item buffer (root_item h) ∷ [])) c.root.ensures c.in_ok-left.ensures in
    then_writes c.write_rows.result c.args.left c.in_ok-left.left c.args.out.now c.write_root.new.out c.write_rows.new.out _ (nick_item buffer (root_item list.root) ∷ []) (map (λ (r : Row). nick_item buffer r.item) list.rows) (root_then_rows buffer list.root list.rows) one c.write_rows.ensures
