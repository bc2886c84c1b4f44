use Rattle.std.proofs.Common.{◌∷◌, [], ◌+◌, map, drop, refl, ap, arith}
use Rattle.std.proofs.lemmas.Result.{err_from_is_err_and}
use Rattle.wc_events.specs.NickObjects.{diff_item}
use Rattle.wc_events.proofs.NickBytes.{drop_on, drop_end}
use Rattle.wc_events.proofs.NickWalks.{walk_start, walk_on, walk_refused, walk_end}
use Rattle.wc_events.proofs.nick_items.write_diffs.Goals as goal

pub loop-item-init : goal.loop-item-init
loop-item-init c = walk_start c.args.whole c.args.out.now (map (diff_item c.args.buffer) c.args.items.now) (map (diff_item c.args.buffer) c.args.items.now) refl

pub write_diff-requires : goal.write_diff-requires
write_diff-requires c = omega (arith, c.requires, c.loop-item.invariant.amid.few)

pub returns-in_err-left : goal.returns-in_err-left
returns-in_err-left c =
    let next = drop_on c.args.items.now c.loop-item.item-index c.item-item.result c.loop-item-test.true c.item-item.is in
    let p = err_from_is_err_and c.from_residual.result c.from_residual.ensures.1 in
    rw (p.1, p.2)
    (walk_refused c.in_err-left.field-0.0 c.args.whole c.loop-item.left c.args.out.now c.loop-item.out c.write_diff.new.out _ _ (diff_item c.args.buffer c.item-item.result ∷ []) (map (diff_item c.args.buffer) (drop (c.loop-item.item-index + 1) c.args.items.now)) (ap (map (diff_item c.args.buffer)) next) c.loop-item.invariant c.in_err-left.ensures)

pub loop-item-preserved : goal.loop-item-preserved
loop-item-preserved c =
    let next = drop_on c.args.items.now c.loop-item.item-index c.item-item.result c.loop-item-test.true c.item-item.is in
    walk_on c.args.whole c.loop-item.left c.in_ok-left.left c.args.out.now c.loop-item.out c.write_diff.new.out _ _ (diff_item c.args.buffer c.item-item.result ∷ []) (map (diff_item c.args.buffer) (drop (c.loop-item.item-index + 1) c.args.items.now)) (ap (map (diff_item c.args.buffer)) next) c.loop-item.invariant c.in_ok-left.ensures

pub returns : goal.returns
returns c = walk_end c.args.whole c.loop-item.left c.args.out.now c.loop-item.out _ _ (ap (map (diff_item c.args.buffer)) (drop_end c.args.items.now c.loop-item.item-index c.loop-item-test.false)) c.loop-item.invariant
