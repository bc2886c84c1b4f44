use Rattle.std.proofs.Common.{rules, ◌≡◌, ◌∷◌, [], ap, arith}
use Rattle.std.proofs.lemmas.Result.{err_from_is_err_and}
use Rattle.wc_buffers.specs.Kept.{handles}
use Rattle.wc_events.specs.NickForms.{all_nicks, nick_group}
use Rattle.wc_events.proofs.NickWalks.{walk_start, walk_on, walk_refused, walk_end}
use Rattle.wc_events.proofs.nick_items.write_all.Goals as goal

pub loop-group-init : goal.loop-group-init
loop-group-init c =
    let all : c.into_iter-group-iterator.result ≡ handles c.args.world.now.groups = search rules in
    walk_start c.args.whole c.args.out.now _ _ (ap (all_nicks c.args.world.now) all)

pub write_group-requires : goal.write_group-requires
write_group-requires c = omega (arith, c.requires, c.loop-group.invariant.amid.few)

pub returns-in_err-left : goal.returns-in_err-left
returns-in_err-left c =
    let w = c.args.world.now in
    let group = c.in-Some.group.now in
    let next : c.loop-group.group-iterator ≡ group ∷ c.next.new.self = search rules in
    let p = err_from_is_err_and c.from_residual.result c.from_residual.ensures.1 in
    rw (p.1, p.2)
    (walk_refused c.in_err-left.field-0.0 c.args.whole c.loop-group.left c.args.out.now c.loop-group.out c.write_group.new.out _ _ (nick_group w group) (all_nicks w c.next.new.self) (ap (all_nicks w) next) c.loop-group.invariant c.in_err-left.ensures)

pub loop-group-preserved : goal.loop-group-preserved
loop-group-preserved c =
    let w = c.args.world.now in
    let group = c.in-Some.group.now in
    let next : c.loop-group.group-iterator ≡ group ∷ c.next.new.self = search rules in
    walk_on c.args.whole c.loop-group.left c.in_ok-left.left c.args.out.now c.loop-group.out c.write_group.new.out _ _ (nick_group w group) (all_nicks w c.next.new.self) (ap (all_nicks w) next) c.loop-group.invariant c.in_ok-left.ensures

pub returns : goal.returns
returns c =
    let end : c.loop-group.group-iterator ≡ [] = search rules in
    walk_end c.args.whole c.loop-group.left c.args.out.now c.loop-group.out _ _ (ap (all_nicks c.args.world.now) end) c.loop-group.invariant
