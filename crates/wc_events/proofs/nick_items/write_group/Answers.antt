use Rattle.std.proofs.Common.{◌≡◌, ◌+◌, ◌∷◌, drop, get_or, refl, ap, arith}
use Rattle.std.proofs.lemmas.List.{drop_more}
use Rattle.std.proofs.lemmas.Result.{err_from_is_err_and}
use Rattle.wc_text.specs.declared.names.Handle.{Handle}
use Rattle.wc_buffers.specs.Calls.{entry_of}
use Rattle.wc_events.specs.Dumps.{if_there}
use Rattle.wc_events.specs.NickForms.{nick_group}
use Rattle.wc_events.specs.NickObjects.{root_and_rows}
use Rattle.wc_events.proofs.NickBytes.{drop_end}
use Rattle.wc_events.proofs.NickWalks.{walk_start, walk_on, walk_refused, walk_end}
use Rattle.wc_events.proofs.nick_items.write_group.Goals as goal

pub loop-buffer-init : goal.loop-buffer-init
loop-buffer-init c = walk_start c.args.whole c.args.out.now _ _ refl

pub write_buffer-requires : goal.write_buffer-requires
write_buffer-requires c = omega (arith, c.requires, c.loop-buffer.invariant.amid.few)

pub returns-in_err-left : goal.returns-in_err-left
returns-in_err-left c =
    let w = c.args.world.now in
    let group = c.args.group.now in
    let i = c.loop-buffer.buffer-index in
    let h : Handle = get_or group i (record { 0 = 0 }) in
    let next : drop i group ≡ h ∷ drop (i + 1) group = drop_more group i (record { 0 = 0 }) c.loop-buffer-test.true in
    let p = err_from_is_err_and c.from_residual.result c.from_residual.ensures.1 in
    rw (p.1, p.2)
    (walk_refused c.in_err-left.field-0.0 c.args.whole c.loop-buffer.left c.args.out.now c.loop-buffer.out c.write_buffer.new.out _ _ (if_there (root_and_rows w) (entry_of h w.groups)) (nick_group w (drop (i + 1) group)) (ap (nick_group w) next) c.loop-buffer.invariant c.in_err-left.ensures)

pub loop-buffer-preserved : goal.loop-buffer-preserved
loop-buffer-preserved c =
    let w = c.args.world.now in
    let group = c.args.group.now in
    let i = c.loop-buffer.buffer-index in
    let h : Handle = get_or group i (record { 0 = 0 }) in
    let next : drop i group ≡ h ∷ drop (i + 1) group = drop_more group i (record { 0 = 0 }) c.loop-buffer-test.true in
    walk_on c.args.whole c.loop-buffer.left c.in_ok-left.left c.args.out.now c.loop-buffer.out c.write_buffer.new.out _ _ (if_there (root_and_rows w) (entry_of h w.groups)) (nick_group w (drop (i + 1) group)) (ap (nick_group w) next) c.loop-buffer.invariant c.in_ok-left.ensures

pub returns : goal.returns
returns c = walk_end c.args.whole c.loop-buffer.left c.args.out.now c.loop-buffer.out _ _ (ap (nick_group c.args.world.now) (drop_end c.args.group.now c.loop-buffer.buffer-index (omega arith))) c.loop-buffer.invariant
