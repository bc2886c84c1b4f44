use Rattle.wc_board.proofs.NoticeText.{notice-utf8}
use Rattle.wc_board.proofs.StrayTouches.{stray_made, stray_refused, touched_kept}
use Rattle.wc_board.proofs.nick_change.change_world.Goals as goal

pub returns-in_err-notice-clause-stray : goal.returns-in_err-notice-clause-stray
returns-in_err-notice-clause-stray c =
    stray_refused c.args.world.now c.args.change c.change.new.self _ c.args.pending.now c.change.new.touch c.in_err-notice.ensures.outcome c.in_err-notice.ensures.untouched

pub returns-clause-stray : goal.returns-clause-stray
returns-clause-stray c =
    stray_made c.args.world.now c.args.change c.change.new.self _ c.args.pending.now c.forget_closed.new.pending c.in_ok-notice.ensures.outcome
    (touched_kept c.args.world.now c.args.change c.args.pending.now c.change.new.touch c.forget_closed.new.pending c.is_close-closes.result c.is_close-closes.ensures c.in_ok-notice.ensures.touched c.forget_closed.ensures)

pub returns-clause-text : goal.returns-clause-text
returns-clause-text c =
    notice-utf8 c.args.world.now c.args.change c.change.new.self _ c.buffers.result.now c.buffers-2.result.now c.in_ok-notice.ensures.outcome c.buffers.ensures c.buffers-2.ensures c.groups-texts.ensures.held
    c.groups-texts_after.ensures.held
