use Rattle.std.proofs.Common.{◌≡◌, sym, ap, ◌∙◌}
use Rattle.wc_session.specs.Sending.{message, fits, null_hdata, is_owed}
use Rattle.wc_session.proofs.SendingLemmas.{owed_fitting}
use Rattle.wc_session.proofs.paths.reply_walk.Goals as goal

pub returns-clause-owed : goal.returns-clause-owed
returns-clause-owed c =
    let sent : c.in_ok-sent.sent ≡ fits (message c.args.id.now null_hdata) = rw (c.as_slice.ensures, c.null_hdata-null.ensures.objects) at c.in_ok-sent.ensures.fits in
    let told = rw c.if-branch.false at c.in_ok-send_walk.ensures.ok in
    owed_fitting (message c.args.id.now null_hdata) c.in_ok-sent.sent (sym sent) ∙ ap is_owed (sym told.1)
