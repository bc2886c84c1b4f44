use Rattle.std.proofs.Common.{◌≡◌, sym, ◌∙◌, arith}
use Rattle.wc_events.specs.Nicks.{nicks_objects}
use Rattle.wc_session.specs.Sending.{message, fits, fitting, null_hdata, Sends}
use Rattle.wc_session.proofs.SendingLemmas.{reply_first, reply_second, owed_second, unsent_same, sends_as, sends_from}
use Rattle.wc_session.proofs.sending.reply_nicks.Goals as goal

pub returns-then-branch-clause-ok : goal.returns-then-branch-clause-ok
returns-then-branch-clause-ok c =
    sends_as _ _ _ _ (reply_first c.args.id.now (nicks_objects c.args.nicks) (sym c.in_ok-send_nicks.ensures.fits ∙ c.if-branch.true)) (c.in_ok-send_nicks.ensures.ok c.requires.formed)

pub returns-in_err-sent-clause-err : goal.returns-in_err-sent-clause-err
returns-in_err-sent-clause-err c =
    let same = unsent_same _ _ (message c.args.id.now (nicks_objects c.args.nicks)) (sym c.in_ok-send_nicks.ensures.fits ∙ c.if-branch.false) (c.in_ok-send_nicks.ensures.ok c.requires.formed) in
    let still : c.send.new.out.items ≡ c.args.out.now.items = c.in_err-sent.ensures.err ∙ same in
    grind arith

pub returns-clause-owed : goal.returns-clause-owed
returns-clause-owed c =
    let second : c.in_ok-sent.sent ≡ fits (message c.args.id.now null_hdata) = rw (c.as_slice.ensures, c.null_hdata-null.ensures.objects) at c.in_ok-sent.ensures.fits in
    owed_second c.args.id.now (nicks_objects c.args.nicks) c.in_ok-sent.sent (sym c.in_ok-send_nicks.ensures.fits ∙ c.if-branch.false) second

pub returns-clause-ok : goal.returns-clause-ok
returns-clause-ok c =
    let not_first = sym c.in_ok-send_nicks.ensures.fits ∙ c.if-branch.false in
    let same = unsent_same _ _ (message c.args.id.now (nicks_objects c.args.nicks)) not_first (c.in_ok-send_nicks.ensures.ok c.requires.formed) in
    let second : Sends c.send_nicks.new.out.items c.send.new.out.items (fitting (message c.args.id.now null_hdata)) = rw (c.as_slice.ensures, c.null_hdata-null.ensures.objects) at c.in_ok-sent.ensures.ok in
    sends_as _ _ _ _ (reply_second c.args.id.now (nicks_objects c.args.nicks) not_first) (sends_from _ _ _ _ same second)
