use Rattle.std.proofs.Common.{◌≡◌, List, sym, subst, ◌∙◌}
use Rattle.wc_model.specs.World.{rows_at, root_at}
use Rattle.wc_nicklist.specs.declared.item.Row.{Row}
use Rattle.wc_nickdiff.specs.declared.diff_item.Push.{Push}
use Rattle.wc_nickdiff.specs.Held.{before_at, touches_of}
use Rattle.wc_nickdiff.specs.NickPush.{nick_push}
use Rattle.wc_nickdiff.specs.Told.{IsTold}
use Rattle.wc_events.specs.NickForms.{IsPushText}
use Rattle.wc_events.proofs.PushTexts.{push_text}
use Rattle.wc_session.specs.Event.{IsPushOf}
use Rattle.wc_session.proofs.buffer_event.BufferEvent.of_nicks.Goals as goal

pub returns-clause-told : goal.returns-clause-told
returns-clause-told c = λ (told : List Row) is.
    let buffer = c.args.buffer in
    let list = c.in-Some.list.now in
    let among : List Row → Type 0 = λ rows. IsTold (λ k. before_at k (touches_of buffer c.args.pending.now)) rows told in
    let pushed : c.in_ok-push.push ≡ nick_push list.root told list.rows = c.in_ok-push.ensures told (subst among (sym c.in-Some.ensures.rows) is) in
    let text : IsPushText (nick_push list.root told list.rows) = push_text list.root told list.rows is.held c.count.ensures.held in
    let P : Push → Type 0 = λ push. IsPushOf c.in_ok-push_event.field-0 buffer push in
    let now : nick_push list.root told list.rows ≡ nick_push (root_at buffer.0) told (rows_at c.args.world.now buffer.0) =
    λ i. nick_push (c.in-Some.ensures.root i) told (c.in-Some.ensures.rows i) in
    subst P (pushed ∙ now) (c.in_ok-push_event.ensures.event (subst IsPushText (sym pushed) text))
