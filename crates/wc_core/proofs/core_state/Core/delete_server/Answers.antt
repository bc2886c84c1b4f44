use Rattle.wc_core.proofs.CoreLemmas.{starves-as}
use Rattle.std.proofs.Common.{◌∙◌, ap, Some, None}
use Rattle.wc_irc.specs.ServerOptions.{delete_refusal}
use Rattle.wc_servers.specs.Seats.{seat_of, open_of, server_named}
use Rattle.wc_core.specs.CoreView.{CoreView}
use Rattle.wc_core.proofs.AskedLemmas.{deletes-as, deletes-free, linked_found}
use Rattle.wc_core.proofs.core_state.Core.delete_server.Goals as goal

pub returns-in-Ok-Some : goal.returns-in-Ok-Some
returns-in-Ok-Some c =
    let named = c.named.ensures ∙ ap (λ (core : CoreView). server_named c.args.name.now (open_of core.servers.seats)) c.self.view_is in
    let refused = (rw c.in-Ok-Some.field-0-is at c.in-Ok-Some.ensures) ∙ ap (λ (core : CoreView). delete_refusal core.options c.is_some-is_linked.result c.args.name.now) c.self.view_is in
    deletes-as c.args.self.now c.say.new.self c.args.name.now c.is_some-is_linked.result (Some c.in-Ok-Some.text) (c.is_some-is_linked.ensures ∙ linked_found seat_of c.named.result _ named) refused c.say.ensures.does

pub returns-in-Ok-None : goal.returns-in-Ok-None
returns-in-Ok-None c =
    rw (← c.self.view_is) (deletes-as _ _ c.args.name.now c.is_some-is_linked.result None (c.is_some-is_linked.ensures ∙ linked_found seat_of c.named.result _ c.named.ensures) (rw c.in-Ok-None.field-0-is at c.in-Ok-None.ensures) (deletes-free _ c.del_server-found.new.self c.args.name.now c.del_server-found.ensures.after))

pub returns-in-Err : goal.returns-in-Err
returns-in-Err c = λ told. starves-as c.args.self.now c.starve.new.self c.starve.ensures.counts c.starve.ensures.rises told _
