use Rattle.std.proofs.Common.{List, subst}
use Rattle.std.specs.Prelude.{IfOk}
use Rattle.wc_objects.specs.declared.object.Object.{Object}
use Rattle.wc_session.specs.declared.client.Client.{Client}
use Rattle.wc_session.specs.Reply.{replies}
use Rattle.wc_session.specs.Sending.{reply}
use Rattle.wc_session.specs.Served.{GivesAnswer}
use Rattle.wc_session.proofs.served.give_nicks.Goals as goal

pub returns-in-Some-clause-ok : goal.returns-in-Some-clause-ok
returns-in-Some-clause-ok c =
    subst (λ (objects : List Object). IfOk c.give_list.result (λ outcome. (client : Client) → GivesAnswer c.args.out.now.items c.give_list.new.out.items outcome client (replies client (reply c.args.id.now objects))))
    c.in-Some.ensures.objects c.give_list.ensures.ok

pub returns-in-None-clause-ok : goal.returns-in-None-clause-ok
returns-in-None-clause-ok c =
    subst (λ (objects : List Object). IfOk c.give_null.result (λ outcome. (client : Client) → GivesAnswer c.args.out.now.items c.give_null.new.out.items outcome client (replies client (reply c.args.id.now objects))))
    c.in-None.ensures.objects c.give_null.ensures.ok
