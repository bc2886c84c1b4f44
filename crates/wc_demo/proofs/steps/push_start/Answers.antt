use Rattle.std.proofs.Common.{[], ◌∷◌}
use Rattle.std.proofs.lemmas.Result.{on_ok_weaker}
use Rattle.wc_scripted.specs.declared.scripted.Scripted.TheVariants.{Wake, Arrive, Stands}
use Rattle.wc_demo.specs.Script.{server, start, nonce}
use Rattle.wc_demo.proofs.PutLemmas.{put_more}
use Rattle.wc_demo.proofs.steps.push_start.Goals as goal

pub returns : goal.returns
returns c =
    let old = c.args.steps.now in
    let two = put_more old c.push.new.self c.push-2.new.self (Wake start ∷ []) (Arrive nonce ∷ []) c.in_ok-push.ensures.ok c.in_ok-push-2.ensures.ok in
    let three = put_more old c.push-2.new.self c.push-3.new.self (Wake start ∷ Arrive nonce ∷ []) (Wake start ∷ []) two c.in_ok-push-3.ensures.ok in
    on_ok_weaker c.push-4.result (put_more old c.push-3.new.self c.push-4.new.self (Wake start ∷ Arrive nonce ∷ Wake start ∷ []) (Stands server ∷ []) three) c.push-4.ensures.ok
