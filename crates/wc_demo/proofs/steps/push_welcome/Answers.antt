use Rattle.std.proofs.Common.{[], ◌∷◌, codes}
use Rattle.std.proofs.lemmas.Result.{on_ok_weaker}
use Rattle.wc_scripted.specs.declared.scripted.Scripted.TheVariants.{Gives}
use Rattle.wc_demo.specs.Script.{server}
use Rattle.wc_demo.proofs.PutLemmas.{put_more}
use Rattle.wc_demo.proofs.steps.push_welcome.Goals as goal

pub returns : goal.returns
returns c =
    let hello = Gives server (codes ":s 001 me :hi\r\n") ∷ [] in
    let joined = Gives server (codes ":me!m@h JOIN #d\r\n") ∷ [] in
    on_ok_weaker c.push_said-2.result (put_more c.args.steps.now c.push_said.new.steps c.push_said-2.new.steps hello joined c.in_ok-push_said.ensures) c.push_said-2.ensures
