use Rattle.std.proofs.Common.{◌++◌, [], ◌∷◌, codes}
use Rattle.std.proofs.lemmas.Result.{on_ok_weaker}
use Rattle.wc_scripted.specs.declared.scripted.Scripted.TheVariants.{Gives}
use Rattle.wc_demo.specs.Script.{client}
use Rattle.wc_demo.proofs.PutLemmas.{put_more}
use Rattle.wc_demo.proofs.steps.push_dumps.Goals as goal

pub returns : goal.returns
returns c =
    let old = c.args.steps.now in
    let buffers = Gives client (codes "(b) hdata buffer:gui_buffers(*) " ++ codes "number,full_name,short_name,hidden,title,local_variables\n") ∷ [] in
    let lines = Gives client (codes "(l) hdata buffer:gui_buffers(*)/own_lines/first_line(*)/data " ++ codes "buffer,id,date,date_usec,date_printed,date_usec_printed," ++ codes "displayed,notify_level,highlight,tags_array,prefix,message\n") ∷ [] in
    let nicks = Gives client (codes "(n) nicklist\n") ∷ [] in
    let two = put_more old c.push_said.new.steps c.push_said-2.new.steps buffers lines c.in_ok-push_said.ensures c.in_ok-push_said-2.ensures in
    on_ok_weaker c.push_said-3.result (put_more old c.push_said-2.new.steps c.push_said-3.new.steps (buffers ++ lines) nicks two) c.push_said-3.ensures
