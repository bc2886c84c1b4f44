use Rattle.std.proofs.Common.{[], ◌∷◌, codes}
use Rattle.std.proofs.lemmas.Result.{on_ok_weaker}
use Rattle.wc_demo.proofs.PutLemmas.{put_more}
use Rattle.wc_demo.proofs.start.push_words.Goals as goal

pub returns : goal.returns
returns c =
    let password = codes "-r" ∷ codes "/set relay.network.password x" ∷ [] in
    let server = codes "-r" ∷ codes "/server add demo 127.0.0.1/6667 -notls" ∷ [] in
    let two = put_more _ _ _ password server c.in_ok-push_command.ensures c.in_ok-push_command-2.ensures in
    on_ok_weaker c.push_command-3.result (put_more _ _ _ _ (codes "-r" ∷ codes "/connect demo" ∷ []) two) c.push_command-3.ensures
