use Rattle.std.proofs.lemmas.Result.{on_ok_weaker}
use Rattle.wc_demo.proofs.LineLemmas.{put_speech}
use Rattle.wc_demo.proofs.lines.put_words.Goals as goal

pub returns : goal.returns
returns c = on_ok_weaker c.put-2.result (put_speech c.args.text.now c.put.new.text c.put-2.new.text c.args.place c.comer_of.result c.requires c.comer_of.ensures c.in_ok-put.ensures) c.put-2.ensures
