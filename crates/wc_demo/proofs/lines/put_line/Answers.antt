use Rattle.std.proofs.Common.{◌≡◌, ◌%◌, arith}
use Rattle.std.proofs.lemmas.Result.{on_ok_weaker}
use Rattle.wc_demo.proofs.LineLemmas.{put_voice, put_leave}
use Rattle.wc_demo.proofs.lines.put_line.Goals as goal

pub returns-in-2 : goal.returns-in-2
returns-in-2 c = on_ok_weaker c.put-in-2.result (put_voice c.args.text.now c.put-in-2.new.text c.args.place c.comer_of-in-2.result c.in-2.is c.comer_of-in-2.ensures) c.put-in-2.ensures

pub returns-in_default : goal.returns-in_default
returns-in_default c =
    let last : c.args.place % 4 ≡ 3 = omega arith in
    on_ok_weaker c.put-in_default.result (put_leave c.args.text.now c.put-in_default.new.text c.args.place c.leaver_of.result last c.leaver_of.ensures) c.put-in_default.ensures
