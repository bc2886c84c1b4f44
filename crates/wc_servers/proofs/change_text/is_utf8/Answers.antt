use Rattle.std.proofs.Common.{sym}
use Rattle.wc_servers.proofs.ToldLemmas.{utf8_is_true, utf8_is_false}
use Rattle.wc_servers.proofs.change_text.is_utf8.Goals as goal

pub returns-in-Ok : goal.returns-in-Ok
returns-in-Ok c = sym (utf8_is_true c.args.bytes.now c.in-Ok.ensures.cases.1)

pub returns-in-Err : goal.returns-in-Err
returns-in-Err c = sym (utf8_is_false c.args.bytes.now c.in-Err.ensures.cases.0)
