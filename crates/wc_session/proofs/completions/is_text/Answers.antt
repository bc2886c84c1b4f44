use Rattle.wc_options.proofs.ConfigLemmas.{utf8_true, utf8_false}
use Rattle.wc_session.proofs.completions.is_text.Goals as goal

pub returns-in-Ok : goal.returns-in-Ok
returns-in-Ok c = utf8_true c.args.bytes.now c.in-Ok.ensures.cases.1

pub returns-in-Err : goal.returns-in-Err
returns-in-Err c = utf8_false c.args.bytes.now c.in-Err.ensures.cases.0
