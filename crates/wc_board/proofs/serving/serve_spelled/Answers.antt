use Rattle.std.proofs.Common.{◌∙◌}
use Rattle.wc_board.proofs.EventLemmas.{all_heard, served_heard}
use Rattle.wc_board.proofs.PartLemmas.{part_starved}
use Rattle.wc_board.proofs.serving.serve_spelled.Goals as goal

pub returns-in-Ok-clause-told : goal.returns-in-Ok-clause-told
returns-in-Ok-clause-told c = λ told w part is. c.serve_all.ensures.told told ∙ all_heard _ w part c.args.clients.now (rw c.in-Ok.is at is)

pub returns-in-Ok-clause-each : goal.returns-in-Ok-clause-each
returns-in-Ok-clause-each c = λ w part kind buffer is. served_heard _ w part c.args.clients.now c.serve_all.new.self (rw c.in-Ok.is at is) c.serve_all.ensures.each

pub returns-in-Err-clause-each : goal.returns-in-Err-clause-each
returns-in-Err-clause-each c = λ w part kind buffer is. part_starved w part c.args.kind c.args.buffer c.args.clients.now c.serve_all-in-Err.new.self kind buffer c.serve_all-in-Err.ensures.each
