use Rattle.std.proofs.Common.{arith}
use Rattle.wc_objects.proofs.Fronts.{found, only, none, missing}
use Rattle.wc_objects.proofs.read.read_message.Goals as goal

pub returns-clause-found : goal.returns-clause-found
returns-clause-found c = found c.args.bytes.now c.first_message.result (λ i. omega (arith, c.type_inv.bytes i)) c.first_message.ensures

pub returns-clause-only : goal.returns-clause-only
returns-clause-only c = λ message size f. only c.args.bytes.now c.first_message.result c.first_message.ensures message size f

pub returns-clause-none : goal.returns-clause-none
returns-clause-none c = none c.args.bytes.now c.first_message.result c.first_message.ensures

pub returns-clause-missing : goal.returns-clause-missing
returns-clause-missing c = missing c.args.bytes.now c.first_message.result c.first_message.ensures
