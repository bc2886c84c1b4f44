use Rattle.std.proofs.Common.{arith}
use Rattle.wc_objects.specs.Reading.{first_message}
use Rattle.wc_view.proofs.TakeLemmas.{takes_spelt, takes_missing, unchanged}
use Rattle.wc_view.proofs.TakeNone.{none_taken}
use Rattle.wc_view.proofs.mirror.Mirror.take.Goals as goal

pub returns-clause-folded : goal.returns-clause-folded
returns-clause-folded c = λ message size f. takes_spelt c.args.bytes.now c.take_front.result c.args.self.now c.take_front.new.self c.take_front.ensures message size f

pub returns-clause-missing : goal.returns-clause-missing
returns-clause-missing c = takes_missing c.args.bytes.now c.take_front.result c.args.self.now c.take_front.new.self c.take_front.ensures

pub returns-clause-none : goal.returns-clause-none
returns-clause-none c =
    none_taken c.args.bytes.now c.take_front.result c.args.self.now c.take_front.new.self (λ i. omega (arith, c.type_inv.bytes i)) c.take_front.ensures

pub returns-clause-refused : goal.returns-clause-refused
returns-clause-refused c = unchanged c.take_front.result (first_message c.args.bytes.now) c.args.self.now c.take_front.new.self c.take_front.ensures
