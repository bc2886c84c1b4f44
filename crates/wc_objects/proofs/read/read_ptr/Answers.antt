use Rattle.std.proofs.Common.{arith}
use Rattle.wc_objects.proofs.FieldFronts.{pointer_found, pointer_only}
use Rattle.wc_objects.proofs.read.read_ptr.Goals as goal

pub returns-clause-found : goal.returns-clause-found
returns-clause-found c = pointer_found c.args.bytes.now c.front_pointer.result (λ i. omega (arith, c.type_inv.bytes i)) c.front_pointer.ensures

pub returns-clause-only : goal.returns-clause-only
returns-clause-only c = λ pointer size small f. pointer_only c.args.bytes.now c.front_pointer.result c.front_pointer.ensures pointer size small f
