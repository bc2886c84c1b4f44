use Rattle.std.proofs.Common.{arith}
use Rattle.wc_objects.proofs.FieldFronts.{text_found, text_is_str, text_only}
use Rattle.wc_objects.proofs.read.read_str.Goals as goal

pub returns-clause-found : goal.returns-clause-found
returns-clause-found c = text_found c.args.bytes.now c.front_text.result (λ i. omega (arith, c.type_inv.bytes i)) c.front_text.ensures

pub returns-clause-text : goal.returns-clause-text
returns-clause-text c = text_is_str c.args.bytes.now c.front_text.result (λ i. omega (arith, c.type_inv.bytes i)) c.front_text.ensures

pub returns-clause-only : goal.returns-clause-only
returns-clause-only c = λ text size fits f. text_only c.args.bytes.now c.front_text.result c.front_text.ensures text size fits f
