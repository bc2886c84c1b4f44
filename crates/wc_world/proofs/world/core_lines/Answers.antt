use Rattle.std.proofs.Common.{◌∙◌, Some, cond, eqb}
use Rattle.wc_world.proofs.First.{first_field, none_held}
use Rattle.wc_world.proofs.HeldLemmas.{lines_of, count_of}
use Rattle.wc_world.proofs.world.core_lines.Goals as goal

pub returns-clause-each : goal.returns-clause-each
returns-clause-each c = λ q. c.insert.ensures q ∙ (λ i. cond (eqb 1 q) (Some (c.in_ok-lines.ensures i)) ((c.in_ok-reserve.ensures.same q ∙ none_held c.new-held.result q c.new-held.ensures.empty) i))

pub returns-clause-all : goal.returns-clause-all
returns-clause-all c = first_field lines_of c.new-held.result c.insert.new.held c.args.limit c.new-held.ensures.empty (λ q. c.insert.ensures q ∙ (λ i. cond (eqb 1 q) (Some (c.in_ok-lines.ensures i)) (c.in_ok-reserve.ensures.same q i)))

pub returns-clause-printed : goal.returns-clause-printed
returns-clause-printed c = first_field count_of c.new-held.result c.insert.new.held c.args.limit c.new-held.ensures.empty (λ q. c.insert.ensures q ∙ (λ i. cond (eqb 1 q) (Some (c.in_ok-lines.ensures i)) (c.in_ok-reserve.ensures.same q i)))
