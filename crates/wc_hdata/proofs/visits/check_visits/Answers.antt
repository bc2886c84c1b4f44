use Rattle.wc_hdata.proofs.FewVisits.{few_accepted, many_refused}
use Rattle.wc_hdata.proofs.visits.check_visits.Goals as goal

pub returns-then-branch-clause-accepted : goal.returns-then-branch-clause-accepted
returns-then-branch-clause-accepted c = few_accepted c.args.lists.now.world c.args.path.now c.in-Some.first c.as_slice.result.now c.in_ok-are_few.field-0 c.in-Some.ensures.places c.as_slice.ensures c.in_ok-are_few.ensures c.if-branch.true

pub returns-else-branch-clause-refused : goal.returns-else-branch-clause-refused
returns-else-branch-clause-refused c other = many_refused c.args.lists.now.world c.args.path.now c.in-Some.first c.as_slice.result.now c.in_ok-are_few.field-0 c.in-Some.ensures.places c.as_slice.ensures c.in_ok-are_few.ensures c.if-branch.false
