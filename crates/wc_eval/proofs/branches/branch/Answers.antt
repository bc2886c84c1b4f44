use Rattle.std.proofs.Common.{ap, sym, ◌∙◌}
use Rattle.wc_eval.specs.Branches.{branch, branches_of}
use Rattle.wc_eval.proofs.BranchLemmas.{first_branch}
use Rattle.wc_eval.proofs.branches.branch.Goals as goal

pub returns-then-holds : goal.returns-then-holds
returns-then-holds c =
    let text = c.args.branches.now in
    sym (ap (λ holds. branch holds (branches_of text)) c.if-holds.true
    ∙ first_branch text c.in_default.ensures)
