use Rattle.wc_events.proofs.NicksFormed.{diff_formed, full_formed}
use Rattle.wc_events.proofs.nicks.Nicks.of_push.Goals as goal

pub returns-in-Diff-clause-formed : goal.returns-in-Diff-clause-formed
returns-in-Diff-clause-formed c = λ text. diff_formed c.args.buffer _ (rw c.in-Diff.is at text)

pub returns-in-Full-clause-formed : goal.returns-in-Full-clause-formed
returns-in-Full-clause-formed c = λ text. full_formed c.args.buffer _ (rw c.in-Full.is at text)
