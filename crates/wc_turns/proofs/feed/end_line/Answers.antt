use Rattle.std.proofs.Common.{◌++◌}
use Rattle.wc_turns.proofs.feed.end_line.Goals as goal

pub returns-clause-does : goal.returns-clause-does
returns-clause-does c = λ line h. c.serve_tail.ensures.does (line ++ c.args.front.now) (c.extend.ensures line h)
