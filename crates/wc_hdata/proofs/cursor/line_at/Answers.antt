use Rattle.std.proofs.Common.{Some, None}
use Rattle.wc_hdata.proofs.RangeLemmas.{line_got}
use Rattle.wc_hdata.proofs.cursor.line_at.Goals as goal

pub returns-in-Some : goal.returns-in-Some
returns-in-Some c = line_got c.args.buffer c.args.lines.now.lines c.args.place (Some c.in-Some.line.now) c.in-Some.ensures.line

pub returns-in-None : goal.returns-in-None
returns-in-None c = line_got c.args.buffer c.args.lines.now.lines c.args.place None c.in-None.ensures.line
