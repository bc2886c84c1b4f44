use Rattle.std.proofs.Common.{Some, sym, ap, ◌∙◌, drop}
use Rattle.wc_core.proofs.LineLemmas.{cut-none, cut-some}
use Rattle.wc_core.proofs.lines.cut_line.Goals as goal

pub returns-in_default-clause-front : goal.returns-in_default-clause-front
returns-in_default-clause-front c = sym (cut-none c.args.text.now c.memchr.result c.memchr.ensures c.in_default.is).0

pub returns-in_default-clause-back : goal.returns-in_default-clause-back
returns-in_default-clause-back c = sym (cut-none c.args.text.now c.memchr.result c.memchr.ensures c.in_default.is).1

pub returns-clause-front : goal.returns-clause-front
returns-clause-front c = c.split_at.ensures.front ∙ (cut-some c.args.text.now c.memchr.result c.in-Some.at c.memchr.ensures c.in-Some.is).0

pub returns-clause-back : goal.returns-clause-back
returns-clause-back c = ap Some (c.split_at-2.ensures.back ∙ ap (drop 1) c.split_at.ensures.back) ∙ (cut-some c.args.text.now c.memchr.result c.in-Some.at c.memchr.ensures c.in-Some.is).1
