use Rattle.std.proofs.Common.{◌≡◌, ◌++◌, drop, map}
use Rattle.wc_irc.specs.declared.act.Act.TheVariants as act
use Rattle.wc_irc.proofs.talk_acts.put_lines.Given as goal

abbrev pub invariant-loop-line : goal.invariant-loop-line
invariant-loop-line l = l.acts ++ map (λ line. act.Send line) (drop l.line-index l.lines) ≡ l.fn.acts ++ map (λ line. act.Send line) l.lines
