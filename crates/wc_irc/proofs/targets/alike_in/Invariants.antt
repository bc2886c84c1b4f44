use Rattle.std.proofs.Common.{◌≡◌, find, drop}
use Rattle.wc_irc.specs.Targets.{is_alike}
use Rattle.wc_irc.specs.TargetsSeen.{names_at}
use Rattle.wc_irc.proofs.targets.alike_in.Given as goal

abbrev pub invariant-loop-h : goal.invariant-loop-h
invariant-loop-h l = find (is_alike l.wanted.case_map l.wanted.front.now l.wanted.target.now) (names_at l.buffers (drop l.h-index l.group))
    ≡ find (is_alike l.wanted.case_map l.wanted.front.now l.wanted.target.now) (names_at l.buffers l.group)
