use Rattle.std.proofs.Common.{◌≡◌, find}
use Rattle.wc_irc.specs.Targets.{is_alike, names_of}
use Rattle.wc_irc.specs.TargetsSeen.{all_names_at}
use Rattle.wc_irc.proofs.targets.first_alike.Given as goal

abbrev pub invariant-loop-group : goal.invariant-loop-group
invariant-loop-group l = find (is_alike l.wanted.case_map l.wanted.front.now l.wanted.target.now) (all_names_at l.buffers l.group-iterator)
    ≡ find (is_alike l.wanted.case_map l.wanted.front.now l.wanted.target.now) (names_of l.buffers)
