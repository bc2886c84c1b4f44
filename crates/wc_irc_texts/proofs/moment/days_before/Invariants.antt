use Rattle.std.proofs.Common.{◌≡◌, ◌≤◌, ◌*◌, ◌-◌}
use Rattle.wc_irc_texts.specs.Moments.{days_before}
use Rattle.wc_irc_texts.proofs.moment.days_before.Given as goal

abbrev pub invariant-loop-earlier : goal.invariant-loop-earlier
invariant-loop-earlier l = record {
  within : l.earlier ≤ l.month;
  days : l.days ≡ days_before l.year l.earlier;
  few : l.days ≤ 31 * l.earlier;
}

abbrev pub decreases-loop-earlier : goal.decreases-loop-earlier
decreases-loop-earlier l = l.month - l.earlier
