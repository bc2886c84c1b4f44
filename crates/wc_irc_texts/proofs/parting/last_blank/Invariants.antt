use Rattle.std.proofs.Common.{◌≡◌, ◌≤◌, suc, take}
use Rattle.wc_irc_texts.specs.Parts.{last_blank}
use Rattle.wc_irc_texts.proofs.parting.last_blank.Given as goal

-- no blank comes after `place`
abbrev pub invariant-loop-place : goal.invariant-loop-place
invariant-loop-place l = record {
  within : l.place ≤ l.last;
  same : last_blank (take (suc l.place) l.text) ≡ last_blank (take (suc l.last) l.text);
}

abbrev pub decreases-loop-place : goal.decreases-loop-place
decreases-loop-place l = l.place
