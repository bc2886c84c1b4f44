use Rattle.std.proofs.Common.{◌≡◌, ◌+◌, ◌≤◌, length}
use Rattle.wc_text.specs.Words.{words_of, words_left}
use Rattle.wc_irc.proofs.errand.are_at_most.Given as goal

-- the words so far and those that are left are all of them
abbrev pub invariant-loop : goal.invariant-loop
invariant-loop l = record {
  few : l.count ≤ l.most;
  all : l.count + length (words_left l.iterator') ≡ length (words_of l.text);
}
