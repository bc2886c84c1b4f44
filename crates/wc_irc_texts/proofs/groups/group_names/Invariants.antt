use Rattle.std.proofs.Common.{◌≡◌, ◌++◌, drop}
use Rattle.wc_irc_texts.specs.Groups.{groups_from, group_names}
use Rattle.wc_irc_texts.proofs.groups.group_names.Given as goal

abbrev pub invariant-loop-letter : goal.invariant-loop-letter
invariant-loop-letter l = record {
  place : l.place ≡ l.letter-index;
  same : l.names ++ groups_from l.place (drop l.letter-index l.letter-items) ≡ group_names l.prefixes;
}
