use Rattle.std.proofs.Common.{◌≡◌, ◌++◌, length, All, IsUtf8}
use Rattle.wc_eval.specs.Replaced.{group_texts}
use Rattle.wc_eval.proofs.matches.group_texts.Given as goal

abbrev pub invariant-groups : goal.invariant-groups
invariant-groups l = record {
  texts : l.texts ++ group_texts l.text l.rest ≡ group_texts l.text l.fn.groups;
  utf8 : All IsUtf8 l.texts;
}

abbrev pub decreases-groups : goal.decreases-groups
decreases-groups l = length l.rest
