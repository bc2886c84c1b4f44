use Rattle.std.proofs.Common.{sym, subst}
use Rattle.std.specs.Str.{IsUtf8}
use Rattle.wc_triggers.proofs.WordLemmas.{word_at_utf8}
use Rattle.wc_triggers.proofs.read.new_trigger.Goals as goal

pub new-requires : goal.new-requires
new-requires c = record {
  condition = subst IsUtf8 (sym c.in_ok-texts.ensures.condition) (word_at_utf8 c.args.words.now 3 c.requires.words);
  replacements = c.requires.replacements;
  commands = c.in_ok-texts.ensures.utf8;
}
