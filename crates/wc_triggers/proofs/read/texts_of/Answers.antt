use Rattle.std.proofs.Common.{sym, subst}
use Rattle.std.specs.Str.{IsUtf8}
use Rattle.wc_triggers.proofs.WordLemmas.{word_at_utf8}
use Rattle.wc_triggers.proofs.read.texts_of.Goals as goal

pub commands_of-requires : goal.commands_of-requires
commands_of-requires c = subst IsUtf8 (sym c.word_at-3.ensures) (word_at_utf8 c.args.words.now 5 c.requires)
