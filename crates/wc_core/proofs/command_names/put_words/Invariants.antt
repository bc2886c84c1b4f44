use Rattle.std.proofs.Common.{◌≡◌, ◌++◌}
use Rattle.wc_text.specs.Words.{words_of, words_left}
use Rattle.wc_core.proofs.command_names.put_words.Given as goal

abbrev pub invariant-loop-name : goal.invariant-loop-name
invariant-loop-name l = l.names ++ words_left l.name-iterator ≡ l.fn.names ++ words_of l.text
