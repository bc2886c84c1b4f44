use Rattle.std.proofs.Common.{All}
use Rattle.std.specs.Str.{IsUtf8}
use Rattle.wc_change_words.proofs.lines.texts.Given as goal

-- all so far are text
abbrev pub invariant-loop-word : goal.invariant-loop-word
invariant-loop-word l = All IsUtf8 l.texts
