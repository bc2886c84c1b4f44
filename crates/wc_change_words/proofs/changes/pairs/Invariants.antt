use Rattle.std.proofs.Common.{All}
use Rattle.wc_buffers.specs.Entries.{IsText}
use Rattle.wc_change_words.proofs.changes.pairs.Given as goal

-- all so far are text
abbrev pub invariant-loop-word : goal.invariant-loop-word
invariant-loop-word l = All IsText l.pairs
