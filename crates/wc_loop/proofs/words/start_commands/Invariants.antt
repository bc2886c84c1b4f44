use Rattle.std.proofs.Common.{◌≡◌, length, map, string_bytes}
use Rattle.wc_loop.specs.Words.{commands_from, commands_of}
use Rattle.wc_loop.proofs.words.start_commands.Given as goal

abbrev pub invariant-loop-word : goal.invariant-loop-word
invariant-loop-word l = commands_from (map string_bytes l.commands.items) (map string_bytes l.rest) ≡ commands_of (map string_bytes l.words)

abbrev pub decreases-loop-word : goal.decreases-loop-word
decreases-loop-word l = length l.rest
