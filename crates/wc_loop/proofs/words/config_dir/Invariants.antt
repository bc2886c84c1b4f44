use Rattle.std.proofs.Common.{◌≡◌, length, map, string_bytes}
use Rattle.std.specs.Option.{option_copied}
use Rattle.wc_loop.specs.Words.{folder_from, folder_of}
use Rattle.wc_loop.proofs.words.config_dir.Given as goal

abbrev pub invariant-loop-word : goal.invariant-loop-word
invariant-loop-word l = folder_from (option_copied l.folder) (map string_bytes l.rest) ≡ folder_of (map string_bytes l.fn.words.items)

abbrev pub decreases-loop-word : goal.decreases-loop-word
decreases-loop-word l = length l.rest
