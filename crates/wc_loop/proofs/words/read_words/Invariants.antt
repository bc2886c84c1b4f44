use Rattle.std.proofs.Common.{◌≡◌, ◌≤◌, ◌+◌, length, map, string_bytes}
use Rattle.wc_loop.specs.Words.{wish_from, wish_of}
use Rattle.wc_loop.proofs.words.read_words.Given as goal

abbrev pub invariant-loop-word : goal.invariant-loop-word
invariant-loop-word l = record {
  count : l.place + length l.rest ≤ length l.words;
  above : 1 ≤ l.wish.turns;
  same : wish_from l.place l.wish (map string_bytes l.rest) ≡ wish_of (map string_bytes l.words);
}

abbrev pub decreases-loop-word : goal.decreases-loop-word
decreases-loop-word l = length l.rest
