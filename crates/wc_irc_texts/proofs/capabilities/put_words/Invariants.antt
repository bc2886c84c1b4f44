use Rattle.std.proofs.Common.{◌≡◌, ◌++◌, drop, filter, map, List, ℕ}
use Rattle.std.specs.Borrow.{Bor}
use Rattle.wc_text.specs.Words.{words_of}
use Rattle.wc_irc_texts.specs.Capabilities.{is_among}
use Rattle.wc_irc_texts.proofs.capabilities.put_words.Given as goal

abbrev pub invariant-loop-name : goal.invariant-loop-name
invariant-loop-name l = l.names ++ filter (λ name. is_among name (words_of l.option)) (map (λ (name : Bor (List ℕ)). name.now) (drop l.name-index l.others))
    ≡ l.fn.names ++ filter (λ name. is_among name (words_of l.option)) (map (λ (name : Bor (List ℕ)). name.now) l.others)
