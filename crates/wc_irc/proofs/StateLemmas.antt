-- Nicks that are still to be tried.
use Rattle.std.proofs.Common.{◌≡◌, ℕ, ◌+◌, ◌≤◌, List, length, drop, sym, ◌∙◌, ap}
use Rattle.std.proofs.lemmas.List.{drop-drop, drop_all}

pub one_less : (n : ℕ) (nicks : List (List ℕ)) → drop (n + 1) nicks ≡ drop 1 (drop n nicks)
one_less n nicks = sym (drop-drop 1 n nicks)

pub none_less : (n : ℕ) (nicks : List (List ℕ)) → length nicks ≤ n → drop n nicks ≡ drop 1 (drop n nicks)
none_less n nicks past = drop_all n nicks past ∙ ap (drop 1) (sym (drop_all n nicks past))

pub ruleset tried_facts = (one_less, none_less)
