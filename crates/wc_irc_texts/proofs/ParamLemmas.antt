-- The parameters of messages.
use Rattle.std.proofs.Common.{◌≡◌, ℕ, ◌≤◌, List, [], length, drop}
use Rattle.std.proofs.lemmas.List.{drop_all}

-- nothing comes after the last text
pub past_all : (n : ℕ) (texts : List (List ℕ)) → length texts ≤ n → drop n texts ≡ []
past_all n texts past = drop_all n texts past
