use Rattle.std.proofs.Common.{◌≡◌, ℕ, ◌≤◌, length, Option, Some, None, cond, rules, ◌∙◌, arith}
use Rattle.std.specs.Prelude.{unwrap_or, nat_lt, ◌==◌}
use Rattle.std.specs.List.{position_or_len}
use Rattle.std.proofs.lemmas.Bool.Decides.{nat_tests}
use Rattle.std.proofs.lemmas.List.Sums.{prefix_len-le-length}
use Rattle.std.proofs.lemmas.Iterator.{YieldsList-from_slice}
use Rattle.std.proofs.lemmas.Iterator.Search.{position_from_yields_List}
use borrow.Author.Tests.{tests}
use Rattle.wc_text.proofs.places.place_of.Goals as goal

or_all : (p n : ℕ) (r : Option ℕ) → p ≤ n → r ≡ cond (nat_lt p n) (Some p) None → unwrap_or r n ≡ p
or_all p n r within e = grind (arith, nat_tests)

pub returns-clause-within : goal.returns-clause-within
returns-clause-within c =
    let s = c.args.bytes.now in
    let found = position_from_yields_List (λ b. b == c.args.byte) _ _ c.position.result c.position.ensures.ran (YieldsList-from_slice s cc) (λ x b q k. search (rules, tests)) in
    let place : c.unwrap_or.result ≡ position_or_len (λ b. b == c.args.byte) s = c.unwrap_or.ensures ∙ or_all (position_or_len (λ b. b == c.args.byte) s) (length s) c.position.result (prefix_len-le-length _ s) found in
    let below : position_or_len (λ b. b == c.args.byte) s ≤ length s = prefix_len-le-length _ s in
    omega arith

pub returns-clause-place : goal.returns-clause-place
returns-clause-place c =
    let s = c.args.bytes.now in
    let found = position_from_yields_List (λ b. b == c.args.byte) _ _ c.position.result c.position.ensures.ran (YieldsList-from_slice s cc) (λ x b q k. search (rules, tests)) in
    c.unwrap_or.ensures ∙ or_all (position_or_len (λ b. b == c.args.byte) s) (length s) c.position.result (prefix_len-le-length _ s) found
