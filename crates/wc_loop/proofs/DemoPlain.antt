-- No link of a demo is a WebSocket.
use Rattle.std.proofs.Common.{◌≡◌, ℕ, zero, suc, ◌+◌, ◌%◌, Bool, true, false, cond, eqb, ◌&&◌, ◌||◌, List, [], ◌∷◌, ◌++◌, map, refl, ap, subst, ◌∙◌, arith}
use Rattle.std.specs.List.{flat_map}
use Rattle.std.proofs.lemmas.Bool.Decides.{nat_tests}
use Rattle.std.proofs.lemmas.List.{map-append}
use Rattle.std.proofs.lemmas.List.Folds.{list_any-append}
use Rattle.wc_scripted.specs.declared.scripted.Scripted.{Scripted}
use Rattle.wc_scripted.specs.declared.scripted.Scripted.TheVariants.{Wake, Gives}
use Rattle.wc_demo.specs.Lines.{sent_line}
use Rattle.wc_demo.specs.Script.{client, server, moment_of, opening_steps, steps_at, steps_to, demo_taken, given_as}
use Rattle.wc_framing.specs.Opening.{begins}
use Rattle.wc_turns.specs.Events.{bytes_on, comes_on, has_come, socket_on}

comes-append : (k : ℕ) (xs ys : List Scripted) → has_come k (map given_as (xs ++ ys)) ≡ (has_come k (map given_as xs) || has_come k (map given_as ys))
comes-append k xs ys = ap (has_come k) (map-append given_as xs ys) ∙ list_any-append (comes_on k) (map given_as xs) (map given_as ys)

-- nobody comes with a line of the server
nobody-by : (k place : ℕ) (t : Bool) → has_come k (map given_as (Gives server (sent_line place) ∷ cond t (Wake (moment_of place) ∷ []) [])) ≡ false
nobody-by k place true = refl
nobody-by k place false = refl

nobody-at : (k place : ℕ) → has_come k (map given_as (steps_at place)) ≡ false
nobody-at k place = nobody-by k place (eqb (place % 10) 0)

nobody-to : (k count : ℕ) → has_come k (map given_as (steps_to count)) ≡ false
nobody-to k zero = refl
nobody-to k (suc place) = comes-append k (steps_to place) (steps_at (suc place)) ∙ ap (λ t. t || has_come k (map given_as (steps_at (suc place)))) (nobody-to k place) ∙ nobody-at k (suc place)

-- the client alone comes
nobody-else : (k count : ℕ) → eqb client.0 k ≡ false → has_come k (demo_taken count) ≡ false
nobody-else k count other =
    let first : has_come k (map given_as opening_steps) ≡ false = ap (λ t. t || false) other in
    comes-append k (opening_steps ++ steps_to count) (Wake (moment_of count + 100) ∷ [])
    ∙ ap (λ t. t || false) (comes-append k opening_steps (steps_to count) ∙ ap (λ t. t || has_come k (map given_as (steps_to count))) first ∙ nobody-to k count)

-- and it writes no head of HTTP
pub plain-demo : (count k : ℕ) → socket_on k (demo_taken count) ≡ false
plain-demo count k = by (eqb client.0 k) refl
  where
    by : (t : Bool) → eqb client.0 k ≡ t → socket_on k (demo_taken count) ≡ false
    by true e =
        let same : client.0 ≡ k = grind (arith, nat_tests) in
        subst (λ j. socket_on j (demo_taken count) ≡ false) same refl
    by false e = ap (λ t. t && begins (flat_map (bytes_on k) (demo_taken count))) (nobody-else k count e)
