-- What the server says at each of four lines.
use Rattle.std.proofs.Common.{◌≡◌, ℕ, ◌%◌, List, [], ◌++◌, append-nil, append_assoc, sym, ap, ◌∙◌}
use Rattle.std.specs.Prelude.{codes, decimal}
use Rattle.wc_demo.specs.Lines.{comer_of, leaver_of, line_end, sent_line}

pub at_coming : (place : ℕ) → place % 4 ≡ 0 → sent_line place ≡ codes ":u" ++ decimal (comer_of place) ++ codes "!u@h JOIN #d\r\n"
at_coming place e = rw e

at_words : (place : ℕ) → place % 4 ≡ 1 → sent_line place ≡ codes ":u" ++ decimal (comer_of place) ++ codes "!u@h PRIVMSG #d :hello " ++ decimal place ++ line_end
at_words place e = rw e

at_voice : (place : ℕ) → place % 4 ≡ 2 → sent_line place ≡ codes ":me!m@h MODE #d +v u" ++ decimal (comer_of place) ++ line_end
at_voice place e = rw e

at_leaving : (place : ℕ) → place % 4 ≡ 3 → sent_line place ≡ codes ":u" ++ decimal (leaver_of place) ++ codes "!u@h PART #d\r\n"
at_leaving place e = rw e

-- ---- what is put after a text

put_three : (old a b c : List ℕ) → ((old ++ a) ++ b) ++ c ≡ old ++ ((a ++ b) ++ c)
put_three old a b c = ap (λ (t : List ℕ). t ++ c) (append_assoc old a b) ∙ append_assoc old (a ++ b) c

pub put_speech : (old mid new : List ℕ) (place nick : ℕ) → place % 4 ≡ 1 → nick ≡ comer_of place → mid ≡ ((old ++ codes ":u") ++ decimal nick) ++ codes "!u@h PRIVMSG #d :hello "
    → new ≡ ((mid ++ []) ++ decimal place) ++ line_end → new ≡ old ++ sent_line place
put_speech old mid new place nick one who first then =
    let said : List ℕ = codes "!u@h PRIVMSG #d :hello " in
    let before : mid ++ [] ≡ old ++ ((codes ":u" ++ decimal (comer_of place)) ++ said) = append-nil mid ∙ first ∙ put_three old (codes ":u") (decimal nick) said ∙ ap (λ (n : ℕ). old ++ ((codes ":u" ++ decimal n) ++ said)) who in
    then ∙ ap (λ (t : List ℕ). (t ++ decimal place) ++ line_end) before
    ∙ put_three old ((codes ":u" ++ decimal (comer_of place)) ++ said) (decimal place) line_end
    ∙ ap (λ (t : List ℕ). old ++ t) (sym (at_words place one))

pub put_voice : (old new : List ℕ) (place nick : ℕ) → place % 4 ≡ 2 → nick ≡ comer_of place → new ≡ ((old ++ codes ":me!m@h MODE #d +v u") ++ decimal nick) ++ line_end → new ≡ old ++ sent_line place
put_voice old new place nick two who put =
    put ∙ put_three old (codes ":me!m@h MODE #d +v u") (decimal nick) line_end
    ∙ ap (λ (n : ℕ). old ++ ((codes ":me!m@h MODE #d +v u" ++ decimal n) ++ line_end)) who
    ∙ ap (λ (t : List ℕ). old ++ t) (sym (at_voice place two))

pub put_leave : (old new : List ℕ) (place nick : ℕ) → place % 4 ≡ 3 → nick ≡ leaver_of place → new ≡ ((old ++ codes ":u") ++ decimal nick) ++ codes "!u@h PART #d\r\n" → new ≡ old ++ sent_line place
put_leave old new place nick three who put =
    put ∙ put_three old (codes ":u") (decimal nick) (codes "!u@h PART #d\r\n")
    ∙ ap (λ (n : ℕ). old ++ ((codes ":u" ++ decimal n) ++ codes "!u@h PART #d\r\n")) who
    ∙ ap (λ (t : List ℕ). old ++ t) (sym (at_leaving place three))
