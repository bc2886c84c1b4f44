-- Where the pattern of a filter is parted.
use Rattle.std.proofs.Common.{◌≡◌, ℕ, ◌+◌, ◌-◌, ◌≤◌, Bool, true, false, List, [], ◌∷◌, ◌++◌, length, take, drop, refl, ap, ap₂, sym, ◌∙◌, arith, length-append, subst, cond}
use Rattle.std.proofs.lemmas.List.{take_at}
use Rattle.std.proofs.Math.Seq.{take-length}
use Rattle.wc_filters.specs.Patterns.{is_tab, before_tab, from_tab, parted}

by_bool : (test : Bool) (b : ℕ) (text front back : List ℕ) → front ++ back ≡ text →
    cond test [] (b ∷ front) ++ cond test (b ∷ text) back ≡ b ∷ text
by_bool true b text front back e = refl
by_bool false b text front back e = ap (λ l. b ∷ l) e

-- the two parts are the text
pub before-from : (text : List ℕ) → before_tab text ++ from_tab text ≡ text
before-from [] = refl
before-from (b ∷ text) = by_bool (is_tab (b ∷ text)) b text (before_tab text) (from_tab text) (before-from text)

pub length-parts : (text : List ℕ) → length (before_tab text) + length (from_tab text) ≡ length text
length-parts text = sym (length-append (before_tab text) (from_tab text)) ∙ ap length (before-from text)

pub length-tab : (text : List ℕ) → length (from_tab text) ≤ length text
length-tab text = omega (arith, length-parts text)

-- the first part, by lengths
pub before_by_length : (text : List ℕ) → take (length text - length (from_tab text)) text ≡ before_tab text
before_by_length text =
    let n : length (before_tab text) ≡ length text - length (from_tab text) = omega (arith, length-parts text) in
    let P : List ℕ → Type 0 = λ t. take (length text - length (from_tab text)) t ≡ before_tab text in
    subst P (before-from text) (take_at (before_tab text) (from_tab text) _ n)

-- the parts at the first `\t`, by lengths
parts_by : (tab text front : List ℕ) → 2 ≤ length tab → front ≡ before_tab text →
    ◌≡◌ {A = List ℕ × List ℕ} (front, take (length tab - 2) (drop 2 tab)) (parted tab text)
parts_by [] text front two e = absurd (omega (arith, two))
parts_by (a ∷ []) text front two e = absurd (omega (arith, two))
parts_by (a ∷ b ∷ message) text front two e =
    let n : length (a ∷ b ∷ message) - 2 ≡ length message = omega arith in
    let m : take (length (a ∷ b ∷ message) - 2) message ≡ message = ap (λ k. take k message) n ∙ take-length message in
    ap₂ (λ x y. (x, y)) e m

pub parted_is : (tab text : List ℕ) → tab ≡ from_tab text → 2 ≤ length tab →
    ◌≡◌ {A = List ℕ × List ℕ} (take (length text - length tab) text, take (length tab - 2) (drop 2 tab)) (parted (from_tab text) text)
parted_is tab text e two =
    parts_by tab text (take (length text - length tab) text) two (ap (λ t. take (length text - length t) text) e ∙ before_by_length text)
    ∙ ap (λ t. parted t text) e

pub ruleset cuts = (length-tab, length-parts)
