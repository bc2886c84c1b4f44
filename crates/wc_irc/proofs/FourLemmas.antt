-- Names four by four.
use Rattle.std.proofs.Common.{◌≡◌, ℕ, ◌<◌, ◌≤◌, List, [], ◌∷◌, ◌++◌, length, take, drop, map, refl, ap, sym, ◌∙◌, subst, arith, append_assoc}
use Rattle.wc_buffers.specs.Calls.{EntryGroups}
use Rattle.wc_ircmsg.specs.Written.{IsWritable, line_of}
use Rattle.wc_irc.specs.Autojoin.{message}
use Rattle.wc_irc.specs.CommandActs.{fours}
use Rattle.wc_irc.specs.CommandSeen.{AreWritable}
use Rattle.wc_irc.specs.SentLines.{line_acts, each_acts}
use Rattle.wc_irc.specs.declared.act.Act.{Act}

pub few_first : {A : Type 0} (names : List A) → length names ≤ 4 → names ≡ take 4 names
few_first [] few = refl
few_first (a ∷ []) few = refl
few_first (a ∷ b ∷ []) few = refl
few_first (a ∷ b ∷ c ∷ []) few = refl
few_first (a ∷ b ∷ c ∷ d ∷ []) few = refl
few_first (a ∷ b ∷ c ∷ d ∷ e ∷ names) few = absurd (omega (arith, few))

pub few_rest : {A : Type 0} (names : List A) → length names ≤ 4 → [] ≡ drop 4 names
few_rest [] few = refl
few_rest (a ∷ []) few = refl
few_rest (a ∷ b ∷ []) few = refl
few_rest (a ∷ b ∷ c ∷ []) few = refl
few_rest (a ∷ b ∷ c ∷ d ∷ []) few = refl
few_rest (a ∷ b ∷ c ∷ d ∷ e ∷ names) few = absurd (omega (arith, few))

pub ruleset few_names = (few_first, few_rest)

fours_cut : (names : List (List ℕ)) → 0 < length names → fours names ≡ take 4 names ∷ fours (drop 4 names)
fours_cut [] some = absurd (omega (arith, some))
fours_cut (a ∷ []) some = refl
fours_cut (a ∷ b ∷ []) some = refl
fours_cut (a ∷ b ∷ c ∷ []) some = refl
fours_cut (a ∷ b ∷ c ∷ d ∷ names) some = refl

-- one line more
pub next_four : (params : List (List ℕ) → List (List ℕ)) (names first rest : List (List ℕ)) (made later all : List (List (List ℕ))) → 0 < length names → first ≡ take 4 names → rest ≡ drop 4 names
    → later ≡ made ++ params first ∷ [] → made ++ map params (fours names) ≡ all → later ++ map params (fours rest) ≡ all
next_four params names first rest made later all some front back more before =
    (λ i. more i ++ map params (fours (back i)))
    ∙ ap (λ f. (made ++ params f ∷ []) ++ map params (fours (drop 4 names))) front
    ∙ append_assoc made (params (take 4 names) ∷ []) (map params (fours (drop 4 names)))
    ∙ ap (λ l. made ++ map params l) (sym (fours_cut names some))
    ∙ before

-- ---- the lines of messages, one by one

pub first_writable : (command : List ℕ) (params : List (List ℕ)) (left others : List (List (List ℕ))) → left ≡ params ∷ others → AreWritable command left → IsWritable (message command params) × AreWritable command others
first_writable command params left others first all = subst (AreWritable command) first all

pub next_line : (groups : EntryGroups) (command line : List ℕ) (params : List (List ℕ)) (left others : List (List (List ℕ))) (acts later all : List Act) → left ≡ params ∷ others → line ≡ line_of (message command params)
    → later ≡ acts ++ line_acts groups line → acts ++ each_acts groups (map (λ p. message command p) left) ≡ all → later ++ each_acts groups (map (λ p. message command p) others) ≡ all
next_line groups command line params left others acts later all first is more before =
    let tail = each_acts groups (map (λ p. message command p) others) in
    (λ i. more i ++ tail)
    ∙ ap (λ l. (acts ++ line_acts groups l) ++ tail) is
    ∙ append_assoc acts (line_acts groups (line_of (message command params))) tail
    ∙ ap (λ l. acts ++ each_acts groups (map (λ p. message command p) l)) (sym first)
    ∙ before
