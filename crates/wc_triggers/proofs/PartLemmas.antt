-- What a trigger replaces, a part at a time.
use Rattle.std.proofs.Common.{◌≡◌, ℕ, zero, suc, ◌+◌, ◌<◌, ◌≤◌, Bool, true, false, ◌&&◌, List, [], ◌∷◌, ◌++◌, length, take, drop, ◌-◌, get_or, ap₂, Option, Some, None, option_map, refl, ap, sym, subst, ◌∙◌, arith, append_assoc, append-nil}
use Rattle.std.specs.Prelude.{◌==◌, IfSome, cond}
use Rattle.std.specs.Option.{option_and_then}
use Rattle.std.specs.List.{list_all}
use Rattle.std.specs.Str.{encode_utf8_all}
use Rattle.std.specs.Char.{encode_utf8}
use Rattle.std.proofs.lemmas.Bool.{and_from}
use Rattle.std.proofs.Math.Seq.{take-length}
use Rattle.std.proofs.lemmas.List.{take_more}
use Rattle.std.proofs.lemmas.List.Folds.{list_all-append}
use Rattle.std.proofs.lemmas.Option.{none-some, same_Some}
use Rattle.std.proofs.lemmas.Str.{encodes-append}
use Rattle.wc_text.specs.Splits.{before, onward, text_after, past, rest_of}
use Rattle.wc_text.proofs.SplitLemmas.{length-onward, before_by_length, length-before-onward, length-text_after}
use Rattle.wc_hooks.specs.declared.kind.HookKind.{HookKind}
use Rattle.wc_eval.specs.declared.verdict.Verdict.{Verdict}
use Rattle.wc_eval.specs.Verdicts.{Oracle, VerdictsView, Agrees, Stay, verdict_on, is_fine, is_fine_by, is_known_fine}
use Rattle.wc_triggers.specs.Replacements.{tail_of, Written, written_after, written_front, replacement_of, with_rest, replacing_front, part_front, with_part, parts_up_to, all_parts, are_fine, are_known}
use Rattle.wc_triggers.specs.declared.replacements.Replacement.{Replacement}

-- one character more
pub spelled_step : (cs : List ℕ) (i c : ℕ) (bytes : List ℕ) → i < length cs → get_or cs i 0 ≡ c →
    bytes ≡ encode_utf8_all (take i cs) → bytes ++ encode_utf8 c ≡ encode_utf8_all (take (i + 1) cs)
spelled_step cs i c bytes l e is =
    ap (λ b. b ++ encode_utf8 c) is
    ∙ ap (λ b. encode_utf8_all (take i cs) ++ b) (sym (append-nil (encode_utf8 c)))
    ∙ ap (λ x. encode_utf8_all (take i cs) ++ encode_utf8_all (x ∷ [])) (sym e)
    ∙ sym (encodes-append (take i cs) (get_or cs i 0 ∷ []))
    ∙ ap encode_utf8_all (sym (take_more cs i 0 l))

-- ---- at a character

pub ruleset cuts = (length-onward, before_by_length, length-before-onward, length-text_after)

-- ---- how long what is left is

length-past : (text : List ℕ) → length (past 32 text) ≤ length text
length-past [] = omega arith
length-past (b ∷ text) = by (b == 32) (length-past text) where
  by : (t : Bool) → length (past 32 text) ≤ length text → length (cond t (past 32 text) (b ∷ text)) ≤ length (b ∷ text)
  by true more = omega (arith, more)
  by false more = omega arith

length-rest : (text : List ℕ) → length (rest_of text) ≤ length text
length-rest text = omega (arith, length-past (onward 32 text), length-onward 32 text)

module _ (mark : ℕ) where
  tail_by : (text : List ℕ) (o : Option (List ℕ)) → text_after mark text ≡ o → length (tail_of o).1 ≤ length text
  tail_by text None e = omega arith
  tail_by text (Some rest) e = omega (arith, length-text_after mark text rest e, length-rest rest)

  written_by_parts : (pattern text : List ℕ) (o : Option (List ℕ)) (part : Written) → text_after mark text ≡ o →
      written_after mark pattern o ≡ Some part → length part.rest < length (mark ∷ text)
  written_by_parts pattern text None part e is = absurd (none-some part is)
  written_by_parts [] text (Some rest) part e is = absurd (none-some part is)
  written_by_parts (p ∷ pattern) text (Some rest) part e is =
      let same : (tail_of (text_after mark rest)).1 ≡ part.rest = ap (λ (w : Written). w.rest) (same_Some _ part is) in
      let short = tail_by rest (text_after mark rest) refl in
      let first = length-text_after mark text rest e in
      let P : List ℕ → Type 0 = λ l. length l < length (mark ∷ text) in
      subst P same (omega (arith, short, first))

written_shorter : (text : List ℕ) (part : Written) → written_front text ≡ Some part → length part.rest < length text
written_shorter [] part is = absurd (none-some part is)
written_shorter (mark ∷ text) part is = written_by_parts mark (before mark text) text (text_after mark text) part refl is

abbrev Front : Type 0
Front = Replacement × List ℕ

module _ (kind : HookKind) where
  rest_is : (rest : List ℕ) (o : Option Replacement) (front : Front) → with_rest rest o ≡ Some front → rest ≡ front.1
  rest_is rest None front e = absurd (none-some front e)
  rest_is rest (Some found) front e = ap (λ (f : Front). f.1) (same_Some _ front e)

  front_by : (text : List ℕ) (o : Option Written) (front : Front) → written_front text ≡ o →
      option_and_then (replacing_front kind) o ≡ Some front → length front.1 < length text
  front_by text None front e is = absurd (none-some front is)
  front_by text (Some part) front e is =
      let P : List ℕ → Type 0 = λ l. length l < length text in
      subst P (rest_is part.rest (replacement_of kind part) front is) (written_shorter text part e)

  pub front_shorter : (text : List ℕ) (front : Front) → part_front kind text ≡ Some front → length front.1 < length text
  front_shorter text front is = front_by text (written_front text) front refl is

  -- as many steps as there are characters are enough
  steps : (n m : ℕ) (text : List ℕ) → length text ≤ n → length text ≤ m → parts_up_to kind n text ≡ parts_up_to kind m text
  unfolding parts_up_to
  steps zero zero text few more = refl
  steps zero (suc m) [] few more = refl
  steps (suc n) zero [] few more = refl
  steps (suc n) (suc m) [] few more = refl
  steps zero (suc m) (c ∷ text) few more = absurd (omega (arith, few))
  steps (suc n) zero (c ∷ text) few more = absurd (omega (arith, more))
  steps (suc n) (suc m) (c ∷ text) few more = by (part_front kind (c ∷ text)) refl (steps n m) where
    by : (o : Option Front) → part_front kind (c ∷ text) ≡ o →
        ((rest : List ℕ) → length rest ≤ n → length rest ≤ m → parts_up_to kind n rest ≡ parts_up_to kind m rest) →
        option_and_then (λ (f : Front). with_part f.0 (parts_up_to kind n f.1)) o ≡ option_and_then (λ (f : Front). with_part f.0 (parts_up_to kind m f.1)) o
    by None e same = refl
    by (Some front) e same =
        let short = front_shorter (c ∷ text) front e in
        ap (with_part front.0) (same front.1 (omega (arith, short, few)) (omega (arith, short, more)))

abbrev pub Parts : Type 0
Parts = List Replacement

-- parts, and then others
abbrev pub parts_after : Parts → Option Parts → Option Parts
parts_after parts others = option_map (λ more. parts ++ more) others

parts_more : (parts : Parts) (part : Replacement) (others : Option Parts) → parts_after (parts ++ part ∷ []) others ≡ parts_after parts (with_part part others)
parts_more parts part None = refl
parts_more parts part (Some others) = ap Some (append_assoc parts (part ∷ []) others)

pub parts_none : (others : Option Parts) → parts_after [] others ≡ others
parts_none None = refl
parts_none (Some others) = refl

module _ (kind : HookKind) (parts : Parts) (rest : List ℕ) (all : Option Parts) (some : 0 < length rest) (so_far : parts_after parts (all_parts kind rest) ≡ all) where
  first_of : (text : List ℕ) (o : Option Front) → 0 < length text → part_front kind text ≡ o →
      parts_after parts (all_parts kind text) ≡ all →
      parts_after parts (option_and_then (λ (f : Front). with_part f.0 (all_parts kind f.1)) o) ≡ all
  unfolding parts_up_to
  first_of [] o filled e is = absurd (omega (arith, filled))
  first_of (c ∷ text) None filled e is = ap (λ o. parts_after parts (option_and_then (λ (f : Front). with_part f.0 (parts_up_to kind (length text) f.1)) o)) (sym e) ∙ is
  first_of (c ∷ text) (Some front) filled e is =
      let short = front_shorter kind (c ∷ text) front e in
      ap (λ o. parts_after parts (with_part front.0 o)) (steps kind (length front.1) (length text) front.1 (omega arith) (omega (arith, short)))
      ∙ ap (λ o. parts_after parts (option_and_then (λ (f : Front). with_part f.0 (parts_up_to kind (length text) f.1)) o)) (sym e) ∙ is

  pub next_part : (part : Replacement) (following : List ℕ) → Some (part, following) ≡ part_front kind rest →
      parts_after (parts ++ part ∷ []) (all_parts kind following) ≡ all
  next_part part following e = parts_more parts part (all_parts kind following) ∙ first_of rest (Some (part, following)) some (sym e) so_far

  pub wrong_part : None ≡ part_front kind rest → None ≡ all
  wrong_part e = first_of rest None some (sym e) so_far

pub all_of_them : (kind : HookKind) (parts : Parts) (rest : List ℕ) (all : Option Parts) → length rest ≡ 0 →
    parts_after parts (all_parts kind rest) ≡ all → Some parts ≡ all
unfolding parts_up_to
all_of_them kind parts [] all none so_far = ap Some (sym (append-nil parts)) ∙ so_far
all_of_them kind parts (c ∷ rest) all none so_far = absurd (omega (arith, none))

-- ---- the verdicts on patterns

known_by : (o p : Option Verdict) → IfSome o (λ v. p ≡ Some v) → is_fine_by o ≡ true → is_fine_by p ≡ true
known_by None p stays fine = absurd (cc)
known_by (Some v) p stays fine = ap is_fine_by stays ∙ fine

pub known_later : (old new : VerdictsView) (parts : Parts) → Stay old new → are_known old parts ≡ true → are_known new parts ≡ true
known_later old new [] stay known = refl
known_later old new (part ∷ parts) stay known = by (is_known_fine part.pattern old) refl known (known_later old new parts stay) where
  by : (t : Bool) → is_known_fine part.pattern old ≡ t → (t && are_known old parts) ≡ true → (are_known old parts ≡ true → are_known new parts ≡ true) → are_known new (part ∷ parts) ≡ true
  by true e more ih = and_from _ _ (known_by (verdict_on part.pattern old) (verdict_on part.pattern new) (stay.rows part.pattern) e) (ih more)
  by false e more ih = absurd (cc)

fine_by : (o : Option Verdict) (b : Bool) → IfSome o (λ v. b ≡ is_fine v) → is_fine_by o ≡ true → b ≡ true
fine_by None b agrees known = absurd (cc)
fine_by (Some v) b agrees known = agrees ∙ known

-- what is known to be fine is fine by all total verdicts that agree
pub fine_known : (oracle : Oracle) (verdicts : VerdictsView) (parts : Parts) → Agrees oracle verdicts → are_known verdicts parts ≡ true → are_fine oracle parts ≡ true
fine_known oracle verdicts [] agrees known = refl
fine_known oracle verdicts (part ∷ parts) agrees known = by (is_known_fine part.pattern verdicts) refl known (fine_known oracle verdicts parts agrees) where
  by : (t : Bool) → is_known_fine part.pattern verdicts ≡ t → (t && are_known verdicts parts) ≡ true → (are_known verdicts parts ≡ true → are_fine oracle parts ≡ true) → are_fine oracle (part ∷ parts) ≡ true
  by true e more ih = and_from _ _ (fine_by (verdict_on part.pattern verdicts) (oracle part.pattern) (agrees part.pattern) e) (ih more)
  by false e more ih = absurd (cc)

stay_by : (o p q : Option Verdict) → IfSome o (λ v. p ≡ Some v) → IfSome p (λ v. q ≡ Some v) → IfSome o (λ v. q ≡ Some v)
stay_by None p q first second = tt
stay_by (Some v) p q first second = subst (λ r. IfSome r (λ w. q ≡ Some w)) first second

pub stay_both : (old mid new : VerdictsView) → Stay old mid → Stay mid new → Stay old new
stay_both old mid new first second = record {
  rows = λ text. stay_by (verdict_on text old) (verdict_on text mid) (verdict_on text new) (first.rows text) (second.rows text);
  others = omega (arith, first.others, second.others);
}

-- Of some parts those before others were judged to be fine.
pub record Judged (old new : VerdictsView) (parts rest : Parts) : Type 0 where
  pub front : Parts
  pub is : parts ≡ front ++ rest
  pub known : are_known new front ≡ true
  pub stay : Stay old new

pub judged_none : (old : VerdictsView) (parts : Parts) → Stay old old → Judged old old parts parts
judged_none old parts stay = record { front = []; is = refl; known = refl; stay = stay }

refused_by : (test : Replacement → Bool) (front others : Parts) (part : Replacement) → list_all test front ≡ true → test part ≡ false → list_all test (front ++ part ∷ others) ≡ false
refused_by test [] others part fine wrong = ap (λ t. t && list_all test others) wrong
refused_by test (f ∷ front) others part fine wrong = by (test f) refl fine (λ more. refused_by test front others part more wrong) where
  by : (t : Bool) → test f ≡ t → (t && list_all test front) ≡ true → (list_all test front ≡ true → list_all test (front ++ part ∷ others) ≡ false) →
      list_all test (f ∷ (front ++ part ∷ others)) ≡ false
  by true e more ih = ap (λ t. t && list_all test (front ++ part ∷ others)) e ∙ ih more
  by false e more ih = absurd (cc)

pushed_by : (test : Replacement → Bool) (front : Parts) (part : Replacement) → list_all test front ≡ true → test part ≡ true → list_all test (front ++ part ∷ []) ≡ true
pushed_by test front part fine one = list_all-append test front (part ∷ []) ∙ and_from _ _ fine (and_from _ _ one refl)

module _ (old mid new : VerdictsView) (parts others : Parts) (part : Replacement) (judged : Judged old mid parts (part ∷ others)) (later : Stay mid new) (both : Stay old new) where
  before_known : are_known new judged.front ≡ true
  before_known = known_later mid new judged.front later judged.known

  pub judged_next : is_known_fine part.pattern new ≡ true → Judged old new parts others
  judged_next fine = record {
    front = judged.front ++ part ∷ [];
    is = judged.is ∙ sym (append_assoc judged.front (part ∷ []) others);
    known = pushed_by (λ p. is_known_fine p.pattern new) judged.front part before_known fine;
    stay = both;
  }

  pub refused_known : is_known_fine part.pattern new ≡ false → false ≡ are_known new parts
  refused_known wrong = sym (ap (are_known new) judged.is ∙ refused_by (λ p. is_known_fine p.pattern new) judged.front others part before_known wrong)

  pub refused_fine : (oracle : Oracle) → Agrees oracle new → oracle part.pattern ≡ false → false ≡ are_fine oracle parts
  refused_fine oracle agrees wrong = sym (ap (are_fine oracle) judged.is
      ∙ refused_by (λ p. oracle p.pattern) judged.front others part (fine_known oracle new judged.front agrees before_known) wrong)

module _ (old new : VerdictsView) (parts : Parts) (judged : Judged old new parts []) where
  pub all_known : true ≡ are_known new parts
  all_known = sym (ap (are_known new) (judged.is ∙ append-nil judged.front) ∙ judged.known)

  pub all_fine : (oracle : Oracle) → Agrees oracle new → true ≡ are_fine oracle parts
  all_fine oracle agrees = sym (ap (are_fine oracle) (judged.is ∙ append-nil judged.front) ∙ fine_known oracle new judged.front agrees judged.known)

-- the first of what is left, and the others, as the code has them
pub first_and_others : (rest : Parts) (part : Replacement) → 1 ≤ length rest → part ≡ get_or rest 0 part →
    rest ≡ part ∷ take (length rest - 1) (drop 1 rest)
first_and_others [] part some is = absurd (omega (arith, some))
first_and_others (p ∷ parts) part some is =
    let n : length (p ∷ parts) - 1 ≡ length parts = omega arith in
    let others : take (length (p ∷ parts) - 1) parts ≡ parts = ap (λ k. take k parts) n ∙ take-length parts in
    ap₂ (λ q qs. q ∷ qs) (sym is) (sym others)

pub none_left : (rest : Parts) → length rest < 1 → rest ≡ []
none_left [] none = refl
none_left (part ∷ rest) none = absurd (omega (arith, none))
