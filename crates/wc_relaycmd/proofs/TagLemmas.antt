-- What a line calls.
use Rattle.std.proofs.Common.{◌≡◌, ◌≢◌, ℕ, List, [], ◌∷◌, ◌++◌, refl, ap, sym, ◌∙◌, eqb, Bool, true, false, cond, not, ◌&&◌, Option, Some, None, option_map, option_and_then, append_assoc, subst}
use Rattle.std.proofs.lemmas.Bool.{false≢true}
use Rattle.std.proofs.lemmas.Bool.Decides.{Decides-eqb}
use Rattle.std.proofs.lemmas.Option.{option_and_then_some}
use Rattle.std.proofs.lemmas.Slice.Eq.{bytes_eq-Decides}
use Rattle.std.specs.List.{find}
use Rattle.std.specs.Str.{bytes_eq}
use Rattle.wc_relaycmd.specs.declared.word.Word.{Word}
use Rattle.wc_relaycmd.specs.declared.word.Word.TheVariants as Words
use Rattle.wc_text.specs.Splits.{before, text_after, past, BeginsWithout, blanks, WordAndRest, word_of, rest_of}
use Rattle.wc_relaycmd.specs.Grammar.{name_of, word_named, all_words, IsId, IsTag, Calls}
use Rattle.wc_relaycmd.specs.Answers.{Called, tag_of, named_tag, called_by, call_of}
use Rattle.wc_text.proofs.WordLemmas.{other_byte, byte_differs, before-at, text_after-at, Lacks-before, cut_after, past-blanks, past-bare, margin, WordAndRest-same, WordAndRest-made}

-- each command is found by its name
pub word_named-name_of : (word : Word) → word_named (name_of word) ≡ Some word
word_named-name_of Words.Handshake = refl
word_named-name_of Words.Init = refl
word_named-name_of Words.Hdata = refl
word_named-name_of Words.Info = refl
word_named-name_of Words.Infolist = refl
word_named-name_of Words.Nicklist = refl
word_named-name_of Words.Input = refl
word_named-name_of Words.Completion = refl
word_named-name_of Words.Sync = refl
word_named-name_of Words.Desync = refl
word_named-name_of Words.Test = refl
word_named-name_of Words.Ping = refl
word_named-name_of Words.Quit = refl

-- what a search finds passes its test
pub find_passes : {A : Type 0} (p : A → Bool) (xs : List A) (x : A) → find p xs ≡ Some x → p x ≡ true
find_passes p [] x found = absurd (cc)
find_passes p (y ∷ xs) x found = by (p y) refl found (find_passes p xs x) where
  by : (t : Bool) → p y ≡ t → cond t (Some y) (find p xs) ≡ Some x → (find p xs ≡ Some x → p x ≡ true) → p x ≡ true
  by true e here more = let same : y ≡ x = cc in ap p (sym same) ∙ e
  by false e here more = more here

-- no command's name begins with a blank or a parenthesis
abbrev begins_well : List ℕ → Bool
begins_well [] = false
begins_well (b ∷ text) = not (eqb b 32) && not (eqb b 40)

name_begins_well : (word : Word) → begins_well (name_of word) ≡ true
name_begins_well Words.Handshake = refl
name_begins_well Words.Init = refl
name_begins_well Words.Hdata = refl
name_begins_well Words.Info = refl
name_begins_well Words.Infolist = refl
name_begins_well Words.Nicklist = refl
name_begins_well Words.Input = refl
name_begins_well Words.Completion = refl
name_begins_well Words.Sync = refl
name_begins_well Words.Desync = refl
name_begins_well Words.Test = refl
name_begins_well Words.Ping = refl
name_begins_well Words.Quit = refl

pub name_of_named : (text : List ℕ) (word : Word) → word_named text ≡ Some word → text ≡ name_of word
name_of_named text word found = (bytes_eq-Decides text (name_of word)).0 (find_passes (λ w. bytes_eq text (name_of w)) all_words word found)

-- a call begins with its command's name, so with neither a blank nor a parenthesis
pub record BeginsWell (call : List ℕ) : Type 0 where
  pub no_blank : BeginsWithout 32 call
  pub no_tag : tag_of call ≡ Some ([], call)

begins_from : (b : ℕ) (text : List ℕ) → not (eqb b 32) && not (eqb b 40) ≡ true → BeginsWell (b ∷ text)
begins_from b text test = by (eqb b 32) (eqb b 40) refl refl test where
  by : (s t : Bool) → eqb b 32 ≡ s → eqb b 40 ≡ t → not s && not t ≡ true → BeginsWell (b ∷ text)
  by true t blank shut here = absurd (false≢true here)
  by false true blank shut here = absurd (false≢true here)
  by false false blank shut here = record {
    no_blank = byte_differs b 32 blank;
    no_tag = ap (λ t. cond t (named_tag text) (Some ([], b ∷ text))) shut;
  }

named_begins : (name rest : List ℕ) → begins_well name ≡ true → BeginsWell (name ++ rest)
named_begins [] rest well = absurd (false≢true well)
named_begins (b ∷ name) rest well = begins_from b (name ++ rest) well

call_begins : (call : List ℕ) (word : Word) (arguments : List ℕ) → WordAndRest call (name_of word) arguments → BeginsWell call
call_begins call word arguments parts =
    subst BeginsWell (sym parts.spelled) (named_begins (name_of word) (blanks parts.gap ++ arguments) (name_begins_well word))

-- the id of a tag is found, and what comes after it
named_found : (id rest : List ℕ) → IsId id → named_tag (id ++ 41 ∷ rest) ≡ Some (id, rest)
named_found [] rest is_id = refl
named_found (c ∷ id) rest is_id =
    ap (λ t. cond t None (option_map (λ after. (before 41 (c ∷ (id ++ 41 ∷ rest)), after)) (text_after 41 (c ∷ (id ++ 41 ∷ rest))))) (other_byte c 95 is_id.0) ∙
    ap (λ o. option_map (λ after. (before 41 (c ∷ (id ++ 41 ∷ rest)), after)) o) (text_after-at 41 (c ∷ id) rest is_id.1) ∙
    ap (λ i. Some (i, rest)) (before-at 41 (c ∷ id) rest is_id.1)

tag_found : (b : ℕ) (tag id rest : List ℕ) → IsTag (b ∷ tag) id → tag_of (past 32 (b ∷ (tag ++ rest))) ≡ Some (id, rest)
tag_found b tag id rest is_tag =
    ap (λ c. tag_of (past 32 (c ∷ (tag ++ rest)))) is_tag.0 ∙ ap (λ t. named_tag (t ++ rest)) is_tag.1 ∙
    ap named_tag (append_assoc id (41 ∷ []) rest) ∙ named_found id rest is_tag.2

-- the id of a line is found, and the call after it
pub record Finds (line id call : List ℕ) : Type 0 where
  pub rest : List ℕ
  pub tagged : tag_of (past 32 line) ≡ Some (id, rest)
  pub called : past 32 rest ≡ call

after_tag : (tag id call : List ℕ) (gap : ℕ) → IsTag tag id → BeginsWell call → Finds (tag ++ (blanks gap ++ call)) id call
after_tag [] id call gap is_tag well = record {
  rest = call;
  tagged = ap tag_of (past-blanks gap call ∙ past-bare 32 call well.no_blank) ∙ well.no_tag ∙ ap (λ i. Some (i, call)) (sym is_tag);
  called = past-bare 32 call well.no_blank;
}
after_tag (b ∷ tag) id call gap is_tag well = record {
  rest = blanks gap ++ call;
  tagged = tag_found b tag id (blanks gap ++ call) is_tag;
  called = past-blanks gap call ∙ past-bare 32 call well.no_blank;
}

-- what a line calls is found
pub call_of-calls : (line id : List ℕ) (word : Word) (arguments : List ℕ) → Calls line id word arguments → call_of line ≡ Some (record { id = id; word = word; arguments = arguments })
unfolding call_of
call_of-calls line id word arguments calls =
    let finds = after_tag calls.tag id calls.call calls.gap calls.tagged (call_begins calls.call word arguments calls.called) in
    let parts = WordAndRest-same calls.call (name_of word) arguments calls.called in
    ap (λ t. option_and_then (λ (tag : List ℕ × List ℕ). called_by tag.0 (past 32 tag.1)) t) (ap (λ l. tag_of (past 32 l)) calls.spelled ∙ ap tag_of (past-blanks calls.margin _) ∙ finds.tagged) ∙
    ap (called_by id) finds.called ∙
    ap (λ w. option_map (λ word. record { id = id; word = word; arguments = rest_of calls.call }) (word_named w)) (sym parts.0) ∙
    ap (λ w. option_map (λ word. record { id = id; word = word; arguments = rest_of calls.call }) w) (word_named-name_of word) ∙
    ap (λ a. Some (record { id = id; word = word; arguments = a })) (sym parts.1)

-- a tag that is found is at the front
pub record HasTag (text : List ℕ) (tag : List ℕ × List ℕ) : Type 0 where
  pub written : List ℕ
  pub spelled : text ≡ written ++ tag.1
  pub is_tag : IsTag written tag.0

named_reads : (text : List ℕ) (tag : List ℕ × List ℕ) → named_tag text ≡ Some tag → (text ≡ tag.0 ++ 41 ∷ tag.1) × IsId tag.0
named_reads [] tag found = absurd (cc)
named_reads (b ∷ text) tag found = by (eqb b 95) refl found where
  id_of : (t : Bool) → eqb b 41 ≡ t → b ≢ 95 → IsId (cond t [] (b ∷ before 41 text))
  id_of true e other = tt
  id_of false e other = (other, (byte_differs b 41 e, Lacks-before 41 text))

  opened : (o : Option (List ℕ)) → text_after 41 (b ∷ text) ≡ o → b ≢ 95 → option_map (λ rest. (before 41 (b ∷ text), rest)) o ≡ Some tag → (b ∷ text ≡ tag.0 ++ 41 ∷ tag.1) × IsId tag.0
  opened None e other here = absurd (cc)
  opened (Some rest) e other here =
      let same : (before 41 (b ∷ text), rest) ≡ tag = cc in
      let id_is : before 41 (b ∷ text) ≡ tag.0 = ap (λ (p : List ℕ × List ℕ). p.0) same in
      let rest_is : rest ≡ tag.1 = ap (λ (p : List ℕ × List ℕ). p.1) same in
      (cut_after 41 (b ∷ text) rest e ∙ ap (λ i. i ++ 41 ∷ rest) id_is ∙ ap (λ r. tag.0 ++ 41 ∷ r) rest_is, subst IsId id_is (id_of (eqb b 41) refl other))

  by : (t : Bool) → eqb b 95 ≡ t → cond t None (option_map (λ rest. (before 41 (b ∷ text), rest)) (text_after 41 (b ∷ text))) ≡ Some tag → (b ∷ text ≡ tag.0 ++ 41 ∷ tag.1) × IsId tag.0
  by true e here = absurd (cc)
  by false e here = opened (text_after 41 (b ∷ text)) refl (byte_differs b 95 e) here

pub tag_reads : (text : List ℕ) (tag : List ℕ × List ℕ) → tag_of text ≡ Some tag → HasTag text tag
tag_reads [] tag found =
    let same : ([], []) ≡ tag = cc in
    record { written = []; spelled = ap (λ (p : List ℕ × List ℕ). p.1) same; is_tag = sym (ap (λ (p : List ℕ × List ℕ). p.0) same) }
tag_reads (b ∷ text) tag found = by (eqb b 40) refl found where
  by : (t : Bool) → eqb b 40 ≡ t → cond t (named_tag text) (Some ([], b ∷ text)) ≡ Some tag → HasTag (b ∷ text) tag
  by true e here =
      let named = named_reads text tag here in
      record {
        written = b ∷ (tag.0 ++ 41 ∷ []);
        spelled = ap (λ t. b ∷ t) (named.0 ∙ sym (append_assoc tag.0 (41 ∷ []) tag.1));
        is_tag = ((Decides-eqb b 40).0 e, refl, named.1);
      }
  by false e here =
      let same : ([], b ∷ text) ≡ tag = cc in
      record { written = []; spelled = ap (λ (p : List ℕ × List ℕ). p.1) same; is_tag = sym (ap (λ (p : List ℕ × List ℕ). p.0) same) }

-- what is found is called
pub calls-call_of : (line : List ℕ) (call : Called) → call_of line ≡ Some call → Calls line call.id call.word call.arguments
unfolding call_of
calls-call_of line call found =
    option_and_then_some (λ (tag : List ℕ × List ℕ). called_by tag.0 (past 32 tag.1)) (tag_of (past 32 line)) call found
    (λ tag tagged here. named tag (tag_reads (past 32 line) tag tagged) (word_named (word_of (past 32 tag.1))) refl here) where
      named : (tag : List ℕ × List ℕ) → HasTag (past 32 line) tag → (o : Option Word) → word_named (word_of (past 32 tag.1)) ≡ o →
          option_map (λ word. record { id = tag.0; word = word; arguments = rest_of (past 32 tag.1) }) o ≡ Some call → Calls line call.id call.word call.arguments
      named tag has None e here = absurd (cc)
      named tag has (Some word) e here =
          let same : record { id = tag.0; word = word; arguments = rest_of (past 32 tag.1) } ≡ call = cc in
          let before_tag = margin line in
          let after_tag = margin tag.1 in
          let parts : WordAndRest (past 32 tag.1) (name_of word) (rest_of (past 32 tag.1)) =
          subst (λ w. WordAndRest (past 32 tag.1) w (rest_of (past 32 tag.1))) (name_of_named (word_of (past 32 tag.1)) word e) (WordAndRest-made (past 32 tag.1)) in
          subst (λ (c : Called). Calls line c.id c.word c.arguments) same (record {
            margin = before_tag.0;
            tag = has.written;
            gap = after_tag.0;
            call = past 32 tag.1;
            spelled = before_tag.1 ∙ ap (λ t. blanks before_tag.0 ++ t) (has.spelled ∙ ap (λ t. has.written ++ t) after_tag.1);
            tagged = has.is_tag;
            called = parts;
          })
