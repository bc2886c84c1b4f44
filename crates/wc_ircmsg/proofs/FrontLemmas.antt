-- What is before a command.
use Rattle.std.proofs.Common.{◌≡◌, ◌≢◌, ℕ, ◌≤◌, List, [], ◌∷◌, length, drop, refl, ap, sym, ◌∙◌, arith, eqb, Bool, true, false, cond, Option, Some, None, subst}
use Rattle.std.proofs.lemmas.Bool.Decides.{Decides-eqb}
use Rattle.wc_text.specs.Splits.{before, onward, past, begins_with, BeginsWithout, WordAndRest, word_of, rest_of}
use Rattle.wc_ircmsg.specs.Words.{Marked}
use Rattle.wc_ircmsg.specs.Sources.{or_empty}
use Rattle.wc_ircmsg.specs.Answers.{after_marked, marked_word, tags_of, untagged_of, source_of, call_of}
use Rattle.wc_ircmsg.specs.Grammar.{Front}
use Rattle.wc_text.proofs.SplitLemmas.{length-onward}
use Rattle.wc_text.proofs.WordLemmas.{other_byte, same_byte, byte_differs, past-blanks, past-bare, BeginsWithout-past, margin, WordAndRest-same, WordAndRest-made}

-- a text that does not begin with the byte
without : (mark : ℕ) (text : List ℕ) → BeginsWithout mark text → begins_with mark text ≡ false
without mark [] bare = refl
without mark (b ∷ text) bare = other_byte b mark bare

-- a marked word is the one that is computed
pub Marked-same : (mark : ℕ) (text rest : List ℕ) (word : Option (List ℕ)) → Marked mark text word rest → (or_empty word ≡ marked_word mark text) × (rest ≡ after_marked mark text)
Marked-same mark text rest None marked =
    let no : begins_with mark text ≡ false = without mark text marked.0 in
    (sym (ap (λ t. cond t (drop 1 (word_of text)) []) no), marked.1 ∙ sym (ap (λ t. cond t (rest_of text) text) no))
Marked-same mark text rest (Some word) parts =
    let yes : begins_with mark text ≡ true = ap (begins_with mark) parts.spelled ∙ same_byte mark in
    let same = WordAndRest-same text (mark ∷ word) rest parts in
    (ap (drop 1) same.0 ∙ sym (ap (λ t. cond t (drop 1 (word_of text)) []) yes), same.1 ∙ sym (ap (λ t. cond t (rest_of text) text) yes))

-- a text has a marked word, or none
pub Marked-made : (mark : ℕ) (text : List ℕ) → mark ≢ 32 → (word : Option (List ℕ)) × Marked mark text word (after_marked mark text) × (marked_word mark text ≡ or_empty word)
Marked-made mark [] solid = (None, (tt, refl), refl)
Marked-made mark (b ∷ text) solid = by (eqb b mark) refl where
  front : b ≡ mark → word_of (b ∷ text) ≡ mark ∷ before 32 text
  front same = ap (λ t. cond t [] (b ∷ before 32 text)) (other_byte b 32 (λ is. solid (sym same ∙ is))) ∙ ap (λ h. h ∷ before 32 text) same

  by : (t : Bool) → eqb b mark ≡ t → (word : Option (List ℕ)) × Marked mark (b ∷ text) word (cond t (rest_of (b ∷ text)) (b ∷ text)) × (cond t (drop 1 (word_of (b ∷ text))) [] ≡ or_empty word)
  by true e =
      let is = front ((Decides-eqb b mark).0 e) in
      (Some (before 32 text), subst (λ w. WordAndRest (b ∷ text) w (rest_of (b ∷ text))) is (WordAndRest-made (b ∷ text)), ap (drop 1) is)
  by false e = (None, (byte_differs b mark e, refl), refl)

-- the front of a text is the one that is computed
pub Front-same : (text told source call : List ℕ) → Front text told source call → (source ≡ source_of text) × (call ≡ call_of text) × (told ≡ tags_of text)
unfolding tags_of untagged_of source_of call_of
Front-same text told source call front =
    let body : front.body ≡ past 32 text = sym (ap (past 32) front.spelled ∙ past-blanks front.margin front.body ∙ past-bare 32 front.body front.bare) in
    let tagged = Marked-same 64 front.body front.untagged front.tags front.tagged in
    let untagged : front.untagged ≡ untagged_of text = tagged.1 ∙ ap (after_marked 64) body in
    let prefixed = Marked-same 58 front.untagged call front.prefix front.prefixed in
    (front.source_is ∙ prefixed.0 ∙ ap (marked_word 58) untagged, prefixed.1 ∙ ap (after_marked 58) untagged, front.told_is ∙ tagged.0 ∙ ap (marked_word 64) body)

-- each text has this front
pub Front-made : (text : List ℕ) → Front text (tags_of text) (source_of text) (call_of text)
unfolding tags_of untagged_of source_of call_of
Front-made text =
    let front = margin text in
    let tags = Marked-made 64 (past 32 text) (λ e. absurd (omega arith)) in
    let prefix = Marked-made 58 (untagged_of text) (λ e. absurd (omega arith)) in
    record {
      margin = front.0;
      body = past 32 text;
      spelled = front.1;
      bare = BeginsWithout-past 32 text;
      tags = tags.0;
      untagged = untagged_of text;
      tagged = tags.1;
      told_is = tags.2;
      prefix = prefix.0;
      prefixed = prefix.1;
      source_is = prefix.2;
    }

-- what is called is no longer than the text
length-past : (c : ℕ) (text : List ℕ) → length (past c text) ≤ length text
length-past c [] = omega arith
length-past c (b ∷ text) = by (eqb b c) (length-past c text) where
  by : (t : Bool) → length (past c text) ≤ length text → length (cond t (past c text) (b ∷ text)) ≤ length (b ∷ text)
  by true shorter = omega arith
  by false shorter = omega arith

length-after_marked : (mark : ℕ) (text : List ℕ) → length (after_marked mark text) ≤ length text
length-after_marked mark text = by (begins_with mark text) where
  by : (t : Bool) → length (cond t (rest_of text) text) ≤ length text
  by true = omega (arith, length-past 32 (onward 32 text), length-onward 32 text)
  by false = omega arith

pub length-call_of : (text : List ℕ) → length (call_of text) ≤ length text
unfolding untagged_of call_of
length-call_of text = omega (arith, length-after_marked 58 (untagged_of text), length-after_marked 64 (past 32 text), length-past 32 text)
