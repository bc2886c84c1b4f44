-- The lines that join channels.
use Rattle.std.proofs.Common.{◌≡◌, ℕ, Bool, true, false, List, [], ◌∷◌, refl, ap, ◌∙◌, arith, codes}
use Rattle.std.specs.Prelude.{◌&&◌, ◌==◌, not}
use Rattle.std.proofs.lemmas.Bool.{and_from, not-true}
use Rattle.wc_text.specs.Splits.{onward, past, word_of, rest_of}
use Rattle.wc_ircmsg.specs.Written.{ends_lines, is_one_line, IsWritable, needs_colon}
use Rattle.wc_irc_words.specs.Typed.{is_target}
use Rattle.wc_irc_texts.specs.Pieces.{is_bare}
use Rattle.wc_irc_texts.proofs.PieceLemmas.{all_onward, all_past, bare_word, bare_line, no_colon}
use Rattle.wc_irc.specs.Autojoin.{message, join_params, first_word, second_word}

pub bare_first : (text : List ℕ) → is_one_line text ≡ true → is_bare (first_word text) ≡ true
bare_first text line = bare_word (past 32 text) (all_past (λ b. not (ends_lines b)) 32 text line)

pub bare_second : (text : List ℕ) → is_one_line text ≡ true → is_bare (second_word text) ≡ true
bare_second text line =
    let p : ℕ → Bool = λ b. not (ends_lines b) in
    bare_word (rest_of (past 32 text)) (all_past p 32 (onward 32 (past 32 text)) (all_onward p 32 (past 32 text) (all_past p 32 text line)))

writable : (b : ℕ) (channel key : List ℕ) → (b == 58) ≡ false → is_bare (b ∷ channel) ≡ true → is_bare key ≡ true → IsWritable (message (codes "JOIN") (join_params (b ∷ channel) key))
writable b channel [] other bare bare_key = record {
  command = refl;
  few = omega arith;
  words = refl;
  one_line = and_from (is_one_line (b ∷ channel)) true (bare_line (b ∷ channel) bare) refl;
}
writable b channel (k ∷ key) other bare bare_key = record {
  command = refl;
  few = omega arith;
  words = and_from (not (needs_colon (b ∷ channel))) true (no_colon b channel other bare) refl;
  one_line = and_from (is_one_line (b ∷ channel)) (is_one_line (k ∷ key) && true) (bare_line (b ∷ channel) bare) (and_from (is_one_line (k ∷ key)) true (bare_line (k ∷ key) bare_key) refl);
}

pub join_writable : (channel key : List ℕ) → is_target channel ≡ true → is_bare channel ≡ true → is_bare key ≡ true → IsWritable (message (codes "JOIN") (join_params channel key))
join_writable [] key sent bare bare_key = absurd (cc)
join_writable (b ∷ channel) key sent bare bare_key = writable b channel key (not-true (b == 58) sent) bare bare_key

-- the words of one line that are cut off
pub first_bare : (text rest word : List ℕ) → rest ≡ past 32 text → word ≡ word_of rest → is_one_line text ≡ true → is_bare word ≡ true
first_bare text rest word past_front here line = ap is_bare (here ∙ ap word_of past_front) ∙ bare_first text line

pub second_bare : (text rest others word : List ℕ) → rest ≡ past 32 text → others ≡ rest_of rest → word ≡ word_of others → is_one_line text ≡ true → is_bare word ≡ true
second_bare text rest others word past_front more here line = ap is_bare (here ∙ ap word_of (more ∙ ap rest_of past_front)) ∙ bare_second text line
