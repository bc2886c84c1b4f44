-- Each command has one form, and how it is found.
use Rattle.std.proofs.Common.{◌≡◌, ℕ, Bool, true, false, cond, List, [], ◌∷◌, Option, Some, refl, sym, ap, ◌∙◌}
use Rattle.std.specs.Prelude.{find, is_some, map, ◌||◌, ◌==◌}
use Rattle.std.specs.Borrow.{Bor}
use Rattle.std.specs.Option.{option_copied}
use Rattle.std.specs.List.{list_all, list_any}
use Rattle.wc_text.specs.Splits.{before, text_after, word_of}
use Rattle.wc_text.specs.Words.{words_of}
use Rattle.wc_irc_words.specs.Typed.{is_called}
use Rattle.wc_core.specs.Forms.{core_text, server_text, command_names, command_forms, first_words, slashed_names, form_count, form_named, without_slash}
use Rattle.wc_core.specs.TypedSeen.{lines_left}
use Rattle.wc_core.proofs.TypedLemmas.{lines_left-split}

pub forms_begin : first_words ≡ slashed_names
unfolding command_forms command_names core_text server_text words_of
forms_begin = refl

pub forms_once : list_all (λ name. form_count name == 1) command_names ≡ true
unfolding command_forms command_names core_text server_text words_of
forms_once = refl

-- what is found among forms is found by their first words
by_words : (p : List ℕ → Bool) (forms : List (List ℕ)) → is_some (find (λ form. p (word_of form)) forms) ≡ list_any p (map word_of forms)
by_words p [] = refl
by_words p (form ∷ forms) = by (p (word_of form)) (by_words p forms) where
  by : (t : Bool) → is_some (find (λ f. p (word_of f)) forms) ≡ list_any p (map word_of forms) → is_some (cond t (Some form) (find (λ f. p (word_of f)) forms)) ≡ (t || list_any p (map word_of forms))
  by true more = refl
  by false more = more

-- which are the names with a `/`
by_names : (p : List ℕ → Bool) (names : List (List ℕ)) → list_any (λ word. p (without_slash word)) (map (λ name. 47 ∷ name) names) ≡ list_any p names
by_names p [] = refl
by_names p (name ∷ names) = ap (λ t. p name || t) (by_names p names)

pub forms_found : (name : List ℕ) → is_some (form_named name) ≡ list_any (is_called name) command_names
unfolding form_named
forms_found name =
    by_words (λ word. is_called name (without_slash word)) command_forms
    ∙ ap (list_any (λ word. is_called name (without_slash word))) forms_begin
    ∙ by_names (is_called name) command_names

-- what is found in the lines that are left: the first of them, or what is found after it
pub form_left : (p : List ℕ → Bool) (left next : Option (Bor (List ℕ))) (rest : Bor (List ℕ)) (front : List ℕ) (t : Bool) → left ≡ Some rest → front ≡ before 10 rest.now → option_copied next ≡ text_after 10 rest.now → p front ≡ t
    → find p (lines_left left) ≡ cond t (Some front) (find p (lines_left next))
form_left p left next rest front t is first later e =
    ap (λ o. find p (lines_left o)) is
    ∙ ap (find p) (sym (lines_left-split rest.now next later))
    ∙ ap (λ line. find p (line ∷ lines_left next)) (sym first)
    ∙ ap (λ b. cond b (Some front) (find p (lines_left next))) e
