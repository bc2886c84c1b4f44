-- What completes a text is text, where that is, the commands are, and the names of the nicks are.
use Rattle.std.proofs.Common.{◌≡◌, ℕ, ◌-◌, ◌≤◌, ℤ, pos, negsuc, Bool, true, false, ◌&&◌, ◌||◌, ◌==◌, List, [], ◌∷◌, ◌++◌, length, take, IsUtf8, refl, sym, ap, subst, ◌∙◌, arith}
use Rattle.std.specs.Prelude.{filter}
use Rattle.std.specs.List.{All, Contains, list_any}
use Rattle.std.specs.Str.{IsCharBoundary}
use Rattle.std.proofs.lemmas.Bool.{and_parts, false≢true}
use Rattle.std.proofs.lemmas.Bool.Decides.{nat_tests}
use Rattle.std.proofs.lemmas.List.Elements.{All-nil, All-append, All-head, All-tail, All-map, All-filter, All-weaker, All-contains, All-contains_itself, All-from_recursion}
use Rattle.std.proofs.lemmas.Str.{IsUtf8-take}
use Rattle.wc_text.proofs.Utf8Lemmas.{utf8_cons, utf8_parts}
use Rattle.wc_nicklist.specs.declared.item.Item.{Item}
use Rattle.wc_nicklist.specs.declared.item.Row.{Row}
use Rattle.wc_complete.specs.declared.completion.Completion.{Completion}
use Rattle.wc_complete.specs.declared.completion.Context.{Context}
use Rattle.wc_complete.specs.declared.completion.Context.TheVariants.{Command, Auto}
use Rattle.wc_complete.specs.BaseWord.{begins_char, starts, front_chars, front_at, is_blank, last_word}
use Rattle.wc_complete.specs.Candidates.{begins_as, slashed}
use Rattle.wc_complete.specs.NickNames.{nick_name, nick_names}
use Rattle.wc_complete.specs.Completed.{Completes, context_of, candidates_of}
use Rattle.wc_complete.proofs.WordLaws.{word_or_all}

begins : (b : ℕ) → begins_char b ≡ true → 128 ≤ b → 192 ≤ b
begins b e high = grind (arith, nat_tests)

-- the first characters end where one ends
front_bounds : (n : ℕ) (text : List ℕ) → IsCharBoundary text (length (front_chars n text))
front_bounds n [] = (omega arith, λ inside high. absurd (omega arith))
front_bounds n (b ∷ text) = by (front_bounds (n - starts b) text) (begins_char b && n == 0) refl where
  by : IsCharBoundary text (length (front_chars (n - starts b) text)) → (t : Bool) → (begins_char b && n == 0) ≡ t → IsCharBoundary (b ∷ text) (length (front_chars n (b ∷ text)))
  by ih true e = rw e (omega arith, λ inside high. begins b (and_parts (begins_char b) (n == 0) e).0 high)
  by ih false e = rw e (omega (arith, ih.0), λ inside high. ih.1 (omega arith) high)

front_taken : (n : ℕ) (text : List ℕ) → take (length (front_chars n text)) text ≡ front_chars n text
front_taken n [] = refl
front_taken n (b ∷ text) = by (front_taken (n - starts b) text) (begins_char b && n == 0) refl where
  by : take (length (front_chars (n - starts b) text)) text ≡ front_chars (n - starts b) text → (t : Bool) → (begins_char b && n == 0) ≡ t → take (length (front_chars n (b ∷ text))) (b ∷ text) ≡ front_chars n (b ∷ text)
  by ih true e = rw e refl
  by ih false e = rw e (ap (λ bytes. b ∷ bytes) ih)

front_is_text : (position : ℤ) (text : List ℕ) → IsUtf8 text → IsUtf8 (front_at position text)
front_is_text (pos n) text u = subst IsUtf8 (front_taken n text) (IsUtf8-take text (length (front_chars n text)) u (front_bounds n text))
front_is_text (negsuc n) text u = u

blank_is : (b : ℕ) (more : Bool) → (is_blank b || more) ≡ true → more ≡ false → b ≡ 32
blank_is b more e f = grind (arith, nat_tests)

-- a blank is before the last word
word_split : (text : List ℕ) → list_any is_blank text ≡ true → (front : List ℕ) × (text ≡ front ++ 32 ∷ last_word text)
word_split [] e = absurd (false≢true e)
word_split (b ∷ text) e = by (word_split text) (list_any is_blank text) refl where
  word : last_word (b ∷ text) ≡ last_word text
  word = rw e refl

  by : (list_any is_blank text ≡ true → (front : List ℕ) × (text ≡ front ++ 32 ∷ last_word text)) → (t : Bool) → list_any is_blank text ≡ t → (front : List ℕ) × ((b ∷ text) ≡ front ++ 32 ∷ last_word (b ∷ text))
  by ih true f =
      let front = (ih f).0 in
      (b ∷ front, ap (λ bytes. b ∷ bytes) (ih f).1 ∙ ap (λ rest. (b ∷ front) ++ 32 ∷ rest) (sym word))
  by ih false f =
      let blank = blank_is b (list_any is_blank text) e f in
      let all : last_word text ≡ text = rw f at (word_or_all text) in
      ([], ap (λ first. first ∷ text) blank ∙ ap (λ rest. 32 ∷ rest) (sym (word ∙ all)))

word_is_text : (text : List ℕ) → IsUtf8 text → IsUtf8 (last_word text)
word_is_text text u = by (list_any is_blank text) refl where
  by : (t : Bool) → list_any is_blank text ≡ t → IsUtf8 (last_word text)
  by true e =
      let split = word_split text e in
      (utf8_parts split.0 32 (last_word text) (omega arith) (subst IsUtf8 split.1 u)).1
  by false e = let all : last_word text ≡ text = rw e at (word_or_all text) in subst IsUtf8 (sym all) u

-- the word that ends at a position of a text
pub base_is_text : (position : ℤ) (text word : List ℕ) → word ≡ last_word (front_at position text) → IsUtf8 text → IsUtf8 word
base_is_text position text word e u = subst IsUtf8 (sym e) (word_is_text (front_at position text) (front_is_text position text u))

abbrev HasText : Row → Type 0
HasText row = IsUtf8 row.item.name

name_is_text : (item : Item) → IsUtf8 item.name → All IsUtf8 (nick_name item)
name_is_text item u = by item.is_group refl where
  by : (t : Bool) → item.is_group ≡ t → All IsUtf8 (nick_name item)
  by true e =
      let none : nick_name item ≡ [] = rw e refl in
      subst (λ (names : List (List ℕ)). All IsUtf8 names) (sym none) (All-nil IsUtf8)
  by false e =
      let one : nick_name item ≡ item.name ∷ [] = rw e refl in
      subst (λ (names : List (List ℕ)). All IsUtf8 names) (sym one) (All-from_recursion IsUtf8 (item.name ∷ []) (u, tt))

names_are_text : (rows : List Row) → All HasText rows → All IsUtf8 (nick_names rows)
names_are_text [] each = All-nil IsUtf8
names_are_text (row ∷ rows) each =
    All-append IsUtf8 (nick_name row.item) (nick_names rows)
    (name_is_text row.item (All-head HasText row rows each)) (names_are_text rows (All-tail HasText row rows each))

candidates_are_text : (context : Context) (commands : List (List ℕ)) (rows : List Row) → All IsUtf8 commands → All HasText rows → All IsUtf8 (candidates_of context commands rows)
candidates_are_text Command commands rows names each =
    All-map IsUtf8 slashed commands (All-weaker IsUtf8 (λ name. IsUtf8 (slashed name)) (λ name u. utf8_cons 47 name (omega arith) u) commands names)
candidates_are_text Auto commands rows names each = names_are_text rows each

pub completion_is_text : (commands : List (List ℕ)) (rows : List Row) (position : ℤ) (text : List ℕ) (completion : Completion) → Completes commands rows (front_at position text) completion
    → IsUtf8 text → All IsUtf8 commands → All (λ (row : Row). IsUtf8 row.item.name) rows → IsUtf8 completion.base_word × All IsUtf8 completion.list
completion_is_text commands rows position text completion completes u names each =
    let front = front_at position text in
    let candidates = candidates_of (context_of front) commands rows in
    let found = filter (begins_as (last_word front)) candidates in
    let texts : All IsUtf8 found = All-filter (begins_as (last_word front)) IsUtf8 candidates (candidates_are_text (context_of front) commands rows names each) in (
      subst IsUtf8 (sym completes.base_word) (word_is_text front (front_is_text position text u)),
      All-weaker (Contains completion.list) IsUtf8 (λ one h. All-contains IsUtf8 found one texts ((completes.list.same one).0 h)) completion.list (All-contains_itself completion.list),
    )
