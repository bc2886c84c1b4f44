-- What the groups of all matches span.
use Rattle.std.proofs.Common.{◌≡◌, ℕ, zero, suc, ◌+◌, ◌*◌, ◌<◌, ◌≤◌, List, [], ◌∷◌, length, get_or, map, slice_index_or, Option, Some, None, IsSomeAnd, refl, sym, ap, ap₂, ◌∙◌, ◌++◌, true, arith, chars}
use Rattle.std.proofs.lemmas.List.{length-map, append_assoc, append-nil}
use Rattle.regex_syntax.specs.Grammar.{Names, read}
use Rattle.regex_syntax.specs.Brackets.{Nested}
use Rattle.regex.specs.Patterns.{Re, Match, find_all_str, span, slot_of}
use Rattle.regex.specs.Writes.{both, group_of}
use Rattle.regex.specs.Strings.{regex_pattern, regex_source, group_count}
use Rattle.regex.specs.Locations.{AreLocationsOf, location_count}
use Rattle.regex.specs.declared.locations.CaptureLocations.{CaptureLocations}
use Rattle.regex.specs.declared.string.regex.Regex.{Regex}
use Rattle.regex.proofs.ForCallers.{alike_as_written, names_as_written, find_all_alike, spans}
use Rattle.wc_eval.specs.Matching.{folding_config, groups_from, groups_in, all_groups_in}
use Rattle.wc_eval.specs.Built.{IsBuiltOf}
use Rattle.wc_eval.proofs.Meaning.{as_read, some_tree}

-- ---- the places of one match

spans_from : (m : Match) (xs : List (Option (ℕ × ℕ))) (at : ℕ) →
    ((n : ℕ) → n < length xs → slice_index_or xs n None ≡ group_of m (n + at)) → xs ≡ groups_from m at (length xs)
spans_from m [] at h = refl
spans_from m (x ∷ xs) at h =
    let here : 0 + at ≡ at = omega arith in
    ap₂ ◌∷◌ (h 0 (omega arith) ∙ ap (group_of m) here) (spans_from m xs (at + 1) (λ n lt. h (suc n) (omega (arith, lt)) ∙ ap (group_of m) (omega arith)))

spans_in_match : (m : Match) (xs : List (Option (ℕ × ℕ))) →
    (0 < length xs → slice_index_or xs 0 None ≡ Some (span m)) →
    ((n : ℕ) → 1 ≤ n → n < length xs → slice_index_or xs n None ≡ group_of m n) → xs ≡ groups_in (length xs) m
spans_in_match m [] first rest = refl
spans_in_match m (x ∷ xs) first rest =
    ap₂ ◌∷◌ (first (omega arith)) (spans_from m xs 1 (λ n lt. rest (suc n) (omega arith) (omega (arith, lt)) ∙ ap (group_of m) (omega arith)))

pub spans_of_match : (m : Match) (l : CaptureLocations) (count : ℕ) → location_count l ≡ count → AreLocationsOf m l →
    l.spans.items ≡ groups_in count m
spans_of_match m l count is at =
    let long = l.spans.ok.0 in
    spans_in_match m l.spans.items (λ some. at.0 (rw long some)) (λ n h lt. at.1 n h (rw long lt))
    ∙ ap (λ n. groups_in n m) (sym long ∙ is)

-- ---- matches that a caller sees alike

same_from : (m n : Match) (at more : ℕ) → slot_of m ≡ slot_of n → groups_from m at more ≡ groups_from n at more
same_from m n at zero e = refl
same_from m n at (suc more) e =
    ap₂ ◌∷◌ (ap (λ f. both (f (2 * at)) (f (2 * at + 1))) e) (same_from m n (at + 1) more e)

same_groups : (count : ℕ) (m n : Match) → spans m ≡ spans n → groups_in count m ≡ groups_in count n
same_groups zero m n e = refl
same_groups (suc more) m n e =
    ap₂ ◌∷◌ (ap (λ (s : ℕ × ℕ × (ℕ → Option ℕ)). Some (s.0, s.1)) e)
    (same_from m n 1 more (ap (λ (s : ℕ × ℕ × (ℕ → Option ℕ)). s.2) e))

same_all : (count : ℕ) (xs ys : List Match) → map spans xs ≡ map spans ys → map (groups_in count) xs ≡ map (groups_in count) ys
same_all count [] [] e = refl
same_all count [] (y ∷ ys) e = absurd cc
same_all count (x ∷ xs) [] e = absurd cc
same_all count (x ∷ xs) (y ∷ ys) e =
    let head : spans x ≡ spans y = cc in
    let tail : map spans xs ≡ map spans ys = cc in
    ap₂ ◌∷◌ (same_groups count x y head) (same_all count xs ys tail)

groups_of : (pattern text : List ℕ) (x : Nested Re × Names) → read folding_config (chars pattern) ≡ Some x →
    all_groups_in pattern text ≡ map (groups_in (length x.1)) (find_all_str x.0.value text)
unfolding all_groups_in
groups_of pattern text x e = rw e refl

named_as : (pattern : List ℕ) (x : Nested Re × Names) → read folding_config (chars pattern) ≡ Some x →
    IsSomeAnd (read folding_config (chars pattern)) (λ (_, found). found ≡ x.1)
named_as pattern x e = rw e refl

-- `captures_iter`, as the text of the pattern says
pub groups_as_text : (r : Regex) (hay : List ℕ) → IsBuiltOf (regex_source r) r → ((k : ℕ) → get_or hay k 0 < 256) →
    map (groups_in (group_count r)) (find_all_str (regex_pattern r) hay) ≡ all_groups_in (regex_source r) hay
groups_as_text r hay built bytes =
    let (x, e) = some_tree r built.config built.read _ refl in
    let alike = alike_as_written r folding_config _ refl built.config built.read x.0.value (as_read _ _ x e) in
    let names = names_as_written r folding_config _ refl built.config built.read x.1 (named_as _ x e) in
    let count : length x.1 ≡ group_count r = sym (ap length names) ∙ length-map _ _ ∙ sym r.pattern.names.ok.0 in
    ap (λ n. map (groups_in n) (find_all_str (regex_pattern r) hay)) (sym count)
    ∙ same_all _ _ _ (find_all_alike alike hay bytes true)
    ∙ sym (groups_of _ hay x e)

-- ---- the loop over all matches

module _ {A B : Type 0} (g : A → B) (done : List B) where
  pub one_more : (m : A) (left rest : List A) (all : List B) (one : B) (grown : List B) → left ≡ m ∷ rest →
      done ++ map g left ≡ all → one ≡ g m → grown ≡ done ++ one ∷ [] → grown ++ map g rest ≡ all
  one_more m left rest all one grown first found is pushed =
      ap (λ l. l ++ map g rest) pushed ∙ append_assoc done (one ∷ []) (map g rest)
      ∙ ap (λ x. done ++ x ∷ map g rest) is ∙ ap (λ l. done ++ map g l) (sym first) ∙ found

  pub none_left : (left : List A) (all : List B) → left ≡ [] → done ++ map g left ≡ all → done ≡ all
  none_left left all none found = sym (append-nil done) ∙ ap (λ l. done ++ map g l) (sym none) ∙ found
