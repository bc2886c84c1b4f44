-- A compiled pattern finds what its text says.
use Rattle.std.proofs.lemmas.Option.{none-some}
use Rattle.std.proofs.Common.{true, ◌≡◌, ◌≢◌, ℕ, ◌<◌, ◌≤◌, List, Option, None, Some, IsSomeAnd, IfSome, chars, map, get_or, option_map, length, refl, sym, ◌∙◌, ⊎_elim, arith}
use Rattle.regex_syntax.specs.Grammar.{Names, group_count, read}
use Rattle.regex_syntax.specs.Brackets.{Nested}
use Rattle.regex_syntax.specs.declared.error.ErrorKind.{ErrorKind}
use Rattle.regex_syntax.specs.declared.error.ErrorKind.TheVariants.{OutOfMemory}
use Rattle.regex.specs.Patterns.{Re, Config, Reads, Refuses, SameCaptures, find_str, find_all_str, span}
use Rattle.regex.specs.Failures.{IsPattern}
use Rattle.regex.specs.Strings.{regex_pattern, regex_source, regex_config, IsReadFromSource}
use Rattle.regex.specs.declared.string.regex.Regex.{Regex}
use Rattle.regex.proofs.OnLiterals.{IsReadAs, same_refl}
use Rattle.regex.proofs.ForCallers.{alike_as_written, span_alike, spans_alike}
use Rattle.wc_eval.specs.Matching.{folding_config, tree_of, first_in, spans_in}

no_read : {A : Type 0} (o : Option A) (P : A → Type 0) → IsSomeAnd o P → o ≡ None → ⊥
no_read None P p e = p
no_read (Some x) P p e = none-some x (sym e)

too_deep : (o : Option (Nested Re × Names)) (most : ℕ) (a : Re) (names : Names) →
    IsSomeAnd o (λ (re, found). (re.depth ≤ most) × SameCaptures a re.value × (names ≡ found) × (group_count a ≤ length names)) →
    IfSome o (λ (re, _). most < re.depth) → ⊥
too_deep None most a names p q = p
too_deep (Some x) most a names p q = omega (arith, p.0, q)

-- a text that is refused is no pattern
pub refused_is_none : (config : Config) (pattern : List ℕ) (kind : ErrorKind) → Refuses config pattern kind → kind ≢ OutOfMemory →
    IsPattern config pattern → ⊥
unfolding Refuses Reads
refused_is_none config pattern kind r fine (hir, names, reads) =
    ⊎_elim fine (⊎_elim (no_read _ _ reads) (λ deep. too_deep _ _ _ _ reads deep.1)) r

pub as_read : (config : Config) (pattern : List ℕ) (x : Nested Re × Names) → read config (chars pattern) ≡ Some x → IsReadAs config pattern x.0.value
as_read config pattern x e = rw e (same_refl _)

first_of : (pattern text : List ℕ) (x : Nested Re × Names) → read folding_config (chars pattern) ≡ Some x →
    first_in pattern text ≡ option_map span (find_str x.0.value text 0)
unfolding first_in tree_of
first_of pattern text x e = rw e refl

spans_of : (pattern text : List ℕ) (x : Nested Re × Names) → read folding_config (chars pattern) ≡ Some x →
    spans_in pattern text ≡ map span (find_all_str x.0.value text)
unfolding spans_in tree_of
spans_of pattern text x e = rw e refl

module _ (r : Regex) (is_folding : regex_config r ≡ folding_config) (is_read : IsReadFromSource r) where
  has_tree : read folding_config (chars (regex_source r)) ≡ None → ⊥
  unfolding Reads
  has_tree e = no_read _ _ (rw is_folding at is_read) e

  pub some_tree : (o : Option (Nested Re × Names)) → read folding_config (chars (regex_source r)) ≡ o →
      (x : Nested Re × Names) × (read folding_config (chars (regex_source r)) ≡ Some x)
  some_tree None e = absurd (has_tree e)
  some_tree (Some x) e = (x, e)

  -- `find`
  pub first_as_text : (hay : List ℕ) → ((k : ℕ) → get_or hay k 0 < 256) →
      option_map span (find_str (regex_pattern r) hay 0) ≡ first_in (regex_source r) hay
  first_as_text hay bytes =
      let (x, e) = some_tree _ refl in
      span_alike (alike_as_written r folding_config _ refl is_folding is_read x.0.value (as_read _ _ x e)) hay bytes true 0
      ∙ sym (first_of _ hay x e)

  -- `find_iter`
  pub spans_as_text : (hay : List ℕ) → ((k : ℕ) → get_or hay k 0 < 256) →
      map span (find_all_str (regex_pattern r) hay) ≡ spans_in (regex_source r) hay
  spans_as_text hay bytes =
      let (x, e) = some_tree _ refl in
      spans_alike (alike_as_written r folding_config _ refl is_folding is_read x.0.value (as_read _ _ x e)) hay bytes true
      ∙ sym (spans_of _ hay x e)
