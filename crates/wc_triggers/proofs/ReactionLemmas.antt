-- What is replaced in variables, along matches and parts.
use Rattle.std.proofs.Common.{◌≡◌, ℕ, Bool, true, false, List, [], ◌∷◌, ◌++◌, length, get_or, Some, None, refl, ap, ap₂, sym, subst, ◌∙◌, cond, arith}
use Rattle.std.specs.Prelude.{◌&&◌, All, IsTrue, bytes_eq, if◌then◌else◌}
use Rattle.std.specs.Str.{IsUtf8}
use Rattle.std.proofs.lemmas.List.Elements.{All-map, All-nil}
use Rattle.wc_text.specs.declared.names.Pair.{Pair}
use Rattle.wc_eval.specs.Verdicts.{VerdictsView, Oracle, Agrees, Stay, is_known_fine}
use Rattle.wc_eval.specs.Names.{Facts, HasText, value_of, AreTexts as AreKnown}
use Rattle.wc_eval.specs.Matching.{all_groups_in}
use Rattle.wc_eval.specs.Replaced.{Groups, Evaluation, group_texts, replaced}
use Rattle.wc_eval.proofs.StepLemmas.{agrees_earlier}
use Rattle.wc_eval.proofs.ReplacedLemmas.{nothing}
use Rattle.wc_triggers.specs.Replacements.{are_known}
use Rattle.wc_triggers.specs.Triggers.{AreTexts}
use Rattle.wc_triggers.specs.Reactions.{with_value, last_match, with_replaced, matched, in_variable, replaced_by, all_replaced, begun}
use Rattle.wc_triggers.specs.Reactions.{fires, idle, reaction_after, reaction_of, RunsOnTexts, SaysTexts}
use Rattle.wc_triggers.specs.declared.trigger.TriggerParts.{TriggerParts}
use Rattle.wc_triggers.specs.declared.react.Reaction.{Reaction}
use Rattle.wc_triggers.specs.declared.replacements.Replacement.{Replacement}
use Rattle.wc_triggers.specs.declared.run.Run.{Run}

and_first : (x y : Bool) → (x && y) ≡ true → x ≡ true
and_first true y e = refl
and_first false y e = e

and_second : (x y : Bool) → (x && y) ≡ true → y ≡ true
and_second true y e = e
and_second false y e = absurd cc

-- ---- variables

value_text : (test : Bool) (value : List ℕ) (v : Pair) → IsUtf8 value → HasText v → IsUtf8 (cond test value v.value)
value_text true value v new old = new
value_text false value v new old = old

pub values_texts : (name value : List ℕ) (vars : List Pair) → IsUtf8 value → All HasText vars → All HasText (with_value name value vars)
values_texts name value vars new old =
    All-map HasText _ vars (λ k d inside. value_text (bytes_eq (get_or vars k d).name name) value (get_or vars k d) new (old k d inside))

-- from slices
pub put_is : (made vars l : List Pair) (name n value v : List ℕ) → made ≡ with_value n v l → n ≡ name → v ≡ value → l ≡ vars → made ≡ with_value name value vars
put_is made vars l name n value v e names values pairs =
    e ∙ ap (λ a. with_value a v l) names ∙ ap (λ a. with_value name a l) values ∙ ap (λ a. with_value name value a) pairs

-- ---- matches

pub groups_are : (made : List (List ℕ)) (text t : List ℕ) (groups g : Groups) → made ≡ group_texts t g → t ≡ text → g ≡ groups → made ≡ group_texts text groups
groups_are made text t groups g e texts spans = e ∙ ap (λ a. group_texts a g) texts ∙ ap (λ a. group_texts text a) spans

no_push : {A : Type 0} (front : List A) (x : A) → [] ≡ front ++ x ∷ [] → ⊥
no_push [] x e = absurd cc
no_push (f ∷ front) x e = absurd cc

last_is : (m : Groups) (ms front : List Groups) (last : Groups) → m ∷ ms ≡ front ++ last ∷ [] → last_match m ms ≡ last
last_is m [] [] last e = cc
last_is m (n ∷ ns) [] last e = absurd cc
last_is m [] (f ∷ front) last e =
    let tail : [] ≡ front ++ last ∷ [] = cc in
    absurd (no_push front last tail)
last_is m (n ∷ ns) (f ∷ front) last e =
    let tail : n ∷ ns ≡ front ++ last ∷ [] = cc in
    last_is n ns front last tail

module _ (facts : Facts) (oracle : Oracle) (part : Replacement) (text : List ℕ) (run : Run) where
  pub matched_none : (matches : List Groups) → length matches ≡ 0 → run ≡ matched facts oracle part text matches run
  matched_none [] e = refl
  matched_none (m ∷ ms) e = absurd (omega (arith, e))

  pub matched_some : (matches front : List Groups) (last : Groups) → matches ≡ front ++ last ∷ [] →
      with_replaced part.variable (group_texts text last) (replaced (record facts { vars = run.vars }) oracle part.replacement text matches run.evaluation) run
      ≡ matched facts oracle part text matches run
  matched_some [] front last e = absurd (no_push front last e)
  matched_some (m ∷ ms) front last e =
      ap (λ g. with_replaced part.variable (group_texts text g) (replaced (record facts { vars = run.vars }) oracle part.replacement text (m ∷ ms) run.evaluation) run)
      (sym (last_is m ms front last e))

abbrev pub run_with : List Pair → List (List ℕ) → Evaluation → Run
run_with vars groups evaluation = record { vars = vars; groups = groups; evaluation = evaluation }

pub run_is : (facts inner : Facts) (oracle : Oracle) (part : Replacement) (text : List ℕ) (run : Run) (matches front : List Groups) (last : Groups)
    (vars : List Pair) (groups : List (List ℕ)) (value : List ℕ) (evaluation : Evaluation) →
    matches ≡ front ++ last ∷ [] → groups ≡ group_texts text last → inner ≡ record facts { vars = run.vars } →
    (value, evaluation) ≡ replaced inner oracle part.replacement text matches run.evaluation → vars ≡ with_value part.variable value run.vars →
    run_with vars groups evaluation ≡ matched facts oracle part text matches run
run_is facts inner oracle part text run matches front last vars groups value evaluation first found around made set =
    ap₂ (λ v g. run_with v g evaluation) set found
    ∙ ap (λ m. with_replaced part.variable (group_texts text last) m run) made
    ∙ ap (λ f. with_replaced part.variable (group_texts text last) (replaced f oracle part.replacement text matches run.evaluation) run) around
    ∙ matched_some facts oracle part text run matches front last first

-- ---- parts

module _ (facts : Facts) (oracle : Oracle) (part : Replacement) (run : Run) where
  pub variable_lacks : None ≡ value_of part.variable run.vars → run ≡ replaced_by facts oracle part run
  variable_lacks e = ap (λ o. in_variable facts oracle part o run) e

  pub variable_there : (text : List ℕ) → Some text ≡ value_of part.variable run.vars →
      matched facts oracle part text (all_groups_in part.pattern text) run ≡ replaced_by facts oracle part run
  variable_there text e = ap (λ o. in_variable facts oracle part o run) e

-- what is left of a run
abbrev pub RunComes : Facts → VerdictsView → List Replacement → List Replacement → Run → Run → Type 0
RunComes facts verdicts parts rest old now = (oracle : Oracle) → Agrees oracle verdicts →
    all_replaced facts oracle rest now ≡ all_replaced facts oracle parts old

module _ (facts : Facts) (parts rest others : List Replacement) (part : Replacement) (first : rest ≡ part ∷ others) where
  pub part_next : (one two : VerdictsView) (old now later : Run) → RunComes facts one parts rest old now → Stay one two →
      ((oracle : Oracle) → Agrees oracle two → later ≡ replaced_by facts oracle part now) → RunComes facts two parts others old later
  part_next one two old now later comes stay made oracle agrees =
      ap (all_replaced facts oracle others) (made oracle agrees)
      ∙ ap (λ l. all_replaced facts oracle l now) (sym first)
      ∙ comes oracle (agrees_earlier oracle one two stay agrees)

  pub part_known : (verdicts : VerdictsView) → IsTrue (are_known verdicts rest) → IsTrue (is_known_fine part.pattern verdicts)
  part_known verdicts known = and_first _ _ (subst (λ l. are_known verdicts l ≡ true) first known)

  pub others_known : (verdicts : VerdictsView) → IsTrue (are_known verdicts rest) → IsTrue (are_known verdicts others)
  others_known verdicts known = and_second _ _ (subst (λ l. are_known verdicts l ≡ true) first known)

pub parts_end : (facts : Facts) (verdicts : VerdictsView) (parts rest : List Replacement) (old now : Run) → RunComes facts verdicts parts rest old now →
    length rest ≡ 0 → (oracle : Oracle) → Agrees oracle verdicts → now ≡ all_replaced facts oracle parts old
parts_end facts verdicts parts rest old now comes none oracle agrees =
    ap (λ l. all_replaced facts oracle l now) (sym (nothing rest none)) ∙ comes oracle agrees

-- ---- what it does

module _ (t : TriggerParts) (facts : Facts) (oracle : Oracle) (reaction : Reaction) where
  pub reaction_fires : (run : Run) → true ≡ fires t facts oracle → run ≡ all_replaced facts oracle t.replacements (begun facts) →
      reaction ≡ reaction_after t run → reaction ≡ reaction_of t facts oracle
  unfolding reaction_of
  reaction_fires run on made e =
      e ∙ ap (reaction_after t) made
      ∙ ap (λ b. if b then reaction_after t (all_replaced facts oracle t.replacements (begun facts)) else idle (begun facts)) on

  pub reaction_idle : false ≡ fires t facts oracle → reaction ≡ idle (begun facts) → reaction ≡ reaction_of t facts oracle
  unfolding reaction_of
  reaction_idle off e =
      e ∙ ap (λ b. if b then reaction_after t (all_replaced facts oracle t.replacements (begun facts)) else idle (begun facts)) off

pub begun_texts : (facts : Facts) (run : Run) → AreKnown facts → run ≡ begun facts → RunsOnTexts run
begun_texts facts run known e = subst RunsOnTexts (sym e) (record { vars = known.vars; groups = known.groups })

pub idle_texts : (facts : Facts) (reaction : Reaction) → AreKnown facts → reaction ≡ idle (begun facts) → SaysTexts reaction
idle_texts facts reaction known e =
    subst SaysTexts (sym e) (record { vars = known.vars; groups = known.groups; commands = All-nil IsUtf8 })

pub fired_texts : (t : TriggerParts) (run : Run) (reaction : Reaction) → AreTexts t → RunsOnTexts run → reaction ≡ reaction_after t run → SaysTexts reaction
fired_texts t run reaction texts runs e =
    subst SaysTexts (sym e) (record { vars = runs.vars; groups = runs.groups; commands = texts.commands })
