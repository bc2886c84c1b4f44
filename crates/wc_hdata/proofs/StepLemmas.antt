-- Steps, as they are written and as they are computed.
use Rattle.std.proofs.Common.{◌≡◌, ℕ, List, [], ◌∷◌, ◌++◌, Option, Some, None, option_map, option_and_then, refl, sym, ap, subst, ◌∙◌, append_assoc}
use Rattle.std.proofs.lemmas.Option.{same_Some, option_and_then_some}
use Rattle.wc_hdata.specs.declared.element.Element.{Element}
use Rattle.wc_hdata.specs.declared.variable.Variable.{Variable}
use Rattle.wc_hdata.specs.declared.count.Count.{Count}
use Rattle.wc_hdata.specs.declared.path.Step.{Step}
use Rattle.wc_text.specs.Splits.{before, text_after}
use Rattle.wc_hdata.specs.Pieces.{pieces_at}
use Rattle.wc_hdata.specs.Names.{variable_name}
use Rattle.wc_hdata.specs.Paths.{leads, IsCount, SpellsStep, AreSteps}
use Rattle.wc_hdata.specs.Answers.{variable_named, count_of, step_of, steps_of, steps_after}
use Rattle.wc_hdata.proofs.CutLemmas.{lacks-append, from_mark, before-joined, text_after-joined, cut_joins, pieces_cut, pieces_joined, marked, marked-pieces}
use Rattle.wc_hdata.proofs.CountLemmas.{written, counted_written, count_lacks}
use Rattle.wc_hdata.proofs.PlaceLemmas.{variable_found, variable_is, variable_plain, option_map_some}

abbrev step_with : Variable → Count → Step
step_with variable count = record { variable = variable; count = count }

step_made : (count : List ℕ) (step : Step) → IsCount count step.count → step_of (variable_name step.variable ++ count) ≡ Some step
unfolding step_of
step_made count step counted =
    let w = written count step.count counted in
    let name = variable_name step.variable in
    let whole = name ++ from_mark 40 w.rest in
    let plain = (variable_plain step.variable).no_count in
    ap (λ (t : List ℕ). step_of (name ++ t)) w.is
    ∙ ap (λ (n : List ℕ). option_and_then (λ (v : Variable). option_map (step_with v) (count_of (text_after 40 whole))) (variable_named n)) (before-joined 40 name w.rest plain)
    ∙ ap (option_and_then (λ (v : Variable). option_map (step_with v) (count_of (text_after 40 whole)))) (variable_found step.variable)
    ∙ ap (λ (o : Option (List ℕ)). option_map (step_with step.variable) (count_of o)) (text_after-joined 40 name w.rest plain)
    ∙ ap (option_map (step_with step.variable)) w.made

record StepParts (piece : List ℕ) (step : Step) : Type 0 where
  pub name : before 40 piece ≡ variable_name step.variable
  pub count : count_of (text_after 40 piece) ≡ Some step.count

step_is : (piece : List ℕ) (step : Step) → step_of piece ≡ Some step → StepParts piece step
unfolding step_of
step_is piece step is =
    option_and_then_some (λ (v : Variable). option_map (step_with v) (count_of (text_after 40 piece))) (variable_named (before 40 piece)) step is
    (λ variable named here. option_map_some (step_with variable) (count_of (text_after 40 piece)) step here
    (λ count found made. subst (λ (s : Step). StepParts piece s) made (record { name = variable_is (before 40 piece) variable named; count = found })))

-- ---- what is written is computed
pub record Stepped (text : List ℕ) (element : Element) (steps : List Step) : Type 0 where
  pub rest : Option (List ℕ)
  pub is : text ≡ from_mark 47 rest
  pub made : steps_after element rest ≡ Some steps

step_then : (first others : List ℕ) (element next : Element) (step : Step) (steps : List Step) → SpellsStep first element step next → Stepped others next steps → Stepped (first ++ others) element (step ∷ steps)
step_then first others element next step steps goes tail =
    let piece = variable_name step.variable ++ goes.count in
    let pieces = pieces_at 47 tail.rest in
    let plain = lacks-append 47 (variable_name step.variable) goes.count (variable_plain step.variable).no_slash (count_lacks goes.count step.count goes.counted) in
    record {
      rest = Some (piece ++ from_mark 47 tail.rest);
      is = ap (λ (t : List ℕ). t ++ others) goes.spelled ∙ ap (λ (t : List ℕ). (47 ∷ piece) ++ t) tail.is;
      made =
          ap (steps_of element) (pieces_joined 47 piece tail.rest plain)
          ∙ ap (option_and_then (λ (s : Step). option_and_then (λ (e : Element). option_map (λ (more : List Step). s ∷ more) (steps_of e pieces)) (leads element s.variable))) (step_made goes.count step goes.counted)
          ∙ ap (option_and_then (λ (e : Element). option_map (λ (more : List Step). step ∷ more) (steps_of e pieces))) goes.led
          ∙ ap (option_map (λ (more : List Step). step ∷ more)) tail.made;
    }

pub steps_made : (text : List ℕ) (element : Element) (steps : List Step) → AreSteps text element steps → Stepped text element steps
steps_made text element [] w = record { rest = None; is = w; made = refl }
steps_made text element (step ∷ steps) w =
    subst (λ (t : List ℕ). Stepped t element (step ∷ steps)) (sym w.5) (step_then w.0 w.1 element w.2 step steps w.3 (steps_made w.1 w.2 steps w.4))

-- ---- what is computed is written
step_goes : (piece : List ℕ) (element next : Element) (step : Step) → step_of piece ≡ Some step → leads element step.variable ≡ Some next → SpellsStep (47 ∷ piece) element step next
step_goes piece element next step is led =
    let parts = step_is piece step is in
    record {
      count = from_mark 40 (text_after 40 piece);
      spelled = ap (λ (t : List ℕ). 47 ∷ t) (cut_joins 40 piece ∙ ap (λ (n : List ℕ). n ++ from_mark 40 (text_after 40 piece)) parts.name);
      led = led;
      counted = counted_written (text_after 40 piece) step.count parts.count;
    }

steps_are : (element : Element) (pieces : List (List ℕ)) (steps : List Step) → steps_of element pieces ≡ Some steps → AreSteps (marked 47 pieces) element steps
steps_are element [] steps is = subst (λ (s : List Step). AreSteps [] element s) (same_Some [] steps is) refl
steps_are element (piece ∷ pieces) steps is =
    option_and_then_some (λ (s : Step). option_and_then (λ (e : Element). option_map (λ (more : List Step). s ∷ more) (steps_of e pieces)) (leads element s.variable)) (step_of piece) steps is
    (λ step stepped here. option_and_then_some (λ (e : Element). option_map (λ (more : List Step). step ∷ more) (steps_of e pieces)) (leads element step.variable) steps here
    (λ next led after_it. option_map_some (λ (more : List Step). step ∷ more) (steps_of next pieces) steps after_it
    (λ more made same. subst (λ (s : List Step). AreSteps (marked 47 (piece ∷ pieces)) element s) same
    (47 ∷ piece, marked 47 pieces, next, step_goes piece element next step stepped led, steps_are next pieces more made, refl))))

pub steps_written : (element : Element) (rest : Option (List ℕ)) (steps : List Step) → steps_after element rest ≡ Some steps → AreSteps (from_mark 47 rest) element steps
steps_written element rest steps is = subst (λ (t : List ℕ). AreSteps t element steps) (marked-pieces 47 rest) (steps_are element (pieces_at 47 rest) steps is)

-- ---- as the steps are read one by one
abbrev pub steps_front : List Step → Option (List Step) → Option (List Step)
steps_front steps None = None
steps_front steps (Some more) = Some (steps ++ more)

front_more : (steps : List Step) (step : Step) (more : Option (List Step)) → steps_front steps (option_map (λ (s : List Step). step ∷ s) more) ≡ steps_front (steps ++ step ∷ []) more
front_more steps step None = refl
front_more steps step (Some more) = ap Some (sym (append_assoc steps (step ∷ []) more))

-- what is read of the first piece
steps_first : (here : Element) (pieces piece : List ℕ) (step : Option Step) → piece ≡ before 47 pieces → step ≡ step_of piece
    → steps_after here (Some pieces) ≡ option_and_then (λ (s : Step). option_and_then (λ (e : Element). option_map (λ (more : List Step). s ∷ more) (steps_of e (pieces_at 47 (text_after 47 pieces)))) (leads here s.variable)) step
steps_first here pieces piece step cut read =
    ap (steps_of here) (pieces_cut 47 pieces) ∙ ap (λ (p : List ℕ). steps_of here (p ∷ pieces_at 47 (text_after 47 pieces))) (sym cut)
    ∙ ap (option_and_then (λ (s : Step). option_and_then (λ (e : Element). option_map (λ (more : List Step). s ∷ more) (steps_of e (pieces_at 47 (text_after 47 pieces)))) (leads here s.variable))) (sym read)

pub steps_more : (steps new : List Step) (here next : Element) (step : Step) (all : Option (List Step)) (pieces piece : List ℕ) (rest : Option (List ℕ))
    → steps_front steps (steps_after here (Some pieces)) ≡ all → piece ≡ before 47 pieces → rest ≡ text_after 47 pieces → Some step ≡ step_of piece → Some next ≡ leads here step.variable
    → new ≡ steps ++ step ∷ [] → steps_front new (steps_after next rest) ≡ all
steps_more steps new here next step all pieces piece rest so_far cut after_it read led pushed =
    let tail = pieces_at 47 (text_after 47 pieces) in
    ap (λ (s : List Step). steps_front s (steps_after next rest)) pushed ∙ ap (λ (o : Option (List ℕ)). steps_front (steps ++ step ∷ []) (steps_after next o)) after_it
    ∙ sym (front_more steps step (steps_of next tail))
    ∙ ap (λ (o : Option Element). steps_front steps (option_and_then (λ (e : Element). option_map (λ (more : List Step). step ∷ more) (steps_of e tail)) o)) led
    ∙ ap (steps_front steps) (sym (steps_first here pieces piece (Some step) cut read)) ∙ so_far

pub steps_unread : (steps : List Step) (here : Element) (all : Option (List Step)) (pieces piece : List ℕ)
    → steps_front steps (steps_after here (Some pieces)) ≡ all → piece ≡ before 47 pieces → None ≡ step_of piece → None ≡ all
steps_unread steps here all pieces piece so_far cut read = ap (steps_front steps) (sym (steps_first here pieces piece None cut read)) ∙ so_far

pub steps_astray : (steps : List Step) (here : Element) (step : Step) (all : Option (List Step)) (pieces piece : List ℕ)
    → steps_front steps (steps_after here (Some pieces)) ≡ all → piece ≡ before 47 pieces → Some step ≡ step_of piece → None ≡ leads here step.variable → None ≡ all
steps_astray steps here step all pieces piece so_far cut read led =
    let tail = pieces_at 47 (text_after 47 pieces) in
    ap (λ (o : Option Element). steps_front steps (option_and_then (λ (e : Element). option_map (λ (more : List Step). step ∷ more) (steps_of e tail)) o)) led
    ∙ ap (steps_front steps) (sym (steps_first here pieces piece (Some step) cut read)) ∙ so_far
