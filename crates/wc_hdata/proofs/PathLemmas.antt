-- A text's path is the one that is computed.
use Rattle.std.proofs.Common.{◌≡◌, ℕ, List, ◌++◌, Option, Some, None, option_map, option_and_then, sym, ap, subst, ◌∙◌, append_assoc}
use Rattle.std.proofs.lemmas.Option.{none-some, same_Some, option_and_then_some}
use Rattle.wc_hdata.specs.declared.element.Element.{Element}
use Rattle.wc_hdata.specs.declared.count.Count.{Count}
use Rattle.wc_hdata.specs.declared.path.Start.{Start}
use Rattle.wc_hdata.specs.declared.path.Step.{Step}
use Rattle.wc_hdata.specs.declared.path.Path.{Path}
use Rattle.wc_text.specs.Splits.{before, text_after}
use Rattle.wc_hdata.specs.Paths.{element_of, SpellsStart, IsCount, SpellsPath}
use Rattle.wc_hdata.specs.Answers.{start_of, count_of, head_of, steps_after, path_after, path_of}
use Rattle.wc_hdata.proofs.CutLemmas.{lacks-append, from_mark, before-joined, text_after-joined, cut_joins}
use Rattle.wc_hdata.proofs.CountLemmas.{written, counted_written, count_lacks}
use Rattle.wc_hdata.proofs.PlaceLemmas.{option_map_some, start_made, start_is, start_no_count, start_no_slash}
use Rattle.wc_hdata.proofs.StepLemmas.{steps_made, steps_written}

abbrev pub head_with : Start → Count → Start × Count
head_with start count = (start, count)

head_made : (begin count : List ℕ) (start : Start) (n : Count) → SpellsStart begin start → IsCount count n → head_of (begin ++ count) ≡ Some (head_with start n)
unfolding head_of
head_made begin count start n begins counted =
    let w = written count n counted in
    let whole = begin ++ from_mark 40 w.rest in
    let plain = start_no_count begin start begins in
    ap (λ (t : List ℕ). head_of (begin ++ t)) w.is
    ∙ ap (λ (t : List ℕ). option_and_then (λ (s : Start). option_map (head_with s) (count_of (text_after 40 whole))) (start_of t)) (before-joined 40 begin w.rest plain)
    ∙ ap (option_and_then (λ (s : Start). option_map (head_with s) (count_of (text_after 40 whole)))) (start_made begin start begins)
    ∙ ap (λ (o : Option (List ℕ)). option_map (head_with start) (count_of o)) (text_after-joined 40 begin w.rest plain)
    ∙ ap (option_map (head_with start)) w.made

record Headed (text : List ℕ) (head : Start × Count) : Type 0 where
  pub begins : SpellsStart (before 40 text) head.0
  pub count : count_of (text_after 40 text) ≡ Some head.1

head_is : (text : List ℕ) (head : Start × Count) → head_of text ≡ Some head → Headed text head
unfolding head_of
head_is text head is =
    option_and_then_some (λ (s : Start). option_map (head_with s) (count_of (text_after 40 text))) (start_of (before 40 text)) head is
    (λ start begun here. option_map_some (head_with start) (count_of (text_after 40 text)) head here
    (λ count found made. subst (λ (h : Start × Count). Headed text h) made (record { begins = start_is (before 40 text) start begun; count = found })))

abbrev pub path_from : Start × Count → List Step → Path
path_from head steps = record { start = head.0; count = head.1; steps = steps }

-- what a text spells is computed
path_made : (text : List ℕ) (path : Path) → SpellsPath text path → path_of text ≡ Some path
unfolding path_of
path_made text path w =
    let tail = steps_made w.steps (element_of path.start) path.steps w.goes in
    let head = w.start ++ w.count in
    let whole = head ++ from_mark 47 tail.rest in
    let plain = lacks-append 47 w.start w.count (start_no_slash w.start path.start w.begins) (count_lacks w.count path.count w.counted) in
    let spelled = w.spelled ∙ sym (append_assoc w.start w.count w.steps) ∙ ap (λ (t : List ℕ). head ++ t) tail.is in
    ap path_of spelled
    ∙ ap (λ (t : List ℕ). option_and_then (path_after (text_after 47 whole)) (head_of t)) (before-joined 47 head tail.rest plain)
    ∙ ap (option_and_then (path_after (text_after 47 whole))) (head_made w.start w.count path.start path.count w.begins w.counted)
    ∙ ap (λ (o : Option (List ℕ)). path_after o (head_with path.start path.count)) (text_after-joined 47 head tail.rest plain)
    ∙ ap (option_map (path_from (head_with path.start path.count))) tail.made

spelled_by : (text : List ℕ) (head : Start × Count) (steps : List Step) → head_of (before 47 text) ≡ Some head → steps_after (element_of head.0) (text_after 47 text) ≡ Some steps → SpellsPath text (path_from head steps)
spelled_by text head steps found made =
    let front = before 47 text in
    let headed = head_is front head found in
    record {
      start = before 40 front;
      count = from_mark 40 (text_after 40 front);
      steps = from_mark 47 (text_after 47 text);
      spelled =
          cut_joins 47 text ∙ ap (λ (t : List ℕ). t ++ from_mark 47 (text_after 47 text)) (cut_joins 40 front)
          ∙ append_assoc (before 40 front) (from_mark 40 (text_after 40 front)) (from_mark 47 (text_after 47 text));
      begins = headed.begins;
      counted = counted_written (text_after 40 front) head.1 headed.count;
      goes = steps_written (element_of head.0) (text_after 47 text) steps made;
    }

-- what is computed is spelled
pub path_is : (text : List ℕ) (path : Path) → path_of text ≡ Some path → SpellsPath text path
unfolding path_of
path_is text path is =
    option_and_then_some (path_after (text_after 47 text)) (head_of (before 47 text)) path is
    (λ head found here. option_map_some (path_from head) (steps_after (element_of head.0) (text_after 47 text)) path here
    (λ steps made same. subst (λ (p : Path). SpellsPath text p) same (spelled_by text head steps found made)))

pub one_path_of : (text : List ℕ) (a b : Path) → SpellsPath text a → SpellsPath text b → a ≡ b
one_path_of text a b spells_a spells_b = same_Some a b (sym (path_made text a spells_a) ∙ path_made text b spells_b)

-- ---- as a text is read
pub no_head : (text front : List ℕ) → front ≡ before 47 text → None ≡ head_of front → None ≡ path_of text
unfolding path_of
no_head text front cut read = ap (option_and_then (path_after (text_after 47 text))) (read ∙ ap head_of cut)

pub path_read : (text front : List ℕ) (rest : Option (List ℕ)) (start : Start) (count : Count) (element : Element) (steps : Option (List Step))
    → front ≡ before 47 text → rest ≡ text_after 47 text → Some (head_with start count) ≡ head_of front → element ≡ element_of start → steps ≡ steps_after element rest
    → option_map (path_from (head_with start count)) steps ≡ path_of text
unfolding path_of
path_read text front rest start count element steps cut after_it headed same read =
    ap (option_map (path_from (head_with start count))) (read ∙ ap (λ (e : Element). steps_after e rest) same ∙ ap (steps_after (element_of start)) after_it)
    ∙ ap (option_and_then (path_after (text_after 47 text))) (headed ∙ ap head_of cut)

-- a text without a path spells none
pub unspelled : (text : List ℕ) → None ≡ path_of text → (path : Path) → SpellsPath text path → ⊥
unspelled text none path spells = none-some path (none ∙ path_made text path spells)
