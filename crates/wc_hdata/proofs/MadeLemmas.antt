-- The mixed lists that are made for a path.
use Rattle.std.proofs.Common.{◌≡◌, Bool, true, false, List, [], ◌∷◌, ◌++◌, map, refl, sym, ap, subst, ◌∙◌, append_assoc, append-nil}
use Rattle.std.specs.Prelude.{◌||◌, ◌==◌}
use Rattle.std.specs.List.{AllByRecursion, list_any, slice_get}
use Rattle.wc_text.specs.declared.names.Handle.{Handle}
use Rattle.wc_lines.specs.declared.line.Line.{Line}
use Rattle.wc_lines.specs.Ring.{newest}
use Rattle.wc_hdata.specs.declared.path.Path.{Path}
use Rattle.wc_hdata.specs.declared.path.Step.{Step}
use Rattle.wc_hdata.specs.Kept.{Listed, AllMade, IsFor, IsMade, IsReady}
use Rattle.wc_hdata.specs.Listed.{AddsMade, goes_to_lines, is_list, is_shown, number_of}
use Rattle.wc_hdata.specs.Lists.{held_by}
use Rattle.wc_hdata.specs.Paths.{element_of}
use Rattle.wc_hdata.specs.Reached.{HeldLine}
use Rattle.wc_hdata.specs.Values.{first_of, last_of, line_number}
use Rattle.wc_hdata.proofs.Everywhere.{any_front}

-- ---- groups

made_more : (firsts more group : List Handle) → IsMade firsts group → IsMade (firsts ++ more) group
made_more firsts more [] m = tt
made_more firsts more (first ∷ []) m = tt
made_more firsts more (first ∷ (second ∷ others)) m = any_front (λ (h : Handle). h.0 == first.0) firsts more m

-- what is made of all groups once it is made of those that are left
abbrev pub MadeOnce : List Handle → List (List Handle) → List (List Handle) → Type 0
MadeOnce firsts left all = (more : List Handle) → AllByRecursion (IsMade (firsts ++ more)) left → AllByRecursion (IsMade (firsts ++ more)) all

pub made_step : (old new : List Handle) (group : List Handle) (left all : List (List Handle)) → MadeOnce old (group ∷ left) all → AddsMade old new group → MadeOnce new left all
made_step old new group left all once adds more made =
    let same : old ++ (adds.others ++ more) ≡ new ++ more = sym (append_assoc old adds.others more) ∙ ap (λ l. l ++ more) (sym adds.more) in
    subst (λ l. AllByRecursion (IsMade l) all) same (once (adds.others ++ more) (subst (λ l. AllByRecursion (IsMade l) (group ∷ left)) (sym same) (made_more new more group adds.made, made)))

pub made_end : (firsts : List Handle) (all : List (List Handle)) → MadeOnce firsts [] all → AllByRecursion (IsMade firsts) all
made_end firsts all once = subst (λ l. AllByRecursion (IsMade l) all) (append-nil firsts) (once [] tt)

-- ---- paths

pub all_ready : (listed : Listed) (steps : List Step) → AllMade listed → AllByRecursion (IsReady listed) steps
all_ready listed [] made = tt
all_ready listed (step ∷ steps) made = ((λ e. made), all_ready listed steps made)

or_parts : (b c : Bool) → (b || c) ≡ false → (b ≡ false) × (c ≡ false)
or_parts true c f = absurd (cc)
or_parts false c f = (refl, f)

none_ready : (listed : Listed) (steps : List Step) → list_any (λ (step : Step). is_shown step.variable) steps ≡ false → AllByRecursion (IsReady listed) steps
none_ready listed [] f = tt
none_ready listed (step ∷ steps) f =
    let parts = or_parts (is_shown step.variable) (list_any (λ (step : Step). is_shown step.variable) steps) f in
    ((λ e. absurd (let t : is_shown step.variable ≡ true = ap is_shown e in let g = parts.0 in cc)), none_ready listed steps parts.1)

pub for_all : (listed : Listed) (path : Path) → AllMade listed → IsFor listed path
for_all listed path made = ((λ e. made), all_ready listed path.steps made)

pub for_none : (listed : Listed) (path : Path) → goes_to_lines path ≡ false → IsFor listed path
for_none listed path f =
    let parts = or_parts (is_list (element_of path.start)) (list_any (λ (step : Step). is_shown step.variable) path.steps) f in
    ((λ e. absurd (let t : is_list (element_of path.start) ≡ true = ap is_list e in let g = parts.0 in cc)), none_ready listed path.steps parts.1)

-- ---- numbers

pub first_number : (buffer : Handle) (lines : List Line) (own : List HeldLine) → own ≡ map (held_by buffer) lines → number_of (slice_get lines 0) ≡ line_number (first_of own)
first_number buffer [] own e = ap (λ l. line_number (first_of l)) (sym e)
first_number buffer (line ∷ lines) own e = ap (λ l. line_number (first_of l)) (sym e)

last_number_of : (buffer : Handle) (lines : List Line) → number_of (newest lines) ≡ line_number (last_of (map (held_by buffer) lines))
last_number_of buffer [] = refl
last_number_of buffer (line ∷ []) = refl
last_number_of buffer (line ∷ (next ∷ lines)) = last_number_of buffer (next ∷ lines)

pub last_number : (buffer : Handle) (lines : List Line) (own : List HeldLine) → own ≡ map (held_by buffer) lines → number_of (newest lines) ≡ line_number (last_of own)
last_number buffer lines own e = last_number_of buffer lines ∙ ap (λ l. line_number (last_of l)) (sym e)
