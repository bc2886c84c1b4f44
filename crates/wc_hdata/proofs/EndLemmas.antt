-- The elements of a path, and its end.
use Rattle.std.proofs.Common.{◌≡◌, ℕ, suc, ◌+◌, ◌-◌, ◌<◌, List, [], ◌∷◌, ◌++◌, length, get_or, take, map, Some, refl, sym, ap, ◌∙◌, arith, append_assoc, subst, slice_get}
use Rattle.std.specs.List.{join_with_byte}
use Rattle.std.proofs.lemmas.List.{take_more, map-append}
use Rattle.wc_hdata.specs.declared.element.Element.{Element}
use Rattle.wc_hdata.specs.declared.path.Step.{Step}
use Rattle.wc_hdata.specs.Names.{element_name}
use Rattle.wc_hdata.specs.Paths.{target, last_of}

last_of_got : (element : Element) (steps : List Step) (step : Step) → slice_get steps (length steps - 1) ≡ Some step → last_of element steps ≡ target step.variable
last_of_got element [] step got = absurd (cc)
last_of_got element (first ∷ []) step got = let same : first ≡ step = cc in ap (λ (s : Step). target s.variable) same
last_of_got element (first ∷ second ∷ steps) step got =
    let place : length (first ∷ second ∷ steps) - 1 ≡ suc (length (second ∷ steps) - 1) = omega arith in
    last_of_got (target first.variable) (second ∷ steps) step (sym (ap (slice_get (first ∷ second ∷ steps)) place) ∙ got)

-- the element at the end is that of the last step
pub end_is : (element : Element) (steps list : List Step) (step : Step) → list ≡ steps → slice_get list (length list - 1) ≡ Some step → last_of element steps ≡ target step.variable
end_is element steps list step same got = last_of_got element steps step (ap (λ (l : List Step). slice_get l (length l - 1)) (sym same) ∙ got)

-- one more text after a mark
pub joined-push : (c : ℕ) (first : List ℕ) (texts : List (List ℕ)) (text : List ℕ) → join_with_byte c (first ∷ (texts ++ text ∷ [])) ≡ join_with_byte c (first ∷ texts) ++ (c ∷ text)
joined-push c first [] text = refl
joined-push c first (second ∷ texts) text =
    ap (λ (t : List ℕ). first ++ (c ∷ t)) (joined-push c second texts text) ∙ sym (append_assoc first (c ∷ join_with_byte c (second ∷ texts)) (c ∷ text))

-- the names of the elements up to a step
abbrev pub names_up_to : Element → List Step → List ℕ
names_up_to element steps = join_with_byte 47 (map element_name (element ∷ map (λ (step : Step). target step.variable) steps))

names_more : (element : Element) (steps : List Step) (step : Step) → names_up_to element (steps ++ step ∷ []) ≡ names_up_to element steps ++ (47 ∷ element_name (target step.variable))
names_more element steps step =
    ap (λ (es : List Element). join_with_byte 47 (element_name element ∷ map element_name es)) (map-append (λ (s : Step). target s.variable) steps (step ∷ []))
    ∙ ap (λ (ts : List (List ℕ)). join_with_byte 47 (element_name element ∷ ts)) (map-append element_name (map (λ (s : Step). target s.variable) steps) (target step.variable ∷ []))
    ∙ joined-push 47 (element_name element) (map element_name (map (λ (s : Step). target s.variable) steps)) (element_name (target step.variable))

pub names_pushed : (element : Element) (steps list : List Step) (i : ℕ) (d : Step) (text slash new : List ℕ) → list ≡ steps → i < length list → text ≡ names_up_to element (take i steps)
    → slash ≡ text ++ 47 ∷ [] → new ≡ slash ++ element_name (target (get_or list i d).variable) → new ≡ names_up_to element (take (i + 1) steps)
names_pushed element steps list i d text slash new same inside so_far parted named =
    let step = get_or steps i d in
    let within : i < length steps = subst (λ (l : List Step). i < length l) same inside in
    named ∙ ap (λ (l : List Step). slash ++ element_name (target (get_or l i d).variable)) same
    ∙ ap (λ (t : List ℕ). t ++ element_name (target step.variable)) (parted ∙ ap (λ (t : List ℕ). t ++ 47 ∷ []) so_far)
    ∙ append_assoc (names_up_to element (take i steps)) (47 ∷ []) (element_name (target step.variable))
    ∙ sym (names_more element (take i steps) step) ∙ ap (names_up_to element) (sym (take_more steps i d within))
