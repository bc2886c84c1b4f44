-- What steps give that lead from each place to one.
use Rattle.std.proofs.Common.{◌≡◌, ℕ, suc, ◌+◌, ◌-◌, ◌*◌, ◌<◌, true, List, [], ◌∷◌, ◌++◌, drop, get_or, length, Option, Some, None, MatchOption, arith, refl, sym, ap, subst, ◌∙◌, length-append, length-drop, drop-cons}
use Rattle.std.specs.List.{AllByRecursion, flat_map}
use Rattle.std.proofs.Math.Nat.{mul-suc}
use Rattle.std.proofs.lemmas.Bool.{and_parts, and_from}
use Rattle.std.proofs.lemmas.List.{drop_all}
use Rattle.wc_buffers.specs.Calls.{is_there}
use Rattle.wc_model.specs.World.{World}
use Rattle.wc_hdata.specs.declared.count.Count.{Count}
use Rattle.wc_hdata.specs.declared.count.Count.TheVariants.{One, All, Forward, Backward}
use Rattle.wc_hdata.specs.declared.element.Element.{Element}
use Rattle.wc_hdata.specs.declared.element.Element.TheVariants as Elements
use Rattle.wc_hdata.specs.declared.path.Step.{Step}
use Rattle.wc_hdata.specs.declared.place.LineList.{LineList}
use Rattle.wc_hdata.specs.declared.variable.Variable.{Variable}
use Rattle.wc_hdata.specs.declared.variable.Variable.TheVariants as by
use Rattle.wc_hdata.specs.Depth.{further, further_left}
use Rattle.wc_hdata.specs.Kept.{Listed, AreKept, IsKept}
use Rattle.wc_hdata.specs.Narrow.{gives_one, all_give_one, others_give_one}
use Rattle.wc_hdata.specs.Paths.{target}
use Rattle.wc_hdata.specs.Reached.{Place, HeldLine, Buffer, Lines, Line_at, Data_at}
use Rattle.wc_hdata.specs.Steps.{reach, from_buffer, from_lines, from_line, from_data}
use Rattle.wc_hdata.proofs.DepthLemmas.{counted_all, counted_out_all}
use Rattle.wc_hdata.proofs.Everywhere.{all_append}
use Rattle.wc_hdata.proofs.KeptLemmas.{one_buffer}
use Rattle.wc_hdata.proofs.ReachedForms.{AreOf, IsOf, step_leads}
use Rattle.wc_text.specs.declared.names.Handle.{Handle}

-- ---- one step

-- the buffer of a line is there
abbrev IsStanding : World → Place → Type 0
IsStanding world (Buffer buffer) = Unit {0}
IsStanding world (Lines list) = Unit {0}
IsStanding world (Line_at held) = is_there held.buffer world.groups ≡ true
IsStanding world (Data_at held) = is_there held.buffer world.groups ≡ true

-- a place of an element
record IsAt (world : World) (element : Element) (place : Place) : Type 0 where
  of : IsOf element place
  stands : IsStanding world place

abbrev AreAt : World → Element → List Place → Type 0
AreAt world element places = AllByRecursion (IsAt world element) places

-- one place of an element
record IsOnly (world : World) (element : Element) (places : List Place) : Type 0 where
  one : length places ≡ 1
  at : AreAt world element places

only : (world : World) (element : Element) (places : List Place) (place : Place) → places ≡ place ∷ [] → IsAt world element place → IsOnly world element places
only world element places place is at = subst (IsOnly world element) (sym is) (record { one = refl; at = (at, tt) })

buffer_only : (world : World) (variable : Variable) (count : Count) (buffer : Handle) → gives_one Elements.Buffer (record { variable = variable; count = count }) ≡ true → IsOnly world (target variable) (from_buffer world variable buffer)
buffer_only world by.OwnLines count buffer t = only world Elements.Lines _ _ refl (record { of = refl; stands = tt })
buffer_only world by.Lines count buffer t = only world Elements.Lines _ _ refl (record { of = refl; stands = tt })
buffer_only world by.FirstLine count buffer t = absurd (cc)
buffer_only world by.LastLine count buffer t = absurd (cc)
buffer_only world by.Data count buffer t = absurd (cc)
buffer_only world by.Buffer count buffer t = absurd (cc)

lines_only : (world : World) (variable : Variable) (count : Count) (list : LineList) → gives_one Elements.Lines (record { variable = variable; count = count }) ≡ true → IsOnly world (target variable) (from_lines world variable count list)
lines_only world by.OwnLines count list t = absurd (cc)
lines_only world by.Lines count list t = absurd (cc)
lines_only world by.FirstLine count list t = absurd (cc)
lines_only world by.LastLine count list t = absurd (cc)
lines_only world by.Data count list t = absurd (cc)
lines_only world by.Buffer count list t = absurd (cc)

line_only : (world : World) (variable : Variable) (count : Count) (held : HeldLine) → gives_one Elements.Line (record { variable = variable; count = count }) ≡ true → is_there held.buffer world.groups ≡ true → IsOnly world (target variable) (from_line variable held)
line_only world by.Data count held t there = only world Elements.LineData _ _ refl (record { of = refl; stands = there })
line_only world by.OwnLines count held t there = absurd (cc)
line_only world by.Lines count held t there = absurd (cc)
line_only world by.FirstLine count held t there = absurd (cc)
line_only world by.LastLine count held t there = absurd (cc)
line_only world by.Buffer count held t there = absurd (cc)

data_only : (world : World) (variable : Variable) (count : Count) (held : HeldLine) → gives_one Elements.LineData (record { variable = variable; count = count }) ≡ true → is_there held.buffer world.groups ≡ true → IsOnly world (target variable) (from_data world variable count held)
data_only world by.Buffer One held t there = only world Elements.Buffer _ (Buffer held.buffer) (sym (one_buffer world.groups One held.buffer (Buffer held.buffer ∷ []) there refl refl)) (record { of = refl; stands = tt })
data_only world by.Buffer All held t there = absurd (cc)
data_only world by.Buffer (Forward n) held t there = absurd (cc)
data_only world by.Buffer (Backward n) held t there = absurd (cc)
data_only world by.Data count held t there = absurd (cc)
data_only world by.OwnLines count held t there = absurd (cc)
data_only world by.Lines count held t there = absurd (cc)
data_only world by.FirstLine count held t there = absurd (cc)
data_only world by.LastLine count held t there = absurd (cc)

place_only : (world : World) (step : Step) (place : Place) (element : Element) → IsAt world element place → gives_one element step ≡ true → IsOnly world (target step.variable) (reach world step place)
unfolding reach
place_only world step (Buffer buffer) element at t = buffer_only world step.variable step.count buffer (subst (λ (e : Element). gives_one e step ≡ true) (sym at.of) t)
place_only world step (Lines list) element at t = lines_only world step.variable step.count list (subst (λ (e : Element). gives_one e step ≡ true) (sym at.of) t)
place_only world step (Line_at held) element at t = line_only world step.variable step.count held (subst (λ (e : Element). gives_one e step ≡ true) (sym at.of) t) at.stands
place_only world step (Data_at held) element at t = data_only world step.variable step.count held (subst (λ (e : Element). gives_one e step ≡ true) (sym at.of) t) at.stands

-- ---- several

record AsMany (world : World) (element : Element) (places : List Place) (count : ℕ) : Type 0 where
  many : length places ≡ count
  at : AreAt world element places

as_many : (world : World) (step : Step) (element : Element) (places : List Place) → AreAt world element places → gives_one element step ≡ true → AsMany world (target step.variable) (flat_map (reach world step) places) (length places)
as_many world step element [] at t = record { many = refl; at = tt }
as_many world step element (place ∷ places) at t =
    let first = place_only world step place element at.0 t in
    let others = as_many world step element places at.1 t in
    let one = first.one in
    let many = others.many in
    let size = length-append (reach world step place) (flat_map (reach world step) places) in
    record {
      many = omega (arith, one, many, size);
      at = all_append (IsAt world (target step.variable)) (reach world step place) (flat_map (reach world step) places) first.at others.at;
    }

all_further : (world : World) (steps : List Step) (element : Element) (places : List Place) → AreAt world element places → all_give_one element steps ≡ true → further world steps places ≡ length places * length steps
all_further world [] element places at t = omega arith
all_further world (step ∷ steps) element places at t =
    let parts = and_parts (gives_one element step) (all_give_one (target step.variable) steps) t in
    let next = as_many world step element places at parts.0 in
    let many = next.many in
    let on = all_further world steps (target step.variable) (flat_map (reach world step) places) next.at parts.1 in
    let same = ap (λ (n : ℕ). n * length steps) many in
    omega (arith, on, same, many, mul-suc (length places) (length steps))

-- ---- what is kept

kept_stands : (listed : Listed) (place : Place) → IsKept listed place → IsStanding listed.world place
kept_stands listed (Buffer buffer) kept = tt
kept_stands listed (Lines list) kept = tt
kept_stands listed (Line_at held) kept = kept.there
kept_stands listed (Data_at held) kept = kept.there

are_at : (listed : Listed) (element : Element) (places : List Place) → AreOf element places → AreKept listed places → AreAt listed.world element places
are_at listed element [] of kept = tt
are_at listed element (place ∷ places) of kept = (record { of = of.0; stands = kept_stands listed place kept.0 }, are_at listed element places of.1 kept.1)

-- what the steps behind one give, where each gives one place from each
others_further : (listed : Listed) (steps : List Step) (d : ℕ) (default : Step) (place : Place) (next : List Place) → d < length steps → others_give_one (drop d steps) ≡ true → next ≡ reach listed.world (get_or steps d default) place → AreKept listed next
    → further listed.world (drop (d + 1) steps) next ≡ length next * length (drop (d + 1) steps)
others_further listed steps d default place next inside narrow led kept =
    let step = get_or steps d default in
    let on : suc d ≡ d + 1 = omega arith in
    let more : drop d steps ≡ step ∷ drop (d + 1) steps = drop-cons steps d default inside ∙ ap (λ k. step ∷ drop k steps) on in
    let of = subst (AreOf (target step.variable)) (sym led) (step_leads listed.world step place) in
    all_further listed.world (drop (d + 1) steps) (target step.variable) next (are_at listed (target step.variable) next of kept)
    (sym (ap others_give_one more) ∙ narrow)

-- ---- what is counted of them

pub counted_narrow : (listed : Listed) (steps : List Step) (before : List (List Place)) (top rest : List Place) (place : Place) (d : ℕ) (next : List Place) (default : Step) (left : ℕ) (o : Option ℕ)
    → top ≡ place ∷ rest → d ≡ length before → d < length steps → next ≡ reach listed.world (get_or steps d default) place → AreKept listed next → others_give_one (drop d steps) ≡ true
    → MatchOption o (left < length next * (length steps - d)) (λ r. r + length next * (length steps - d) ≡ left)
    → MatchOption o (left < further_left listed.world steps 0 (before ++ top ∷ [])) (λ r. r + further_left listed.world steps 0 (before ++ top ∷ []) ≡ left + further_left listed.world steps 0 (before ++ rest ∷ []))
counted_narrow listed steps before top rest place d next default left o is deep inside led kept narrow = by o where
  all : length next + further listed.world (drop (d + 1) steps) next ≡ length next * (length steps - d)
  all =
      let on = others_further listed steps d default place next inside narrow led kept in
      let one : length steps - d ≡ suc (length (drop (d + 1) steps)) = (let size = length-drop (d + 1) steps in omega (arith, size, inside)) in
      let same = ap (λ (n : ℕ). length next * n) one in
      omega (arith, on, same, mul-suc (length next) (length (drop (d + 1) steps)))

  by : (o : Option ℕ) → MatchOption o (left < length next * (length steps - d)) (λ r. r + length next * (length steps - d) ≡ left)
      → MatchOption o (left < further_left listed.world steps 0 (before ++ top ∷ [])) (λ r. r + further_left listed.world steps 0 (before ++ top ∷ []) ≡ left + further_left listed.world steps 0 (before ++ rest ∷ []))
  by None lt = counted_out_all listed.world steps before top rest place d is deep next default inside led left (omega (arith, lt, all))
  by (Some r) e = counted_all listed.world steps before top rest place d is deep next default inside led left r (omega (arith, e, all))

-- ---- how the steps are found

-- a step more that gives one place from each
pub narrow_more : (steps : List Step) (last : ℕ) (default : Step) (element : Element) → 0 < last → last < length steps → others_give_one (drop last steps) ≡ true → element ≡ target (get_or steps (last - 1) default).variable → gives_one element (get_or steps last default) ≡ true
    → others_give_one (drop (last - 1) steps) ≡ true
narrow_more steps last default element some inside narrow is one =
    let on : suc (last - 1) ≡ last = omega (arith, some) in
    let later : drop last steps ≡ get_or steps last default ∷ drop (suc last) steps = drop-cons steps last default inside in
    let here : drop (last - 1) steps ≡ get_or steps (last - 1) default ∷ (get_or steps last default ∷ drop (suc last) steps) =
    drop-cons steps (last - 1) default (omega (arith, inside)) ∙ ap (λ k. get_or steps (last - 1) default ∷ drop k steps) on ∙ ap (λ l. get_or steps (last - 1) default ∷ l) later in
    ap others_give_one here ∙ and_from _ _ (subst (λ (e : Element). gives_one e (get_or steps last default) ≡ true) is one) (sym (ap others_give_one later) ∙ narrow)

-- the last step has none behind it
pub narrow_last : (steps : List Step) (at : ℕ) (default : Step) → at + 1 ≡ length steps → others_give_one (drop at steps) ≡ true
narrow_last steps at default last =
    let on : suc at ≡ length steps = omega (arith, last) in
    let none : drop (suc at) steps ≡ [] = drop_all (suc at) steps (omega (arith, on)) in
    ap others_give_one (drop-cons steps at default (omega (arith, last)) ∙ ap (λ l. get_or steps at default ∷ l) none)
