-- Where paths begin, as it is written and as it is computed.
use Rattle.std.proofs.Common.{◌≡◌, ℕ, ◌≤◌, List, [], ◌∷◌, ◌++◌, length, drop, Option, Some, None, option_map, option_and_then, Bool, true, false, cond, ◌&&◌, nat_eq, nat_le, refl, sym, ap, subst, ◌∙◌, codes}
use Rattle.std.specs.List.{list_all, find, starts_with}
use Rattle.std.specs.Str.{bytes_eq}
use Rattle.std.specs.Str.Parse.{digits_value}
use Rattle.std.proofs.lemmas.Bool.{leb-true, le-leb, and_parts, and_from}
use Rattle.std.proofs.lemmas.Bool.Decides.{Decides-eqb}
use Rattle.std.proofs.lemmas.Option.{none-some, same_Some, cond_some, option_and_then_some}
use Rattle.std.proofs.lemmas.Slice.Eq.{bytes_eq-Decides, starts_is}
use Rattle.wc_hdata.specs.declared.element.Element.{Element}
use Rattle.wc_hdata.specs.declared.element.Element.TheVariants as Elements
use Rattle.wc_hdata.specs.declared.variable.Variable.{Variable}
use Rattle.wc_hdata.specs.declared.variable.Variable.TheVariants as Variables
use Rattle.wc_hdata.specs.declared.path.Start.{Start}
use Rattle.wc_hdata.specs.declared.path.Start.TheVariants as Starts
use Rattle.wc_text.specs.Splits.{before, text_after}
use Rattle.wc_hdata.specs.Names.{element_name, variable_name}
use Rattle.wc_hdata.specs.Paths.{element_of, IsPointer, IsStartPlace, SpellsStart}
use Rattle.wc_hdata.specs.Answers.{all_elements, element_named, all_variables, variable_named, hex_of, pointer_of, place_of, start_of}
use Rattle.wc_hdata.proofs.CutLemmas.{lacks, lacks-append, passing_lacks, from_mark, before-joined, text_after-joined, cut_joins}
use Rattle.wc_hdata.proofs.PointerLemmas.{is_hex}

-- ---- names
-- what a search finds passes its test
find_passes : {A : Type 0} (p : A → Bool) (xs : List A) (x : A) → find p xs ≡ Some x → p x ≡ true
find_passes p [] x found = absurd (cc)
find_passes p (y ∷ xs) x found = by (p y) refl found (find_passes p xs x) where
  by : (t : Bool) → p y ≡ t → cond t (Some y) (find p xs) ≡ Some x → (find p xs ≡ Some x → p x ≡ true) → p x ≡ true
  by true e here more = let same : y ≡ x = cc in ap p (sym same) ∙ e
  by false e here more = more here

element_found : (element : Element) → element_named (element_name element) ≡ Some element
element_found Elements.Buffer = refl
element_found Elements.Lines = refl
element_found Elements.Line = refl
element_found Elements.LineData = refl

element_is : (text : List ℕ) (element : Element) → element_named text ≡ Some element → text ≡ element_name element
element_is text element found = (bytes_eq-Decides text (element_name element)).0 (find_passes (λ e. bytes_eq text (element_name e)) all_elements element found)

pub variable_found : (variable : Variable) → variable_named (variable_name variable) ≡ Some variable
variable_found Variables.OwnLines = refl
variable_found Variables.Lines = refl
variable_found Variables.FirstLine = refl
variable_found Variables.LastLine = refl
variable_found Variables.Data = refl
variable_found Variables.Buffer = refl

pub variable_is : (text : List ℕ) (variable : Variable) → variable_named text ≡ Some variable → text ≡ variable_name variable
variable_is text variable found = (bytes_eq-Decides text (variable_name variable)).0 (find_passes (λ v. bytes_eq text (variable_name v)) all_variables variable found)

-- names have no slash, colon or parenthesis
pub record Plain (text : List ℕ) : Type 0 where
  pub no_count : lacks 40 text ≡ true
  pub no_slash : lacks 47 text ≡ true
  pub no_colon : lacks 58 text ≡ true

element_plain : (element : Element) → Plain (element_name element)
element_plain Elements.Buffer = record { no_count = refl; no_slash = refl; no_colon = refl }
element_plain Elements.Lines = record { no_count = refl; no_slash = refl; no_colon = refl }
element_plain Elements.Line = record { no_count = refl; no_slash = refl; no_colon = refl }
element_plain Elements.LineData = record { no_count = refl; no_slash = refl; no_colon = refl }

pub variable_plain : (variable : Variable) → Plain (variable_name variable)
variable_plain Variables.OwnLines = record { no_count = refl; no_slash = refl; no_colon = refl }
variable_plain Variables.Lines = record { no_count = refl; no_slash = refl; no_colon = refl }
variable_plain Variables.FirstLine = record { no_count = refl; no_slash = refl; no_colon = refl }
variable_plain Variables.LastLine = record { no_count = refl; no_slash = refl; no_colon = refl }
variable_plain Variables.Data = record { no_count = refl; no_slash = refl; no_colon = refl }
variable_plain Variables.Buffer = record { no_count = refl; no_slash = refl; no_colon = refl }

-- ---- pointers
hex_made : (ds : List ℕ) (n : ℕ) → 1 ≤ length ds → length ds ≤ 16 → list_all (λ c. is_hex c) ds ≡ true → digits_value 16 ds ≡ n → hex_of ds ≡ Some n
hex_made ds n least most hex value =
    let sized = and_from (nat_le 1 (length ds)) (nat_le (length ds) 16) (le-leb 1 (length ds) least) (le-leb (length ds) 16 most) in
    ap (λ (t : Bool). cond t (Some (digits_value 16 ds)) None) (and_from (nat_le 1 (length ds) && nat_le (length ds) 16) (list_all (λ c. is_hex c) ds) sized hex)
    ∙ ap Some value

pointer_made : (text : List ℕ) (pointer : ℕ) → IsPointer text pointer → pointer_of text ≡ Some pointer
unfolding pointer_of
pointer_made text pointer w = ap pointer_of w.spelled ∙ hex_made w.digits pointer w.least w.most w.hex w.value

pointer_is : (text : List ℕ) (pointer : ℕ) → pointer_of text ≡ Some pointer → IsPointer text pointer
unfolding pointer_of
pointer_is text pointer is = by (starts_with nat_eq text (codes "0x")) refl is where
  by : (t : Bool) → starts_with nat_eq text (codes "0x") ≡ t → cond t (hex_of (drop 2 text)) None ≡ Some pointer → IsPointer text pointer
  by false e here = absurd (none-some pointer here)
  by true e here =
      let ds = drop 2 text in
      let parts = cond_some (nat_le 1 (length ds) && nat_le (length ds) 16 && list_all (λ c. is_hex c) ds) (digits_value 16 ds) pointer here in
      let tests = and_parts (nat_le 1 (length ds) && nat_le (length ds) 16) (list_all (λ c. is_hex c) ds) parts.0 in
      let sized = and_parts (nat_le 1 (length ds)) (nat_le (length ds) 16) tests.0 in
      record {
        digits = ds;
        spelled = (starts_is {E = nat_eq} Decides-eqb text (codes "0x") (starts_with nat_eq text (codes "0x")) refl).0 e;
        least = leb-true 1 (length ds) sized.0;
        most = leb-true (length ds) 16 sized.1;
        hex = tests.1;
        value = parts.1;
      }

-- ---- places
pub option_map_some : {A B P : Type 0} (f : A → B) (o : Option A) (y : B) → option_map f o ≡ Some y → ((x : A) → o ≡ Some x → f x ≡ y → P) → P
option_map_some f None y is then = absurd (none-some y is)
option_map_some f (Some x) y is then = then x refl (same_Some (f x) y is)

place_made : (text : List ℕ) (start : Start) → IsStartPlace text start → place_of (element_of start) text ≡ Some start
unfolding place_of
place_made text Starts.FirstBuffer w = ap (place_of Elements.Buffer) w
place_made text Starts.LastBuffer w = ap (place_of Elements.Buffer) w
place_made text (Starts.Pointer Elements.Buffer pointer) w =
    ap (place_of Elements.Buffer) w.spelled ∙ ap (option_map (λ p. Starts.Pointer Elements.Buffer p)) (sym (ap pointer_of w.spelled) ∙ pointer_made text pointer w)
place_made text (Starts.Pointer Elements.Lines pointer) w = ap (option_map (λ p. Starts.Pointer Elements.Lines p)) (pointer_made text pointer w)
place_made text (Starts.Pointer Elements.Line pointer) w = ap (option_map (λ p. Starts.Pointer Elements.Line p)) (pointer_made text pointer w)
place_made text (Starts.Pointer Elements.LineData pointer) w = ap (option_map (λ p. Starts.Pointer Elements.LineData p)) (pointer_made text pointer w)

record Placed (element : Element) (text : List ℕ) (start : Start) : Type 0 where
  pub place : IsStartPlace text start
  pub element_is : element_of start ≡ element

pointer_placed : (element : Element) (text : List ℕ) (start : Start) → option_map (λ p. Starts.Pointer element p) (pointer_of text) ≡ Some start → Placed element text start
pointer_placed element text start is =
    option_map_some (λ p. Starts.Pointer element p) (pointer_of text) start is
    (λ p found made. subst (λ (s : Start). Placed element text s) made (record { place = pointer_is text p found; element_is = refl }))

buffer_placed : (text : List ℕ) (start : Start) → place_of Elements.Buffer text ≡ Some start → Placed Elements.Buffer text start
unfolding place_of
buffer_placed text start is = by (bytes_eq text (codes "gui_buffers")) refl (bytes_eq text (codes "last_gui_buffer")) refl is where
  by : (s : Bool) → bytes_eq text (codes "gui_buffers") ≡ s → (t : Bool) → bytes_eq text (codes "last_gui_buffer") ≡ t
      → cond s (Some Starts.FirstBuffer) (cond t (Some Starts.LastBuffer) (option_map (λ p. Starts.Pointer Elements.Buffer p) (pointer_of text))) ≡ Some start
      → Placed Elements.Buffer text start
  by true first t last here =
      subst (λ (s : Start). Placed Elements.Buffer text s) (same_Some Starts.FirstBuffer start here)
      (record { place = (bytes_eq-Decides text (codes "gui_buffers")).0 first; element_is = refl })
  by false first true last here =
      subst (λ (s : Start). Placed Elements.Buffer text s) (same_Some Starts.LastBuffer start here)
      (record { place = (bytes_eq-Decides text (codes "last_gui_buffer")).0 last; element_is = refl })
  by false first false last here = pointer_placed Elements.Buffer text start here

place_is : (element : Element) (text : List ℕ) (start : Start) → place_of element text ≡ Some start → Placed element text start
unfolding place_of
place_is Elements.Buffer text start is = buffer_placed text start is
place_is Elements.Lines text start is = pointer_placed Elements.Lines text start is
place_is Elements.Line text start is = pointer_placed Elements.Line text start is
place_is Elements.LineData text start is = pointer_placed Elements.LineData text start is

-- ---- the start
pub start_made : (text : List ℕ) (start : Start) → SpellsStart text start → start_of text ≡ Some start
start_made text start w =
    let name = element_name (element_of start) in
    let whole = name ++ 58 ∷ w.place in
    let plain = element_plain (element_of start) in
    ap start_of w.spelled
    ∙ ap (λ (n : List ℕ). option_and_then (λ (e : Element). option_and_then (place_of e) (text_after 58 whole)) (element_named n)) (before-joined 58 name (Some w.place) plain.no_colon)
    ∙ ap (option_and_then (λ (e : Element). option_and_then (place_of e) (text_after 58 whole))) (element_found (element_of start))
    ∙ ap (option_and_then (place_of (element_of start))) (text_after-joined 58 name (Some w.place) plain.no_colon)
    ∙ place_made w.place start w.placed

begins_at : (text : List ℕ) (start : Start) (element : Element) (place : List ℕ) → element_named (before 58 text) ≡ Some element → text_after 58 text ≡ Some place → Placed element place start → SpellsStart text start
begins_at text start element place named found placed = record {
  place = place;
  spelled =
      cut_joins 58 text ∙ ap (λ (n : List ℕ). n ++ from_mark 58 (text_after 58 text)) (element_is (before 58 text) element named)
      ∙ ap (λ (o : Option (List ℕ)). element_name element ++ from_mark 58 o) found ∙ ap (λ (e : Element). element_name e ++ 58 ∷ place) (sym placed.element_is);
  placed = placed.place;
}

pub start_is : (text : List ℕ) (start : Start) → start_of text ≡ Some start → SpellsStart text start
start_is text start is =
    option_and_then_some (λ (e : Element). option_and_then (place_of e) (text_after 58 text)) (element_named (before 58 text)) start is
    (λ element named here. option_and_then_some (place_of element) (text_after 58 text) start here
    (λ place found made. begins_at text start element place named found (place_is element place start made)))

-- a start has neither a parenthesis nor a slash
record Whole (text : List ℕ) : Type 0 where
  pub no_count : lacks 40 text ≡ true
  pub no_slash : lacks 47 text ≡ true

place_whole : (text : List ℕ) (start : Start) → IsStartPlace text start → Whole text
place_whole text Starts.FirstBuffer w = record { no_count = ap (lacks 40) w; no_slash = ap (lacks 47) w }
place_whole text Starts.LastBuffer w = record { no_count = ap (lacks 40) w; no_slash = ap (lacks 47) w }
place_whole text (Starts.Pointer element pointer) w = record {
  no_count = ap (lacks 40) w.spelled ∙ passing_lacks is_hex 40 refl w.digits w.hex;
  no_slash = ap (lacks 47) w.spelled ∙ passing_lacks is_hex 47 refl w.digits w.hex;
}

pub start_no_count : (text : List ℕ) (start : Start) → SpellsStart text start → lacks 40 text ≡ true
start_no_count text start w =
    ap (lacks 40) w.spelled ∙ lacks-append 40 (element_name (element_of start)) (58 ∷ w.place) (element_plain (element_of start)).no_count (place_whole w.place start w.placed).no_count

pub start_no_slash : (text : List ℕ) (start : Start) → SpellsStart text start → lacks 47 text ≡ true
start_no_slash text start w =
    ap (lacks 47) w.spelled ∙ lacks-append 47 (element_name (element_of start)) (58 ∷ w.place) (element_plain (element_of start)).no_slash (place_whole w.place start w.placed).no_slash
