-- The lines of one buffer, with the flags that flips set last.
use Rattle.std.proofs.Common.{◌≡◌, ℕ, ◌<◌, Bool, true, false, cond, not, ◌||◌, eqb, List, [], ◌∷◌, map, find, Option, Some, None, option_map, is_some, refl, ap, sym, subst, ◌∙◌, arith, eq-eqb, eqb-true}
use Rattle.std.proofs.lemmas.Bool.{or_parts}
use Rattle.std.proofs.lemmas.Bool.Decides.{nat_tests}
use Rattle.wc_text.specs.declared.names.Handle.{Handle}
use Rattle.wc_lines.specs.declared.line.Line.{Line}
use Rattle.wc_lines.specs.Flags.{set_flag, with_own_flag, with_flags}
use Rattle.wc_lines.specs.Held.{RingView}
use Rattle.wc_lines.specs.Ring.{has_content, set_displayed}
use Rattle.wc_buffers.proofs.GroupLaws.{by_bool}
use Rattle.wc_model.specs.declared.change.Flip.{Flip}
use Rattle.wc_model.specs.Apply.{with_flips}
use Rattle.wc_model.specs.Notices.{bool_eq, is_flipped, flips_in}
use Rattle.wc_world.specs.Flips.{last_from, last_flag, is_other, differs, differing_handles}
use Rattle.wc_world.specs.Kept.{AreContentsApart}
use Rattle.wc_world.proofs.FlipLemmas.{skip_flips}

-- ---- flags that are set again

same_content : (flag : Option Bool) (line : Line) → (set_flag flag line).content ≡ line.content
same_content None line = refl
same_content (Some on) line = refl

set_over : (flag : Option Bool) (on : Bool) (line : Line) → record (set_flag flag line) { displayed = on } ≡ record line { displayed = on }
set_over None on line = refl
set_over (Some was) on line = refl

module _ (flags : ℕ → Option Bool) where
  line_twice : (line : Line) → with_own_flag flags (with_own_flag flags line) ≡ with_own_flag flags line
  line_twice line = by (flags line.content.0) refl
    where
      by : (flag : Option Bool) → flags line.content.0 ≡ flag → set_flag (flags (set_flag flag line).content.0) (set_flag flag line) ≡ set_flag flag line
      by None e = rw e refl
      by (Some on) e = rw e refl

  lines_twice : (lines : List Line) → map (with_own_flag flags) (map (with_own_flag flags) lines) ≡ map (with_own_flag flags) lines
  lines_twice [] = refl
  lines_twice (line ∷ lines) = λ i. line_twice line i ∷ lines_twice lines i

  held_twice : (o : Option RingView) → option_map (with_flags flags) (option_map (with_flags flags) o) ≡ option_map (with_flags flags) o
  held_twice None = refl
  held_twice (Some x) = λ i. Some (record { limit = x.limit; lines = lines_twice x.lines i; pushed = x.pushed; room = x.room })

  -- what is set at one buffer is not changed by setting it again
  pub settled : (here later : Bool) (o : Option RingView) → cond later (option_map (with_flags flags) (cond here (option_map (with_flags flags) o) o)) (cond here (option_map (with_flags flags) o) o) ≡ cond (here || later) (option_map (with_flags flags) o) o
  settled true true o = held_twice o
  settled true false o = refl
  settled false true o = refl
  settled false false o = refl

  -- ---- contents stay

  pub same_contents : (content : Handle) (lines : List Line) → has_content content (map (with_own_flag flags) lines) ≡ has_content content lines
  same_contents content [] = refl
  same_contents content (line ∷ lines) = λ i. eqb (same_content (flags line.content.0) line i).0 content.0 || same_contents content lines i

  pub apart_flagged : (n : ℕ) (lines : List Line) → AreContentsApart n lines → AreContentsApart n (map (with_own_flag flags) lines)
  apart_flagged n [] a = tt
  apart_flagged n (line ∷ lines) a =
      let own = same_content (flags line.content.0) line in
      (subst (λ h. h.0 < n) (sym own) a.0, (λ i. has_content (own i) (map (with_own_flag flags) lines)) ∙ same_contents line.content lines ∙ a.1, apart_flagged n lines a.2)

  -- ---- the lines that get another flag

  own_flips : (line : Line) (lines : List Line) → is_flipped (line ∷ lines) (with_own_flag flags line) ≡ differs flags line
  own_flips line lines = by (flags line.content.0)
    where
      same : eqb line.content.0 line.content.0 ≡ true
      same = eq-eqb line.content.0 line.content.0 refl

      equal : (b : Bool) → bool_eq b b ≡ true
      equal true = refl
      equal false = refl

      turned : (a b : Bool) → bool_eq a b ≡ bool_eq b a
      turned true true = refl
      turned true false = refl
      turned false true = refl
      turned false false = refl

      by : (flag : Option Bool) → is_flipped (line ∷ lines) (set_flag flag line) ≡ is_other flag line.displayed
      by None = rw (same, equal line.displayed) refl
      by (Some on) = rw same (ap not (turned on line.displayed))

  pub flips_found : (n : ℕ) (lines : List Line) → AreContentsApart n lines → flips_in lines (map (with_own_flag flags) lines) ≡ differing_handles flags lines
  flips_found n [] a = refl
  flips_found n (line ∷ lines) a =
      let own = own_flips line lines in
      let rest = skip_flips line lines (map (with_own_flag flags) lines) (same_contents line.content lines ∙ a.1) ∙ flips_found n lines a.2 in
      by_bool (differs flags line) _
      (λ t. rw (own ∙ t, t) (λ i. same_content (flags line.content.0) line i ∷ rest i))
      (λ t. rw (own ∙ t, t) rest)

-- ---- one flip after another

abbrev pub then_flag : Handle → Bool → (ℕ → Option Bool) → ℕ → Option Bool
then_flag content on flags n = cond (eqb content.0 n) (Some on) (flags n)

not_set : (flags : ℕ → Option Bool) (content : Handle) (on : Bool) (lines : List Line) → has_content content lines ≡ false → map (with_own_flag (then_flag content on flags)) lines ≡ map (with_own_flag flags) lines
not_set flags content on [] e = refl
not_set flags content on (line ∷ lines) e =
    let o = or_parts (eqb line.content.0 content.0) (has_content content lines) e in
    let other : eqb content.0 line.content.0 ≡ false = (let z = o.0 in grind (arith, nat_tests)) in
    λ i. set_flag (cond (other i) (Some on) (flags line.content.0)) line ∷ not_set flags content on lines o.1 i

set_next : (flags : ℕ → Option Bool) (content : Handle) (on : Bool) (n : ℕ) (lines : List Line) → AreContentsApart n lines → set_displayed content on (map (with_own_flag flags) lines) ≡ map (with_own_flag (then_flag content on flags)) lines
set_next flags content on n [] a = refl
set_next flags content on n (line ∷ lines) a =
    let own : eqb (with_own_flag flags line).content.0 content.0 ≡ eqb line.content.0 content.0 = ap (λ (h : Handle). eqb h.0 content.0) (same_content (flags line.content.0) line) in
    by_bool (eqb line.content.0 content.0) _
    (λ t.
    let here : eqb content.0 line.content.0 ≡ true = (let z = t in grind (arith, nat_tests)) in
    let absent : has_content content lines ≡ false = ap (λ c. has_content (record { 0 = c }) lines) (sym (eqb-true line.content.0 content.0 t)) ∙ a.1 in
    rw (own ∙ t, here) (λ i. set_over (flags line.content.0) on line i ∷ sym (not_set flags content on lines absent) i))
    (λ t.
    let other : eqb content.0 line.content.0 ≡ false = (let z = t in grind (arith, nat_tests)) in
    rw (own ∙ t, other) (ap (λ ls. with_own_flag flags line ∷ ls) (set_next flags content on n lines a.2)))

flipped_from : (flags : ℕ → Option Bool) (n : ℕ) (flips : List Flip) (lines : List Line) → AreContentsApart n lines → with_flips flips (map (with_own_flag flags) lines) ≡ map (with_own_flag (λ c. last_from (flags c) c flips)) lines
flipped_from flags n [] lines a = refl
flipped_from flags n (flip ∷ flips) lines a =
    ap (with_flips flips) (set_next flags flip.content flip.displayed n lines a)
    ∙ flipped_from (then_flag flip.content flip.displayed flags) n flips lines a

no_flags : (lines : List Line) → map (with_own_flag (λ c. None)) lines ≡ lines
no_flags [] = refl
no_flags (line ∷ lines) = ap (λ ls. line ∷ ls) (no_flags lines)

-- flips one after another come to the last flag of each content
pub flipped_last : (n : ℕ) (flips : List Flip) (lines : List Line) → AreContentsApart n lines → with_flips flips lines ≡ map (with_own_flag (last_flag flips)) lines
flipped_last n flips lines a = ap (with_flips flips) (sym (no_flags lines)) ∙ flipped_from (λ c. None) n flips lines a

-- ---- the first flip of a line that is not held

some_last : (on : Bool) (content : ℕ) (flips : List Flip) → is_some (last_from (Some on) content flips) ≡ true
some_last on content [] = refl
some_last on content (flip ∷ flips) = by_bool (eqb flip.content.0 content) _ (λ t. rw t (some_last flip.displayed content flips)) (λ t. rw t (some_last on content flips))

found_alike : (taken : ℕ → Option Bool) (held : ℕ → Bool) (flags : ℕ → Option Bool) (flips : List Flip) → ((c : ℕ) → is_some (last_from (flags c) c flips) ≡ true → is_some (taken c) ≡ not (held c))
    → find (λ (flip : Flip). is_some (taken flip.content.0)) flips ≡ find (λ (flip : Flip). not (held flip.content.0)) flips
found_alike taken held flags [] e = refl
found_alike taken held flags (flip ∷ flips) e =
    let own = e flip.content.0 (rw (eq-eqb flip.content.0 flip.content.0 refl) (some_last flip.displayed flip.content.0 flips)) in
    let rest = found_alike taken held (then_flag flip.content flip.displayed flags) flips e in
    λ i. cond (own i) (Some flip) (rest i)

pub first_alike : (flags taken : ℕ → Option Bool) (held : ℕ → Bool) (flips : List Flip) → ((c : ℕ) → flags c ≡ last_flag flips c) → ((c : ℕ) → taken c ≡ cond (held c) None (flags c))
    → find (λ (flip : Flip). is_some (taken flip.content.0)) flips ≡ find (λ (flip : Flip). not (held flip.content.0)) flips
first_alike flags taken held flips last left = found_alike taken held (λ c. None) flips
    (λ c t. ap is_some (left c) ∙ by_bool (held c) _ (λ u. rw u refl) (λ u. rw u (ap is_some (last c) ∙ t)))
