-- Words of a resolved line.
use Rattle.std.proofs.Common.{◌≡◌, ◌≢◌, ℕ, zero, suc, ◌+◌, ◌-◌, ◌^◌, ◌<◌, min, nat_le, length, length-append, ◌≤◌, arith, map, take, not, Bool, true, false, cond, eqb, List, [], ◌∷◌, ◌++◌, filter, Option, Some, None, refl, ap, sym, ◌∙◌}
use Rattle.std.specs.List.{slice_split, onto_first, before_first, slice_get, position_or_len}
use Rattle.std.specs.Borrow.{Bor}
use Rattle.std.specs.Option.{option_copied}
use Rattle.wc_text.specs.declared.names.Handle.{Handle}
use Rattle.wc_text.specs.Words.{is_filled}
use Rattle.wc_buffers.specs.declared.row.BufferEntry.{BufferEntry}
use Rattle.wc_buffers.specs.Calls.{EntryGroups}
use Rattle.std.proofs.lemmas.Bool.Decides.{nat_tests}
use Rattle.wc_buffers.specs.Groups.{rows, AllFilled}
use Rattle.wc_buffers.specs.Kept.{handles, AreBuffers}
use Rattle.wc_core.specs.Resolved.{first_in, first_in_group, first_of_number}
use Rattle.wc_text.specs.Splits.{before, text_after}
use Rattle.wc_core.specs.Typed.{tags_of}

-- what is before the first dot
pub plugin_before : (name : List ℕ) → before 46 name ≡ before_first (λ b. eqb b 46) name
plugin_before [] = refl
plugin_before (b ∷ name) = by (eqb b 46) (plugin_before name) where
  by : (t : Bool) → before 46 name ≡ before_first (λ b. eqb b 46) name → cond t [] (b ∷ before 46 name) ≡ take (cond (not t) (1 + position_or_len (λ b. eqb b 46) name) 0) (b ∷ name)
  by true more = refl
  by false more = let next : 1 + position_or_len (λ b. eqb b 46) name ≡ suc (position_or_len (λ b. eqb b 46) name) = omega arith in ap (λ xs. b ∷ xs) more ∙ sym (ap (λ n. take n (b ∷ name)) next)

-- ---- groups by their numbers

-- the first buffer of the group at a place
abbrev pub at_place : List (List Handle) → ℕ → Option Handle
at_place [] n = None
at_place (g ∷ gs) zero = slice_get g 0
at_place (g ∷ gs) (suc n) = at_place gs n

first_same : (group : List BufferEntry) → first_in group ≡ slice_get (map (λ (e : BufferEntry). e.row.handle) group) 0
first_same [] = refl
first_same (e ∷ group) = refl

places_same : (groups : EntryGroups) (n : ℕ) → first_in_group (slice_get groups n) ≡ at_place (handles groups) n
places_same [] n = refl
places_same (g ∷ groups) zero = first_same g
places_same (g ∷ groups) (suc n) = places_same groups n

pub no_number : (groups : EntryGroups) (number : ℕ) → number < 1 → first_of_number groups number ≡ None
no_number groups zero none = refl
no_number groups (suc n) none = absurd (omega arith)

pub numbered_at : (groups : EntryGroups) (number left : ℕ) → 1 ≤ number → left ≡ number - 1 → first_of_number groups number ≡ at_place (handles groups) left
numbered_at groups zero left some e = absurd (omega arith)
numbered_at groups (suc n) left some e = let same : n ≡ left = omega arith in places_same groups n ∙ ap (at_place (handles groups)) same

pub at_first : (g : List Handle) (gs : List (List Handle)) (left : ℕ) → left ≡ 0 → at_place (g ∷ gs) left ≡ slice_get g 0
at_first g gs zero e = refl
at_first g gs (suc n) e = absurd (omega arith)

pub at_next : (g : List Handle) (gs : List (List Handle)) (left next : ℕ) → left ≢ 0 → next ≡ left - 1 → at_place (g ∷ gs) left ≡ at_place gs next
at_next g gs zero next some e = absurd (some refl)
at_next g gs (suc n) next some e = let same : n ≡ next = omega arith in ap (at_place gs) same

-- a number after the last group
slice_get-past : (groups : EntryGroups) (n : ℕ) → length groups ≤ n → slice_get groups n ≡ None
slice_get-past [] n past = refl
slice_get-past (g ∷ groups) zero past = absurd (omega arith)
slice_get-past (g ∷ groups) (suc n) past = slice_get-past groups n (omega arith)

few_groups : (groups : EntryGroups) → AllFilled groups → length groups ≤ length (rows groups)
few_groups [] filled = omega arith
few_groups ([] ∷ groups) filled = absurd filled
few_groups ((e ∷ group) ∷ groups) filled = omega (arith, few_groups groups filled, length-append group (rows groups))

numbered-past : (groups : EntryGroups) (n : ℕ) → length groups < n → first_of_number groups n ≡ None
numbered-past groups zero past = absurd (omega arith)
numbered-past groups (suc n) past = ap first_in_group (slice_get-past groups n (omega arith))

-- a number that is too large for its type
pub numbered_most : (groups : EntryGroups) (n number : ℕ) → AreBuffers groups → number ≡ min n (2 ^ 32 - 1) → first_of_number groups number ≡ first_of_number groups n
numbered_most groups n number are e = by (nat_le n (2 ^ 32 - 1)) refl where
  few : length groups ≤ 256
  few = omega (arith, few_groups groups are.filled, are.few)

  by : (t : Bool) → nat_le n (2 ^ 32 - 1) ≡ t → first_of_number groups number ≡ first_of_number groups n
  by true small = let below : n ≤ 2 ^ 32 - 1 = grind (arith, nat_tests) in let same : number ≡ n = omega arith in ap (first_of_number groups) same
  by false large = let above : 2 ^ 32 - 1 < n = grind (arith, nat_tests) in numbered-past groups number (omega (arith, few)) ∙ sym (numbered-past groups n (omega (arith, few)))

-- ---- tags

abbrev parts_after : Option (List ℕ) → List (List ℕ)
parts_after None = []
parts_after (Some text) = slice_split (λ b. eqb b 44) text

parts_front : (text : List ℕ) → slice_split (λ b. eqb b 44) text ≡ before 44 text ∷ parts_after (text_after 44 text)
parts_front [] = refl
parts_front (b ∷ text) = by (eqb b 44) (parts_front text) where
  by : (t : Bool) → slice_split (λ b. eqb b 44) text ≡ before 44 text ∷ parts_after (text_after 44 text)
      → cond t ([] ∷ slice_split (λ b. eqb b 44) text) (onto_first b (slice_split (λ b. eqb b 44) text)) ≡ cond t [] (b ∷ before 44 text) ∷ parts_after (cond t (Some text) (text_after 44 text))
  by true more = refl
  by false more = ap (onto_first b) more

-- the tags of what is left of a word, where something is
abbrev pub tags_left : Option (Bor (List ℕ)) → List (List ℕ)
tags_left None = []
tags_left (Some text) = tags_of text.now

abbrev tags_after : Option (List ℕ) → List (List ℕ)
tags_after o = filter is_filled (parts_after o)

tags_left-text_after : (left : Option (Bor (List ℕ))) → tags_left left ≡ tags_after (option_copied left)
tags_left-text_after None = refl
tags_left-text_after (Some text) = refl

one_more : (b : Bool) (tag : List ℕ) (tags : List (List ℕ)) → cond b (tag ∷ tags) tags ≡ cond b (tag ∷ []) [] ++ tags
one_more true tag tags = refl
one_more false tag tags = refl

-- the first tag, and the others
pub tags_split : (text : List ℕ) (left : Option (Bor (List ℕ))) → option_copied left ≡ text_after 44 text → tags_of text ≡ filter is_filled (before 44 text ∷ []) ++ tags_left left
tags_split text left e =
    ap (filter is_filled) (parts_front text) ∙ one_more (is_filled (before 44 text)) (before 44 text) (tags_after (text_after 44 text))
    ∙ ap (λ tags. filter is_filled (before 44 text ∷ []) ++ tags) (sym (tags_left-text_after left ∙ ap tags_after e))

-- what `numbered` needs
pub ruleset numbered_facts = (numbered_at, at_next, at_first, numbered_most)
