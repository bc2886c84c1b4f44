-- The flags that filters give are of lines that are held, and what is asked of the core is told with its flags.
use Rattle.std.proofs.Common.{◌≡◌, ℕ, Bool, true, false, cond, not, List, [], ◌∷◌, map, filter, find, None, option_map, refl, ap, eqb}
use Rattle.std.specs.List.{AllByRecursion, list_any}
use Rattle.std.proofs.lemmas.Bool.{eq-eqb, or_right}
use Rattle.wc_text.specs.declared.names.Handle.{Handle}
use Rattle.wc_lines.specs.declared.line.Line.{Line}
use Rattle.wc_lines.specs.Ring.{has_content}
use Rattle.wc_model.specs.declared.change.Flip.{Flip}
use Rattle.wc_model.specs.declared.change.What.{What}
use Rattle.wc_model.specs.declared.change.What.TheVariants.{Print, Rename, Flips}
use Rattle.wc_model.specs.declared.refused.ChangeRefused.TheVariants.{NoLine}
use Rattle.wc_model.specs.Apply.{refusal, refusal_of, is_held}
use Rattle.wc_model.specs.Order.{order}
use Rattle.wc_model.specs.World.{World, lines_at}
use Rattle.wc_filters.specs.declared.filter.Filter.{Filter}
use Rattle.wc_rules.specs.Displayed.{is_flipped, flip_of}
use Rattle.wc_core.specs.Fitted.{fitted_what, full_name_at, flips_at, flips_everywhere, flips_change}
use Rattle.wc_mirror_laws.specs.Changes.{IsTold, IsAsked}
use Rattle.wc_mirror_laws.proofs.ListLemmas.{all_more, all_flat}

-- ---- what is asked

pub asked_told : (w : What) → IsAsked w → IsTold w
asked_told (Flips flips) asked = absurd asked
asked_told w asked = asked

-- it is told with its flags
pub fitted_told : (filters : List Filter) (world : World) (buffer : Handle) (w : What) → IsAsked w → IsTold (fitted_what filters world buffer w)
fitted_told filters world buffer (Flips flips) asked = absurd asked
fitted_told filters world buffer (Print line) asked = asked
fitted_told filters world buffer (Rename name flips) asked = asked
fitted_told filters world buffer w asked = asked

-- ---- the flips of filters

find_none : {X : Type 0} (p : X → Bool) (xs : List X) → AllByRecursion (λ x. p x ≡ false) xs → find p xs ≡ None
find_none p [] a = refl
find_none p (x ∷ xs) a = rw a.0 (find_none p xs a.1)

-- what one of them passes some of them do
abbrev IsOne : List ℕ → ℕ → Type 0
IsOne ns n = (test : ℕ → Bool) → test n ≡ true → list_any test ns ≡ true

each_one : (ns : List ℕ) → AllByRecursion (IsOne ns) ns
each_one [] = tt
each_one (n ∷ ns) = (λ test e. rw e refl, all_more (IsOne ns) (IsOne (n ∷ ns)) ns (λ m one test e. or_right (test n) (list_any test ns) (one test e)) (each_one ns))

abbrev IsHeldFlip : World → Flip → Type 0
IsHeldFlip world flip = not (is_held flip.content world) ≡ false

held_at : (world : World) (filters : List Filter) (name : List ℕ) (buffer : ℕ) (lines : List Line) → IsOne (order world.groups) buffer → ((content : Handle) → has_content content lines ≡ true → has_content content (lines_at world buffer) ≡ true)
    → AllByRecursion (IsHeldFlip world) (map flip_of (filter (is_flipped filters name) lines))
held_at world filters name buffer [] one within = tt
held_at world filters name buffer (x ∷ xs) one within =
    by (is_flipped filters name x) (held_at world filters name buffer xs one (λ content t. within content (or_right (eqb x.content.0 content.0) (has_content content xs) t)))
  where
    here : has_content x.content (x ∷ xs) ≡ true
    here = rw (eq-eqb x.content.0 x.content.0 refl) refl

    by : (b : Bool) → AllByRecursion (IsHeldFlip world) (map flip_of (filter (is_flipped filters name) xs)) → AllByRecursion (IsHeldFlip world) (map flip_of (cond b (x ∷ filter (is_flipped filters name) xs) (filter (is_flipped filters name) xs)))
    by true rest = (ap not (one (λ other. has_content x.content (lines_at world other)) (within x.content here)), rest)
    by false rest = rest

-- so they are not refused
pub flips_accepted : (filters : List Filter) (world : World) → refusal world (flips_change (flips_everywhere filters world)) ≡ None
unfolding refusal_of
flips_accepted filters world =
    ap (option_map (λ (flip : Flip). NoLine flip.content))
    (find_none (λ (flip : Flip). not (is_held flip.content world)) (flips_everywhere filters world)
    (all_flat (IsOne (order world.groups)) (IsHeldFlip world) (flips_at filters world) (order world.groups)
    (λ buffer one. held_at world filters (full_name_at world (record { 0 = buffer })) buffer (lines_at world buffer) one (λ content t. t))
    (each_one (order world.groups))))
