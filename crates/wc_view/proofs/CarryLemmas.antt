-- The values of fields, from the front.
use Rattle.std.proofs.Common.{◌≡◌, ℕ, zero, suc, ◌+◌, ◌<◌, Bool, true, false, List, [], ◌∷◌, length, drop, get_or, Option, Some, None, refl, sym, ap, ◌∙◌, arith}
use Rattle.std.specs.Prelude.{◌==◌, option_map}
use Rattle.std.proofs.lemmas.Bool.Decides.{nat_tests}
use Rattle.std.specs.Option.{option_and_then}
use Rattle.wc_objects.specs.declared.object.Object.{Object}
use Rattle.wc_view.specs.declared.told_buffer.ToldBuffer.{ToldBuffer}
use Rattle.wc_keys.specs.declared.key.Key.{Key}
use Rattle.wc_view.specs.ToldBuffer.{carry, carry_all}
use Rattle.wc_view.specs.Each.{some_if}

at_place : (fs : List Key) (i : ℕ) (f : Key) → i < length fs → f ≡ get_or fs i f → drop i fs ≡ f ∷ drop (suc i) fs
at_place [] i f l is = absurd (omega arith)
at_place (g ∷ fs) zero f l is = ap (λ h. h ∷ fs) (sym is)
at_place (g ∷ fs) (suc i) f l is = at_place fs i f (omega arith) is

at_next : (fs : List Key) (i : ℕ) (f : Key) → i < length fs → f ≡ get_or fs i f → drop i fs ≡ f ∷ drop (i + 1) fs
at_next fs i f l is = let e : suc i ≡ i + 1 = omega arith in at_place fs i f l is ∙ ap (λ k. f ∷ drop k fs) e

-- a value that is put in its place
pub put : {A : Type 0} (f : A → ToldBuffer) (fits : Bool) (x : A) (o : Option A) → some_if fits x ≡ o → some_if fits (f x) ≡ option_map f o
put f true x o e = ap (option_map f) e
put f false x o e = ap (option_map f) e

pub carry_more : (fs : List Key) (i : ℕ) (f : Key) (v : Object) (vs : List Object) (c new : ToldBuffer) (fits : Bool) (all : Option ToldBuffer) → i < length fs → f ≡ get_or fs i f
    → some_if fits new ≡ carry f v c → fits ≡ true → carry_all (drop i fs) (v ∷ vs) c ≡ all → carry_all (drop (i + 1) fs) vs new ≡ all
carry_more fs i f v vs c new fits all l is there t e =
    let some : carry f v c ≡ Some new = sym there ∙ ap (λ b. some_if b new) t in
    sym (ap (λ gs. carry_all gs (v ∷ vs) c) (at_next fs i f l is) ∙ ap (option_and_then (carry_all (drop (i + 1) fs) vs)) some) ∙ e

pub carry_none : (fs : List Key) (i : ℕ) (f : Key) (v : Object) (vs : List Object) (c new : ToldBuffer) (fits : Bool) (all : Option ToldBuffer) → i < length fs → f ≡ get_or fs i f
    → some_if fits new ≡ carry f v c → fits ≡ false → carry_all (drop i fs) (v ∷ vs) c ≡ all → None ≡ all
carry_none fs i f v vs c new fits all l is there t e =
    let none : carry f v c ≡ None = sym there ∙ ap (λ b. some_if b new) t in
    sym (ap (λ gs. carry_all gs (v ∷ vs) c) (at_next fs i f l is) ∙ ap (option_and_then (carry_all (drop (i + 1) fs) vs)) none) ∙ e

pub carry_short : (fs : List Key) (i : ℕ) (vs : List Object) (c : ToldBuffer) (all : Option ToldBuffer) → i < length fs → length vs < 1 → carry_all (drop i fs) vs c ≡ all → None ≡ all
carry_short [] i vs c all l short e = absurd (omega arith)
carry_short (f ∷ fs) i (v ∷ vs) c all l short e = absurd (omega arith)
carry_short (f ∷ fs) zero [] c all l short e = e
carry_short (f ∷ fs) (suc i) [] c all l short e = carry_short fs i [] c all (omega arith) short e

nothing_left : {X : Type 0} (xs : List X) → drop (length xs) xs ≡ []
nothing_left [] = refl
nothing_left (x ∷ xs) = nothing_left xs

at_end : (vs : List Object) (c : ToldBuffer) → some_if (length vs == 0) c ≡ carry_all [] vs c
at_end [] c = refl
at_end (v ∷ vs) c = let z : (length (v ∷ vs) == 0) ≡ false = grind (arith, nat_tests) in ap (λ b. some_if b c) z

pub carry_end : (fs : List Key) (vs : List Object) (c : ToldBuffer) (empty : Bool) (all : Option ToldBuffer) → empty ≡ (length vs == 0) → carry_all (drop (length fs) fs) vs c ≡ all → some_if empty c ≡ all
carry_end fs vs c empty all b e = ap (λ z. some_if z c) b ∙ at_end vs c ∙ sym (ap (λ gs. carry_all gs vs c) (nothing_left fs)) ∙ e

-- what `carry_all` needs
pub ruleset carry_all_facts = (carry_more, carry_none, carry_short, carry_end)
