-- The keys that a text names, as they are read one by one.
use Rattle.std.proofs.Common.{◌≡◌, ℕ, List, [], ◌∷◌, ◌++◌, Option, Some, None, Bool, true, false, cond, not, ◌&&◌, ◌||◌, refl, sym, ap, ◌∙◌, append_assoc, append-nil}
use Rattle.std.specs.List.{filter, filter_map, list_any, cons_option}
use Rattle.std.specs.Prelude.{bytes_eq}
use Rattle.std.proofs.lemmas.Slice.Eq.{bytes_eq-Decides}
use Rattle.wc_keys.specs.declared.key.Key.{Key}
use Rattle.wc_keys.specs.declared.key.KeyList.{KeyList}
use Rattle.wc_text.specs.Splits.{before, text_after}
use Rattle.wc_hdata.specs.Pieces.{pieces_at}
use Rattle.wc_keys.specs.Keys.{key_name, same_key}
use Rattle.wc_hdata.specs.Keys.{has_key, key_named, firsts, named_keys, with_key, keys_asked_in}
use Rattle.wc_hdata.proofs.CutLemmas.{pieces_cut}

-- keys with more of them, one by one
pub adds : List Key → List Key → List Key
adds keys [] = keys
adds keys (key ∷ more) = adds (with_key keys (Some key)) more

-- ---- what is left out
filter_both : (p q r : Key → Bool) → ((key : Key) → r key ≡ (q key && p key)) → (keys : List Key) → filter p (filter q keys) ≡ filter r keys
filter_both p q r same [] = refl
filter_both p q r same (key ∷ keys) = by (q key) (p key) refl (same key) (filter_both p q r same keys) where
  by : (s t : Bool) → p key ≡ t → r key ≡ (s && t) → filter p (filter q keys) ≡ filter r keys
      → filter p (cond s (key ∷ filter q keys) (filter q keys)) ≡ cond (r key) (key ∷ filter r keys) (filter r keys)
  by true true here e more =
      ap (λ (b : Bool). cond b (key ∷ filter p (filter q keys)) (filter p (filter q keys))) here ∙ ap (λ (ks : List Key). key ∷ ks) more
      ∙ sym (ap (λ (b : Bool). cond b (key ∷ filter r keys) (filter r keys)) e)
  by true false here e more =
      ap (λ (b : Bool). cond b (key ∷ filter p (filter q keys)) (filter p (filter q keys))) here ∙ more
      ∙ sym (ap (λ (b : Bool). cond b (key ∷ filter r keys) (filter r keys)) e)
  by false t here e more = more ∙ sym (ap (λ (b : Bool). cond b (key ∷ filter r keys) (filter r keys)) e)

filter_none : (keys : List Key) → filter (λ key. not (has_key [] key)) keys ≡ keys
filter_none [] = refl
filter_none (key ∷ keys) = ap (λ (ks : List Key). key ∷ ks) (filter_none keys)

-- ---- which keys are there
has_push : (keys : List Key) (key other : Key) → has_key (keys ++ key ∷ []) other ≡ (has_key keys other || same_key key other)
has_push [] key other = by (same_key key other) where
  by : (t : Bool) → (t || false) ≡ t
  by true = refl
  by false = refl
has_push (first ∷ keys) key other = by (same_key first other) (has_push keys key other) where
  by : (t : Bool) → has_key (keys ++ key ∷ []) other ≡ (has_key keys other || same_key key other)
      → (t || has_key (keys ++ key ∷ []) other) ≡ ((t || has_key keys other) || same_key key other)
  by true e = refl
  by false e = e

has_same : (keys : List Key) (key other : Key) → same_key key other ≡ true → has_key keys key ≡ has_key keys other
has_same keys key other same =
    ap (λ (n : List ℕ). list_any (λ (k : Key). bytes_eq (key_name k) n) keys) ((bytes_eq-Decides (key_name key) (key_name other)).0 same)

left_out : (keys : List Key) (key other : Key) → has_key keys key ≡ true → not (has_key keys other) ≡ (not (same_key key other) && not (has_key keys other))
left_out keys key other there = by (same_key key other) refl where
  by : (t : Bool) → same_key key other ≡ t → not (has_key keys other) ≡ (not t && not (has_key keys other))
  by true e = ap not (sym (has_same keys key other e) ∙ there)
  by false e = refl

left_push : (keys : List Key) (key other : Key) → not (has_key (keys ++ key ∷ []) other) ≡ (not (same_key key other) && not (has_key keys other))
left_push keys key other = ap not (has_push keys key other) ∙ by (has_key keys other) (same_key key other) where
  by : (s t : Bool) → not (s || t) ≡ (not t && not s)
  by true true = refl
  by true false = refl
  by false true = refl
  by false false = refl

-- one by one they are the first of each
adds_are : (more keys : List Key) → adds keys more ≡ keys ++ filter (λ key. not (has_key keys key)) (firsts more)
unfolding adds
adds_are [] keys = sym (append-nil keys)
adds_are (key ∷ more) keys = by (has_key keys key) refl (adds_are more) where
  by : (t : Bool) → has_key keys key ≡ t → ((ks : List Key) → adds ks more ≡ ks ++ filter (λ other. not (has_key ks other)) (firsts more))
      → adds (cond t keys (keys ++ key ∷ [])) more
      ≡ keys ++ cond (not t) (key ∷ filter (λ other. not (has_key keys other)) (filter (λ other. not (same_key key other)) (firsts more))) (filter (λ other. not (has_key keys other)) (filter (λ other. not (same_key key other)) (firsts more)))
  by true e hypothesis =
      hypothesis keys ∙ ap (λ (ks : List Key). keys ++ ks)
      (sym (filter_both (λ other. not (has_key keys other)) (λ other. not (same_key key other)) (λ other. not (has_key keys other)) (λ other. left_out keys key other e) (firsts more)))
  by false e hypothesis =
      hypothesis (keys ++ key ∷ []) ∙ append_assoc keys (key ∷ []) (filter (λ other. not (has_key (keys ++ key ∷ []) other)) (firsts more))
      ∙ ap (λ (ks : List Key). keys ++ (key ∷ ks))
      (sym (filter_both (λ other. not (has_key keys other)) (λ other. not (same_key key other)) (λ other. not (has_key (keys ++ key ∷ []) other)) (λ other. left_push keys key other) (firsts more)))

adds_firsts : (more : List Key) → adds [] more ≡ firsts more
adds_firsts more = adds_are more [] ∙ filter_none (firsts more)

-- ---- as the names are read one by one
abbrev pub keys_left : KeyList → Option (List ℕ) → List Key
keys_left list rest = filter_map (key_named list) (pieces_at 44 rest)

add_first : (keys more : List Key) (key : Option Key) → adds keys (cons_option key more) ≡ adds (with_key keys key) more
unfolding adds
add_first keys more None = refl
add_first keys more (Some key) = refl

pub keys_more : (list : KeyList) (keys new all : List Key) (key : Option Key) (names name : List ℕ) (rest : Option (List ℕ))
    → adds keys (keys_left list (Some names)) ≡ all → name ≡ before 44 names → rest ≡ text_after 44 names → key ≡ key_named list name → new ≡ with_key keys key
    → adds new (keys_left list rest) ≡ all
keys_more list keys new all key names name rest so_far cut after_it found pushed =
    ap (λ (ks : List Key). adds ks (keys_left list rest)) (pushed ∙ ap (with_key keys) (found ∙ ap (key_named list) cut))
    ∙ ap (λ (o : Option (List ℕ)). adds (with_key keys (key_named list (before 44 names))) (keys_left list o)) after_it
    ∙ sym (add_first keys (keys_left list (text_after 44 names)) (key_named list (before 44 names)))
    ∙ ap (λ (ps : List (List ℕ)). adds keys (filter_map (key_named list) ps)) (sym (pieces_cut 44 names)) ∙ so_far

pub keys_end : (list : KeyList) (keys : List Key) (text : List ℕ) (rest : Option (List ℕ)) → (text ≡ [] → ⊥) → rest ≡ None
    → adds keys (keys_left list rest) ≡ adds [] (keys_left list (Some text)) → keys ≡ keys_asked_in list text
unfolding named_keys adds
keys_end list keys [] rest some none so_far = absurd (some refl)
keys_end list keys (b ∷ text) rest some none so_far =
    ap (λ (o : Option (List ℕ)). adds keys (keys_left list o)) (sym none) ∙ so_far ∙ adds_firsts (keys_left list (Some (b ∷ text)))
