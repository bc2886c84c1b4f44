-- The keys of signals, a name at a time.
use Rattle.std.proofs.Common.{◌≡◌, ℕ, suc, ◌<◌, Bool, true, false, cond, List, [], ◌∷◌, ◌++◌, length, map, Option, Some, None, option_map, refl, ap, sym, ◌∙◌, arith, append_assoc, append-nil}
use Rattle.std.specs.Prelude.{◌==◌, ◌||◌, bytes_eq}
use Rattle.std.specs.Option.{option_and_then}
use Rattle.std.specs.List.{onto_first}
use Rattle.std.proofs.lemmas.List.{map-append}
use Rattle.wc_text.specs.Splits.{before, text_after}
use Rattle.wc_triggers.specs.Hooks.{is_among}
use Rattle.wc_triggers.specs.Keys.{signal_key, with_key, each_key, first_places, names_of, names_left, keyed_after, has_key, with_new}
use Rattle.wc_triggers.specs.declared.keys.TriggerKey.{TriggerKey}

-- how much is left of a text, with one more than its length where there is one
abbrev pub left_in : Option (List ℕ) → ℕ
left_in None = 0
left_in (Some text) = suc (length text)

-- the first name, and the others
pub first_name : (text : List ℕ) → names_of text ≡ before 59 text ∷ names_left (text_after 59 text)
first_name [] = refl
first_name (b ∷ text) = by (b == 59) (first_name text) where
  by : (t : Bool) → names_of text ≡ before 59 text ∷ names_left (text_after 59 text) →
      cond t ([] ∷ names_of text) (onto_first b (names_of text))
      ≡ cond t [] (b ∷ before 59 text) ∷ names_left (cond t (Some text) (text_after 59 text))
  by true more = refl
  by false more = ap (onto_first b) more

abbrev pub Keys : Type 0
Keys = List TriggerKey

abbrev pub keys_named : Keys → List (List ℕ)
keys_named keys = map (λ k. k.key) keys

has_key_is : (name : List ℕ) (keys : Keys) → has_key name keys ≡ is_among (keys_named keys) name
has_key_is name [] = refl
has_key_is name (key ∷ keys) = ap (λ t. bytes_eq key.key name || t) (has_key_is name keys)

keyed_by : (keys others : Keys) (key : TriggerKey) (t : Bool) →
    keyed_after (cond t keys (keys ++ key ∷ [])) others
    ≡ keys ++ cond t (first_places (keys_named keys) others) (key ∷ first_places (keys_named keys ++ key.key ∷ []) others)
keyed_by keys others key true = refl
keyed_by keys others key false =
    ap (λ names. (keys ++ key ∷ []) ++ first_places names others) (map-append (λ (k : TriggerKey). k.key) keys (key ∷ []))
    ∙ append_assoc keys (key ∷ []) (first_places (keys_named keys ++ key.key ∷ []) others)

-- a key more
keyed_more : (keys : Keys) (key : TriggerKey) (others : Option Keys) →
    option_map (keyed_after (with_new keys key)) others ≡ option_map (keyed_after keys) (with_key others key)
keyed_more keys key None = refl
keyed_more keys key (Some others) =
    ap (λ t. Some (keyed_after (cond t keys (keys ++ key ∷ [])) others)) (has_key_is key.key keys)
    ∙ ap Some (keyed_by keys others key (is_among (keys_named keys) key.key))

module _ (keys : Keys) (text : List ℕ) (all : Option Keys) (so_far : option_map (keyed_after keys) (each_key (names_of text)) ≡ all) where
  first_of : option_map (keyed_after keys) (option_and_then (with_key (each_key (names_left (text_after 59 text)))) (signal_key (before 59 text))) ≡ all
  first_of = ap (λ names. option_map (keyed_after keys) (each_key names)) (sym (first_name text)) ∙ so_far

  pub next_key : (new : Keys) (key : TriggerKey) (front : List ℕ) (others : Option (List ℕ)) →
      front ≡ before 59 text → others ≡ text_after 59 text → Some key ≡ signal_key front → new ≡ with_new keys key →
      option_map (keyed_after new) (each_key (names_left others)) ≡ all
  next_key new key front others f o k n =
      ap (λ l. option_map (keyed_after l) (each_key (names_left others))) n
      ∙ keyed_more keys key (each_key (names_left others))
      ∙ ap (λ r. option_map (keyed_after keys) (with_key (each_key (names_left r)) key)) o
      ∙ ap (λ s. option_map (keyed_after keys) (option_and_then (with_key (each_key (names_left (text_after 59 text)))) s)) (k ∙ ap signal_key f)
      ∙ first_of

  pub wrong_key : (front : List ℕ) → front ≡ before 59 text → None ≡ signal_key front → None ≡ all
  wrong_key front f k =
      ap (λ s. option_map (keyed_after keys) (option_and_then (with_key (each_key (names_left (text_after 59 text)))) s)) (k ∙ ap signal_key f)
      ∙ first_of

pub no_keys : (others : Option Keys) → option_map (keyed_after []) others ≡ option_map (first_places []) others
no_keys None = refl
no_keys (Some others) = refl

pub all_keys : (keys : Keys) (all : Option Keys) → option_map (keyed_after keys) (each_key (names_left None)) ≡ all → Some keys ≡ all
all_keys keys all so_far = ap Some (sym (append-nil keys)) ∙ so_far

-- what comes after a name is less
pub less_left : (text rest : List ℕ) (others : Option (List ℕ)) → (length rest < length text → left_in (Some rest) < left_in (Some text))
less_left text rest others e = omega arith
