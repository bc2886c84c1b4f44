-- Patterns that are kept built, each under its own text.
use Rattle.std.proofs.Common.{◌≡◌, ℕ, zero, suc, Bool, true, false, List, [], ◌∷◌, take, Option, Some, None, Result, Ok, Err, OnOk, OnErr, refl, sym, subst, ◌∙◌, ◌-◌, bytes_eq}
use Rattle.std.proofs.lemmas.Option.{none-some, same_Some}
use Rattle.std.specs.Map.{lookup, lookup_entry, remove_entry}
use Rattle.std.specs.Option.{option_map_or}
use Rattle.std.specs.Cmp.Lexicographic.{bytes_decides}
use Rattle.std.specs.declared.alloc.Global.{Global}
use Rattle.std.specs.declared.vec.Vec.{Vec}
use Rattle.lru.specs.LruCache.{LruCache, lru_cache, promoted, put_entries}
use Rattle.wc_eval.specs.Judged.{Built, AreOwn}

abbrev Entry : Type 0
Entry = Vec ℕ Global × List ℕ

abbrev key_eq : Vec ℕ Global → Vec ℕ Global → Bool
key_eq a b = bytes_eq a.items b.items

by_bool : (b : Bool) (P : Type 0) → (b ≡ true → P) → (b ≡ false → P) → P
by_bool true P t f = t refl
by_bool false P t f = f refl

module _ (test : Vec ℕ Global → Bool) where
  pub own_removed : (es : Built) → AreOwn es → AreOwn (remove_entry test es)
  own_removed [] own = own
  own_removed (e ∷ es) own = by_bool (test e.0) _
      (λ t. rw t own.1)
      (λ t. rw t (own.0, own_removed es own.1))

  own_entry : (es : Built) (e : Entry) → AreOwn es → lookup_entry test es ≡ Some e → e.1 ≡ e.0.items
  own_entry [] e own found = absurd (none-some e found)
  own_entry (f ∷ es) e own found = by_bool (test f.0) _
      (λ t. subst (λ (g : Entry). g.1 ≡ g.0.items) (same_Some _ _ (rw t at found)) own.0)
      (λ t. own_entry es e own.1 (rw t at found))

  promoted_by : (es : Built) (o : Option Entry) → AreOwn es → lookup_entry test es ≡ o →
      AreOwn (option_map_or (λ e. e ∷ remove_entry test es) o es)
  promoted_by es None own found = own
  promoted_by es (Some e) own found = (own_entry es e own found, own_removed es own)

  -- as one becomes the last used
  pub own_promoted : (es : Built) → AreOwn es → AreOwn (promoted test es)
  own_promoted es own = promoted_by es (lookup_entry test es) own refl

own_taken : (n : ℕ) (es : Built) → AreOwn es → AreOwn (take n es)
own_taken zero es own = tt
own_taken (suc n) [] own = tt
own_taken (suc n) (e ∷ es) own = (own.0, own_taken n es own.1)

-- the pattern that is found under a text
pub own_found : (text : List ℕ) (es : Built) (found : List ℕ) → AreOwn es →
    Some found ≡ lookup (λ k. bytes_eq text k.items) es → found ≡ text
own_found text [] found own e = absurd (none-some found (sym e))
own_found text (f ∷ es) found own e = by_bool (bytes_eq text f.0.items) _
    (λ t. same_Some _ _ (rw t at e) ∙ own.0 ∙ sym ((bytes_decides text f.0.items).0 t))
    (λ t. own_found text es found own.1 (rw t at e))

module _ (c : LruCache (Vec ℕ Global) (List ℕ)) (key : Vec ℕ Global) (pattern : List ℕ) (is : pattern ≡ key.items) (own : AreOwn c.entries) where
  put_by : (o : Option Entry) → lookup_entry (key_eq key) c.entries ≡ o →
      AreOwn (option_map_or (λ (e : Entry). (e.0, pattern) ∷ remove_entry (key_eq key) c.entries) o ((key, pattern) ∷ take (c.cap - 1) c.entries))
  put_by None found = (is, own_taken _ c.entries own)
  put_by (Some e) found = (is ∙ same_key c.entries e found, own_removed (key_eq key) c.entries own)
    where
      same_key : (es : Built) (e : Entry) → lookup_entry (key_eq key) es ≡ Some e → key.items ≡ e.0.items
      same_key [] e found = absurd (none-some e found)
      same_key (f ∷ es) e found = by_bool (key_eq key f.0) _
          (λ t. subst (λ (g : Entry). key.items ≡ g.0.items) (same_Some _ _ (rw t at found)) ((bytes_decides key.items f.0.items).0 t))
          (λ t. same_key es e (rw t at found))

  -- as one is put
  pub own_put : AreOwn (put_entries key_eq c key pattern)
  own_put = put_by (lookup_entry (key_eq key) c.entries) refl

-- what holds of the patterns that are kept
abbrev pub IsKept : LruCache (Vec ℕ Global) (List ℕ) → Type 0
IsKept c = AreOwn c.entries × (c.cap ≡ 256)

pub kept_promoted : (test : Vec ℕ Global → Bool) (c : LruCache (Vec ℕ Global) (List ℕ)) → IsKept c →
    IsKept (lru_cache (promoted test c.entries) c.cap)
kept_promoted test c kept = (own_promoted test c.entries kept.0, kept.1)

-- as one is put, if memory was found
pub kept_put : {A E : Type 0} (r : Result A E) (c new : LruCache (Vec ℕ Global) (List ℕ)) (key : Vec ℕ Global) (pattern : List ℕ) →
    OnOk r (new ≡ lru_cache (put_entries key_eq c key pattern) c.cap) → OnErr r (new ≡ c) → pattern ≡ key.items → IsKept c → IsKept new
kept_put (Ok x) c new key pattern put same is kept = subst IsKept (sym put) (own_put c key pattern is kept.0, kept.1)
kept_put (Err e) c new key pattern put same is kept = subst IsKept (sym same) kept
