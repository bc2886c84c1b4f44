-- What the groups of buffers are, as the handles and what is stored under them show them.
use Rattle.std.proofs.Common.{◌≡◌, ℕ, Bool, true, false, ◌&&◌, ◌||◌, ◌+◌, eqb, List, [], ◌∷◌, Option, Some, None, option_map, unwrap_or, find, map, length, is_some, refl, ap, sym, ◌∙◌, eqb-true}
use Rattle.std.proofs.lemmas.Bool.{false≢true, or_parts}
use Rattle.std.proofs.lemmas.List.{length-map}
use Rattle.std.proofs.lemmas.List.Folds.{list_any-append}
use Rattle.std.specs.HashMap.{HashMap}
use Rattle.std.specs.List.{list_any}
use Rattle.std.specs.declared.alloc.Global.{Global}
use Rattle.std.specs.declared.vec.Vec.{Vec}
use Rattle.wc_text.specs.declared.names.Handle.{Handle}
use Rattle.wc_buffers.specs.declared.row.BufferEntry.{BufferEntry}
use Rattle.wc_buffers.specs.Calls.{handle_of, number, are_together, is_alone}
use Rattle.wc_buffers.specs.Groups.{rows, in_group, has, place, row_of}
use Rattle.wc_buffers.specs.Kept.{at_handle, blank, entry_at, groups_of_handles, AreBuffersKept, handles}
use Rattle.wc_buffers.specs.Table.{key}
use Rattle.wc_buffers.proofs.GroupLaws.{by_bool, list_any-map, in_group-map, has-map, place-map, row_of-map, rows-map}

-- the entry of a handle has that handle
pub key_at : {S : Type 0} (entries : HashMap ℕ BufferEntry S) → ((h : ℕ) (e : BufferEntry) → at_handle entries h ≡ Some e → e.row.handle.0 ≡ h) → (h : Handle) → handle_of (entry_at entries h) ≡ key h
key_at entries keyed h = by (at_handle entries h.0) refl
  where
    by : (o : Option BufferEntry) → at_handle entries h.0 ≡ o → handle_of (unwrap_or o (blank h)) ≡ h.0
    by None e = refl
    by (Some x) e = keyed h.0 x e

-- a handle that is there is found
found_handle : (h : ℕ) (hs : List Handle) → in_group key h hs ≡ true → find (λ x. eqb (key x) h) hs ≡ Some (record { 0 = h })
found_handle h [] e = absurd (false≢true e)
found_handle h (x ∷ xs) e = by (eqb x.0 h) refl e (found_handle h xs)
  where
    by : (t : Bool) → eqb x.0 h ≡ t → in_group key h (x ∷ xs) ≡ true → (in_group key h xs ≡ true → find (λ x. eqb (key x) h) xs ≡ Some (record { 0 = h })) → find (λ x. eqb (key x) h) (x ∷ xs) ≡ Some (record { 0 = h })
    by true t e rec = let same : x.0 ≡ h = eqb-true x.0 h t in rw t (λ i. Some (record { 0 = same i }))
    by false t e rec = rw t (rec (let z = e in rw t at z))

no_handle : (h : ℕ) (hs : List Handle) → in_group key h hs ≡ false → find (λ x. eqb (key x) h) hs ≡ None
no_handle h [] e = refl
no_handle h (x ∷ xs) e = let o = or_parts (eqb x.0 h) (in_group key h xs) e in rw o.0 (no_handle h xs o.1)

pub in_rows : (h : ℕ) (gs : List (List Handle)) → in_group key h (rows gs) ≡ has key h gs
in_rows h [] = refl
in_rows h (g ∷ gs) = list_any-append (λ x. eqb (key x) h) g (rows gs) ∙ ap (λ b. in_group key h g || b) (in_rows h gs)

module _ {S T : Type 0} (gs : List (List Handle)) (entries : HashMap ℕ BufferEntry S) (names : HashMap (Vec ℕ Global) Handle T) (kept : AreBuffersKept gs entries names) where
  same : (h : Handle) → handle_of (entry_at entries h) ≡ key h
  same = key_at entries kept.keyed

  pub has-shown : (h : ℕ) → has handle_of h (groups_of_handles entries gs) ≡ has key h gs
  has-shown h = has-map (entry_at entries) key handle_of same h gs

  pub there-shown : (h : ℕ) → is_some (at_handle entries h) ≡ has handle_of h (groups_of_handles entries gs)
  there-shown h = kept.stored h ∙ sym (has-shown h)

  pub entry-shown : (h : ℕ) → at_handle entries h ≡ row_of handle_of h (groups_of_handles entries gs)
  entry-shown h = sym (row_of-map (entry_at entries) key handle_of same h gs ∙ by_bool (has key h gs) _ here nowhere)
    where
      here : has key h gs ≡ true → option_map (entry_at entries) (row_of key h gs) ≡ at_handle entries h
      here t = ap (option_map (entry_at entries)) (found_handle h (rows gs) (in_rows h gs ∙ t)) ∙ by (at_handle entries h) (kept.stored h ∙ t)
        where
          by : (o : Option BufferEntry) → is_some o ≡ true → Some (unwrap_or o (blank (record { 0 = h }))) ≡ o
          by None i = absurd (false≢true i)
          by (Some e) i = refl

      nowhere : has key h gs ≡ false → option_map (entry_at entries) (row_of key h gs) ≡ at_handle entries h
      nowhere t = ap (option_map (entry_at entries)) (no_handle h (rows gs) (in_rows h gs ∙ t)) ∙ by (at_handle entries h) (kept.stored h ∙ t)
        where
          by : (o : Option BufferEntry) → is_some o ≡ false → None ≡ o
          by None i = refl
          by (Some e) i = absurd (false≢true (sym i))

  pub number-shown : (h : Handle) → option_map (λ n. n + 1) (place key h.0 gs) ≡ number h (groups_of_handles entries gs)
  number-shown h = ap (option_map (λ n. n + 1)) (sym (place-map (entry_at entries) key handle_of same h.0 gs))

  pub rows-shown : length (rows gs) ≡ length (rows (groups_of_handles entries gs))
  rows-shown = sym (ap length (rows-map (entry_at entries) key handle_of same gs) ∙ length-map (rows gs) (entry_at entries))

  pub handles-shown : gs ≡ handles (groups_of_handles entries gs)
  handles-shown = each gs
    where
      one : (g : List Handle) → g ≡ map (λ (e : BufferEntry). e.row.handle) (map (entry_at entries) g)
      one [] = refl
      one (x ∷ xs) = let e = same x in λ i. record { 0 = sym e i } ∷ one xs i

      each : (hs : List (List Handle)) → hs ≡ handles (groups_of_handles entries hs)
      each [] = refl
      each (g ∷ hs) = λ i. one g i ∷ each hs i

  pub together-shown : (h into : Handle) → list_any (λ g. in_group key h.0 g && in_group key into.0 g) gs ≡ are_together h into (groups_of_handles entries gs)
  together-shown h into = sym (list_any-map (map (entry_at entries)) (λ g. in_group handle_of h.0 g && in_group handle_of into.0 g) (λ g. in_group key h.0 g && in_group key into.0 g) both gs)
    where
      both : (g : List Handle) → (in_group handle_of h.0 (map (entry_at entries) g) && in_group handle_of into.0 (map (entry_at entries) g)) ≡ (in_group key h.0 g && in_group key into.0 g)
      both g = rw (in_group-map (entry_at entries) key handle_of same h.0 g, in_group-map (entry_at entries) key handle_of same into.0 g) refl

  pub alone-shown : (h : Handle) → list_any (λ g. in_group key h.0 g && eqb (length g) 1) gs ≡ is_alone h (groups_of_handles entries gs)
  alone-shown h = sym (list_any-map (map (entry_at entries)) (λ g. in_group handle_of h.0 g && eqb (length g) 1) (λ g. in_group key h.0 g && eqb (length g) 1) both gs)
    where
      both : (g : List Handle) → (in_group handle_of h.0 (map (entry_at entries) g) && eqb (length (map (entry_at entries) g)) 1) ≡ (in_group key h.0 g && eqb (length g) 1)
      both g = rw (in_group-map (entry_at entries) key handle_of same h.0 g, length-map g (entry_at entries)) refl
