-- What is kept of the buffers after an edit, and the groups that it shows.
use Rattle.std.proofs.Common.{◌≡◌, ℕ, ◌<◌, Bool, true, false, cond, ◌||◌, eqb, List, [], ◌∷◌, ◌++◌, Option, Some, None, option_map, unwrap_or, map, is_some, refl, ap, sym, subst, ◌∙◌, bytes_eq, arith, eqb-true, eq-eqb}
use Rattle.std.proofs.lemmas.Bool.{false≢true, true≢false, or_parts, cond-true, cond-false}
use Rattle.std.proofs.lemmas.Bool.Decides.{nat_tests}
use Rattle.std.proofs.lemmas.List.{map-append}
use Rattle.std.proofs.lemmas.List.Folds.{list_any-append}
use Rattle.std.specs.HashMap.{HashMap}
use Rattle.std.specs.Cmp.Lexicographic.{bytes_decides}
use Rattle.std.specs.declared.alloc.Global.{Global}
use Rattle.std.specs.declared.vec.Vec.{Vec}
use Rattle.wc_text.specs.declared.names.Handle.{Handle}
use Rattle.wc_buffers.specs.declared.row.BufferEntry.{BufferEntry}
use Rattle.wc_buffers.specs.Calls.{handle_of, with_full_name}
use Rattle.wc_buffers.specs.Groups.{in_group, has, take_out, update}
use Rattle.wc_buffers.specs.Kept.{at_handle, at_name, blank, entry_at, groups_of_handles, AreBuffersKept, IsBuffer, IsEntryChanged}
use Rattle.wc_buffers.specs.Table.{key}
use Rattle.wc_buffers.proofs.GroupLaws.{by_bool, take_out-map, has_tells, times-take_out}
use Rattle.wc_buffers.proofs.Shown.{key_at}

abbrev Entries : Type 0 → Type 0
Entries S = HashMap ℕ BufferEntry S

abbrev Names : Type 0 → Type 0
Names T = HashMap (Vec ℕ Global) Handle T

-- ---- maps that have the same everywhere

pub kept_same : {S T : Type 0} → (gs : List (List Handle)) (es es2 : Entries S) (ns ns2 : Names T) → ((q : ℕ) → at_handle es2 q ≡ at_handle es q) → ((s : List ℕ) → at_name ns2 s ≡ at_name ns s) → AreBuffersKept gs es ns → AreBuffersKept gs es2 ns2
kept_same gs es es2 ns ns2 e n kept = record {
  stored = λ h. ap is_some (e h) ∙ kept.stored h;
  keyed = λ h x i. kept.keyed h x (sym (e h) ∙ i);
  fit = λ h x i. kept.fit h x (sym (e h) ∙ i);
  never_null = e 0 ∙ kept.never_null;
  leads = λ h x i. n x.row.full_name ∙ kept.leads h x (sym (e h) ∙ i);
  led = λ name h i. let r = kept.led name h (sym (n name) ∙ i) in (r.0, e h.0 ∙ r.1, r.2);
}

pub shown_same : {S : Type 0} → (gs : List (List Handle)) (es es2 : Entries S) → ((q : ℕ) → at_handle es2 q ≡ at_handle es q) → groups_of_handles es2 gs ≡ groups_of_handles es gs
shown_same gs es es2 e =
    let same : (λ (h : Handle). entry_at es2 h) ≡ (λ (h : Handle). entry_at es h) = λ i h. unwrap_or (e h.0 i) (blank h) in
    λ i. map (map (same i)) gs

-- ---- groups of the same handles

pub kept_moved : {S T : Type 0} → (gs gs2 : List (List Handle)) (es : Entries S) (ns : Names T) → ((q : ℕ) → has key q gs2 ≡ has key q gs) → AreBuffersKept gs es ns → AreBuffersKept gs2 es ns
kept_moved gs gs2 es ns same kept = record {
  stored = λ h. kept.stored h ∙ sym (same h);
  keyed = kept.keyed;
  fit = kept.fit;
  never_null = kept.never_null;
  leads = kept.leads;
  led = kept.led;
}

-- ---- maps that differ under one handle

-- where a handle is not there, what is stored under it does not matter
shown_other-in : {S : Type 0} → (h : ℕ) (g : List Handle) (es es2 : Entries S) → in_group key h g ≡ false → ((q : ℕ) → eqb h q ≡ false → at_handle es2 q ≡ at_handle es q) → map (entry_at es2) g ≡ map (entry_at es) g
shown_other-in h [] es es2 e same = refl
shown_other-in h (x ∷ xs) es es2 e same =
    let o = or_parts (eqb x.0 h) (in_group key h xs) e in
    let other : eqb h x.0 ≡ false = grind (arith, nat_tests, o) in
    let here = same x.0 other in
    let rest = shown_other-in h xs es es2 o.1 same in
    λ i. unwrap_or (here i) (blank x) ∷ rest i

shown_other : {S : Type 0} → (h : ℕ) (gs : List (List Handle)) (es es2 : Entries S) → has key h gs ≡ false → ((q : ℕ) → eqb h q ≡ false → at_handle es2 q ≡ at_handle es q) → groups_of_handles es2 gs ≡ groups_of_handles es gs
shown_other h [] es es2 e same = refl
shown_other h (g ∷ gs) es es2 e same =
    let o = or_parts (in_group key h g) (has key h gs) e in
    let here = shown_other-in h g es es2 o.0 same in
    let rest = shown_other h gs es es2 o.1 same in
    λ i. here i ∷ rest i

set_here : {S : Type 0} → (h : ℕ) (es es2 : Entries S) (new : Option BufferEntry) → ((q : ℕ) → at_handle es2 q ≡ cond (eqb h q) new (at_handle es q)) → at_handle es2 h ≡ new
set_here h es es2 new e = let t : eqb h h ≡ true = grind (arith, nat_tests) in e h ∙ cond-true (eqb h h) new (at_handle es h) t

set_there : {S : Type 0} → (h : ℕ) (es es2 : Entries S) (new : Option BufferEntry) → ((q : ℕ) → at_handle es2 q ≡ cond (eqb h q) new (at_handle es q)) → (q : ℕ) → eqb h q ≡ false → at_handle es2 q ≡ at_handle es q
set_there h es es2 new e q t = e q ∙ cond-false (eqb h q) new (at_handle es q) t

-- ---- a buffer that is put in

has-added : (q h : ℕ) (gs : List (List Handle)) → has key q (gs ++ (record { 0 = h } ∷ []) ∷ []) ≡ (has key q gs || eqb h q)
has-added q h gs = list_any-append (in_group key q) gs ((record { 0 = h } ∷ []) ∷ []) ∙ by (has key q gs) (eqb h q)
  where
    by : (a b : Bool) → (a || ((b || false) || false)) ≡ (a || b)
    by true b = refl
    by false true = refl
    by false false = refl

pub shown_added : {S : Type 0} → (e : BufferEntry) (gs : List (List Handle)) (es es2 : Entries S) → has key e.row.handle.0 gs ≡ false → ((q : ℕ) → at_handle es2 q ≡ cond (eqb e.row.handle.0 q) (Some e) (at_handle es q)) → groups_of_handles es2 (gs ++ (e.row.handle ∷ []) ∷ []) ≡ groups_of_handles es gs ++ (e ∷ []) ∷ []
shown_added e gs es es2 absent new =
    let here = set_here e.row.handle.0 es es2 (Some e) new in
    let rest = shown_other e.row.handle.0 gs es es2 absent (set_there e.row.handle.0 es es2 (Some e) new) in
    map-append (map (entry_at es2)) gs ((e.row.handle ∷ []) ∷ []) ∙ (λ i. rest i ++ (unwrap_or (here i) (blank e.row.handle) ∷ []) ∷ [])

-- no buffer that is there has this name
abbrev pub IsFree : {T : Type 0} → List ℕ → Names T → Type 0
IsFree name ns = at_name ns name ≡ None

pub kept_added : {S T : Type 0} → (e : BufferEntry) (gs : List (List Handle)) (es es2 : Entries S) (ns ns2 : Names T) → 0 < e.row.handle.0 → has key e.row.handle.0 gs ≡ false → IsBuffer e → IsFree e.row.full_name ns
    → ((q : ℕ) → at_handle es2 q ≡ cond (eqb e.row.handle.0 q) (Some e) (at_handle es q))
    → ((s : List ℕ) → at_name ns2 s ≡ cond (bytes_eq e.row.full_name s) (Some e.row.handle) (at_name ns s))
    → AreBuffersKept gs es ns → AreBuffersKept (gs ++ (e.row.handle ∷ []) ∷ []) es2 ns2
kept_added e gs es es2 ns ns2 above absent fits free new names kept = record {
  stored = λ q. stored q (eqb e.row.handle.0 q) refl;
  keyed = λ q x i. keyed q x i (eqb e.row.handle.0 q) refl;
  fit = λ q x i. fit q x i (eqb e.row.handle.0 q) refl;
  never_null = set_there e.row.handle.0 es es2 (Some e) new 0 (grind (arith, nat_tests)) ∙ kept.never_null;
  leads = λ q x i. leads q x i (eqb e.row.handle.0 q) refl;
  led = λ s h i. led s h i (bytes_eq e.row.full_name s) refl;
}
  where
    there : (q : ℕ) (x : BufferEntry) → at_handle es2 q ≡ Some x → eqb e.row.handle.0 q ≡ false → at_handle es q ≡ Some x
    there q x i t = sym (set_there e.row.handle.0 es es2 (Some e) new q t) ∙ i

    here : (q : ℕ) (x : BufferEntry) → at_handle es2 q ≡ Some x → eqb e.row.handle.0 q ≡ true → e ≡ x
    here q x i t = let o : at_handle es2 q ≡ Some e = new q ∙ cond-true (eqb e.row.handle.0 q) (Some e) (at_handle es q) t in let s : Some e ≡ Some x = sym o ∙ i in cc

    stored : (q : ℕ) (t : Bool) → eqb e.row.handle.0 q ≡ t → is_some (at_handle es2 q) ≡ has key q (gs ++ (e.row.handle ∷ []) ∷ [])
    stored q true t = let o : at_handle es2 q ≡ Some e = new q ∙ cond-true (eqb e.row.handle.0 q) (Some e) (at_handle es q) t in ap is_some o ∙ sym (has-added q e.row.handle.0 gs ∙ rw t (or_true (has key q gs)))
      where
        or_true : (b : Bool) → (b || true) ≡ true
        or_true true = refl
        or_true false = refl
    stored q false t = ap is_some (set_there e.row.handle.0 es es2 (Some e) new q t) ∙ kept.stored q ∙ sym (has-added q e.row.handle.0 gs ∙ rw t (or_false (has key q gs)))
      where
        or_false : (b : Bool) → (b || false) ≡ b
        or_false true = refl
        or_false false = refl

    keyed : (q : ℕ) (x : BufferEntry) → at_handle es2 q ≡ Some x → (t : Bool) → eqb e.row.handle.0 q ≡ t → x.row.handle.0 ≡ q
    keyed q x i true t = subst (λ (y : BufferEntry). y.row.handle.0 ≡ q) (here q x i t) (eqb-true e.row.handle.0 q t)
    keyed q x i false t = kept.keyed q x (there q x i t)

    fit : (q : ℕ) (x : BufferEntry) → at_handle es2 q ≡ Some x → (t : Bool) → eqb e.row.handle.0 q ≡ t → IsBuffer x
    fit q x i true t = subst IsBuffer (here q x i t) fits
    fit q x i false t = kept.fit q x (there q x i t)

    name_here : at_name ns2 e.row.full_name ≡ Some e.row.handle
    name_here = names e.row.full_name ∙ cond-true (bytes_eq e.row.full_name e.row.full_name) (Some e.row.handle) (at_name ns e.row.full_name) ((bytes_decides e.row.full_name e.row.full_name).1 refl)

    leads : (q : ℕ) (x : BufferEntry) → at_handle es2 q ≡ Some x → (t : Bool) → eqb e.row.handle.0 q ≡ t → at_name ns2 x.row.full_name ≡ Some x.row.handle
    leads q x i true t = subst (λ (y : BufferEntry). at_name ns2 y.row.full_name ≡ Some y.row.handle) (here q x i t) name_here
    leads q x i false t =
        let old = kept.leads q x (there q x i t) in
        by_bool (bytes_eq e.row.full_name x.row.full_name) _
        (λ u. let same = (bytes_decides e.row.full_name x.row.full_name).0 u in let none : at_name ns x.row.full_name ≡ None = subst (λ s. at_name ns s ≡ None) same free in absurd cc)
        (λ u. names x.row.full_name ∙ cond-false (bytes_eq e.row.full_name x.row.full_name) (Some e.row.handle) (at_name ns x.row.full_name) u ∙ old)

    led : (s : List ℕ) (h : Handle) → at_name ns2 s ≡ Some h → (t : Bool) → bytes_eq e.row.full_name s ≡ t → (x : BufferEntry) × (at_handle es2 h.0 ≡ Some x) × (x.row.full_name ≡ s)
    led s h i true t =
        let o : at_name ns2 s ≡ Some e.row.handle = names s ∙ cond-true (bytes_eq e.row.full_name s) (Some e.row.handle) (at_name ns s) t in
        let p : Some e.row.handle ≡ Some h = sym o ∙ i in
        let same : e.row.handle ≡ h = cc in
        (e, subst (λ (y : Handle). at_handle es2 y.0 ≡ Some e) same (set_here e.row.handle.0 es es2 (Some e) new), (bytes_decides e.row.full_name s).0 t)
    led s h i false t =
        let o : at_name ns s ≡ Some h = sym (names s ∙ cond-false (bytes_eq e.row.full_name s) (Some e.row.handle) (at_name ns s) t) ∙ i in
        let r = kept.led s h o in
        by_bool (eqb e.row.handle.0 h.0) _
        (λ u.
        let same : e.row.handle.0 ≡ h.0 = eqb-true e.row.handle.0 h.0 u in
        let none : is_some (at_handle es h.0) ≡ false = kept.stored h.0 ∙ subst (λ q. has key q gs ≡ false) same absent in
        absurd (true≢false (sym (ap is_some r.1) ∙ none)))
        (λ u. (r.0, set_there e.row.handle.0 es es2 (Some e) new h.0 u ∙ r.1, r.2))

-- ---- a buffer that is taken out

lacks : (h : ℕ) (gs : List (List Handle)) → has key h (take_out key h gs) ≡ false
lacks h gs = grind (arith, nat_tests, times-take_out key h h gs, has_tells key h (take_out key h gs))

has-taken : (q h : ℕ) (gs : List (List Handle)) → eqb h q ≡ false → has key q (take_out key h gs) ≡ has key q gs
has-taken q h gs t = grind (arith, nat_tests, times-take_out key q h gs, has_tells key q (take_out key h gs), has_tells key q gs)

pub shown_taken : {S T : Type 0} (h : ℕ) (gs : List (List Handle)) (es es2 : Entries S) (ns : Names T) → AreBuffersKept gs es ns → ((q : ℕ) → at_handle es2 q ≡ cond (eqb h q) None (at_handle es q)) → groups_of_handles es2 (take_out key h gs) ≡ take_out handle_of h (groups_of_handles es gs)
shown_taken h gs es es2 ns kept new =
    shown_other h (take_out key h gs) es es2 (lacks h gs) (set_there h es es2 None new)
    ∙ take_out-map (entry_at es) key handle_of (key_at es kept.keyed) h gs

pub kept_taken : {S T : Type 0} (h : ℕ) (e : BufferEntry) (gs : List (List Handle)) (es es2 : Entries S) (ns ns2 : Names T) → at_handle es h ≡ Some e
    → ((q : ℕ) → at_handle es2 q ≡ cond (eqb h q) None (at_handle es q))
    → ((s : List ℕ) → at_name ns2 s ≡ cond (bytes_eq e.row.full_name s) None (at_name ns s))
    → AreBuffersKept gs es ns → AreBuffersKept (take_out key h gs) es2 ns2
kept_taken h e gs es es2 ns ns2 is new names kept = record {
  stored = λ q. stored q (eqb h q) refl;
  keyed = λ q x i. let o = there q x i in kept.keyed q x o.1;
  fit = λ q x i. let o = there q x i in kept.fit q x o.1;
  never_null = new 0 ∙ ap (cond (eqb h 0) None) kept.never_null ∙ none (eqb h 0);
  leads = λ q x i. leads q x (there q x i);
  led = λ s k i. led s k i (bytes_eq e.row.full_name s) refl;
}
  where
    none : (t : Bool) → ◌≡◌ {A = Option BufferEntry} (cond t None None) None
    none true = refl
    none false = refl

    there : (q : ℕ) (x : BufferEntry) → at_handle es2 q ≡ Some x → (eqb h q ≡ false) × (at_handle es q ≡ Some x)
    there q x i = by_bool (eqb h q) _
        (λ t. let none : at_handle es2 q ≡ None = new q ∙ cond-true (eqb h q) None (at_handle es q) t in absurd cc)
        (λ t. (t, sym (set_there h es es2 None new q t) ∙ i))

    stored : (q : ℕ) (t : Bool) → eqb h q ≡ t → is_some (at_handle es2 q) ≡ has key q (take_out key h gs)
    stored q true t = ap is_some (new q ∙ cond-true (eqb h q) None (at_handle es q) t) ∙ sym (subst (λ k. has key k (take_out key h gs) ≡ false) (eqb-true h q t) (lacks h gs))
    stored q false t = ap is_some (set_there h es es2 None new q t) ∙ kept.stored q ∙ sym (has-taken q h gs t)

    -- another buffer has another name
    leads : (q : ℕ) (x : BufferEntry) → (eqb h q ≡ false) × (at_handle es q ≡ Some x) → at_name ns2 x.row.full_name ≡ Some x.row.handle
    leads q x o =
        let old = kept.leads q x o.1 in
        let own = kept.leads h e is in
        by_bool (bytes_eq e.row.full_name x.row.full_name) _
        (λ u.
        let same = (bytes_decides e.row.full_name x.row.full_name).0 u in
        let own2 : at_name ns x.row.full_name ≡ Some e.row.handle = subst (λ s. at_name ns s ≡ Some e.row.handle) same own in
        let p : Some e.row.handle ≡ Some x.row.handle = sym own2 ∙ old in
        let r : e.row.handle ≡ x.row.handle = cc in
        let i : h ≡ q = sym (kept.keyed h e is) ∙ ap (λ (k : Handle). k.0) r ∙ kept.keyed q x o.1 in
        absurd (false≢true (sym o.0 ∙ eq-eqb h q i)))
        (λ u. names x.row.full_name ∙ cond-false (bytes_eq e.row.full_name x.row.full_name) None (at_name ns x.row.full_name) u ∙ old)

    led : (s : List ℕ) (k : Handle) → at_name ns2 s ≡ Some k → (t : Bool) → bytes_eq e.row.full_name s ≡ t → (x : BufferEntry) × (at_handle es2 k.0 ≡ Some x) × (x.row.full_name ≡ s)
    led s k i true t = let none : at_name ns2 s ≡ None = names s ∙ cond-true (bytes_eq e.row.full_name s) None (at_name ns s) t in absurd cc
    led s k i false t =
        let o : at_name ns s ≡ Some k = sym (names s ∙ cond-false (bytes_eq e.row.full_name s) None (at_name ns s) t) ∙ i in
        let r = kept.led s k o in
        by_bool (eqb h k.0) _
        (λ u.
        let j : at_handle es k.0 ≡ Some e = subst (λ q. at_handle es q ≡ Some e) (eqb-true h k.0 u) is in
        let p : Some e ≡ Some r.0 = sym j ∙ r.1 in
        let same : e ≡ r.0 = cc in
        let name : e.row.full_name ≡ s = ap (λ (x : BufferEntry). x.row.full_name) same ∙ r.2 in
        absurd (false≢true (sym t ∙ (bytes_decides e.row.full_name s).1 name)))
        (λ u. (r.0, set_there h es es2 None new k.0 u ∙ r.1, r.2))

-- ---- a buffer that is changed

changed_here : {S : Type 0} (h : ℕ) (f : BufferEntry → BufferEntry) (es es2 : Entries S) → IsEntryChanged h f es es2 → (q : ℕ) (e : BufferEntry) → at_handle es q ≡ Some e → at_handle es2 q ≡ Some (cond (eqb h q) (f e) e)
changed_here h f es es2 new q e i = new q ∙ ap (λ o. cond (eqb h q) (option_map f o) o) i ∙ by (eqb h q)
  where
    by : (t : Bool) → cond t (Some (f e)) (Some e) ≡ Some (cond t (f e) e)
    by true = refl
    by false = refl

changed_nowhere : {S : Type 0} (h : ℕ) (f : BufferEntry → BufferEntry) (es es2 : Entries S) → IsEntryChanged h f es es2 → (q : ℕ) → at_handle es q ≡ None → at_handle es2 q ≡ None
changed_nowhere h f es es2 new q i = new q ∙ ap (λ o. cond (eqb h q) (option_map f o) o) i ∙ by (eqb h q)
  where
    by : (t : Bool) → ◌≡◌ {A = Option BufferEntry} (cond t None None) None
    by true = refl
    by false = refl

-- what it was before
was : {S : Type 0} (h : ℕ) (f : BufferEntry → BufferEntry) (es es2 : Entries S) → IsEntryChanged h f es es2 → (q : ℕ) (x : BufferEntry) → at_handle es2 q ≡ Some x → (e : BufferEntry) × (at_handle es q ≡ Some e) × (x ≡ cond (eqb h q) (f e) e)
was h f es es2 new q x i = by (at_handle es q) refl
  where
    by : (o : Option BufferEntry) → at_handle es q ≡ o → (e : BufferEntry) × (at_handle es q ≡ Some e) × (x ≡ cond (eqb h q) (f e) e)
    by None j = let n = changed_nowhere h f es es2 new q j in absurd cc
    by (Some e) j = let n : Some x ≡ Some (cond (eqb h q) (f e) e) = sym i ∙ changed_here h f es es2 new q e j in (e, j, cc)

pub shown_changed : {S T : Type 0} (h : ℕ) (f : BufferEntry → BufferEntry) (gs : List (List Handle)) (es es2 : Entries S) (ns : Names T) → AreBuffersKept gs es ns → IsEntryChanged h f es es2 → is_some (at_handle es h) ≡ true → groups_of_handles es2 gs ≡ update handle_of h f (groups_of_handles es gs)
shown_changed h f gs es es2 ns kept new there = each gs
  where
    one : (x : Handle) → entry_at es2 x ≡ cond (eqb (handle_of (entry_at es x)) h) (f (entry_at es x)) (entry_at es x)
    one x = by (at_handle es x.0) refl
      where
        by : (o : Option BufferEntry) → at_handle es x.0 ≡ o → entry_at es2 x ≡ cond (eqb (handle_of (entry_at es x)) h) (f (entry_at es x)) (entry_at es x)
        by None i =
            let now : entry_at es2 x ≡ blank x = ap (λ o. unwrap_or o (blank x)) (changed_nowhere h f es es2 new x.0 i) in
            let old : entry_at es x ≡ blank x = ap (λ o. unwrap_or o (blank x)) i in
            let other : eqb x.0 h ≡ false = by_bool (eqb x.0 h) _ (λ t. absurd (false≢true (sym (ap is_some i) ∙ subst (λ q. is_some (at_handle es q) ≡ true) (sym (eqb-true x.0 h t)) there))) (λ t. t) in
            now ∙ sym (ap (λ (e : BufferEntry). cond (eqb (handle_of e) h) (f e) e) old ∙ cond-false (eqb x.0 h) (f (blank x)) (blank x) other)
        by (Some e) i =
            let now : entry_at es2 x ≡ cond (eqb h x.0) (f e) e = ap (λ o. unwrap_or o (blank x)) (changed_here h f es es2 new x.0 e i) in
            let old : entry_at es x ≡ e = ap (λ o. unwrap_or o (blank x)) i in
            let handle : handle_of e ≡ x.0 = kept.keyed x.0 e i in
            now ∙ sym (ap (λ (y : BufferEntry). cond (eqb (handle_of y) h) (f y) y) old ∙ ap (λ t. cond t (f e) e) (ap (λ n. eqb n h) handle ∙ flip x.0 h))
          where
            flip : (a b : ℕ) → eqb a b ≡ eqb b a
            flip a b = grind (arith, nat_tests)

    group : (g : List Handle) → map (entry_at es2) g ≡ map (λ (e : BufferEntry). cond (eqb (handle_of e) h) (f e) e) (map (entry_at es) g)
    group [] = refl
    group (x ∷ xs) = let o = one x in let r = group xs in λ i. o i ∷ r i

    each : (hs : List (List Handle)) → groups_of_handles es2 hs ≡ update handle_of h f (groups_of_handles es hs)
    each [] = refl
    each (g ∷ hs) = let o = group g in let r = each hs in λ i. o i ∷ r i

pub kept_changed : {S T : Type 0} (h : ℕ) (f : BufferEntry → BufferEntry) (gs : List (List Handle)) (es es2 : Entries S) (ns : Names T) → ((e : BufferEntry) → (f e).row.handle ≡ e.row.handle) → ((e : BufferEntry) → (f e).row.full_name ≡ e.row.full_name)
    → ((e : BufferEntry) → at_handle es h ≡ Some e → IsBuffer e → IsBuffer (f e)) → IsEntryChanged h f es es2 → AreBuffersKept gs es ns → AreBuffersKept gs es2 ns
kept_changed h f gs es es2 ns same_handle same_name fits new kept = record {
  stored = λ q. stored q (at_handle es q) refl;
  keyed = λ q x i. let o = was h f es es2 new q x i in subst (λ (y : BufferEntry). y.row.handle.0 ≡ q) (sym o.2) (ap (λ (k : Handle). k.0) (handle o.0 (eqb h q)) ∙ kept.keyed q o.0 o.1);
  fit = λ q x i. let o = was h f es es2 new q x i in subst IsBuffer (sym o.2) (fit q o.0 o.1 (eqb h q) refl);
  never_null = changed_nowhere h f es es2 new 0 kept.never_null;
  leads = λ q x i. let o = was h f es es2 new q x i in subst (λ (y : BufferEntry). at_name ns y.row.full_name ≡ Some y.row.handle) (sym o.2) (ap (at_name ns) (name o.0 (eqb h q)) ∙ kept.leads q o.0 o.1 ∙ ap Some (sym (handle o.0 (eqb h q))));
  led = λ s k i. let r = kept.led s k i in (cond (eqb h k.0) (f r.0) r.0, changed_here h f es es2 new k.0 r.0 r.1, name r.0 (eqb h k.0) ∙ r.2);
}
  where
    handle : (e : BufferEntry) (t : Bool) → (cond t (f e) e).row.handle ≡ e.row.handle
    handle e true = same_handle e
    handle e false = refl

    name : (e : BufferEntry) (t : Bool) → (cond t (f e) e).row.full_name ≡ e.row.full_name
    name e true = same_name e
    name e false = refl

    fit : (q : ℕ) (e : BufferEntry) → at_handle es q ≡ Some e → (t : Bool) → eqb h q ≡ t → IsBuffer (cond t (f e) e)
    fit q e i true t = fits e (subst (λ k. at_handle es k ≡ Some e) (sym (eqb-true h q t)) i) (kept.fit q e i)
    fit q e i false t = kept.fit q e i

    stored : (q : ℕ) (o : Option BufferEntry) → at_handle es q ≡ o → is_some (at_handle es2 q) ≡ has key q gs
    stored q None i = ap is_some (changed_nowhere h f es es2 new q i) ∙ sym (sym (kept.stored q) ∙ ap is_some i)
    stored q (Some e) i = ap is_some (changed_here h f es es2 new q e i) ∙ sym (sym (kept.stored q) ∙ ap is_some i)

-- nothing was changed
pub unchanged : {S : Type 0} (h : ℕ) (es es2 : Entries S) → IsEntryChanged h (λ e. e) es es2 → (q : ℕ) → at_handle es2 q ≡ at_handle es q
unchanged h es es2 new q = new q ∙ by (eqb h q) (at_handle es q)
  where
    by : (t : Bool) (o : Option BufferEntry) → cond t (option_map (λ e. e) o) o ≡ o
    by true None = refl
    by true (Some e) = refl
    by false o = refl

-- ---- a buffer that gets another full name

pub kept_renamed : {S T : Type 0} (k : Handle) (e : BufferEntry) (name : List ℕ) (gs : List (List Handle)) (es es2 : Entries S) (ns ns1 ns2 : Names T) → at_handle es k.0 ≡ Some e
    → (IsBuffer e → IsBuffer (with_full_name name e))
    → ((other : Handle) → at_name ns name ≡ Some other → other.0 ≡ k.0)
    → IsEntryChanged k.0 (with_full_name name) es es2
    → ((s : List ℕ) → at_name ns1 s ≡ cond (bytes_eq e.row.full_name s) None (at_name ns s))
    → ((s : List ℕ) → at_name ns2 s ≡ cond (bytes_eq name s) (Some k) (at_name ns1 s))
    → AreBuffersKept gs es ns → AreBuffersKept gs es2 ns2
kept_renamed {S} {T} k e name gs es es2 ns ns1 ns2 is fits free new left put kept = record {
  stored = λ q. stored q (at_handle es q) refl;
  keyed = λ q x i. let o = was k.0 f es es2 new q x i in subst (λ (y : BufferEntry). y.row.handle.0 ≡ q) (sym o.2) (ap (λ (j : Handle). j.0) (handle o.0 (eqb k.0 q)) ∙ kept.keyed q o.0 o.1);
  fit = λ q x i. let o = was k.0 f es es2 new q x i in subst IsBuffer (sym o.2) (fit q o.0 o.1 (eqb k.0 q) refl);
  never_null = changed_nowhere k.0 f es es2 new 0 kept.never_null;
  leads = λ q x i. let o = was k.0 f es es2 new q x i in subst (λ (y : BufferEntry). at_name ns2 y.row.full_name ≡ Some y.row.handle) (sym o.2) (leads q o.0 o.1 (eqb k.0 q) refl);
  led = λ s j i. led s j i (bytes_eq name s) refl;
}
  where
    f : BufferEntry → BufferEntry
    f = with_full_name name

    handle : (x : BufferEntry) (t : Bool) → (cond t (with_full_name name x) x).row.handle ≡ x.row.handle
    handle x true = refl
    handle x false = refl

    own : (q : ℕ) (x : BufferEntry) → at_handle es q ≡ Some x → eqb k.0 q ≡ true → x ≡ e
    own q x i t = let j : at_handle es q ≡ Some e = subst (λ n. at_handle es n ≡ Some e) (eqb-true k.0 q t) is in let p : Some x ≡ Some e = sym i ∙ j in cc

    own_handle : e.row.handle ≡ k
    own_handle = let same : e.row.handle.0 ≡ k.0 = kept.keyed k.0 e is in λ i. record { 0 = same i }

    fit : (q : ℕ) (x : BufferEntry) → at_handle es q ≡ Some x → (t : Bool) → eqb k.0 q ≡ t → IsBuffer (cond t (with_full_name name x) x)
    fit q x i true t = subst (λ (y : BufferEntry). IsBuffer (with_full_name name y)) (sym (own q x i t)) (fits (kept.fit k.0 e is))
    fit q x i false t = kept.fit q x i

    stored : (q : ℕ) (o : Option BufferEntry) → at_handle es q ≡ o → is_some (at_handle es2 q) ≡ has key q gs
    stored q None i = ap is_some (changed_nowhere k.0 (with_full_name name) es es2 new q i) ∙ sym (sym (kept.stored q) ∙ ap is_some i)
    stored q (Some x) i = ap is_some (changed_here k.0 (with_full_name name) es es2 new q x i) ∙ sym (sym (kept.stored q) ∙ ap is_some i)

    named_now : at_name ns2 name ≡ Some k
    named_now = put name ∙ cond-true (bytes_eq name name) (Some k) (at_name ns1 name) ((bytes_decides name name).1 refl)

    leads : (q : ℕ) (x : BufferEntry) → at_handle es q ≡ Some x → (t : Bool) → eqb k.0 q ≡ t → at_name ns2 (cond t (with_full_name name x) x).row.full_name ≡ Some (cond t (with_full_name name x) x).row.handle
    leads q x i true t = named_now ∙ ap Some (sym (ap (λ (y : BufferEntry). y.row.handle) (own q x i t) ∙ own_handle))
    leads q x i false t =
        let old = kept.leads q x i in
        let apart : (j : Handle) → at_name ns x.row.full_name ≡ Some j → j.0 ≡ k.0 → ⊥ = λ j a b.
        let p : Some j ≡ Some x.row.handle = sym a ∙ old in
        let r : j ≡ x.row.handle = cc in
        let m : k.0 ≡ q = sym b ∙ ap (λ (y : Handle). y.0) r ∙ kept.keyed q x i in
        false≢true (sym t ∙ eq-eqb k.0 q m) in
        by_bool (bytes_eq name x.row.full_name) _
        (λ u.
        let same = (bytes_decides name x.row.full_name).0 u in
        absurd (apart x.row.handle old (free x.row.handle (subst (λ s. at_name ns s ≡ Some x.row.handle) (sym same) old))))
        (λ u. by_bool (bytes_eq e.row.full_name x.row.full_name) _
        (λ v.
        let same = (bytes_decides e.row.full_name x.row.full_name).0 v in
        absurd (apart e.row.handle (subst (λ s. at_name ns s ≡ Some e.row.handle) same (kept.leads k.0 e is)) (kept.keyed k.0 e is)))
        (λ v. put x.row.full_name ∙ cond-false (bytes_eq name x.row.full_name) (Some k) (at_name ns1 x.row.full_name) u ∙ left x.row.full_name ∙ cond-false (bytes_eq e.row.full_name x.row.full_name) None (at_name ns x.row.full_name) v ∙ old))

    led : (s : List ℕ) (j : Handle) → at_name ns2 s ≡ Some j → (t : Bool) → bytes_eq name s ≡ t → (x : BufferEntry) × (at_handle es2 j.0 ≡ Some x) × (x.row.full_name ≡ s)
    led s j i true t =
        let o : at_name ns2 s ≡ Some k = put s ∙ cond-true (bytes_eq name s) (Some k) (at_name ns1 s) t in
        let p : Some k ≡ Some j = sym o ∙ i in
        let same : k ≡ j = cc in
        let u : eqb k.0 k.0 ≡ true = eq-eqb k.0 k.0 refl in
        let now : at_handle es2 k.0 ≡ Some (with_full_name name e) = changed_here k.0 (with_full_name name) es es2 new k.0 e is ∙ ap Some (cond-true (eqb k.0 k.0) (with_full_name name e) e u) in
        (with_full_name name e, subst (λ (y : Handle). at_handle es2 y.0 ≡ Some (with_full_name name e)) same now, (bytes_decides name s).0 t)
    led s j i false t =
        let a : at_name ns1 s ≡ Some j = sym (put s ∙ cond-false (bytes_eq name s) (Some k) (at_name ns1 s) t) ∙ i in
        by_bool (bytes_eq e.row.full_name s) _
        (λ u. let none : at_name ns1 s ≡ None = left s ∙ cond-true (bytes_eq e.row.full_name s) None (at_name ns s) u in absurd cc)
        (λ u.
        let b : at_name ns s ≡ Some j = sym (left s ∙ cond-false (bytes_eq e.row.full_name s) None (at_name ns s) u) ∙ a in
        let r = kept.led s j b in
        by_bool (eqb k.0 j.0) _
        (λ v. let same = own j.0 r.0 r.1 v in absurd (false≢true (sym u ∙ (bytes_decides e.row.full_name s).1 (ap (λ (x : BufferEntry). x.row.full_name) (sym same) ∙ r.2))))
        (λ v. (r.0, changed_here k.0 (with_full_name name) es es2 new j.0 r.0 r.1 ∙ ap Some (cond-false (eqb k.0 j.0) (with_full_name name r.0) r.0 v), r.2)))
