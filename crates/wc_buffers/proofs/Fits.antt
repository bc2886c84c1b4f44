-- A buffer that was changed keeps its limits, and its texts are text.
use Rattle.std.proofs.Common.{◌≡◌, ℕ, zero, suc, ◌+◌, ◌≤◌, ◌<◌, Bool, true, false, cond, ◌&&◌, ltb, leb, eqb, ◌⊎◌, inl, inr, List, [], ◌∷◌, Option, Some, None, option_map, find, take, drop, length, get_or, codes, bytes_eq, is_none, All, refl, ap, sym, subst, ◌∙◌, arith, length-take, length-drop, take_all, IsUtf8, IsAscii}
use Rattle.std.specs.List.{position_or_len, before_first, after_first, list_all}
use Rattle.std.proofs.lemmas.Bool.{true≢false, or_parts, and_parts, ltb-true, ltb-false, leb-false, and_cases, eqb-true}
use Rattle.std.proofs.lemmas.Bool.Decides.{nat_tests}
use Rattle.std.proofs.lemmas.List.{drop_all}
use Rattle.std.proofs.lemmas.List.Elements.{All-head, All-tail}
use Rattle.std.proofs.lemmas.List.Sums.{passes_at_first}
use Rattle.std.proofs.lemmas.Str.{IsUtf8-nil, IsUtf8-take, IsUtf8-drop, IsUtf8-from_ascii, IsCharBoundary-before_ascii, IsCharBoundary-after_ascii}
use Rattle.wc_text.specs.Cut.{cut_of}
use Rattle.wc_text.specs.declared.names.Pair.{Pair}
use Rattle.wc_text.proofs.CutLemmas.{cut_within, cut_utf8}
use Rattle.wc_buffers.specs.declared.row.BufferRow.{BufferRow}
use Rattle.wc_buffers.specs.declared.row.BufferEntry.{BufferEntry}
use Rattle.wc_buffers.specs.declared.refused.BufferRefused.{BufferRefused}
use Rattle.wc_buffers.specs.Calls.{is_bad_name, bad_name, is_fixed, bad_var_names, fixed_vars, bad_names, or_else, when, too_many_vars, new_entry, with_hidden, with_full_name, with_short_name, with_title, with_var, without_var, lacks_var, is_full}
use Rattle.wc_buffers.specs.Entries.{IsText}
use Rattle.wc_buffers.specs.Kept.{IsVar, AreVars, HasUtf8Row, IsBuffer}
use Rattle.wc_buffers.specs.Vars.{cut_to, var, var_of, set_var, remove_var, plugin_var, name_var, set_fixed, set_all, vars_of}
use Rattle.wc_buffers.proofs.GroupLaws.{by_bool}

-- ---- variables

AreVars-set : (p : Pair) (vs : List Pair) → IsVar p → AreVars vs → AreVars (set_var p vs)
AreVars-set p [] is all = (is, tt)
AreVars-set p (v ∷ vs) is all = elim (bytes_eq p.name v.name) as (λ b. AreVars (cond b (p ∷ vs) (v ∷ set_var p vs))) [
  | true ↦ (is, all.1)
  | false ↦ (all.0, AreVars-set p vs is all.1)
]

AreVars-remove : (name : List ℕ) (vs : List Pair) → AreVars vs → AreVars (remove_var name vs)
AreVars-remove name [] all = tt
AreVars-remove name (v ∷ vs) all = elim (bytes_eq name v.name) as (λ b. AreVars (cond b vs (v ∷ remove_var name vs))) [
  | true ↦ all.1
  | false ↦ (all.0, AreVars-remove name vs all.1)
]

length-remove_var : (name : List ℕ) (vs : List Pair) → length (remove_var name vs) ≤ length vs
length-remove_var name [] = omega arith
length-remove_var name (v ∷ vs) = by (bytes_eq name v.name) (length-remove_var name vs)
  where
    by : (t : Bool) → length (remove_var name vs) ≤ length vs → length (cond t vs (v ∷ remove_var name vs)) ≤ suc (length vs)
    by true l = omega arith
    by false l = omega arith

-- a new name makes one more, and one that is there none
length-set_var : (p : Pair) (vs : List Pair) → length (set_var p vs) ≡ cond (is_none (var_of p.name vs)) 1 0 + length vs
length-set_var p [] = refl
length-set_var p (v ∷ vs) = by (bytes_eq p.name v.name) (length-set_var p vs)
  where
    by : (t : Bool) → length (set_var p vs) ≡ cond (is_none (var_of p.name vs)) 1 0 + length vs → length (cond t (p ∷ vs) (v ∷ set_var p vs)) ≡ cond (is_none (cond t (Some v) (var_of p.name vs))) 1 0 + suc (length vs)
    by true l = omega arith
    by false l = omega arith

-- ---- the first two

two : (a b : Pair) (vs : List Pair) → take 2 vs ≡ a ∷ b ∷ [] → vs ≡ a ∷ b ∷ drop 2 vs
two a b [] e = absurd cc
two a b (x ∷ []) e = absurd cc
two a b (x ∷ y ∷ vs) e = let p : x ≡ a = cc in let q : y ≡ b = cc in λ i. p i ∷ q i ∷ vs

-- another variable comes after them
keeps_first : (full : List ℕ) (p : Pair) (vs : List Pair) → is_fixed p.name ≡ false → take 2 vs ≡ plugin_var full ∷ name_var full ∷ [] → take 2 (set_var p vs) ≡ plugin_var full ∷ name_var full ∷ []
keeps_first full p vs own e =
    let o = or_parts (bytes_eq p.name (codes "plugin")) (bytes_eq p.name (codes "name")) own in
    ap (λ l. take 2 (set_var p l)) (two (plugin_var full) (name_var full) vs e) ∙ rw (o.0, o.1) refl

keeps_first-remove : (full name : List ℕ) (vs : List Pair) → is_fixed name ≡ false → take 2 vs ≡ plugin_var full ∷ name_var full ∷ [] → take 2 (remove_var name vs) ≡ plugin_var full ∷ name_var full ∷ []
keeps_first-remove full name vs own e =
    let o = or_parts (bytes_eq name (codes "plugin")) (bytes_eq name (codes "name")) own in
    ap (λ l. take 2 (remove_var name l)) (two (plugin_var full) (name_var full) vs e) ∙ rw (o.0, o.1) refl

fixed_at_first : (full : List ℕ) → take 2 (set_fixed full []) ≡ plugin_var full ∷ name_var full ∷ []
fixed_at_first full = refl

fixed_again : (old full : List ℕ) (vs : List Pair) → take 2 vs ≡ plugin_var old ∷ name_var old ∷ [] → set_fixed full vs ≡ plugin_var full ∷ name_var full ∷ drop 2 vs
fixed_again old full vs e = ap (set_fixed full) (two (plugin_var old) (name_var old) vs e)

-- ---- texts

parts_utf8 : (full : List ℕ) → IsUtf8 full → IsUtf8 (before_first (λ b. eqb b 46) full) × IsUtf8 (after_first (λ b. eqb b 46) full)
parts_utf8 full utf8 =
    let n = position_or_len (λ b. eqb b 46) full in
    by_bool (ltb n (length full)) _
    (λ t.
    let inside : n < length full = grind (arith, nat_tests) in
    let dot : get_or full n 0 ≡ 46 = eqb-true (get_or full n 0) 46 (passes_at_first (λ b. eqb b 46) full 0 inside) in
    let small : get_or full n 0 < 128 = omega arith in
    (IsUtf8-take full n utf8 (IsCharBoundary-before_ascii full n inside small), IsUtf8-drop full (n + 1) utf8 (IsCharBoundary-after_ascii full n utf8 inside small)))
    (λ t.
    let past : length full ≤ n = grind (arith, nat_tests) in
    (subst IsUtf8 (sym (take_all n full past)) utf8, subst IsUtf8 (sym (drop_all (n + 1) full (omega arith))) IsUtf8-nil))

ascii : (text : List ℕ) → list_all (λ b. ltb b 128) text ≡ true → IsAscii text
ascii [] e i = omega arith
ascii (b ∷ text) e zero = let a = and_parts (ltb b 128) (list_all (λ b. ltb b 128) text) e in ltb-true b 128 a.0
ascii (b ∷ text) e (suc i) = let a = and_parts (ltb b 128) (list_all (λ b. ltb b 128) text) e in ascii text a.1 i

plugin_is : (full : List ℕ) → IsUtf8 full → length full ≤ 256 → IsVar (plugin_var full)
plugin_is full utf8 l = record {
  name = IsUtf8-from_ascii (codes "plugin") (ascii (codes "plugin") refl);
  value = (parts_utf8 full utf8).0;
  short = omega (arith, length-take (position_or_len (λ b. eqb b 46) full) full);
}

name_is : (full : List ℕ) → IsUtf8 full → length full ≤ 256 → IsVar (name_var full)
name_is full utf8 l = record {
  name = IsUtf8-from_ascii (codes "name") (ascii (codes "name") refl);
  value = (parts_utf8 full utf8).1;
  short = omega (arith, length-drop (position_or_len (λ b. eqb b 46) full + 1) full);
}

AreVars-fixed : (full : List ℕ) (vs : List Pair) → IsUtf8 full → length full ≤ 256 → AreVars vs → AreVars (set_fixed full vs)
AreVars-fixed full vs utf8 l all = AreVars-set (name_var full) (set_var (plugin_var full) vs) (name_is full utf8 l) (AreVars-set (plugin_var full) vs (plugin_is full utf8 l) all)

-- a text that is cut
pub cut_short : (text : List ℕ) → length (cut_to 1024 text) ≤ 1024
cut_short text = omega (arith, length-take (cut_of text 1024) text, cut_within text 1024)

pub cut_is_utf8 : (text : List ℕ) → IsUtf8 (cut_to 1024 text)
cut_is_utf8 text = cut_utf8 text 1024

var_is : (name value : List ℕ) → IsUtf8 name → IsVar (var name value)
var_is name value utf8 = record { name = utf8; value = cut_is_utf8 value; short = cut_short value }

AreVars-all : (kept vars : List Pair) → AreVars kept → All IsText vars → AreVars (set_all kept vars)
AreVars-all kept [] are all = are
AreVars-all kept (v ∷ vs) are all = AreVars-all (set_var (var v.name v.value) kept) vs (AreVars-set (var v.name v.value) kept (var_is v.name v.value (All-head IsText v vs all).0) are) (All-tail IsText v vs all)

no_fixed : (v : Pair) (vs : List Pair) → find (λ (x : Pair). is_fixed x.name) (v ∷ vs) ≡ None → (is_fixed v.name ≡ false) × (find (λ (x : Pair). is_fixed x.name) vs ≡ None)
no_fixed v vs e = by (is_fixed v.name) refl e
  where
    by : (t : Bool) → is_fixed v.name ≡ t → cond t (Some v) (find (λ (x : Pair). is_fixed x.name) vs) ≡ None → (is_fixed v.name ≡ false) × (find (λ (x : Pair). is_fixed x.name) vs ≡ None)
    by true t n = absurd cc
    by false t n = (t, n)

keeps_first-all : (full : List ℕ) (kept vars : List Pair) → find (λ (x : Pair). is_fixed x.name) vars ≡ None → take 2 kept ≡ plugin_var full ∷ name_var full ∷ [] → take 2 (set_all kept vars) ≡ plugin_var full ∷ name_var full ∷ []
keeps_first-all full kept [] none e = e
keeps_first-all full kept (v ∷ vs) none e =
    let n = no_fixed v vs none in
    keeps_first-all full (set_var (var v.name v.value) kept) vs n.1 (keeps_first full (var v.name v.value) kept n.0 e)

-- ---- refusals that do not hold

pub or_none : (a b : Option BufferRefused) → or_else a b ≡ None → (a ≡ None) × (b ≡ None)
or_none None b e = (refl, e)
or_none (Some x) b e = absurd cc

pub when_none : (t : Bool) (r : BufferRefused) → when t r ≡ None → t ≡ false
when_none true r e = absurd cc
when_none false r e = refl

map_none : {X : Type 0} (f : X → BufferRefused) (o : Option X) → option_map f o ≡ None → o ≡ None
map_none f None e = refl
map_none f (Some x) e = absurd cc

pub good_name : (limit : ℕ) (name : List ℕ) → is_bad_name limit name ≡ false → (0 < length name) × (length name ≤ limit)
good_name limit name e =
    let o = or_parts (eqb (length name) 0) (ltb limit (length name)) e in
    (grind (arith, nat_tests, o), grind (arith, nat_tests, o))

-- ---- buffers

pub opened_fits : (row : BufferRow) (vars : List Pair) → HasUtf8Row row → All IsText vars → bad_names row vars ≡ None → too_many_vars row.full_name vars ≡ None → IsBuffer (new_entry row vars)
unfolding bad_names too_many_vars vars_of
opened_fits row vars text all good few =
    let a = or_none (bad_name 256 row.full_name) _ good in
    let b = or_none (bad_name 128 row.short_name) _ a.1 in
    let c = or_none (bad_var_names vars) (fixed_vars vars) b.1 in
    let full = good_name 256 row.full_name (when_none _ _ a.0) in
    let short = good_name 128 row.short_name (when_none _ _ b.0) in
    record {
      text = record { full_name = text.full_name; short_name = text.short_name; title = cut_is_utf8 row.title };
      full_name = full;
      short_name = short;
      title = cut_short row.title;
      vars = AreVars-all (set_fixed row.full_name []) vars (AreVars-fixed row.full_name [] text.full_name full.1 tt) all;
      few = (let f = when_none (ltb 64 (length (vars_of row.full_name vars))) _ few in ltb-false 64 (length (vars_of row.full_name vars)) f);
      first = keeps_first-all row.full_name (set_fixed row.full_name []) vars (map_none _ _ c.1) (fixed_at_first row.full_name);
    }

pub hidden_fits : (hidden : Bool) (e : BufferEntry) → IsBuffer e → IsBuffer (with_hidden hidden e)
hidden_fits hidden e is = record { text = record { full_name = is.text.full_name; short_name = is.text.short_name; title = is.text.title }; full_name = is.full_name; short_name = is.short_name; title = is.title; vars = is.vars; few = is.few; first = is.first }

pub short_name_fits : (name : List ℕ) (e : BufferEntry) → is_bad_name 128 name ≡ false → IsUtf8 name → IsBuffer e → IsBuffer (with_short_name name e)
short_name_fits name e good utf8 is = record { text = record { full_name = is.text.full_name; short_name = utf8; title = is.text.title }; full_name = is.full_name; short_name = good_name 128 name good; title = is.title; vars = is.vars; few = is.few; first = is.first }

pub title_fits : (title : List ℕ) (e : BufferEntry) → length title ≤ 1024 → IsUtf8 title → IsBuffer e → IsBuffer (with_title title e)
title_fits title e short utf8 is = record { text = record { full_name = is.text.full_name; short_name = is.text.short_name; title = utf8 }; full_name = is.full_name; short_name = is.short_name; title = short; vars = is.vars; few = is.few; first = is.first }

pub full_name_fits : (name : List ℕ) (e : BufferEntry) → is_bad_name 256 name ≡ false → IsUtf8 name → IsBuffer e → IsBuffer (with_full_name name e)
full_name_fits name e good utf8 is =
    let again = fixed_again e.row.full_name name e.vars is.first in
    let long = ap length (two (plugin_var e.row.full_name) (name_var e.row.full_name) e.vars is.first) in
    record {
      text = record { full_name = utf8; short_name = is.text.short_name; title = is.text.title };
      full_name = good_name 256 name good;
      short_name = is.short_name;
      title = is.title;
      vars = AreVars-fixed name e.vars utf8 (good_name 256 name good).1 is.vars;
      few = (let f = is.few in omega (arith, ap length again, long));
      first = ap (take 2) again;
    }

pub var_fits : (name value : List ℕ) (e : BufferEntry) → is_fixed name ≡ false → (lacks_var name (Some e) && is_full (Some e)) ≡ false → IsUtf8 name → IsBuffer e → IsBuffer (with_var name value e)
var_fits name value e own room utf8 is = record {
  text = is.text;
  full_name = is.full_name;
  short_name = is.short_name;
  title = is.title;
  vars = AreVars-set (var name value) e.vars (var_is name value utf8) is.vars;
  few = (let f = is.few in by (is_none (var_of name e.vars)) refl (and_cases (is_none (var_of name e.vars)) (leb 64 (length e.vars)) room));
  first = keeps_first e.row.full_name (var name value) e.vars own is.first;
}
  where
    by : (t : Bool) → is_none (var_of name e.vars) ≡ t → (is_none (var_of name e.vars) ≡ false) ⊎ (leb 64 (length e.vars) ≡ false) → length (set_var (var name value) e.vars) ≤ 64
    by true t (inl n) = absurd (true≢false (sym t ∙ n))
    by true t (inr n) = let m = leb-false 64 (length e.vars) n in let l = length-set_var (var name value) e.vars in let k : length (set_var (var name value) e.vars) ≡ 1 + length e.vars = rw t at l in omega arith
    by false t o = let f = is.few in let l = length-set_var (var name value) e.vars in let k : length (set_var (var name value) e.vars) ≡ 0 + length e.vars = rw t at l in omega arith

pub removed_fits : (name : List ℕ) (e : BufferEntry) → is_fixed name ≡ false → IsBuffer e → IsBuffer (without_var name e)
removed_fits name e own is = record {
  text = is.text;
  full_name = is.full_name;
  short_name = is.short_name;
  title = is.title;
  vars = AreVars-remove name e.vars is.vars;
  few = (let f = is.few in omega (arith, length-remove_var name e.vars));
  first = keeps_first-remove e.row.full_name name e.vars own is.first;
}
