-- The levels beside a buffer, the greatest of them, and how often each is among them.
use Rattle.std.proofs.Common.{◌≡◌, ℕ, zero, suc, ◌+◌, ◌-◌, ◌<◌, ◌≤◌, ◌^◌, min, max, Bool, true, false, cond, not, ◌&&◌, ◌||◌, ◌==◌, List, [], ◌∷◌, ◌++◌, filter, map, refl, sym, ap, ◌∙◌, append-nil, arith}
use Rattle.std.specs.Prelude.{All, count_by}
use Rattle.std.specs.List.{list_any}
use Rattle.std.proofs.lemmas.Bool.Decides.{nat_tests}
use Rattle.std.proofs.lemmas.List.{map-append}
use Rattle.std.proofs.lemmas.List.Elements.{filter-append, filter_agree}
use Rattle.std.proofs.lemmas.List.Sums.{sum_by-append}
use Rattle.wc_text.specs.declared.names.Handle.{Handle}
use Rattle.wc_hotlist.specs.Pairs.{HotPair, is_of, pairs_without}
use Rattle.wc_hotlist.specs.Rows.{levels_of, greatest, priority_of, count_of, buffers_with, each_once}
use Rattle.wc_hotlist.specs.Counted.{one_more}
use Rattle.wc_hotlist.proofs.Handles.{has, without, filter_filter, filter_of_map, any_agree, has_each, each_push, each_without}

-- ---- levels
abbrev pub among : ℕ → List ℕ → Bool
among k levels = list_any (λ level. level == k) levels

pub greatest_push : (levels : List ℕ) (level : ℕ) → greatest (levels ++ level ∷ []) ≡ max (greatest levels) level
greatest_push [] level = omega arith
greatest_push (first ∷ levels) level = omega (arith, greatest_push levels level)

pub among_le : (k : ℕ) (levels : List ℕ) → among k levels ≡ true → k ≤ greatest levels
among_le k [] e = absurd (grind arith)
among_le k (level ∷ levels) e = by (among_le k levels) (level == k) refl e where
  by : (among k levels ≡ true → k ≤ greatest levels) → (b : Bool) → (level == k) ≡ b → (b || among k levels) ≡ true → k ≤ max level (greatest levels)
  by ih true t e = grind (arith, nat_tests)
  by ih false t e = omega (arith, ih e)

pub among_greatest : (level : ℕ) (levels : List ℕ) → among (greatest (level ∷ levels)) (level ∷ levels) ≡ true
among_greatest level [] = grind (arith, nat_tests)
among_greatest level (next ∷ levels) = by (among_greatest next levels) (level == greatest (level ∷ next ∷ levels)) refl where
  by : among (greatest (next ∷ levels)) (next ∷ levels) ≡ true → (b : Bool) → (level == greatest (level ∷ next ∷ levels)) ≡ b → among (greatest (level ∷ next ∷ levels)) (level ∷ next ∷ levels) ≡ true
  by ih true t = rw t refl
  by ih false t =
      let other : greatest (level ∷ next ∷ levels) ≡ greatest (next ∷ levels) = grind (arith, nat_tests) in
      rw t (ap (λ k. among k (next ∷ levels)) other ∙ ih)

pub count_push : (levels : List ℕ) (level k : ℕ) → count_of (levels ++ level ∷ []) k ≡ cond (level == k) (one_more (count_of levels k)) (count_of levels k)
count_push levels level k = by (level == k) refl where
  more : count_by (λ other. other == k) (levels ++ level ∷ []) ≡ count_by (λ other. other == k) levels + (0 + cond (level == k) 1 0)
  more = sum_by-append (λ other. cond (other == k) 1 0) levels (level ∷ [])

  by : (b : Bool) → (level == k) ≡ b → count_of (levels ++ level ∷ []) k ≡ cond b (one_more (count_of levels k)) (count_of levels k)
  by true t = let m = more ∙ ap (λ b. count_by (λ other. other == k) levels + (0 + cond b 1 0)) t in grind (arith, nat_tests)
  by false t = let m = more ∙ ap (λ b. count_by (λ other. other == k) levels + (0 + cond b 1 0)) t in omega (arith, m)

-- ---- levels of pairs
pub levels_push : (buffer : Handle) (pairs : List HotPair) (pair : HotPair) → levels_of buffer (pairs ++ pair ∷ []) ≡ cond (is_of buffer pair) (levels_of buffer pairs ++ pair.level ∷ []) (levels_of buffer pairs)
levels_push buffer pairs pair = by (is_of buffer pair) refl where
  by : (b : Bool) → is_of buffer pair ≡ b → levels_of buffer (pairs ++ pair ∷ []) ≡ cond b (levels_of buffer pairs ++ pair.level ∷ []) (levels_of buffer pairs)
  by true t = ap (map (λ (p : HotPair). p.level)) (filter-append (is_of buffer) pairs (pair ∷ []) ∙ rw t refl) ∙ map-append _ (filter (is_of buffer) pairs) (pair ∷ [])
  by false t = ap (map (λ (p : HotPair). p.level)) (filter-append (is_of buffer) pairs (pair ∷ []) ∙ rw t (append-nil _))

pub levels_without : (buffer other : Handle) (pairs : List HotPair) → (other.0 == buffer.0) ≡ false → levels_of other (pairs_without buffer pairs) ≡ levels_of other pairs
levels_without buffer other pairs e =
    ap (map (λ (p : HotPair). p.level)) (filter_filter (is_of other) (λ (p : HotPair). not (is_of buffer p)) pairs ∙ filter_agree _ _ (λ p. grind (arith, nat_tests)) pairs)

pub levels_below : (buffer : Handle) (pairs : List HotPair) → All (λ (pair : HotPair). pair.level < 4) pairs → priority_of buffer pairs < 4
levels_below buffer [] all = omega arith
levels_below buffer (pair ∷ pairs) all = by (all 0 pair (omega arith)) (levels_below buffer pairs (λ k d inside. all (suc k) d (omega arith))) (is_of buffer pair) refl where
  by : pair.level < 4 → priority_of buffer pairs < 4 → (b : Bool) → is_of buffer pair ≡ b → priority_of buffer (pair ∷ pairs) < 4
  by first ih true t = rw t (omega (arith, first, ih))
  by first ih false t = rw t ih

-- ---- the buffers that have a level
has_level : (buffer : Handle) (k : ℕ) (pairs : List HotPair) → has buffer (map (λ (pair : HotPair). pair.buffer) (filter (λ (pair : HotPair). pair.level == k) pairs)) ≡ among k (levels_of buffer pairs)
has_level buffer k [] = refl
has_level buffer k (pair ∷ pairs) = by (has_level buffer k pairs) (pair.level == k) (is_of buffer pair) refl refl where
  by : has buffer (map (λ (pair : HotPair). pair.buffer) (filter (λ (pair : HotPair). pair.level == k) pairs)) ≡ among k (levels_of buffer pairs) → (b d : Bool) → (pair.level == k) ≡ b → is_of buffer pair ≡ d
      → has buffer (map (λ (pair : HotPair). pair.buffer) (filter (λ (pair : HotPair). pair.level == k) (pair ∷ pairs))) ≡ among k (levels_of buffer (pair ∷ pairs))
  by ih true true e f = rw e (rw f (rw e refl))
  by ih true false e f = rw e (rw f ih)
  by ih false true e f = rw e (rw f (rw e ih))
  by ih false false e f = rw e (rw f ih)

pub has_with : (buffer : Handle) (k : ℕ) (pairs : List HotPair) → has buffer (buffers_with k pairs) ≡ among k (levels_of buffer pairs)
has_with buffer k pairs = has_each buffer (map (λ (pair : HotPair). pair.buffer) (filter (λ (pair : HotPair). pair.level == k) pairs)) ∙ has_level buffer k pairs

pub with_push : (k : ℕ) (pairs : List HotPair) (pair : HotPair) → buffers_with k (pairs ++ pair ∷ []) ≡ cond (pair.level == k) (cond (among k (levels_of pair.buffer pairs)) (buffers_with k pairs) (buffers_with k pairs ++ pair.buffer ∷ [])) (buffers_with k pairs)
with_push k pairs pair = by (pair.level == k) refl where
  by : (b : Bool) → (pair.level == k) ≡ b → buffers_with k (pairs ++ pair ∷ []) ≡ cond b (cond (among k (levels_of pair.buffer pairs)) (buffers_with k pairs) (buffers_with k pairs ++ pair.buffer ∷ [])) (buffers_with k pairs)
  by true t =
      ap (λ ps. each_once (map (λ (p : HotPair). p.buffer) ps)) (filter-append (λ (p : HotPair). p.level == k) pairs (pair ∷ []) ∙ rw t refl)
      ∙ ap each_once (map-append (λ (p : HotPair). p.buffer) (filter (λ (p : HotPair). p.level == k) pairs) (pair ∷ []))
      ∙ each_push (map (λ (p : HotPair). p.buffer) (filter (λ (p : HotPair). p.level == k) pairs)) pair.buffer
      ∙ ap (λ b. cond b (buffers_with k pairs) (buffers_with k pairs ++ pair.buffer ∷ [])) (has_level pair.buffer k pairs)
  by false t = ap (λ ps. each_once (map (λ (p : HotPair). p.buffer) ps)) (filter-append (λ (p : HotPair). p.level == k) pairs (pair ∷ []) ∙ rw t (append-nil _))

pub with_without : (buffer : Handle) (k : ℕ) (pairs : List HotPair) → buffers_with k (pairs_without buffer pairs) ≡ without buffer (buffers_with k pairs)
with_without buffer k pairs =
    ap (λ ps. each_once (map (λ (p : HotPair). p.buffer) ps)) (
    filter_filter (λ (p : HotPair). p.level == k) (λ (p : HotPair). not (is_of buffer p)) pairs
    ∙ filter_agree _ _ (λ p. grind arith) pairs
    ∙ sym (filter_filter (λ (p : HotPair). not (is_of buffer p)) (λ (p : HotPair). p.level == k) pairs)
    )
    ∙ ap each_once (sym (filter_of_map (λ (p : HotPair). p.buffer) (λ (h : Handle). not (h.0 == buffer.0)) (filter (λ (p : HotPair). p.level == k) pairs)))
    ∙ each_without buffer (map (λ (p : HotPair). p.buffer) (filter (λ (p : HotPair). p.level == k) pairs))
