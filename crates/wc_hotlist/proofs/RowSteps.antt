-- What one line more, or a buffer taken out, makes of the rows of a list of pairs.
use Rattle.std.proofs.Common.{◌≡◌, ℕ, zero, suc, ◌+◌, ◌-◌, ◌<◌, ◌≤◌, ◌⊎◌, inl, inr, max, Bool, true, false, cond, not, ◌&&◌, ◌||◌, ◌==◌, List, [], ◌∷◌, ◌++◌, filter, map, length, refl, sym, ap, subst, ◌∙◌, append-nil, append_assoc, arith}
use Rattle.std.specs.Prelude.{All, nat_lt, nat_le}
use Rattle.std.specs.List.{list_any, flat_map}
use Rattle.std.proofs.lemmas.Bool.Decides.{nat_tests}
use Rattle.std.proofs.lemmas.Bool.{false≢true, eqb-true, ne_eqb, eq-eqb, cases_eq, or_parts, and_right, lt-ltb}
use Rattle.std.proofs.lemmas.Map.Views.{any-filter_same}
use Rattle.std.proofs.lemmas.List.{map-append}
use Rattle.std.proofs.lemmas.List.Folds.{list_any-append}
use Rattle.std.proofs.lemmas.List.Elements.{filter-append, filter_agree}
use Rattle.wc_text.specs.declared.names.Handle.{Handle}
use Rattle.wc_hotlist.specs.declared.row.HotRow.{HotRow}
use Rattle.wc_hotlist.specs.Pairs.{HotPair, is_of, pairs_without}
use Rattle.wc_hotlist.specs.Rows.{levels_of, greatest, priority_of, count_of, row_of, buffers_with, buffers_at, rows_at, rows_of, has_row, is_row_of}
use Rattle.wc_hotlist.specs.Counted.{counted_row, counts_with}
use Rattle.wc_hotlist.proofs.Handles.{has, without, filter_filter, any_filter, same_handle, same_number}
use Rattle.wc_hotlist.proofs.Levels.{among, greatest_push, among_le, among_greatest, count_push, levels_push, levels_without, levels_below, has_with, with_push, with_without}
use Rattle.wc_hotlist.proofs.Put.{put, AreAt, AreBelow, below_more, below_from_at, below_both, put_past, put_here, others, others_at, others_of_map, has_of_map, at_of_map}

-- ---- the levels one after another
abbrev pub rows_down : List HotPair → ℕ → List HotRow
rows_down pairs zero = []
rows_down pairs (suc k) = rows_at pairs k ++ rows_down pairs k

pub rows_are : (pairs : List HotPair) → rows_of pairs ≡ rows_down pairs 4
unfolding rows_of
rows_are pairs = refl

or_false : (t : Bool) → (t || false) ≡ t
or_false true = refl
or_false false = refl

and_true : (t : Bool) → (t && true) ≡ t
and_true true = refl
and_true false = refl

abbrev pub is_filled : List ℕ → Bool
is_filled [] = false
is_filled (level ∷ levels) = true

filter_lacks : (b : Handle) (p q : Handle → Bool) → ((h : Handle) → (h.0 == b.0) ≡ false → p h ≡ q h) → (hs : List Handle) → has b hs ≡ false → filter p hs ≡ without b (filter q hs)
filter_lacks b p q same [] e = refl
filter_lacks b p q same (h ∷ hs) e = by (filter_lacks b p q same hs) (or_parts (h.0 == b.0) (has b hs) e) (q h) refl where
  by : (has b hs ≡ false → filter p hs ≡ without b (filter q hs)) → ((h.0 == b.0) ≡ false) × (has b hs ≡ false) → (t : Bool) → q h ≡ t → filter p (h ∷ hs) ≡ without b (filter q (h ∷ hs))
  by ih parts true f = rw (same h parts.0 ∙ f) (rw f (rw parts.0 (ap (λ gs. h ∷ gs) (ih parts.1))))
  by ih parts false f = rw (same h parts.0 ∙ f) (rw f (ih parts.1))

-- ---- the row of a buffer by its levels
abbrev row_with : Handle → List ℕ → HotRow
row_with buffer levels = record { buffer = buffer; priority = greatest levels; counts = map (count_of levels) (0 ∷ 1 ∷ 2 ∷ 3 ∷ []) }

-- what is at a level
rows_at_level : (pairs : List HotPair) (k : ℕ) → AreAt k (rows_at pairs k)
rows_at_level pairs k = at_of_map (row_of pairs) (row_of pairs) (λ h. refl) k (λ h. priority_of h pairs == k) (λ h e. eqb-true (priority_of h pairs) k e) (buffers_with k pairs)

others_below : (b : Handle) (pairs : List HotPair) (n : ℕ) → AreBelow n (others b (rows_down pairs n))
others_below b pairs zero = tt
others_below b pairs (suc n) =
    subst (AreBelow (suc n)) (sym (filter-append _ (rows_at pairs n) (rows_down pairs n)))
    (below_both (suc n) (others b (rows_at pairs n)) (others b (rows_down pairs n)) (below_from_at n _ (others_at b n _ (rows_at_level pairs n))) (below_more n (suc n) _ (omega arith) (others_below b pairs n)))

-- ---- which buffers have a row
has_at : (b : Handle) (pairs : List HotPair) (k : ℕ) → has_row b (rows_at pairs k) ≡ ((priority_of b pairs == k) && among k (levels_of b pairs))
has_at b pairs k =
    has_of_map (row_of pairs) (row_of pairs) (λ h. refl) b (buffers_at k pairs)
    ∙ any-filter_same (λ (g : Handle). g.0 == b.0) (λ h. priority_of h pairs == k) (priority_of b pairs == k) (λ h t. ap (λ g. priority_of g pairs == k) (same_handle h b t)) (buffers_with k pairs)
    ∙ ap (λ t. (priority_of b pairs == k) && t) (has_with b k pairs)

has_down : (b : Handle) (pairs : List HotPair) (n : ℕ) → has_row b (rows_down pairs n) ≡ (nat_lt (priority_of b pairs) n && among (priority_of b pairs) (levels_of b pairs))
has_down b pairs zero = grind (arith, nat_tests)
has_down b pairs (suc n) =
    list_any-append (is_row_of b) (rows_at pairs n) (rows_down pairs n)
    ∙ (λ i. has_at b pairs n i || has_down b pairs n i)
    ∙ by (priority_of b pairs) (priority_of b pairs == n) refl
  where
    by : (p : ℕ) (t : Bool) → (p == n) ≡ t → (((p == n) && among n (levels_of b pairs)) || (nat_lt p n && among p (levels_of b pairs))) ≡ (nat_lt p (suc n) && among p (levels_of b pairs))
    by p true e =
        let here : p ≡ n = eqb-true p n e in
        let not_lower : nat_lt p n ≡ false = grind (arith, nat_tests) in
        let lower : nat_lt p (suc n) ≡ true = grind (arith, nat_tests) in
        rw e (rw not_lower (rw lower (or_false (among n (levels_of b pairs)) ∙ ap (λ k. among k (levels_of b pairs)) (sym here))))
    by p false e =
        let same : nat_lt p n ≡ nat_lt p (suc n) = grind (arith, nat_tests) in
        rw e (ap (λ t. t && among p (levels_of b pairs)) same)

-- a buffer with levels has a row, and one without has none
pub has_by_levels : (b : Handle) (pairs : List HotPair) → All (λ (pair : HotPair). pair.level < 4) pairs → has_row b (rows_of pairs) ≡ is_filled (levels_of b pairs)
has_by_levels b pairs all =
    ap (has_row b) (rows_are pairs) ∙ has_down b pairs 4
    ∙ ap (λ t. t && among (priority_of b pairs) (levels_of b pairs)) (lt-ltb _ _ (levels_below b pairs all))
    ∙ by (levels_of b pairs)
  where
    by : (levels : List ℕ) → (true && among (greatest levels) levels) ≡ is_filled levels
    by [] = refl
    by (level ∷ levels) = among_greatest level levels

-- ---- the counts
counts_push : (levels : List ℕ) (level : ℕ) → level < 4 → map (count_of (levels ++ level ∷ [])) (0 ∷ 1 ∷ 2 ∷ 3 ∷ []) ≡ counts_with level (map (count_of levels) (0 ∷ 1 ∷ 2 ∷ 3 ∷ []))
counts_push levels zero h = λ i. count_push levels 0 0 i ∷ count_push levels 0 1 i ∷ count_push levels 0 2 i ∷ count_push levels 0 3 i ∷ []
counts_push levels (suc zero) h = λ i. count_push levels 1 0 i ∷ count_push levels 1 1 i ∷ count_push levels 1 2 i ∷ count_push levels 1 3 i ∷ []
counts_push levels (suc (suc zero)) h = λ i. count_push levels 2 0 i ∷ count_push levels 2 1 i ∷ count_push levels 2 2 i ∷ count_push levels 2 3 i ∷ []
counts_push levels (suc (suc (suc zero))) h = λ i. count_push levels 3 0 i ∷ count_push levels 3 1 i ∷ count_push levels 3 2 i ∷ count_push levels 3 3 i ∷ []
counts_push levels (suc (suc (suc (suc n)))) h = absurd (omega arith)

-- ---- one pair more
module _ (pairs : List HotPair) (pair : HotPair) (low : pair.level < 4) where
  abbrev after : List HotPair
  after = pairs ++ pair ∷ []

  abbrev levels : List ℕ
  levels = levels_of pair.buffer pairs

  same_levels : levels_of pair.buffer after ≡ levels ++ pair.level ∷ []
  same_levels = levels_push pair.buffer pairs pair ∙ rw (eq-eqb pair.buffer.0 pair.buffer.0 refl) refl

  other_levels : (h : Handle) → (h.0 == pair.buffer.0) ≡ false → levels_of h after ≡ levels_of h pairs
  other_levels h e = levels_push h pairs pair ∙ rw (same_number pair.buffer.0 h.0 ∙ e) refl

  other_row : (h : Handle) → (h.0 == pair.buffer.0) ≡ false → row_of after h ≡ row_of pairs h
  other_row h e = ap (row_with h) (other_levels h e)

  new_priority : priority_of pair.buffer after ≡ max (greatest levels) pair.level
  new_priority = ap greatest same_levels ∙ greatest_push levels pair.level

  -- ---- where its level is no new greatest one, a row counts it
  abbrev pub count_in : HotRow → HotRow
  count_in row = cond (row.buffer.0 == pair.buffer.0) (counted_row pair.level row) row

  module _ (filled : is_filled levels ≡ true) (within : pair.level ≤ greatest levels) where
    same_priority_by : (h : Handle) (t : Bool) → (h.0 == pair.buffer.0) ≡ t → priority_of h after ≡ priority_of h pairs
    same_priority_by h true e =
        let at : h ≡ pair.buffer = same_handle h pair.buffer e in
        let top : max (greatest levels) pair.level ≡ greatest levels = omega arith in
        subst (λ g. priority_of g after ≡ priority_of g pairs) (sym at) (new_priority ∙ top)
    same_priority_by h false e = ap greatest (other_levels h e)

    same_priority : (h : Handle) → priority_of h after ≡ priority_of h pairs
    same_priority h = same_priority_by h (h.0 == pair.buffer.0) refl

    reached : (all : List ℕ) → is_filled all ≡ true → among (greatest all) all ≡ true
    reached [] e = absurd (false≢true e)
    reached (level ∷ more) e = among_greatest level more

    not_top : (k : ℕ) → among k levels ≡ false → (greatest levels == k) ≡ false
    not_top k e = ne_eqb (greatest levels) k (λ is. false≢true (sym e ∙ ap (λ n. among n levels) (sym is) ∙ reached levels filled))

    count_buffers : (k : ℕ) → buffers_at k after ≡ buffers_at k pairs
    count_buffers k =
        filter_agree _ (λ h. priority_of h pairs == k) (λ h. ap (λ n. n == k) (same_priority h)) (buffers_with k after)
        ∙ ap (filter (λ h. priority_of h pairs == k)) (with_push k pairs pair)
        ∙ by (pair.level == k) (among k levels) refl
      where
        by : (t u : Bool) → among k levels ≡ u → filter (λ h. priority_of h pairs == k) (cond t (cond u (buffers_with k pairs) (buffers_with k pairs ++ pair.buffer ∷ [])) (buffers_with k pairs)) ≡ buffers_at k pairs
        by false u e = refl
        by true true e = refl
        by true false e = filter-append _ (buffers_with k pairs) (pair.buffer ∷ []) ∙ rw (not_top k e) (append-nil _)

    count_row_by : (h : Handle) (t : Bool) → (h.0 == pair.buffer.0) ≡ t → row_of after h ≡ count_in (row_of pairs h)
    count_row_by h true e =
        let at : h ≡ pair.buffer = same_handle h pair.buffer e in
        let top : max (greatest levels) pair.level ≡ greatest levels = omega arith in
        rw e (
        subst (λ g. row_of after g ≡ counted_row pair.level (row_of pairs g)) (sym at) (
        ap (row_with pair.buffer) same_levels
        ∙ (λ i. record { buffer = pair.buffer; priority = (greatest_push levels pair.level ∙ top) i; counts = counts_push levels pair.level low i })
        )
        )
    count_row_by h false e = rw e (other_row h e)

    count_map : (hs : List Handle) → map (row_of after) hs ≡ map count_in (map (row_of pairs) hs)
    count_map [] = refl
    count_map (h ∷ hs) = λ i. count_row_by h (h.0 == pair.buffer.0) refl i ∷ count_map hs i

    count_down : (n : ℕ) → rows_down after n ≡ map count_in (rows_down pairs n)
    count_down zero = refl
    count_down (suc n) =
        (λ i. (ap (map (row_of after)) (count_buffers n) ∙ count_map (buffers_at n pairs)) i ++ count_down n i)
        ∙ sym (map-append count_in (rows_at pairs n) (rows_down pairs n))

    pub counts_line : rows_of after ≡ map count_in (rows_of pairs)
    counts_line = rows_are after ∙ count_down 4 ∙ ap (map count_in) (sym (rows_are pairs))

  -- ---- where its level is a new greatest one, its row is put where it belongs
  module _ (fresh : among pair.level levels ≡ false) (above : max (greatest levels) pair.level ≡ pair.level) where
    other_buffers : (k : ℕ) → (pair.level == k) ≡ false → buffers_at k after ≡ without pair.buffer (buffers_at k pairs)
    other_buffers k e =
        ap (filter (λ h. priority_of h after == k)) (with_push k pairs pair ∙ rw e refl)
        ∙ filter_agree _ _ (λ h. by h (h.0 == pair.buffer.0) refl) (buffers_with k pairs)
        ∙ sym (filter_filter (λ (h : Handle). not (h.0 == pair.buffer.0)) (λ h. priority_of h pairs == k) (buffers_with k pairs))
      where
        by : (h : Handle) (t : Bool) → (h.0 == pair.buffer.0) ≡ t → (priority_of h after == k) ≡ ((priority_of h pairs == k) && not (h.0 == pair.buffer.0))
        by h true t =
            ap (λ g. priority_of g after == k) (same_handle h pair.buffer t) ∙ ap (λ n. n == k) (new_priority ∙ above) ∙ e
            ∙ sym (and_right (priority_of h pairs == k) (not (h.0 == pair.buffer.0)) (ap not t))
        by h false t = ap (λ levels. greatest levels == k) (other_levels h t) ∙ rw t (sym (and_true _))

    lacks : has pair.buffer (buffers_with pair.level pairs) ≡ false
    lacks = has_with pair.buffer pair.level pairs ∙ fresh

    own_buffers : buffers_at pair.level after ≡ without pair.buffer (buffers_at pair.level pairs) ++ pair.buffer ∷ []
    own_buffers =
        let own : (priority_of pair.buffer after == pair.level) ≡ true = eq-eqb _ _ (new_priority ∙ above) in
        ap (filter (λ h. priority_of h after == pair.level)) (with_push pair.level pairs pair ∙ rw (eq-eqb pair.level pair.level refl) (rw fresh refl))
        ∙ filter-append _ (buffers_with pair.level pairs) (pair.buffer ∷ [])
        ∙ ap (λ hs. filter (λ h. priority_of h after == pair.level) (buffers_with pair.level pairs) ++ hs) (ap (λ t. cond t (pair.buffer ∷ []) []) own)
        ∙ ap (λ hs. hs ++ pair.buffer ∷ []) (filter_lacks pair.buffer _ (λ h. priority_of h pairs == pair.level) (λ h t. ap (λ levels. greatest levels == pair.level) (other_levels h t)) (buffers_with pair.level pairs) lacks)

    other_rows : (k : ℕ) → (pair.level == k) ≡ false → rows_at after k ≡ others pair.buffer (rows_at pairs k)
    other_rows k e = ap (map (row_of after)) (other_buffers k e) ∙ others_of_map (row_of after) (row_of pairs) (λ h. refl) pair.buffer other_row (buffers_at k pairs)

    own_rows : rows_at after pair.level ≡ others pair.buffer (rows_at pairs pair.level) ++ row_of after pair.buffer ∷ []
    own_rows =
        ap (map (row_of after)) own_buffers
        ∙ map-append (row_of after) (without pair.buffer (buffers_at pair.level pairs)) (pair.buffer ∷ [])
        ∙ ap (λ rows. rows ++ row_of after pair.buffer ∷ []) (others_of_map (row_of after) (row_of pairs) (λ h. refl) pair.buffer other_row (buffers_at pair.level pairs))

    below_down : (n : ℕ) → n ≤ pair.level → rows_down after n ≡ others pair.buffer (rows_down pairs n)
    below_down zero h = refl
    below_down (suc n) h =
        (λ i. other_rows n (ne_eqb pair.level n (λ e. omega arith)) i ++ below_down n (omega arith) i)
        ∙ sym (filter-append _ (rows_at pairs n) (rows_down pairs n))

    top : (row_of after pair.buffer).priority ≡ pair.level
    top = new_priority ∙ above

    put_own : put (row_of after pair.buffer) (others pair.buffer (rows_down pairs pair.level)) ≡ row_of after pair.buffer ∷ others pair.buffer (rows_down pairs pair.level)
    put_own = put_here (row_of after pair.buffer) _ (subst (λ n. AreBelow n (others pair.buffer (rows_down pairs pair.level))) (sym top) (others_below pair.buffer pairs pair.level))

    past_level : (n : ℕ) → pair.level ≤ n → put (row_of after pair.buffer) (others pair.buffer (rows_down pairs (suc n))) ≡ others pair.buffer (rows_at pairs n) ++ put (row_of after pair.buffer) (others pair.buffer (rows_down pairs n))
    past_level n h =
        ap (put (row_of after pair.buffer)) (filter-append _ (rows_at pairs n) (rows_down pairs n))
        ∙ put_past (row_of after pair.buffer) n (others pair.buffer (rows_at pairs n)) _ (others_at pair.buffer n _ (rows_at_level pairs n)) (omega (arith, top))

    own_level : rows_down after (suc pair.level) ≡ put (row_of after pair.buffer) (others pair.buffer (rows_down pairs (suc pair.level)))
    own_level =
        (λ i. own_rows i ++ below_down pair.level (omega arith) i)
        ∙ append_assoc (others pair.buffer (rows_at pairs pair.level)) (row_of after pair.buffer ∷ []) _
        ∙ ap (λ rows. others pair.buffer (rows_at pairs pair.level) ++ rows) (sym put_own)
        ∙ sym (past_level pair.level (omega arith))

    put_down : (n : ℕ) → pair.level < n → rows_down after n ≡ put (row_of after pair.buffer) (others pair.buffer (rows_down pairs n))
    put_down zero h = absurd (omega arith)
    put_down (suc n) h = by (put_down n) (cases_eq pair.level n) where
      by : (pair.level < n → rows_down after n ≡ put (row_of after pair.buffer) (others pair.buffer (rows_down pairs n))) → (pair.level ≡ n) ⊎ (pair.level ≡ n → ⊥) → rows_down after (suc n) ≡ put (row_of after pair.buffer) (others pair.buffer (rows_down pairs (suc n)))
      by ih (inl e) = subst (λ k. rows_down after (suc k) ≡ put (row_of after pair.buffer) (others pair.buffer (rows_down pairs (suc k)))) e own_level
      by ih (inr e) =
          let lower : pair.level < n = grind arith in
          (λ i. other_rows n (ne_eqb pair.level n e) i ++ ih lower i) ∙ sym (past_level n (omega arith))

    pub puts_line : rows_of after ≡ put (row_of after pair.buffer) (others pair.buffer (rows_of pairs))
    puts_line = rows_are after ∙ put_down 4 low ∙ ap (λ rows. put (row_of after pair.buffer) (others pair.buffer rows)) (sym (rows_are pairs))

  -- the new row, by the levels that were there
  pub new_row : row_of after pair.buffer ≡ counted_row pair.level (record { buffer = pair.buffer; priority = max (greatest levels) pair.level; counts = map (count_of levels) (0 ∷ 1 ∷ 2 ∷ 3 ∷ []) })
  new_row =
      ap (row_with pair.buffer) same_levels
      ∙ (λ i. record { buffer = pair.buffer; priority = greatest_push levels pair.level i; counts = counts_push levels pair.level low i })

-- ---- a buffer taken out
module _ (b : Handle) (pairs : List HotPair) where
  kept_levels : (h : Handle) → (h.0 == b.0) ≡ false → levels_of h (pairs_without b pairs) ≡ levels_of h pairs
  kept_levels h e = levels_without b h pairs e

  kept_buffers : (k : ℕ) → buffers_at k (pairs_without b pairs) ≡ without b (buffers_at k pairs)
  kept_buffers k =
      ap (filter (λ h. priority_of h (pairs_without b pairs) == k)) (with_without b k pairs)
      ∙ filter_filter (λ h. priority_of h (pairs_without b pairs) == k) (λ (h : Handle). not (h.0 == b.0)) (buffers_with k pairs)
      ∙ filter_agree _ _ (λ h. by h (h.0 == b.0) refl) (buffers_with k pairs)
      ∙ sym (filter_filter (λ (h : Handle). not (h.0 == b.0)) (λ h. priority_of h pairs == k) (buffers_with k pairs))
    where
      by : (h : Handle) (t : Bool) → (h.0 == b.0) ≡ t → (not (h.0 == b.0) && (priority_of h (pairs_without b pairs) == k)) ≡ ((priority_of h pairs == k) && not (h.0 == b.0))
      by h true e = rw e (sym (and_right (priority_of h pairs == k) false refl))
      by h false e = rw e (ap (λ levels. greatest levels == k) (kept_levels h e) ∙ sym (and_true _))

  kept_rows : (k : ℕ) → rows_at (pairs_without b pairs) k ≡ others b (rows_at pairs k)
  kept_rows k =
      ap (map (row_of (pairs_without b pairs))) (kept_buffers k)
      ∙ others_of_map (row_of (pairs_without b pairs)) (row_of pairs) (λ h. refl) b (λ h e. ap (row_with h) (kept_levels h e)) (buffers_at k pairs)

  kept_down : (n : ℕ) → rows_down (pairs_without b pairs) n ≡ others b (rows_down pairs n)
  kept_down zero = refl
  kept_down (suc n) = (λ i. kept_rows n i ++ kept_down n i) ∙ sym (filter-append _ (rows_at pairs n) (rows_down pairs n))

  pub takes_out : rows_of (pairs_without b pairs) ≡ others b (rows_of pairs)
  takes_out = rows_are (pairs_without b pairs) ∙ kept_down 4 ∙ ap (others b) (sym (rows_are pairs))
