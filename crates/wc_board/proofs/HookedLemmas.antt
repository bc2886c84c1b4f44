-- The entries of the clients, as their connections change.
use Rattle.std.proofs.Common.{◌≡◌, ℕ, zero, suc, ◌+◌, ◌<◌, ◌≤◌, Bool, true, false, not, cond, eqb, ltb, leb, ◌&&◌, List, [], ◌∷◌, ◌++◌, length, map, get_or, set, refl, ap, sym, ◌∙◌, arith}
use Rattle.std.specs.Prelude.{filter}
use Rattle.std.specs.List.{remove}
use Rattle.std.proofs.lemmas.Bool.{and_parts, and_from, eq-eqb, ne_eqb, ltb-true, leb-true, lt-ltb, le-leb}
use Rattle.wc_text.specs.declared.names.LinkId.{LinkId}
use Rattle.wc_hooks.specs.declared.entry.HookId.{HookId}
use Rattle.wc_hooks.specs.declared.kind.HookKind.TheVariants.{Relay}
use Rattle.wc_hooks.specs.Ranks.{Rank, rank_order, topic_order, precedes}
use Rattle.wc_hooks.specs.Rows.{HookRow, is_id, rows_filed, put_in, without}
use Rattle.wc_hooks.proofs.Lists.{by_bool, keeps_first, drops_first}
use Rattle.wc_board.specs.declared.connection.Connection.{Connection}
use Rattle.wc_board.specs.Connections.{is_open}
use Rattle.wc_board.specs.Hooked.{relay_row, entry_row, entry_rows, are_rising}

abbrev row_first : Bool → HookRow → List HookRow → List HookRow
row_first b row rows = cond b (row ∷ rows) rows

-- ---- connections that change

-- a connection whose client is open as before, on the same link
pub rows_kept : (ids : List HookId) (cs : List Connection) (i : ℕ) (x y : Connection) → x ≡ get_or cs i x → is_open y ≡ is_open x → y.session.client.link ≡ x.session.client.link → entry_rows ids (set cs i y) ≡ entry_rows ids cs
rows_kept [] cs i x y at open_is link = refl
rows_kept (id ∷ ids) [] i x y at open_is link = refl
rows_kept (id ∷ ids) (c ∷ cs) zero x y at open_is link =
    ap (λ b. row_first b (entry_row id y) (entry_rows ids cs)) (open_is ∙ ap is_open at)
    ∙ ap (λ (l : LinkId). row_first (is_open c) (relay_row id l) (entry_rows ids cs)) (link ∙ ap (λ (s : Connection). s.session.client.link) at)
rows_kept (id ∷ ids) (c ∷ cs) (suc i) x y at open_is link = ap (λ rows. row_first (is_open c) (entry_row id c) rows) (rows_kept ids cs i x y at open_is link)

-- each connection changes, and its client is open as before, on the same link
pub rows_mapped : (f : Connection → Connection) → ((c : Connection) → is_open (f c) ≡ is_open c) → ((c : Connection) → (f c).session.client.link ≡ c.session.client.link)
    → (ids : List HookId) (cs : List Connection) → entry_rows ids (map f cs) ≡ entry_rows ids cs
rows_mapped f opens links [] cs = refl
rows_mapped f opens links (id ∷ ids) [] = refl
rows_mapped f opens links (id ∷ ids) (c ∷ cs) =
    ap (λ b. row_first b (entry_row id (f c)) (entry_rows ids (map f cs))) (opens c)
    ∙ ap (λ (l : LinkId). row_first (is_open c) (relay_row id l) (entry_rows ids (map f cs))) (links c)
    ∙ ap (λ rows. row_first (is_open c) (entry_row id c) rows) (rows_mapped f opens links ids cs)

-- ---- numbers that rise

pub rising_parts : (low high : ℕ) (id : HookId) (ids : List HookId) → are_rising low high (id ∷ ids) ≡ true → (low < id.0) × ((id.0 ≤ high) × (are_rising id.0 high ids ≡ true))
rising_parts low high id ids rising =
    let a = and_parts (ltb low id.0 && leb id.0 high) (are_rising id.0 high ids) rising in
    let b = and_parts (ltb low id.0) (leb id.0 high) a.0 in
    (ltb-true low id.0 b.0, (leb-true id.0 high b.1, a.1))

rising_from : (low high : ℕ) (id : HookId) (ids : List HookId) → low < id.0 → id.0 ≤ high → are_rising id.0 high ids ≡ true → are_rising low high (id ∷ ids) ≡ true
rising_from low high id ids a b more = and_from (ltb low id.0 && leb id.0 high) (are_rising id.0 high ids) (and_from (ltb low id.0) (leb id.0 high) (lt-ltb low id.0 a) (le-leb id.0 high b)) more

rising_lower : (low low' high : ℕ) (ids : List HookId) → low ≤ low' → are_rising low' high ids ≡ true → are_rising low high ids ≡ true
rising_lower low low' high [] le rising = refl
rising_lower low low' high (id ∷ ids) le rising = let parts = rising_parts low' high id ids rising in rising_from low high id ids (omega (arith, le, parts.0)) parts.1.0 parts.1.1

pub rising_pushed : (low high : ℕ) (id : HookId) (ids : List HookId) → low ≤ high → high < id.0 → are_rising low high ids ≡ true → are_rising low id.0 (ids ++ id ∷ []) ≡ true
rising_pushed low high id [] le lt rising = rising_from low id.0 id [] (omega (arith, le, lt)) (omega arith) refl
rising_pushed low high id (first ∷ ids) le lt rising =
    let parts = rising_parts low high first ids rising in
    rising_from low id.0 first (ids ++ id ∷ []) parts.0 (omega (arith, parts.1.0, lt)) (rising_pushed first.0 high id ids parts.1.0 lt parts.1.1)

pub rising_removed : (low high : ℕ) (ids : List HookId) (i : ℕ) → are_rising low high ids ≡ true → are_rising low high (remove ids i) ≡ true
rising_removed low high [] zero rising = refl
rising_removed low high [] (suc i) rising = refl
rising_removed low high (id ∷ ids) zero rising = let parts = rising_parts low high id ids rising in rising_lower low id.0 high ids (omega (arith, parts.0)) parts.1.1
rising_removed low high (id ∷ ids) (suc i) rising = let parts = rising_parts low high id ids rising in rising_from low high id (remove ids i) parts.0 parts.1.0 (rising_removed id.0 high ids i parts.1.1)

rises_above : (low high : ℕ) (ids : List HookId) (i : ℕ) (d : HookId) → are_rising low high ids ≡ true → i < length ids → low < (get_or ids i d).0
rises_above low high [] i d rising inside = absurd (omega (arith, inside))
rises_above low high (id ∷ ids) zero d rising inside = (rising_parts low high id ids rising).0
rises_above low high (id ∷ ids) (suc i) d rising inside =
    let parts = rising_parts low high id ids rising in
    let more = rises_above id.0 high ids i d parts.1.1 (omega (arith, inside)) in
    omega (arith, parts.0, more)

-- ---- an entry that is taken out

pub differs : (a b : ℕ) → a < b → eqb b a ≡ false
differs a b lt = ne_eqb b a (λ e. omega (arith, e, lt))

differs_above : (a b : ℕ) → a < b → eqb a b ≡ false
differs_above a b lt = ne_eqb a b (λ e. omega (arith, e, lt))

-- none of these entries has a number that is not above the bound
none_without : (id : HookId) (low high : ℕ) (ids : List HookId) (cs : List Connection) → are_rising low high ids ≡ true → id.0 ≤ low → without id (entry_rows ids cs) ≡ entry_rows ids cs
none_without id low high [] cs rising le = refl
none_without id low high (first ∷ ids) [] rising le = refl
none_without id low high (first ∷ ids) (c ∷ cs) rising le =
    let parts = rising_parts low high first ids rising in
    let lt : id.0 < first.0 = omega (arith, le, parts.0) in
    let more = none_without id first.0 high ids cs parts.1.1 (omega (arith, lt)) in
    by_bool (is_open c)
    (λ t. ap (without id) (ap (λ b. row_first b (entry_row first c) (entry_rows ids cs)) t)
    ∙ keeps_first (λ row. not (is_id id row)) (entry_row first c) (entry_rows ids cs) (ap not (differs id.0 first.0 lt))
    ∙ ap (λ rows. entry_row first c ∷ rows) more
    ∙ ap (λ b. row_first b (entry_row first c) (entry_rows ids cs)) (sym t))
    (λ f. ap (without id) (ap (λ b. row_first b (entry_row first c) (entry_rows ids cs)) f) ∙ more ∙ ap (λ b. row_first b (entry_row first c) (entry_rows ids cs)) (sym f))

-- of a connection and those after it, without the entry of this connection
first_without : (id first : HookId) (high : ℕ) (ids : List HookId) (c : Connection) (cs : List Connection) → id ≡ first → are_rising first.0 high ids ≡ true → without id (entry_rows (first ∷ ids) (c ∷ cs)) ≡ entry_rows ids cs
first_without id first high ids c cs same rising =
    let e : id.0 ≡ first.0 = ap (λ (h : HookId). h.0) same in
    let more = none_without id first.0 high ids cs rising (omega (arith, e)) in
    by_bool (is_open c)
    (λ t. ap (without id) (ap (λ b. row_first b (entry_row first c) (entry_rows ids cs)) t)
    ∙ drops_first (λ row. not (is_id id row)) (entry_row first c) (entry_rows ids cs) (ap not (eq-eqb first.0 id.0 (sym e)))
    ∙ more)
    (λ f. ap (without id) (ap (λ b. row_first b (entry_row first c) (entry_rows ids cs)) f) ∙ more)

-- of a connection and those after it, without the entry of one that is after it
later_without : (id first : HookId) (ids : List HookId) (c : Connection) (cs : List Connection) → first.0 < id.0 → without id (entry_rows (first ∷ ids) (c ∷ cs)) ≡ row_first (is_open c) (entry_row first c) (without id (entry_rows ids cs))
later_without id first ids c cs lt = by_bool (is_open c)
    (λ t. ap (without id) (ap (λ b. row_first b (entry_row first c) (entry_rows ids cs)) t)
    ∙ keeps_first (λ row. not (is_id id row)) (entry_row first c) (entry_rows ids cs) (ap not (differs_above first.0 id.0 lt))
    ∙ ap (λ b. row_first b (entry_row first c) (without id (entry_rows ids cs))) (sym t))
    (λ f. ap (without id) (ap (λ b. row_first b (entry_row first c) (entry_rows ids cs)) f) ∙ ap (λ b. row_first b (entry_row first c) (without id (entry_rows ids cs))) (sym f))

number_above : (id : HookId) (low high : ℕ) (ids : List HookId) (i : ℕ) → are_rising low high ids ≡ true → i < length ids → id ≡ get_or ids i id → low < id.0
number_above id low high ids i rising inside at =
    let above = rises_above low high ids i id rising inside in
    let e : id.0 ≡ (get_or ids i id).0 = ap (λ (h : HookId). h.0) at in
    omega (arith, above, e)

-- the client of a connection leaves, and its entry is taken out
pub rows_shut : (id : HookId) (low high : ℕ) (ids : List HookId) (cs : List Connection) (i : ℕ) (y : Connection) → are_rising low high ids ≡ true → length ids ≡ length cs → i < length ids → id ≡ get_or ids i id → is_open y ≡ false
    → entry_rows ids (set cs i y) ≡ without id (entry_rows ids cs)
rows_shut id low high [] cs i y rising each inside at shut = absurd (omega (arith, inside))
rows_shut id low high (first ∷ ids) [] i y rising each inside at shut = absurd (omega (arith, each))
rows_shut id low high (first ∷ ids) (c ∷ cs) zero y rising each inside at shut =
    let parts = rising_parts low high first ids rising in
    ap (λ b. row_first b (entry_row first y) (entry_rows ids cs)) shut ∙ sym (first_without id first high ids c cs at parts.1.1)
rows_shut id low high (first ∷ ids) (c ∷ cs) (suc i) y rising each inside at shut =
    let parts = rising_parts low high first ids rising in
    let within : i < length ids = omega (arith, inside) in
    let lt = number_above id first.0 high ids i parts.1.1 within at in
    ap (λ rows. row_first (is_open c) (entry_row first c) rows) (rows_shut id first.0 high ids cs i y parts.1.1 (omega (arith, each)) within at shut)
    ∙ sym (later_without id first ids c cs lt)

-- a connection is taken out, with its entry
pub rows_removed : (id : HookId) (low high : ℕ) (ids : List HookId) (cs : List Connection) (i : ℕ) → are_rising low high ids ≡ true → length ids ≡ length cs → i < length ids → id ≡ get_or ids i id
    → entry_rows (remove ids i) (remove cs i) ≡ without id (entry_rows ids cs)
rows_removed id low high [] cs i rising each inside at = absurd (omega (arith, inside))
rows_removed id low high (first ∷ ids) [] i rising each inside at = absurd (omega (arith, each))
rows_removed id low high (first ∷ ids) (c ∷ cs) zero rising each inside at = sym (first_without id first high ids c cs at (rising_parts low high first ids rising).1.1)
rows_removed id low high (first ∷ ids) (c ∷ cs) (suc i) rising each inside at =
    let parts = rising_parts low high first ids rising in
    let within : i < length ids = omega (arith, inside) in
    let lt = number_above id first.0 high ids i parts.1.1 within at in
    ap (λ rows. row_first (is_open c) (entry_row first c) rows) (rows_removed id first.0 high ids cs i parts.1.1 (omega (arith, each)) within at)
    ∙ sym (later_without id first ids c cs lt)

-- ---- an entry that is hooked

pub rows_pushed : (id : HookId) (ids : List HookId) (c : Connection) (cs : List Connection) → length ids ≡ length cs → is_open c ≡ true → entry_rows (ids ++ id ∷ []) (cs ++ c ∷ []) ≡ entry_rows ids cs ++ entry_row id c ∷ []
rows_pushed id [] c [] each opened = ap (λ b. row_first b (entry_row id c) []) opened
rows_pushed id [] c (x ∷ cs) each opened = absurd (omega (arith, each))
rows_pushed id (first ∷ ids) c [] each opened = absurd (omega (arith, each))
rows_pushed id (first ∷ ids) c (x ∷ cs) each opened =
    let more = rows_pushed id ids c cs (omega (arith, each)) opened in
    by_bool (is_open x)
    (λ t. ap (λ b. row_first b (entry_row first x) (entry_rows (ids ++ id ∷ []) (cs ++ c ∷ []))) t ∙ ap (λ rows. entry_row first x ∷ rows) more ∙ ap (λ b. row_first b (entry_row first x) (entry_rows ids cs) ++ entry_row id c ∷ []) (sym t))
    (λ f. ap (λ b. row_first b (entry_row first x) (entry_rows (ids ++ id ∷ []) (cs ++ c ∷ []))) f ∙ more ∙ ap (λ b. row_first b (entry_row first x) (entry_rows ids cs) ++ entry_row id c ∷ []) (sym f))

abbrev relay_rank : Rank
relay_rank = record { kind = Relay; key = []; priority = 0 }

relay_ties : precedes relay_rank relay_rank ≡ false
unfolding rank_order topic_order
relay_ties = refl

-- one more entry comes after the others
pub put_last : (id : HookId) (link : LinkId) (ids : List HookId) (cs : List Connection) → put_in (relay_row id link) (entry_rows ids cs) ≡ entry_rows ids cs ++ relay_row id link ∷ []
put_last id link [] cs = refl
put_last id link (first ∷ ids) [] = refl
put_last id link (first ∷ ids) (c ∷ cs) =
    let new = relay_row id link in
    let more = put_last id link ids cs in
    by_bool (is_open c)
    (λ t. ap (λ b. put_in new (row_first b (entry_row first c) (entry_rows ids cs))) t
    ∙ ap (λ b. cond b (new ∷ (entry_row first c ∷ entry_rows ids cs)) (entry_row first c ∷ put_in new (entry_rows ids cs))) relay_ties
    ∙ ap (λ rows. entry_row first c ∷ rows) more
    ∙ ap (λ b. row_first b (entry_row first c) (entry_rows ids cs) ++ new ∷ []) (sym t))
    (λ f. ap (λ b. put_in new (row_first b (entry_row first c) (entry_rows ids cs))) f ∙ more ∙ ap (λ b. row_first b (entry_row first c) (entry_rows ids cs) ++ new ∷ []) (sym f))

-- ---- what a pass takes

-- a pass takes all of them
pub all_taken : (ids : List HookId) (cs : List Connection) → filter (λ row. row.enabled) (rows_filed Relay [] (entry_rows ids cs)) ≡ entry_rows ids cs
all_taken [] cs = refl
all_taken (id ∷ ids) [] = refl
all_taken (id ∷ ids) (c ∷ cs) =
    let taken : List HookRow → List HookRow = λ rows. filter (λ row. row.enabled) (rows_filed Relay [] rows) in
    by_bool (is_open c)
    (λ t. ap (λ b. taken (row_first b (entry_row id c) (entry_rows ids cs))) t ∙ ap (λ rows. entry_row id c ∷ rows) (all_taken ids cs) ∙ ap (λ b. row_first b (entry_row id c) (entry_rows ids cs)) (sym t))
    (λ f. ap (λ b. taken (row_first b (entry_row id c) (entry_rows ids cs))) f ∙ all_taken ids cs ∙ ap (λ b. row_first b (entry_row id c) (entry_rows ids cs)) (sym f))
