-- What the rows of the hotlist mean, and that they are of buffers that are there.
use Rattle.std.proofs.Common.{◌≡◌, ℕ, ◌<◌, ◌≤◌, ℤ, pos, negsuc, ◌⊎◌, Bool, true, false, cond, not, ◌==◌, ◌||◌, List, [], ◌∷◌, ◌++◌, map, length, Option, Some, None, is_some, refl, sym, ap, subst, ◌∙◌, arith, eqb, eqb-true}
use lib.Dec.{le→leb}
use Rattle.std.specs.Prelude.{IsTrue, nat_lt}
use Rattle.std.specs.List.{AllByRecursion, list_any}
use Rattle.std.specs.FinMap.{get}
use Rattle.std.proofs.lemmas.Bool.{false≢true, eq-eqb, or_right}
use Rattle.std.proofs.lemmas.Bool.Decides.{nat_tests}
use Rattle.std.proofs.lemmas.List.Elements.{All-from_recursion}
use Rattle.std.proofs.lemmas.List.Folds.{list_any-append}
use Rattle.wc_text.specs.declared.names.Handle.{Handle}
use Rattle.wc_nicklist.specs.declared.item.Row.{Row}
use Rattle.wc_buffers.specs.declared.row.BufferEntry.{BufferEntry}
use Rattle.wc_buffers.specs.Calls.{EntryGroups, handle_of, is_there, without_buffer}
use Rattle.wc_buffers.specs.Groups.{rows, has, in_group}
use Rattle.wc_buffers.specs.Kept.{handles}
use Rattle.wc_buffers.specs.Table.{AreGroups}
use Rattle.wc_buffers.proofs.GroupLaws.{list_any-map}
use Rattle.wc_hotlist.specs.declared.row.HotRow.{HotRow}
use Rattle.wc_hotlist.specs.Pairs.{HotPair, pairs_without}
use Rattle.wc_hotlist.specs.Rows.{levels_of, has_row}
use Rattle.wc_hotlist.specs.Means.{Means}
use Rattle.wc_hotlist.specs.Counted.{place_of}
use Rattle.wc_hotlist.specs.Kept.{rows_counted, rows_with, rows_without}
use Rattle.wc_hotlist.proofs.KeptLaws.{line_means, without_means}
use Rattle.wc_hotlist.proofs.MeansLaws.{none_means}
use Rattle.wc_hotlist.proofs.RoomLaw.{is_room_for}
use Rattle.wc_hotlist.proofs.RowSteps.{is_filled, has_by_levels}
use Rattle.wc_model.specs.declared.change.What.{What}
use Rattle.wc_model.specs.declared.change.What.TheVariants.{Add, Close, Print}
use Rattle.wc_model.specs.Apply.{refusal_of, after_of}
use Rattle.wc_model.specs.World.{World}
use Rattle.wc_world.proofs.GroupRows.{has-take_out}
use Rattle.wc_board.specs.Told.{Told}
use Rattle.wc_core.specs.News.{hotlist_after, rows_used}
use Rattle.wc_core.specs.declared.typed_hotlist.HotlistUse.{HotlistUse}
use Rattle.wc_core.specs.declared.typed_hotlist.HotlistUse.TheVariants as hotlist
use Rattle.wc_mirror_laws.specs.Changes.{IsTold}
use Rattle.wc_mirror_laws.specs.News.{AreNews, AreThere}
use Rattle.wc_mirror_laws.specs.Nicks.{AreListsKept}
use Rattle.wc_mirror_laws.specs.Worlds.{IsWorldKept}
use Rattle.wc_mirror_laws.proofs.ListLemmas.{all_append, all_filter, all_more}
use Rattle.wc_mirror_laws.proofs.MapLemmas.{get_put}
use Rattle.wc_mirror_laws.proofs.NoticeLemmas.{target_there}
use Rattle.wc_mirror_laws.proofs.WorldLemmas.{told_kept, turn}

abbrev IsThere : EntryGroups → HotPair → Type 0
IsThere groups pair = is_there pair.buffer groups ≡ true

-- ---- a line that was printed

-- whether a handle is among those of the buffers
in_handles : (h : Handle) (gs : EntryGroups) → list_any (λ (g : Handle). g.0 == h.0) (rows (handles gs)) ≡ has handle_of h.0 gs
in_handles h [] = refl
in_handles h (g ∷ gs) =
    let test = λ (g : Handle). g.0 == h.0 in
    let handle = λ (e : BufferEntry). e.row.handle in
    list_any-append test (map handle g) (rows (handles gs))
    ∙ ap (λ b. b || list_any test (rows (handles gs))) (list_any-map handle test (λ (e : BufferEntry). eqb (handle_of e) h.0) (λ e. refl) g)
    ∙ ap (λ b. in_group handle_of h.0 g || b) (in_handles h gs)

abbrev IsAmong : List Handle → HotPair → Type 0
IsAmong there pair = list_any (λ (g : Handle). g.0 == pair.buffer.0) there ≡ true

-- there is room for the row of a buffer that is there
pub room : (groups : EntryGroups) (hot : List HotRow) (buffer : Handle) → AreGroups (handles groups) → AreNews groups hot → is_there buffer groups ≡ true → IsTrue (has_row buffer hot) ⊎ (length hot < 256)
room groups hot buffer are news there =
    let all = rows (handles groups) in
    is_room_for hot news.pairs all buffer news.means
    (All-from_recursion (IsAmong all) news.pairs (all_more (IsThere groups) (IsAmong all) news.pairs (λ pair t. in_handles pair.buffer groups ∙ t) news.there))
    (in_handles buffer groups ∙ there) are.few

news_line : (groups : EntryGroups) (hot : List HotRow) (buffer : Handle) (notify : ℤ) (displayed : Bool) → AreGroups (handles groups) → is_there buffer groups ≡ true → AreNews groups hot → AreNews groups (rows_with hot buffer notify displayed)
unfolding rows_with
news_line groups hot buffer notify false are there news = news
news_line groups hot buffer (negsuc n) true are there news = news
news_line groups hot buffer (pos l) true are there news = by (nat_lt l 4) refl where
  pair : HotPair
  pair = record { buffer = buffer; level = l }

  counts : l ≤ 3 → Means (cond (nat_lt l 4) (rows_counted buffer l hot (place_of buffer hot)) hot) (news.pairs ++ pair ∷ [])
  counts low = line_means hot news.pairs buffer (pos l) true (room groups hot buffer are news there) (record { le = le→leb l 3 low }) news.means

  by : (b : Bool) → nat_lt l 4 ≡ b → AreNews groups (cond b (rows_counted buffer l hot (place_of buffer hot)) hot)
  by true e =
      let low : l ≤ 3 = grind (arith, nat_tests) in
      record {
        pairs = news.pairs ++ pair ∷ [];
        means = subst (λ b. Means (cond b (rows_counted buffer l hot (place_of buffer hot)) hot) (news.pairs ++ pair ∷ [])) e (counts low);
        there = all_append (IsThere groups) news.pairs (pair ∷ []) news.there (there, tt);
      }
  by false e = news

-- ---- rows that are taken out

news_removed : (groups : EntryGroups) (hot : List HotRow) (buffer : Handle) → AreNews groups hot → AreNews groups (rows_without buffer hot)
news_removed groups hot buffer news = record {
  pairs = pairs_without buffer news.pairs;
  means = without_means hot news.pairs buffer news.means;
  there = all_filter (IsThere groups) _ news.pairs news.there;
}

-- the pairs of the buffers that stay
others_there : (groups : EntryGroups) (h : Handle) (pairs : List HotPair) → AllByRecursion (IsThere groups) pairs → AllByRecursion (IsThere (without_buffer h groups)) (pairs_without h pairs)
others_there groups h [] all = tt
others_there groups h (pair ∷ pairs) all = by (eqb pair.buffer.0 h.0) refl (others_there groups h pairs all.1) where
  still : eqb pair.buffer.0 h.0 ≡ false → is_there pair.buffer (without_buffer h groups) ≡ true
  still e = has-take_out handle_of h.0 pair.buffer.0 groups ∙ ap (λ b. cond b false (has handle_of pair.buffer.0 groups)) (turn h.0 pair.buffer.0 ∙ e) ∙ all.0

  by : (b : Bool) → eqb pair.buffer.0 h.0 ≡ b → AllByRecursion (IsThere (without_buffer h groups)) (pairs_without h pairs) → AllByRecursion (IsThere (without_buffer h groups)) (cond (not b) (pair ∷ pairs_without h pairs) (pairs_without h pairs))
  by true e rest = rest
  by false e rest = (still e, rest)

news_closed : (groups : EntryGroups) (hot : List HotRow) (h : Handle) → AreNews groups hot → AreNews (without_buffer h groups) (rows_without h hot)
news_closed groups hot h news = record {
  pairs = pairs_without h news.pairs;
  means = without_means hot news.pairs h news.means;
  there = others_there groups h news.pairs news.there;
}

pub news_none : (groups : EntryGroups) → AreNews groups []
news_none groups = record { pairs = []; means = none_means; there = tt }

-- after a command for the hotlist
pub news_used : (groups : EntryGroups) (usage : HotlistUse) (buffer : Handle) (hot : List HotRow) → AreNews groups hot → AreNews groups (rows_used usage buffer hot)
news_used groups hotlist.Clear buffer hot news = news_none groups
news_used groups hotlist.Remove buffer hot news = news_removed groups hot buffer news

-- ---- any change

abbrev IsNoClose : What → Type 0
IsNoClose Close = ⊥
IsNoClose _ = Unit {0}

put_some : (b : Bool) (o : Option (List Row)) → is_some o ≡ true → is_some (cond b (Some []) o) ≡ true
put_some true o e = refl
put_some false o e = e

-- a buffer goes only as it is closed
stays_there : (limit : ℕ) (w : World) (h : Handle) (a : What) (lists : Told) → IsWorldKept limit w → IsTold a → refusal_of w h a ≡ None → AreListsKept w.next w.groups lists → IsNoClose a → (q : Handle) → is_there q w.groups ≡ true
    → is_there q (after_of w h a).groups ≡ true
stays_there limit w h Close lists is told good kept other q there = absurd other
stays_there limit w h (Add spec) lists is told good kept other q there =
    let new = (told_kept limit w h (Add spec) lists is told good kept).there q.0 in
    sym new ∙ ap is_some (get_put lists w.next [] q.0) ∙ put_some (eqb q.0 w.next) (get lists q.0) (kept.there q.0 ∙ there)
stays_there limit w h a lists is told good kept other q there = sym ((told_kept limit w h a lists is told good kept).there q.0) ∙ kept.there q.0 ∙ there

news_moved : (gs hs : EntryGroups) (hot : List HotRow) → ((q : Handle) → is_there q gs ≡ true → is_there q hs ≡ true) → AreNews gs hot → AreNews hs hot
news_moved gs hs hot stays news = record { pairs = news.pairs; means = news.means; there = all_more (IsThere gs) (IsThere hs) news.pairs (λ pair t. stays pair.buffer t) news.there }

pub news_change : (limit : ℕ) (w : World) (h : Handle) (a : What) (lists : Told) (hot : List HotRow) → IsWorldKept limit w → IsTold a → refusal_of w h a ≡ None → AreListsKept w.next w.groups lists → AreNews w.groups hot
    → AreNews (after_of w h a).groups (hotlist_after hot h a)
unfolding after_of hotlist_after
news_change limit w h (Print line) lists hot is told good kept news = news_line w.groups hot h line.notify line.displayed is.groups (target_there w h (Print line) told good tt) news
news_change limit w h Close lists hot is told good kept news = news_closed w.groups hot h news
news_change limit w h a lists hot is told good kept news = news_moved w.groups (after_of w h a).groups hot (stays_there limit w h a lists is told good kept tt) news

-- ---- the rows

own_rows : (hot : List HotRow) → AllByRecursion (λ (row : HotRow). has_row row.buffer hot ≡ true) hot
own_rows [] = tt
own_rows (row ∷ hot) = (
  rw (eq-eqb row.buffer.0 row.buffer.0 refl) refl,
  all_more (λ (other : HotRow). has_row other.buffer hot ≡ true) (λ (other : HotRow). has_row other.buffer (row ∷ hot) ≡ true) hot (λ other t. or_right (eqb row.buffer.0 other.buffer.0) (has_row other.buffer hot) t) (own_rows hot),
)

-- a buffer that some pair is of is there
named_there : (h : Handle) (groups : EntryGroups) (pairs : List HotPair) → AllByRecursion (IsThere groups) pairs → is_filled (levels_of h pairs) ≡ true → is_there h groups ≡ true
named_there h groups [] all e = absurd (false≢true e)
named_there h groups (pair ∷ pairs) all e = by (eqb pair.buffer.0 h.0) refl (named_there h groups pairs all.1) where
  by : (b : Bool) → eqb pair.buffer.0 h.0 ≡ b → (is_filled (levels_of h pairs) ≡ true → is_there h groups ≡ true) → is_there h groups ≡ true
  by true f rest = ap (λ n. has handle_of n groups) (sym (eqb-true pair.buffer.0 h.0 f)) ∙ all.0
  by false f rest =
      let skipped : is_filled (levels_of h (pair ∷ pairs)) ≡ is_filled (levels_of h pairs) = rw f refl in
      rest (sym skipped ∙ e)

pub rows_there : (groups : EntryGroups) (hot : List HotRow) → AreNews groups hot → AreThere groups hot
rows_there groups hot news =
    all_more (λ (row : HotRow). has_row row.buffer hot ≡ true) (λ (row : HotRow). is_there row.buffer groups ≡ true) hot
    (λ row t. named_there row.buffer groups news.pairs news.there (sym (has_by_levels row.buffer news.pairs news.means.levels) ∙ ap (has_row row.buffer) (sym news.means.rows_are) ∙ t))
    (own_rows hot)
