-- What the hotlist means, along what a step comes through.
use Rattle.std.proofs.Common.{◌≡◌, ℕ, ◌<◌, ◌≤◌, ℤ, pos, negsuc, ◌⊎◌, inl, inr, Bool, true, false, cond, List, [], ◌∷◌, ◌++◌, map, length, None, refl, sym, subst, arith}
use lib.Dec.{le→leb}
use Rattle.std.specs.Prelude.{IsTrue, nat_lt}
use Rattle.std.proofs.lemmas.Bool.Decides.{nat_tests}
use Rattle.wc_text.specs.declared.names.Handle.{Handle}
use Rattle.wc_hotlist.specs.declared.row.HotRow.{HotRow}
use Rattle.wc_hotlist.specs.Pairs.{HotPair, pairs_with, pairs_without}
use Rattle.wc_hotlist.specs.Rows.{has_row}
use Rattle.wc_hotlist.specs.Means.{Means}
use Rattle.wc_hotlist.specs.Counted.{place_of}
use Rattle.wc_hotlist.specs.Kept.{rows_counted, rows_with}
use Rattle.wc_hotlist.proofs.KeptLaws.{line_means, without_means}
use Rattle.wc_hotlist.proofs.MeansLaws.{none_means}
use Rattle.wc_model.specs.declared.change.Change.{Change}
use Rattle.wc_model.specs.declared.change.What.{What}
use Rattle.wc_model.specs.declared.change.What.TheVariants.{Close, Print}
use Rattle.wc_model.specs.Apply.{refusal_of, after}
use Rattle.wc_model.specs.World.{World}
use Rattle.wc_servers.specs.Outs.{Out}
use Rattle.wc_core.specs.Changing.{no_step, reach_step, then_does, after_out, way_after}
use Rattle.wc_core.specs.News.{hotlist_after, rows_used}
use Rattle.wc_core.specs.Events.{Event}
use Rattle.wc_core.specs.State.{State, Act, Stage, Stepped, outs_of}
use Rattle.wc_core.specs.Step.{step}
use Rattle.wc_core.specs.declared.typed_hotlist.HotlistUse.{HotlistUse}
use Rattle.wc_core.specs.declared.typed_hotlist.HotlistUse.TheVariants as hotlist
use Rattle.wc_mirror_laws.specs.Changes.{IsTold}
use Rattle.wc_mirror_laws.specs.News.{AreNews, pairs_of_line, pairs_after, AreStages, ComesTo, world_at}
use Rattle.wc_mirror_laws.specs.Worlds.{IsWorldKept}
use Rattle.wc_mirror_laws.proofs.HotlistNews.{room}
use Rattle.wc_mirror_laws.proofs.NoticeLemmas.{target_there}

-- ---- one change

counts_line : (hot : List HotRow) (pairs : List HotPair) (buffer : Handle) (l : ℕ) (displayed : Bool) → IsTrue (has_row buffer hot) ⊎ (length hot < 256) → Means hot pairs
    → Means (rows_with hot buffer (pos l) displayed) (pairs_of_line pairs buffer (pos l) displayed)
unfolding rows_with
counts_line hot pairs buffer l false room means = by (nat_lt l 4) where
  by : (b : Bool) → Means hot (cond b pairs pairs)
  by true = means
  by false = means
counts_line hot pairs buffer l true room means = by (nat_lt l 4) refl where
  most : l ≤ 3 → Means (cond (nat_lt l 4) (rows_counted buffer l hot (place_of buffer hot)) hot) (pairs_with pairs buffer (pos l) true)
  most low = line_means hot pairs buffer (pos l) true room (record { le = le→leb l 3 low }) means

  by : (b : Bool) → nat_lt l 4 ≡ b → Means (cond b (rows_counted buffer l hot (place_of buffer hot)) hot) (cond b (pairs_with pairs buffer (pos l) true) pairs)
  by true e =
      let low : l ≤ 3 = grind (arith, nat_tests) in
      subst (λ b. Means (cond b (rows_counted buffer l hot (place_of buffer hot)) hot) (pairs_with pairs buffer (pos l) true)) e (most low)
  by false e = means

line_news : (hot : List HotRow) (pairs : List HotPair) (buffer : Handle) (notify : ℤ) (displayed : Bool) → IsTrue (has_row buffer hot) ⊎ (length hot < 256) → Means hot pairs
    → Means (rows_with hot buffer notify displayed) (pairs_of_line pairs buffer notify displayed)
unfolding rows_with
line_news hot pairs buffer (negsuc n) true room means = means
line_news hot pairs buffer (negsuc n) false room means = means
line_news hot pairs buffer (pos l) displayed room means = counts_line hot pairs buffer l displayed room means

-- there is room for each line by what is known of the rows
pub change_means : (limit : ℕ) (w : World) (h : Handle) (a : What) (hot : List HotRow) (pairs : List HotPair) → IsWorldKept limit w → IsTold a → refusal_of w h a ≡ None → AreNews w.groups hot → Means hot pairs
    → Means (hotlist_after hot h a) (pairs_after pairs h a)
unfolding hotlist_after
change_means limit w h (Print line) hot pairs is told good news means = line_news hot pairs h line.notify line.displayed (room w.groups hot h is.groups news (target_there w h (Print line) told good tt)) means
change_means limit w h Close hot pairs is told good news means = without_means hot pairs h means
change_means limit w h a hot pairs is told good news means = means

-- ---- what a step comes through

abbrev pub News : State → Stepped → Type 0
News state stepped = (pairs : List HotPair) → Means state.hotlist pairs → ComesTo state.world pairs stepped

-- the same of an event
abbrev pub EventNews : State → Event → Type 0
EventNews state event = (pairs : List HotPair) → Means state.hotlist pairs → ComesTo (world_at state event) pairs (step state event)

pub news_stays : (state : State) → News state (no_step state)
news_stays state pairs means = record { final = pairs; means = means; stages = (refl, refl) }

-- a state with the world and the rows of the one before
pub news_put : (state new : State) (acts : List Act) → new.world ≡ state.world → new.hotlist ≡ state.hotlist → News state (reach_step new acts)
news_put state new acts same rows pairs means =
    let still : Means new.hotlist pairs = subst (λ hot. Means hot pairs) (sym rows) means in
    record {
      final = pairs;
      means = still;
      stages = record { next = pairs; means = still; comes = inr (record { world = same; left = inl refl }); onward = (refl, refl) };
    }

-- a change, with these rows after it
pub news_made : (state new : State) (change : Change) (acts : List Act) → new.world ≡ after state.world change → ((pairs : List HotPair) → Means state.hotlist pairs → Means new.hotlist (pairs_after pairs change.buffer change.what)) → News state (reach_step new acts)
news_made state new change acts made counts pairs means =
    let still = counts pairs means in
    record {
      final = pairs_after pairs change.buffer change.what;
      means = still;
      stages = record { next = pairs_after pairs change.buffer change.what; means = still; comes = inl (record { change = change; world = made; counted = refl }); onward = (refl, refl) };
    }

-- a command for the hotlist
pub news_by_command : (state new : State) (usage : HotlistUse) (buffer : Handle) → new.world ≡ state.world → new.hotlist ≡ rows_used usage buffer state.hotlist → News state (reach_step new [])
news_by_command state new hotlist.Clear buffer same rows pairs means =
    let none : Means new.hotlist [] = subst (λ hot. Means hot []) (sym rows) none_means in
    record {
      final = [];
      means = none;
      stages = record { next = []; means = none; comes = inr (record { world = same; left = inr (inl refl) }); onward = (refl, refl) };
    }
news_by_command state new hotlist.Remove buffer same rows pairs means =
    let left : Means new.hotlist (pairs_without buffer pairs) = subst (λ hot. Means hot (pairs_without buffer pairs)) (sym rows) (without_means state.hotlist pairs buffer means) in
    record {
      final = pairs_without buffer pairs;
      means = left;
      stages = record { next = pairs_without buffer pairs; means = left; comes = inr (record { world = same; left = inr (inr (record { buffer = buffer; taken = refl })) }); onward = (refl, refl) };
    }

-- ---- one after another

stages_then : (w : World) (ps : List HotPair) (a b : List Stage) (u : World) (rs : List HotPair) (v : World) (qs : List HotPair) → AreStages w ps a u rs → AreStages u rs b v qs → AreStages w ps (a ++ b) v qs
stages_then w ps [] b u rs v qs first second = subst (λ x. AreStages x ps b v qs) first.0 (subst (λ rs. AreStages u rs b v qs) first.1 second)
stages_then w ps (stage ∷ a) b u rs v qs first second =
    record { next = first.next; means = first.means; comes = first.comes; onward = stages_then stage.state.world first.next a b u rs v qs first.onward second }

stages_out : (out : Out) (w : World) (ps : List HotPair) (way : List Stage) (v : World) (qs : List HotPair) → AreStages w ps way v qs → AreStages w ps (map (after_out out) way) v qs
stages_out out w ps [] v qs a = a
stages_out out w ps (stage ∷ way) v qs a = record { next = a.next; means = a.means; comes = a.comes; onward = stages_out out stage.state.world a.next way v qs a.onward }

stages_after : (outs : List Out) (w : World) (ps : List HotPair) (way : List Stage) (v : World) (qs : List HotPair) → AreStages w ps way v qs → AreStages w ps (way_after outs way) v qs
stages_after [] w ps way v qs a = a
stages_after (out ∷ outs) w ps way v qs a = stages_out out w ps (way_after outs way) v qs (stages_after outs w ps way v qs a)

pub news_then : (state : State) (first : Stepped) (others : State → Stepped) → News state first → News first.state (others first.state) → News state (then_does first others)
news_then state first others a b pairs means =
    let one = a pairs means in
    let two = b one.final one.means in
    let last = (others first.state).state.world in
    record {
      final = two.final;
      means = two.means;
      stages = stages_then state.world pairs first.way (way_after (outs_of first.acts) (others first.state).way) first.state.world one.final last two.final one.stages
          (stages_after (outs_of first.acts) first.state.world one.final (others first.state).way last two.final two.stages);
    }
