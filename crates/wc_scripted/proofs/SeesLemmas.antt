-- Laws of what is seen of sockets in memory after their rows changed.
use Rattle.std.proofs.Common.{◌≡◌, ℕ, zero, suc, ◌≤◌, Bool, true, false, cond, ◌||◌, ◌&&◌, not, List, [], ◌∷◌, ◌++◌, length, refl, ap, sym, ◌∙◌, arith, IsTrue, eqb, set}
use Rattle.std.specs.List.{list_any}
use Rattle.std.proofs.lemmas.List.{append-nil}
use Rattle.std.proofs.lemmas.Bool.Decides.{nat_tests}
use Rattle.wc_outside.specs.Faults.{NeverFall}
use Rattle.wc_outside.specs.Seen.{Seen}
use Rattle.wc_scripted.specs.declared.rows.Row.{Row}
use Rattle.wc_scripted.specs.declared.scripted.Scripted.{Scripted}
use Rattle.wc_scripted.specs.Rows.{blank, row_at, placed_row}
use Rattle.wc_scripted.specs.Scripts.{is_for}
use Rattle.wc_scripted.specs.Sees.{Sees}
use Rattle.wc_scripted.specs.Plays.{Plays, IsAsFar}
use Rattle.wc_scripted.proofs.RowLemmas.{row_past, set_rest}

-- what is wanted of all but the rows
pub record ToldSees (old new wanted : Seen) : Type 0 where
  pub told : IsTrue new.tells → IsTrue old.tells
  pub taken : IsTrue new.tells → new.taken ≡ wanted.taken
  pub asked : IsTrue new.tells → new.asked ≡ wanted.asked
  pub used : new.used ≡ wanted.used
  pub listening : new.listening ≡ wanted.listening
  pub counts : NeverFall old.faults new.faults

-- the rows show what is wanted of each link
pub record RowsSee (rows : List Row) (sends : ℕ → List ℕ) (chokes opens fills blocks : ℕ → Bool) : Type 0 where
  pub sent : (link : ℕ) → (row_at link rows).sent ≡ sends link
  pub choked : (link : ℕ) → (row_at link rows).choked ≡ chokes link
  pub there : (link : ℕ) → (row_at link rows).is_open ≡ opens link
  pub undrained : (link : ℕ) → (row_at link rows).undrained ≡ fills link
  pub blocked : (link : ℕ) → (row_at link rows).blocked ≡ blocks link

-- what is seen, with what these rows show
abbrev shown : Seen → List Row → Seen
shown seen rows = record seen {
  sent = λ link. (row_at link rows).sent;
  choked = λ link. (row_at link rows).choked;
  there = λ link. (row_at link rows).is_open;
  undrained = λ link. (row_at link rows).undrained;
  blocked = λ link. (row_at link rows).blocked;
}

pub sees_with : (rows : List Row) (old new wanted : Seen) → new ≡ shown new rows → ToldSees old new wanted → RowsSee rows wanted.sent wanted.choked wanted.there wanted.undrained wanted.blocked → Sees old new wanted
sees_with rows old new wanted e t r = record {
  told = t.told;
  taken = t.taken;
  sent = λ h link. ap (λ (s : Seen). s.sent link) e ∙ r.sent link;
  asked = t.asked;
  choked = λ h link. ap (λ (s : Seen). s.choked link) e ∙ r.choked link;
  used = t.used;
  there = λ link. ap (λ (s : Seen). s.there link) e ∙ r.there link;
  undrained = λ link. ap (λ (s : Seen). s.undrained link) e ∙ r.undrained link;
  listening = t.listening;
  blocked = λ link. ap (λ (s : Seen). s.blocked link) e ∙ r.blocked link;
  counts = t.counts;
}

-- one row was put into its place, or was past the last and is blank there
pick : {A : Type 0} (b : Bool) (x y : A) → y ≡ x → y ≡ cond b x y
pick true x y h = h
pick false x y h = refl

pub set_field : {A : Type 0} (f : Row → A) (rows : List Row) (link other : ℕ) (row : Row) → (length rows ≤ link → f blank ≡ f row) → f (row_at other (set rows link row)) ≡ cond (eqb other link) (f row) (f (row_at other rows))
set_field f [] link other row h = pick (eqb other link) (f row) (f blank) (h (omega arith))
set_field f (x ∷ xs) zero zero row h = refl
set_field f (x ∷ xs) zero (suc other) row h = grind (arith, nat_tests)
set_field f (x ∷ xs) (suc link) zero row h = grind (arith, nat_tests)
set_field f (x ∷ xs) (suc link) (suc other) row h = grind (arith, nat_tests, set_field f xs link other row (λ g. h (omega arith)))

drained_one : (b u : Bool) → cond b false u ≡ u && not (b && true)
drained_one true true = refl
drained_one true false = refl
drained_one false true = refl
drained_one false false = refl

-- what is wanted of the script by all but the rows
pub record ScriptPlays (play other : Plays) : Type 0 where
  pub released : play.released ≡ other.released
  pub coming : play.coming ≡ other.coming
  pub moment : play.moment ≡ other.moment
  pub arrived : play.arrived ≡ other.arrived
  pub given : (link : ℕ) → play.given link ≡ other.given link
  pub arriving : play.arriving ≡ other.arriving
  pub window : play.window ≡ other.window
  pub calls : play.calls ≡ other.calls
  pub failing : play.failing ≡ other.failing

abbrev went : Plays → List Row → Plays
went play rows = record play {
  news = λ link. (row_at link rows).news;
  took = λ link. (row_at link rows).taken;
}

pub plays_with : (rows : List Row) (new other : Plays) → new ≡ went new rows → ScriptPlays new other → ((link : ℕ) → (row_at link rows).news ≡ other.news link) → ((link : ℕ) → (row_at link rows).taken ≡ other.took link) → IsAsFar new other
plays_with rows new other e s n t = record {
  released = s.released;
  coming = s.coming;
  moment = s.moment;
  arrived = s.arrived;
  given = s.given;
  news = λ link. ap (λ (p : Plays). p.news link) e ∙ n link;
  arriving = s.arriving;
  window = s.window;
  took = λ link. ap (λ (p : Plays). p.took link) e ∙ t link;
  calls = s.calls;
  failing = s.failing;
}

-- a link was drained
pub drained_sees : (rows : List Row) (link : ℕ) → RowsSee (set rows link (record (row_at link rows) { undrained = false })) (λ other. (row_at other rows).sent) (λ other. (row_at other rows).choked) (λ other. (row_at other rows).is_open) (λ other. (row_at other rows).undrained && not (eqb other link && true)) (λ other. (row_at other rows).blocked)
drained_sees rows link = record {
  sent = λ other. set_rest (λ (row : Row). row.sent) rows link other _ refl;
  choked = λ other. set_rest (λ (row : Row). row.choked) rows link other _ refl;
  there = λ other. set_rest (λ (row : Row). row.is_open) rows link other _ refl;
  undrained = λ other. set_field (λ (row : Row). row.undrained) rows link other _ (λ h. refl) ∙ drained_one (eqb other link) (row_at other rows).undrained;
  blocked = λ other. set_rest (λ (row : Row). row.blocked) rows link other _ refl;
}

none_more : (b : Bool) (xs : List ℕ) → xs ≡ xs ++ cond b [] []
none_more true xs = sym (append-nil xs)
none_more false xs = sym (append-nil xs)

-- a write to a link sent nothing, for want of room or else
pub blocked_sees : (rows : List Row) (link : ℕ) (b : Bool) → (length rows ≤ link → false ≡ b) → RowsSee (set rows link (record (row_at link rows) { blocked = b })) (λ other. (row_at other rows).sent ++ cond (eqb other link) [] []) (λ other. (row_at other rows).choked) (λ other. (row_at other rows).is_open) (λ other. (row_at other rows).undrained) (λ other. cond (eqb other link) b (row_at other rows).blocked)
blocked_sees rows link b h = record {
  sent = λ other. set_rest (λ (row : Row). row.sent) rows link other _ refl ∙ none_more (eqb other link) (row_at other rows).sent;
  choked = λ other. set_rest (λ (row : Row). row.choked) rows link other _ refl;
  there = λ other. set_rest (λ (row : Row). row.is_open) rows link other _ refl;
  undrained = λ other. set_rest (λ (row : Row). row.undrained) rows link other _ refl;
  blocked = λ other. set_field (λ (row : Row). row.blocked) rows link other _ h;
}

sent_at : (rows : List Row) (link other : ℕ) (b : Bool) (piece : List ℕ) → eqb other link ≡ b → cond b ((row_at link rows).sent ++ piece) (row_at other rows).sent ≡ (row_at other rows).sent ++ cond b piece []
sent_at rows link other true piece e = let same : link ≡ other = grind (arith, nat_tests) in ap (λ n. (row_at n rows).sent ++ piece) same
sent_at rows link other false piece e = sym (append-nil (row_at other rows).sent)

-- a link that is there has a row
pub not_past : (rows : List Row) (link : ℕ) → (row_at link rows).is_open ≡ true → length rows ≤ link → ⊥
not_past rows link o h = let past : false ≡ true = ap (λ (row : Row). row.is_open) (sym (row_past rows link h)) ∙ o in cc

-- a write to a link that is there sent bytes
pub sent_sees : (rows : List Row) (link took : ℕ) (piece : List ℕ) → (row_at link rows).is_open ≡ true → RowsSee (set rows link (record (row_at link rows) { sent = (row_at link rows).sent ++ piece; blocked = false; taken = took })) (λ other. (row_at other rows).sent ++ cond (eqb other link) piece []) (λ other. (row_at other rows).choked) (λ other. (row_at other rows).is_open) (λ other. (row_at other rows).undrained) (λ other. cond (eqb other link) false (row_at other rows).blocked)
sent_sees rows link took piece o = record {
  sent = λ other. set_field (λ (row : Row). row.sent) rows link other _ (λ h. absurd (not_past rows link o h)) ∙ sent_at rows link other (eqb other link) piece refl;
  choked = λ other. set_rest (λ (row : Row). row.choked) rows link other _ refl;
  there = λ other. set_rest (λ (row : Row). row.is_open) rows link other _ refl;
  undrained = λ other. set_rest (λ (row : Row). row.undrained) rows link other _ refl;
  blocked = λ other. set_field (λ (row : Row). row.blocked) rows link other _ (λ h. refl);
}

-- a link was made, whose number is past the last row
made_rest-by : {A : Type 0} (f : Row → A) (old : List Row) (link other : ℕ) (made : Row) (b : Bool) → eqb other link ≡ b → length old ≤ link → f made ≡ f blank → f (cond b made (row_at other old)) ≡ f (row_at other old)
made_rest-by f old link other made true e h g = g ∙ ap f (sym (row_past old other (grind (arith, nat_tests))))
made_rest-by f old link other made false e h g = refl

made_rest : {A : Type 0} (f : Row → A) (old new : List Row) (link : ℕ) (made : Row) → ((other : ℕ) → row_at other new ≡ cond (eqb other link) made (row_at other old)) → length old ≤ link → f made ≡ f blank → (other : ℕ) → f (row_at other new) ≡ f (row_at other old)
made_rest f old new link made e h g other = ap f (e other) ∙ made_rest-by f old link other made (eqb other link) refl h g

or_none : (a : Bool) → a ≡ a || false
or_none true = refl
or_none false = refl

made_open : (old : List Row) (link other : ℕ) (made : Row) (b : Bool) → eqb other link ≡ b → length old ≤ link → made.is_open ≡ true → (cond b made (row_at other old)).is_open ≡ (row_at other old).is_open || eqb link other
made_open old link other made true e h o = let past : (row_at other old).is_open ≡ false = ap (λ (row : Row). row.is_open) (row_past old other (grind (arith, nat_tests))) in let same : eqb link other ≡ true = grind (arith, nat_tests) in rw (past, same) o
made_open old link other made false e h o = let other_one : eqb link other ≡ false = grind (arith, nat_tests) in rw other_one (or_none (row_at other old).is_open)

pub made_sees : (old new : List Row) (link : ℕ) (steps : List Scripted) → ((other : ℕ) → row_at other new ≡ cond (eqb other link) (placed_row true link steps) (row_at other old)) → length old ≤ link → RowsSee new (λ other. (row_at other old).sent) (λ other. (row_at other old).choked) (λ other. (row_at other old).is_open || eqb link other) (λ other. (row_at other old).undrained) (λ other. (row_at other old).blocked)
made_sees old new link steps e h = record {
  sent = λ other. made_rest (λ (row : Row). row.sent) old new link _ e h refl other;
  choked = λ other. made_rest (λ (row : Row). row.choked) old new link _ e h refl other;
  there = λ other. ap (λ (row : Row). row.is_open) (e other) ∙ made_open old link other (placed_row true link steps) (eqb other link) refl h refl;
  undrained = λ other. made_rest (λ (row : Row). row.undrained) old new link _ e h refl other;
  blocked = λ other. made_rest (λ (row : Row). row.blocked) old new link _ e h refl other;
}

pub made_took : (old new : List Row) (link : ℕ) (steps : List Scripted) → ((other : ℕ) → row_at other new ≡ cond (eqb other link) (placed_row true link steps) (row_at other old)) → length old ≤ link → (other : ℕ) → (row_at other new).taken ≡ (row_at other old).taken
made_took old new link steps e h other = made_rest (λ (row : Row). row.taken) old new link _ e h refl other

news_at : (b : Bool) (link : ℕ) (steps : List Scripted) (row : Row) → (cond b (placed_row true link steps) row).news ≡ cond b (list_any (is_for link) steps) row.news
news_at true link steps row = refl
news_at false link steps row = refl

pub made_news : (old new : List Row) (link : ℕ) (steps : List Scripted) → ((other : ℕ) → row_at other new ≡ cond (eqb other link) (placed_row true link steps) (row_at other old)) → (other : ℕ) → (row_at other new).news ≡ cond (eqb other link) (list_any (is_for link) steps) (row_at other old).news
made_news old new link steps e other = ap (λ (row : Row). row.news) (e other) ∙ news_at (eqb other link) link steps (row_at other old)
