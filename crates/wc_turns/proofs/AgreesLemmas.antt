-- What the loop keeps is what the happenings make of it.
use Rattle.std.proofs.Common.{◌≡◌, ◌≢◌, ◌⊎◌, inl, inr, ℕ, ◌+◌, ◌-◌, ◌^◌, ◌<◌, ◌≤◌, Bool, true, false, cond, eqb, not, ◌&&◌, ◌||◌, min, List, [], ◌∷◌, ◌++◌, length, map, Option, Some, None, IfSome, is_some, refl, sym, ap, ◌∙◌, subst, arith, get_or, set}
use Rattle.std.specs.List.{flat_map}
use Rattle.std.proofs.lemmas.List.{append-nil, length-append}
use Rattle.std.proofs.lemmas.Grind.{flat_map-append}
use Rattle.std.proofs.lemmas.Bool.{false≢true}
use Rattle.std.proofs.lemmas.List.Folds.{list_any-append}
use Rattle.std.proofs.lemmas.Bool.Decides.{nat_tests}
use Rattle.wc_text.specs.declared.names.LinkId.{LinkId}
use Rattle.wc_outside.specs.declared.happening.Happening.{Happening}
use Rattle.wc_outside.specs.declared.happening.Happening.TheVariants.{Woke, Accepted, Read, Ended, Failed, Connected, Refused, ListenFailed}
use Rattle.wc_turns.specs.declared.links.LinkState.{LinkState}
use Rattle.wc_outside.specs.Keyed.{at_key, put_at, without, IsKeyPlace}
use Rattle.wc_turns.specs.Links.{Kind, link_number, is_connecting, kind_of, changed_at, standing_state, IsUnkept, AreAllBut}
use Rattle.wc_turns.specs.Events.{bytes_on, stands_at, has_stood, clock, clock_from, is_tick, refused_from, refused_since, woke_events}
use Rattle.wc_turns.specs.Steps.{SameKinds}
use Rattle.wc_turns.specs.Turns.{AgreesWithHappenings}
use Rattle.wc_turns.proofs.KeyedLemmas.{at_key-key, at_key-put_none, at_key-put_other, at_key-put_same, at_key-push_other, at_key-filter_other, at_key-filter_same, none_of, same-keys, or-false}
use Rattle.wc_turns.proofs.ChangedLemmas.{changed, at_key-changed, keeps-standing, numbers-changed}
use Rattle.wc_turns.proofs.ListedLemmas.{since-as}

pub text-push : (k : ℕ) (taken : List Happening) (h : Happening) → flat_map (bytes_on k) (taken ++ h ∷ []) ≡ flat_map (bytes_on k) taken ++ bytes_on k h
text-push k taken h = flat_map-append (bytes_on k) taken (h ∷ []) ∙ ap (λ bytes. flat_map (bytes_on k) taken ++ bytes) (append-nil (bytes_on k h))

pub text-quiet : (k : ℕ) (taken : List Happening) (h : Happening) → bytes_on k h ≡ [] → flat_map (bytes_on k) (taken ++ h ∷ []) ≡ flat_map (bytes_on k) taken
text-quiet k taken h e = text-push k taken h ∙ ap (λ bytes. flat_map (bytes_on k) taken ++ bytes) e ∙ append-nil (flat_map (bytes_on k) taken)

stood-push : (k : ℕ) (taken : List Happening) (h : Happening) → has_stood k (taken ++ h ∷ []) ≡ (has_stood k taken || stands_at k h)
stood-push k taken h = list_any-append (stands_at k) taken (h ∷ []) ∙ ap (λ b. has_stood k taken || b) (or-false (stands_at k h))

-- a happening that tells of no connection that it stands
abbrev pub IsUnstanding : Happening → Type 0
IsUnstanding h = (k : ℕ) → stands_at k h ≡ false

stood-quiet : (k : ℕ) (taken : List Happening) (h : Happening) → stands_at k h ≡ false → has_stood k (taken ++ h ∷ []) ≡ has_stood k taken
stood-quiet k taken h e = stood-push k taken h ∙ ap (λ b. has_stood k taken || b) e ∙ or-false (has_stood k taken)

-- what is kept of a link's kind is what the happenings make of it
abbrev KeptAs : Bool → Option LinkState → Type 0
KeptAs told o = IfSome o (λ state. state.connecting ≡ (is_some state.server && not told))

pub bytes_on-read : (link : LinkId) (bytes : List ℕ) → bytes_on link.0 (Read link bytes) ≡ bytes
bytes_on-read link bytes = grind (arith, nat_tests)

pub bytes_on-other : (link : LinkId) (k : ℕ) (bytes : List ℕ) → k ≢ link.0 → bytes_on k (Read link bytes) ≡ []
bytes_on-other link k bytes n = grind (arith, nat_tests)

-- what the clock shows after one more happening
clock-push : (last : Option ℕ) (taken : List Happening) (h : Happening) → clock_from last (taken ++ h ∷ []) ≡ clock_from (clock_from last taken) (h ∷ [])
clock-push None [] h = refl
clock-push (Some m) [] h = refl
clock-push None (Woke moment ∷ taken) h = clock-push (Some moment) taken h
clock-push (Some m) (Woke moment ∷ taken) h = clock-push (Some (cond (is_tick m moment) moment m)) taken h
clock-push None (Accepted link nonce ∷ taken) h = clock-push None taken h
clock-push (Some m) (Accepted link nonce ∷ taken) h = clock-push (Some m) taken h
clock-push None (Read link bytes ∷ taken) h = clock-push None taken h
clock-push (Some m) (Read link bytes ∷ taken) h = clock-push (Some m) taken h
clock-push None (Ended link ∷ taken) h = clock-push None taken h
clock-push (Some m) (Ended link ∷ taken) h = clock-push (Some m) taken h
clock-push None (Failed link ∷ taken) h = clock-push None taken h
clock-push (Some m) (Failed link ∷ taken) h = clock-push (Some m) taken h
clock-push None (Connected link ∷ taken) h = clock-push None taken h
clock-push (Some m) (Connected link ∷ taken) h = clock-push (Some m) taken h
clock-push None (Refused link ∷ taken) h = clock-push None taken h
clock-push (Some m) (Refused link ∷ taken) h = clock-push (Some m) taken h
clock-push None (ListenFailed ∷ taken) h = clock-push None taken h
clock-push (Some m) (ListenFailed ∷ taken) h = clock-push (Some m) taken h

-- a happening at which the clock stays
abbrev pub IsTimeless : Happening → Type 0
IsTimeless h = (last : Option ℕ) → clock_from last (h ∷ []) ≡ last

pub timeless-accepted : (link : LinkId) (nonce : List ℕ) → IsTimeless (Accepted link nonce)
timeless-accepted link nonce None = refl
timeless-accepted link nonce (Some m) = refl

pub timeless-read : (link : LinkId) (bytes : List ℕ) → IsTimeless (Read link bytes)
timeless-read link bytes None = refl
timeless-read link bytes (Some m) = refl

pub timeless-ended : (link : LinkId) → IsTimeless (Ended link)
timeless-ended link None = refl
timeless-ended link (Some m) = refl

pub timeless-failed : (link : LinkId) → IsTimeless (Failed link)
timeless-failed link None = refl
timeless-failed link (Some m) = refl

pub timeless-listen : IsTimeless ListenFailed
timeless-listen None = refl
timeless-listen (Some m) = refl

pub timeless-connected : (link : LinkId) → IsTimeless (Connected link)
timeless-connected link None = refl
timeless-connected link (Some m) = refl

pub timeless-refused : (link : LinkId) → IsTimeless (Refused link)
timeless-refused link None = refl
timeless-refused link (Some m) = refl

-- which connections are refused after one more happening
refused-push : (refused : List LinkId) (taken : List Happening) (h : Happening) → refused_from refused (taken ++ h ∷ []) ≡ refused_from (refused_from refused taken) (h ∷ [])
refused-push refused [] h = refl
refused-push refused (Woke moment ∷ taken) h = refused-push [] taken h
refused-push refused (Refused link ∷ taken) h = refused-push (refused ++ link ∷ []) taken h
refused-push refused (Accepted link nonce ∷ taken) h = refused-push refused taken h
refused-push refused (Read link bytes ∷ taken) h = refused-push refused taken h
refused-push refused (Ended link ∷ taken) h = refused-push refused taken h
refused-push refused (Failed link ∷ taken) h = refused-push refused taken h
refused-push refused (Connected link ∷ taken) h = refused-push refused taken h
refused-push refused (ListenFailed ∷ taken) h = refused-push refused taken h

-- a happening at which the same connections stand as refused
abbrev pub KeepsRefused : Happening → Type 0
KeepsRefused h = (refused : List LinkId) → refused_from refused (h ∷ []) ≡ refused

since-kept : (taken : List Happening) (h : Happening) → KeepsRefused h → refused_since (taken ++ h ∷ []) ≡ refused_since taken
since-kept taken h keeps = refused-push [] taken h ∙ keeps (refused_since taken)

-- where no event is reached after one more happening, none was before, and it has none
pub none-before : (ran ran' n : ℕ) → ran' ≡ min (ran + n) (2 ^ 64 - 1) → ran' ≡ 0 → (ran ≡ 0) × (n ≡ 0)
none-before ran ran' n e z = (omega arith, omega arith)

-- a happening without bytes, at which the clock stays
pub For-quiet : (clocked : Option ℕ) (states : List LinkState) (used ran ran' : ℕ) (refused : List LinkId) (unlisted : ℕ) (taken : List Happening) (h : Happening) (n : ℕ) → ((k : ℕ) → bytes_on k h ≡ []) → IsTimeless h → KeepsRefused h → IsUnstanding h → 1 ≤ n → ran' ≡ min (ran + n) (2 ^ 64 - 1)
    → AgreesWithHappenings clocked states used ran refused unlisted taken → AgreesWithHappenings clocked states used ran' refused unlisted (taken ++ h ∷ [])
For-quiet clocked states used ran ran' refused unlisted taken h n q timeless keeps u some count s = record {
  clock = s.clock ∙ sym (clock-push None taken h ∙ timeless (clock taken));
  fresh = λ k l. text-quiet k taken h (q k) ∙ s.fresh k l;
  unmade = λ k l. stood-quiet k taken h (u k) ∙ s.unmade k l;
  stood = λ k. rw (stood-quiet k taken h (u k)) (s.stood k);
  unread = λ k c. text-quiet k taken h (q k) ∙ s.unread k c;
  since = subst (AreAllBut (IsUnkept states used) refused) (sym (since-kept taken h keeps)) s.since;
  counted = s.counted ∙ ap length (sym (since-kept taken h keeps));
  within = s.within;
  silent = λ z. absurd (let p = none-before ran ran' n count z in let m = p.1 in omega arith);
  empty = λ z. absurd (let p = none-before ran ran' n count z in let m = p.1 in omega arith);
}

-- a wait returned
pub For-woke : (clocked : Option ℕ) (states : List LinkState) (used ran ran' moment : ℕ) (refused : List LinkId) (unlisted : ℕ) (taken : List Happening) → ran' ≡ min (ran + length (woke_events taken moment)) (2 ^ 64 - 1)
    → AgreesWithHappenings clocked states used ran refused unlisted taken → AgreesWithHappenings (clock_from clocked (Woke moment ∷ [])) states used ran' [] 0 (taken ++ Woke moment ∷ [])
For-woke clocked states used ran ran' moment refused unlisted taken count s = record {
  clock = ap (λ c. clock_from c (Woke moment ∷ [])) s.clock ∙ sym (clock-push None taken (Woke moment));
  fresh = λ k l. text-quiet k taken (Woke moment) refl ∙ s.fresh k l;
  unmade = λ k l. stood-quiet k taken (Woke moment) refl ∙ s.unmade k l;
  stood = λ k. rw (stood-quiet k taken (Woke moment) refl) (s.stood k);
  unread = λ k c. text-quiet k taken (Woke moment) refl ∙ s.unread k c;
  since = subst (AreAllBut (IsUnkept states used) []) (sym (refused-push [] taken (Woke moment))) tt;
  counted = ap length (sym (refused-push [] taken (Woke moment)));
  within = omega arith;
  silent = λ z. absurd (begun z);
  empty = λ z. absurd (begun z);
} where
  -- the first wait that returns is the start, and later ones come after it
  begun : ran' ≡ 0 → ⊥
  begun z =
      let p = none-before ran ran' (length (woke_events taken moment)) count z in
      let none = p.1 in
      let start : length (woke_events taken moment) ≡ 1 = ap (λ ts. length (woke_events ts moment)) (s.silent p.0) in
      omega arith

abbrev connecting_of : Option Kind → Bool
connecting_of None = false
connecting_of (Some kind) = kind.connecting

abbrev server_of : Option Kind → Option (List ℕ)
server_of None = None
server_of (Some kind) = kind.server

kept-as : (told : Bool) (o o' : Option LinkState) → kind_of o' ≡ kind_of o → KeptAs told o → KeptAs told o'
kept-as told o None e h = tt
kept-as told None (Some new) e h = absurd (let q : kind_of (Some new) ≡ None = e in cc)
kept-as told (Some old) (Some new) e h = same-kind (ap-some e)
  where
    ap-some : kind_of (Some new) ≡ kind_of (Some old) → (new.connecting ≡ old.connecting) × (new.server ≡ old.server)
    ap-some q = (ap (λ k. connecting_of k) q, ap (λ k. server_of k) q)

    same-kind : (new.connecting ≡ old.connecting) × (new.server ≡ old.server) → new.connecting ≡ (is_some new.server && not told)
    same-kind q = q.0 ∙ h ∙ ap (λ server. is_some server && not told) (sym q.1)

connecting-as : (o o' : Option LinkState) → kind_of o' ≡ kind_of o → is_connecting o' ≡ true → is_connecting o ≡ true
connecting-as o None e h = absurd (false≢true h)
connecting-as None (Some new) e h = absurd (let q : kind_of (Some new) ≡ None = e in cc)
connecting-as (Some old) (Some new) e h = ap (λ k. connecting_of k) (sym e) ∙ h

kept-or : (told : Bool) (o o' : Option LinkState) → (o' ≡ None) ⊎ (kind_of o' ≡ kind_of o) → KeptAs told o → KeptAs told o'
kept-or told o o' (inl e) h = rw e tt
kept-or told o o' (inr e) h = kept-as told o o' e h

connecting-or : (o o' : Option LinkState) → (o' ≡ None) ⊎ (kind_of o' ≡ kind_of o) → is_connecting o' ≡ true → is_connecting o ≡ true
connecting-or o o' (inl e) c = absurd (false≢true (sym (ap is_connecting e) ∙ c))
connecting-or o o' (inr e) c = connecting-as o o' e c

pub For-states : (clocked : Option ℕ) (states states' : List LinkState) (used ran : ℕ) (refused : List LinkId) (unlisted : ℕ) (taken : List Happening) → SameKinds states states' → ((k : ℕ) → at_key link_number k states ≡ None → at_key link_number k states' ≡ None) → AgreesWithHappenings clocked states used ran refused unlisted taken → AgreesWithHappenings clocked states' used ran refused unlisted taken
For-states clocked states states' used ran refused unlisted taken kinds missing s = record { unmade = s.unmade; stood = λ k. kept-or (has_stood k taken) (at_key link_number k states) (at_key link_number k states') (kinds k) (s.stood k); unread = λ k c. s.unread k (connecting-or (at_key link_number k states) (at_key link_number k states') (kinds k) c); clock = s.clock; fresh = s.fresh; since = since-as states states' used used refused (refused_since taken) (omega arith) (λ k low none. missing k none) s.since; counted = s.counted; within = s.within; silent = s.silent; empty = λ z k. missing k (s.empty z k) }

-- the same links are there
pub missing-as : (states states' : List LinkState) → map link_number states' ≡ map link_number states → (k : ℕ) → at_key link_number k states ≡ None → at_key link_number k states' ≡ None
missing-as states states' numbers k none = none_of _ (same-keys link_number k states' states numbers ∙ ap is_some none)

pub IfSome-None : {X : Type 0} (o : Option X) (P : X → Type 0) → o ≡ None → IfSome o P
IfSome-None None P e = tt
IfSome-None (Some x) P e = absurd (let q : Some x ≡ None = e in cc)

same-kind-by : (j k : ℕ) (b : Bool) → eqb k j ≡ b → (states : List LinkState) → (at_key link_number k (without link_number j states) ≡ None) ⊎ (kind_of (at_key link_number k (without link_number j states)) ≡ kind_of (at_key link_number k states))
same-kind-by j k true e states = let same : j ≡ k = grind (arith, nat_tests) in inl (subst (λ i. at_key link_number k (without link_number i states) ≡ None) (sym same) (at_key-filter_same link_number k states))
same-kind-by j k false e states = let other : k ≢ j = λ q. grind (arith, nat_tests) in inr (ap kind_of (at_key-filter_other link_number j k states other))

pub SameKinds-without : (j : ℕ) (states : List LinkState) → SameKinds states (without link_number j states)
SameKinds-without j states = λ k. same-kind-by j k (eqb k j) refl states

-- one more event was reached, at which nothing happened
pub For-reached : (clocked : Option ℕ) (states : List LinkState) (used ran ran' : ℕ) (refused : List LinkId) (unlisted : ℕ) (taken : List Happening) → (ran' ≡ 0 → ⊥) → AgreesWithHappenings clocked states used ran refused unlisted taken → AgreesWithHappenings clocked states used ran' refused unlisted taken
For-reached clocked states used ran ran' refused unlisted taken some s = record {
  clock = s.clock;
  fresh = s.fresh;
  unmade = s.unmade;
  stood = s.stood;
  unread = s.unread;
  since = s.since;
  counted = s.counted;
  within = s.within;
  silent = λ z. absurd (some z);
  empty = λ z. absurd (some z);
}

-- who is at a link stays
abbrev pub LeadsAs : LinkState → LinkState → Type 0
LeadsAs old new = (new.connecting ≡ old.connecting) × (new.server ≡ old.server)

-- a link that leads to the same takes the place of one
kept-put : (k : ℕ) (told t : Bool) (j : ℕ) → eqb k j ≡ t → (states : List LinkState) (old new : LinkState) → at_key link_number j states ≡ Some old → link_number new ≡ j → LeadsAs old new → KeptAs told (at_key link_number k states) → KeptAs told (at_key link_number k (put_at link_number j new states))
kept-put k told true j e states old new found key lead h =
    let same : j ≡ k = grind (arith, nat_tests) in
    let before : at_key link_number k states ≡ Some old = subst (λ i. at_key link_number i states ≡ Some old) same found in
    let after : at_key link_number k (put_at link_number j new states) ≡ Some new = subst (λ i. at_key link_number i (put_at link_number j new states) ≡ Some new) same (at_key-put_same link_number j old new states key found) in
    let was : KeptAs told (Some old) = rw before at h in
    rw after (lead.0 ∙ was ∙ ap (λ server. is_some server && not told) (sym lead.1))
kept-put k told false j e states old new found key lead h =
    let other : k ≢ j = λ q. grind (arith, nat_tests) in
    rw (at_key-put_other link_number j k new states key other) h

pub For-read : (clocked : Option ℕ) (states : List LinkState) (used ran ran' : ℕ) (refused : List LinkId) (unlisted : ℕ) (taken : List Happening) (link : LinkId) (place : ℕ) (old new : LinkState) (bytes : List ℕ) → IsKeyPlace link_number link.0 states place → old ≡ get_or states place old → new.link ≡ old.link
    → (used < link.0 → at_key link_number link.0 states ≡ None) → old.connecting ≡ false → LeadsAs old new → (ran' ≡ 0 → ran ≡ 0)
    → AgreesWithHappenings clocked states used ran refused unlisted taken → AgreesWithHappenings clocked (set states place new) used ran' refused unlisted (taken ++ Read link bytes ∷ [])
For-read clocked states used ran ran' refused unlisted taken link place old new bytes p at same unknown stands lead first s =
    let found : at_key link_number link.0 states ≡ Some old = p.found old ∙ ap Some (sym at) in
    let key : link_number new ≡ link.0 = ap (λ (l : LinkId). l.0) same ∙ at_key-key link_number link.0 states old found in
    let below : (k : ℕ) → used < k → k ≢ link.0 = λ k l q. (let none = unknown (subst (λ n. used < n) q l) in cc) in
    rw (p.put new) (record {
      clock = s.clock ∙ sym (clock-push None taken (Read link bytes) ∙ timeless-read link bytes (clock taken));
      fresh = λ k l. text-quiet k taken (Read link bytes) (bytes_on-other link k bytes (below k l)) ∙ s.fresh k l;
      unmade = λ k l. stood-quiet k taken (Read link bytes) refl ∙ s.unmade k l;
      stood = λ k. rw (stood-quiet k taken (Read link bytes) refl) (kept-put k (has_stood k taken) (eqb k link.0) link.0 refl states old new found key lead (s.stood k));
      unread = λ k c. unread-put k (eqb k link.0) refl found key c;
      since = subst (AreAllBut (IsUnkept (put_at link_number link.0 new states) used) refused) (sym (since-kept taken (Read link bytes) (λ r. refl)))
          (since-as states (put_at link_number link.0 new states) used used refused (refused_since taken) (omega arith) (λ k low none. at_key-put_none link_number link.0 k new states key none) s.since);
      counted = s.counted ∙ ap length (sym (since-kept taken (Read link bytes) (λ r. refl)));
      within = s.within;
      silent = λ z. absurd (begun found z);
      empty = λ z. absurd (begun found z);
    })
  where
    unread-put : (k : ℕ) (t : Bool) → eqb k link.0 ≡ t → at_key link_number link.0 states ≡ Some old → link_number new ≡ link.0 → is_connecting (at_key link_number k (put_at link_number link.0 new states)) ≡ true → flat_map (bytes_on k) (taken ++ Read link bytes ∷ []) ≡ []
    unread-put k true e found key c =
        let same : link.0 ≡ k = grind (arith, nat_tests) in
        let after : at_key link_number k (put_at link_number link.0 new states) ≡ Some new = subst (λ i. at_key link_number i (put_at link_number link.0 new states) ≡ Some new) same (at_key-put_same link_number link.0 old new states key found) in
        let standing : new.connecting ≡ false = lead.0 ∙ stands in
        absurd (false≢true (sym standing ∙ sym (ap is_connecting after) ∙ c))
    unread-put k false e found key c =
        let other : k ≢ link.0 = λ q. grind (arith, nat_tests) in
        text-quiet k taken (Read link bytes) (bytes_on-other link k bytes other) ∙ s.unread k (sym (ap is_connecting (at_key-put_other link_number link.0 k new states key other)) ∙ c)

    -- a link came before it is read
    begun : at_key link_number link.0 states ≡ Some old → ran' ≡ 0 → ⊥
    begun found z =
        let q : None ≡ Some old = sym (s.empty (first z) link.0) ∙ found in
        cc

kept-came : (told : Bool) (states : List LinkState) (state : LinkState) (k : ℕ) → (link_number state ≡ k → state.connecting ≡ (is_some state.server && not told)) → KeptAs told (at_key link_number k states) → KeptAs told (at_key link_number k (states ++ state ∷ []))
kept-came told [] state k t h = came-by (eqb (link_number state) k) refl
  where
    came-by : (b : Bool) → eqb (link_number state) k ≡ b → KeptAs told (cond b (Some state) None)
    came-by true e = t (grind (arith, nat_tests))
    came-by false e = tt
kept-came told (u ∷ us) state k t h = following-by (eqb (link_number u) k) (kept-came told us state k t) h
  where
    following-by : (b : Bool) → (KeptAs told (at_key link_number k us) → KeptAs told (at_key link_number k (us ++ state ∷ []))) → KeptAs told (cond b (Some u) (at_key link_number k us)) → KeptAs told (cond b (Some u) (at_key link_number k (us ++ state ∷ [])))
    following-by true f g = g
    following-by false f g = f g

-- a link that is connecting was so before, or it is the one that came
unread-came : (states : List LinkState) (state : LinkState) (k : ℕ) (P : Type 0) → (link_number state ≡ k → P) → (is_connecting (at_key link_number k states) ≡ true → P) → is_connecting (at_key link_number k (states ++ state ∷ [])) ≡ true → P
unread-came [] state k P now before c = came-by (eqb (link_number state) k) refl c
  where
    came-by : (b : Bool) → eqb (link_number state) k ≡ b → is_connecting (cond b (Some state) None) ≡ true → P
    came-by true e q = now (grind (arith, nat_tests))
    came-by false e q = absurd (false≢true q)
unread-came (u ∷ us) state k P now before c = following-by (eqb (link_number u) k) (unread-came us state k P now) before c
  where
    following-by : (b : Bool) → ((is_connecting (at_key link_number k us) ≡ true → P) → is_connecting (at_key link_number k (us ++ state ∷ [])) ≡ true → P) → (is_connecting (cond b (Some u) (at_key link_number k us)) ≡ true → P) → is_connecting (cond b (Some u) (at_key link_number k (us ++ state ∷ []))) ≡ true → P
    following-by true f g q = g q
    following-by false f g q = f g q

-- a link came, and one that was not kept
kind-new : (taken : List Happening) (state : LinkState) (used : ℕ) (link : LinkId) → link.0 ≡ used + 1 → link_number state ≡ link.0 → state.connecting ≡ is_some state.server → ((k : ℕ) → used < k → has_stood k taken ≡ false) → (k : ℕ) → link_number state ≡ k → state.connecting ≡ (is_some state.server && not (has_stood k taken))
kind-new taken state used link next number kind unmade k e =
    let quiet : has_stood k taken ≡ false = unmade k (omega arith) in
    kind ∙ sym (and-true (is_some state.server)) ∙ ap (λ told. is_some state.server && not told) (sym quiet)
  where
    and-true : (b : Bool) → (b && true) ≡ b
    and-true true = refl
    and-true false = refl

-- a record that is missing is so beside one of a number that was not used
missing-push : (states : List LinkState) (state : LinkState) (used : ℕ) → link_number state ≡ used + 1 → (k : ℕ) → k ≤ used → at_key link_number k states ≡ None → at_key link_number k (states ++ state ∷ []) ≡ None
missing-push states state used next k low none = at_key-push_other link_number k state states (λ q. omega arith) ∙ none

pub For-came : (clocked : Option ℕ) (states : List LinkState) (used used' ran ran' : ℕ) (refused : List LinkId) (unlisted : ℕ) (taken : List Happening) (link : LinkId) (nonce : List ℕ) (state : LinkState) → link.0 ≡ used + 1 → used' ≡ used + 1 → state.link ≡ link → state.connecting ≡ is_some state.server → ran' ≡ min (ran + 1) (2 ^ 64 - 1)
    → AgreesWithHappenings clocked states used ran refused unlisted taken → AgreesWithHappenings clocked (states ++ state ∷ []) used' ran' refused unlisted (taken ++ Accepted link nonce ∷ [])
For-came clocked states used used' ran ran' refused unlisted taken link nonce state next next' key kind count s =
    let none : flat_map (bytes_on link.0) taken ≡ [] = s.fresh link.0 (omega arith) in
    let number : link_number state ≡ link.0 = ap (λ (l : LinkId). l.0) key in
    record {
      clock = s.clock ∙ sym (clock-push None taken (Accepted link nonce) ∙ timeless-accepted link nonce (clock taken));
      fresh = λ k l. text-quiet k taken (Accepted link nonce) refl ∙ s.fresh k (omega arith);
      unmade = λ k l. stood-quiet k taken (Accepted link nonce) refl ∙ s.unmade k (omega arith);
      stood = λ k. rw (stood-quiet k taken (Accepted link nonce) refl) (kept-came (has_stood k taken) states state k (kind-new taken state used link next number kind s.unmade k) (s.stood k));
      unread = λ k c. text-quiet k taken (Accepted link nonce) refl ∙ unread-came states state k (flat_map (bytes_on k) taken ≡ []) (λ e. subst (λ i. flat_map (bytes_on i) taken ≡ []) (sym number ∙ e) none) (s.unread k) c;
      since = subst (AreAllBut (IsUnkept (states ++ state ∷ []) used') refused) (sym (since-kept taken (Accepted link nonce) (λ r. refl)))
          (since-as states (states ++ state ∷ []) used used' refused (refused_since taken) (omega arith) (missing-push states state used (number ∙ next)) s.since);
      counted = s.counted ∙ ap length (sym (since-kept taken (Accepted link nonce) (λ r. refl)));
      within = let w = s.within in omega arith;
      silent = λ z. absurd (let p = none-before ran ran' 1 count z in let n = p.1 in omega arith);
      empty = λ z. absurd (let p = none-before ran ran' 1 count z in let n = p.1 in omega arith);
    }

pub For-refused : (clocked : Option ℕ) (states : List LinkState) (used used' ran ran' : ℕ) (refused : List LinkId) (unlisted : ℕ) (taken : List Happening) (link : LinkId) (nonce : List ℕ) → used' ≡ used + 1 → ran' ≡ min (ran + 1) (2 ^ 64 - 1)
    → AgreesWithHappenings clocked states used ran refused unlisted taken → AgreesWithHappenings clocked states used' ran' refused unlisted (taken ++ Accepted link nonce ∷ [])
For-refused clocked states used used' ran ran' refused unlisted taken link nonce next count s = record {
  clock = s.clock ∙ sym (clock-push None taken (Accepted link nonce) ∙ timeless-accepted link nonce (clock taken));
  fresh = λ k l. text-quiet k taken (Accepted link nonce) refl ∙ s.fresh k (omega arith);
  unmade = λ k l. stood-quiet k taken (Accepted link nonce) refl ∙ s.unmade k (omega arith);
  stood = λ k. rw (stood-quiet k taken (Accepted link nonce) refl) (s.stood k);
  unread = λ k c. text-quiet k taken (Accepted link nonce) refl ∙ s.unread k c;
  since = subst (AreAllBut (IsUnkept states used') refused) (sym (since-kept taken (Accepted link nonce) (λ r. refl))) (since-as states states used used' refused (refused_since taken) (omega arith) (λ k low none. none) s.since);
  counted = s.counted ∙ ap length (sym (since-kept taken (Accepted link nonce) (λ r. refl)));
  within = let w = s.within in omega arith;
  silent = λ z. absurd (let p = none-before ran ran' 1 count z in let n = p.1 in omega arith);
  empty = λ z. absurd (let p = none-before ran ran' 1 count z in let n = p.1 in omega arith);
}

-- ---- a connection stands

stands-here : (link : LinkId) (k : ℕ) (t : Bool) → eqb k link.0 ≡ t → stands_at k (Connected link) ≡ t
stands-here link k true e = let same : link.0 ≡ k = grind (arith, nat_tests) in grind (arith, nat_tests)
stands-here link k false e = let other : k ≢ link.0 = λ q. grind (arith, nat_tests) in grind (arith, nat_tests)

stood-more : (told told' t : Bool) (o : Option LinkState) → told' ≡ (told || t) → KeptAs told o → KeptAs told' (changed t standing_state o)
stood-more told told' t None e h = by-none t
  where
    by-none : (u : Bool) → KeptAs told' (changed u standing_state None)
    by-none true = tt
    by-none false = tt
stood-more told told' true (Some state) e h = rw (e, or-true told) (sym (and-false (is_some state.server)))
  where
    or-true : (b : Bool) → (b || true) ≡ true
    or-true true = refl
    or-true false = refl

    and-false : (b : Bool) → (b && false) ≡ false
    and-false true = refl
    and-false false = refl
stood-more told told' false (Some state) e h = rw (e, or-false told) h

connecting-stood : (t : Bool) (o : Option LinkState) → is_connecting (changed t standing_state o) ≡ true → (t ≡ false) × (is_connecting o ≡ true)
connecting-stood true None e = absurd (false≢true e)
connecting-stood true (Some state) e = absurd (false≢true e)
connecting-stood false o e = (refl, e)

-- its link has a used number
pub For-stands : (clocked : Option ℕ) (states : List LinkState) (used ran ran' : ℕ) (refused : List LinkId) (unlisted : ℕ) (taken : List Happening) (link : LinkId) → link.0 ≤ used → ran' ≡ min (ran + 1) (2 ^ 64 - 1)
    → AgreesWithHappenings clocked states used ran refused unlisted taken → AgreesWithHappenings clocked (changed_at link.0 standing_state states (at_key link_number link.0 states)) used ran' refused unlisted (taken ++ Connected link ∷ [])
For-stands clocked states used ran ran' refused unlisted taken link within' count s = record {
  clock = s.clock ∙ sym (clock-push None taken (Connected link) ∙ timeless-connected link (clock taken));
  fresh = λ k l. text-quiet k taken (Connected link) refl ∙ s.fresh k l;
  unmade = λ k l. stood-quiet k taken (Connected link) (above k l (eqb k link.0) refl) ∙ s.unmade k l;
  stood = λ k. rw (at_key-changed link.0 k standing_state keeps-standing states) (stood-more (has_stood k taken) (has_stood k (taken ++ Connected link ∷ [])) (eqb k link.0) (at_key link_number k states) (stood-push k taken (Connected link) ∙ ap (λ t. has_stood k taken || t) (stands-here link k (eqb k link.0) refl)) (s.stood k));
  unread = λ k c. text-quiet k taken (Connected link) refl ∙ s.unread k (connecting-stood (eqb k link.0) (at_key link_number k states) (rw (at_key-changed link.0 k standing_state keeps-standing states) at c)).1;
  since = subst (AreAllBut (IsUnkept (changed_at link.0 standing_state states (at_key link_number link.0 states)) used) refused) (sym (since-kept taken (Connected link) (λ r. refl)))
      (since-as states (changed_at link.0 standing_state states (at_key link_number link.0 states)) used used refused (refused_since taken) (omega arith) (λ k low none. missing-as states (changed_at link.0 standing_state states (at_key link_number link.0 states)) (numbers-changed link.0 standing_state keeps-standing states) k none) s.since);
  counted = s.counted ∙ ap length (sym (since-kept taken (Connected link) (λ r. refl)));
  within = s.within;
  silent = λ z. absurd (let p = none-before ran ran' 1 count z in let n = p.1 in omega arith);
  empty = λ z. absurd (let p = none-before ran ran' 1 count z in let n = p.1 in omega arith);
} where
  above : (k : ℕ) → used < k → (t : Bool) → eqb k link.0 ≡ t → stands_at k (Connected link) ≡ false
  above k l true e = absurd (let same : k ≡ link.0 = grind (arith, nat_tests) in omega arith)
  above k l false e = stands-here link k false e

-- a connection was asked for, and its link is kept
pub For-asked : (clocked : Option ℕ) (states : List LinkState) (used used' ran : ℕ) (refused : List LinkId) (unlisted : ℕ) (taken : List Happening) (link : LinkId) (state : LinkState) → link.0 ≡ used + 1 → used' ≡ used + 1 → state.link ≡ link → state.connecting ≡ is_some state.server → 1 ≤ ran
    → AgreesWithHappenings clocked states used ran refused unlisted taken → AgreesWithHappenings clocked (states ++ state ∷ []) used' ran refused unlisted taken
For-asked clocked states used used' ran refused unlisted taken link state next next' key kind begun s =
    let none : flat_map (bytes_on link.0) taken ≡ [] = s.fresh link.0 (omega arith) in
    let number : link_number state ≡ link.0 = ap (λ (l : LinkId). l.0) key in
    record {
      clock = s.clock;
      fresh = λ k l. s.fresh k (omega arith);
      unmade = λ k l. s.unmade k (omega arith);
      stood = λ k. kept-came (has_stood k taken) states state k (kind-new taken state used link next number kind s.unmade k) (s.stood k);
      unread = λ k c. unread-came states state k (flat_map (bytes_on k) taken ≡ []) (λ e. subst (λ i. flat_map (bytes_on i) taken ≡ []) (sym number ∙ e) none) (s.unread k) c;
      since = since-as states (states ++ state ∷ []) used used' refused (refused_since taken) (omega arith) (missing-push states state used (number ∙ next)) s.since;
      counted = s.counted;
      within = let w = s.within in omega arith;
      silent = λ z. absurd (omega arith);
      empty = λ z. absurd (omega arith);
    }

-- its link is not kept
pub For-dropped : (clocked : Option ℕ) (states : List LinkState) (used used' ran : ℕ) (refused : List LinkId) (unlisted : ℕ) (taken : List Happening) → used' ≡ used + 1 → 1 ≤ ran
    → AgreesWithHappenings clocked states used ran refused unlisted taken → AgreesWithHappenings clocked states used' ran refused unlisted taken
For-dropped clocked states used used' ran refused unlisted taken next begun s = record {
  clock = s.clock;
  fresh = λ k l. s.fresh k (omega arith);
  unmade = λ k l. s.unmade k (omega arith);
  stood = s.stood;
  unread = s.unread;
  since = since-as states states used used' refused (refused_since taken) (omega arith) (λ k low none. none) s.since;
  counted = s.counted;
  within = let w = s.within in omega arith;
  silent = λ z. absurd (omega arith);
  empty = λ z. absurd (omega arith);
}

-- a connection was refused as it was asked for, and its number is used; it is listed, unless there is
-- no memory for that, nor a record of it
pub For-named : (clocked : Option ℕ) (states : List LinkState) (used used' ran : ℕ) (refused refused' : List LinkId) (unlisted unlisted' : ℕ) (taken : List Happening) (link : LinkId) → used ≤ used' → length refused' + unlisted' ≤ used' → 1 ≤ ran → AreAllBut (IsUnkept states used') refused' (refused_since taken ++ link ∷ []) → length refused' + unlisted' ≡ length refused + unlisted + 1
    → AgreesWithHappenings clocked states used ran refused unlisted taken → AgreesWithHappenings clocked states used' ran refused' unlisted' (taken ++ Refused link ∷ [])
For-named clocked states used used' ran refused refused' unlisted unlisted' taken link next few begun listed count s =
    let since : refused_since (taken ++ Refused link ∷ []) ≡ refused_since taken ++ link ∷ [] = refused-push [] taken (Refused link) in
    record {
      clock = s.clock ∙ sym (clock-push None taken (Refused link) ∙ timeless-refused link (clock taken));
      fresh = λ k l. text-quiet k taken (Refused link) refl ∙ s.fresh k (omega arith);
      unmade = λ k l. stood-quiet k taken (Refused link) refl ∙ s.unmade k (omega arith);
      stood = λ k. rw (stood-quiet k taken (Refused link) refl) (s.stood k);
      unread = λ k c. text-quiet k taken (Refused link) refl ∙ s.unread k c;
      since = subst (AreAllBut (IsUnkept states used') refused') (sym since) listed;
      counted = rw since (let c = s.counted in let l = length-append (refused_since taken) (link ∷ []) in omega arith);
      within = few;
      silent = λ z. absurd (omega arith);
      empty = λ z. absurd (omega arith);
    }
