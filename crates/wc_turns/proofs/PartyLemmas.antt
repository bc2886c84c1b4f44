-- Who is at a link, as servers come.
use Rattle.std.proofs.Common.{◌≡◌, ℕ, ◌+◌, ◌<◌, ◌≤◌, nat_le, Bool, true, false, eqb, ◌||◌, List, [], ◌∷◌, ◌++◌, length, map, None, is_some, refl, sym, ap, ◌∙◌, subst, arith}
use Rattle.std.proofs.lemmas.Bool.{false≢true}
use Rattle.std.proofs.lemmas.Bool.Decides.{nat_tests}
use Rattle.std.proofs.lemmas.List.{length-append}
use Rattle.std.proofs.lemmas.List.Folds.{list_any-append}
use Rattle.wc_outside.specs.Keyed.{at_key}
use Rattle.wc_outside.specs.Seen.{Seen}
use Rattle.wc_text.specs.declared.names.LinkId.{LinkId}
use Rattle.wc_board.specs.Connections.{connection_link}
use Rattle.wc_core.specs.CoreView.{CoreView}
use Rattle.wc_core.specs.Served.{Distinct}
use Rattle.wc_servers.specs.declared.wanted.Wanted.{Wanted}
use Rattle.wc_core.specs.ServersKept.{is_wanted, AreNext, ServersKeep}
use Rattle.wc_servers.specs.Seats.{seat_link}
use Rattle.wc_turns.specs.declared.links.LinkState.{LinkState}
use Rattle.wc_turns.specs.Links.{link_number, is_undrained, is_blocked, is_there}
use Rattle.wc_turns.specs.declared.links.Closed.{Closed}
use Rattle.wc_turns.specs.Served.{leaving_closes}
use Rattle.wc_turns.specs.Parties.{has_party, IsCalm, seat_closes}
use Rattle.wc_turns.specs.Turns.{AgreesOnLinks, LeavesWhereEnded}
use Rattle.wc_turns.proofs.KeyedLemmas.{none_of, same-keys, or-false}
use Rattle.wc_turns.proofs.PointLemmas.{none-if, next-above}
use Rattle.wc_turns.proofs.StepLemmas.{SameSets}

pub or-assoc : (a b c : Bool) → ((a || b) || c) ≡ (a || (b || c))
or-assoc true b c = refl
or-assoc false b c = refl

pub AreNext-append : (used : ℕ) (wanted more : List Wanted) → AreNext used wanted → AreNext (used + length wanted) more → AreNext used (wanted ++ more)
AreNext-append used [] more h g = subst (λ n. AreNext n more) (omega arith) g
AreNext-append used (one ∷ wanted) more h g = (h.0, AreNext-append (used + 1) wanted more h.1 (subst (λ n. AreNext n more) (omega arith) g))

pub wanted-append : (k : ℕ) (wanted more : List Wanted) → is_wanted k (wanted ++ more) ≡ (is_wanted k wanted || is_wanted k more)
wanted-append k wanted more = list_any-append (λ (one : Wanted). eqb one.link.0 k) wanted more

-- a link that is there has a used number
there-used : (k used : ℕ) (states : List LinkState) (t : Bool) → (t ≡ true → is_some (at_key link_number k states) ≡ true) → ((link : ℕ) → used < link → at_key link_number link states ≡ None) → t ≡ true → used < k → ⊥
there-used k used states t there unknown e above = false≢true (sym (ap is_some (unknown k above)) ∙ there e)

none-wanted : (k used : ℕ) (more : List Wanted) → AreNext used more → (used < k → ⊥) → is_wanted k more ≡ false
none-wanted k used more next not-above = none-by (is_wanted k more) refl
  where
    none-by : (t : Bool) → is_wanted k more ≡ t → t ≡ false
    none-by true e = absurd (not-above (next-above used k more next e))
    none-by false e = refl

-- no client has a number above those that the core drew
pub clients-above : (states : List LinkState) (core : CoreView) (used : ℕ) (listening : Bool) (refused : List LinkId) (a : Seen) → AgreesOnLinks states core used listening refused a → (k : ℕ) → core.servers.used < k → at_key connection_link k core.connections ≡ None
clients-above states core used listening refused a s k above = s.clients k (let r = s.reached in omega arith)

-- ---- the links agree as servers come

-- what the links have to do with clients and servers goes on so
pub among-come : (states states' : List LinkState) (core core' : CoreView) (used : ℕ) (listening : Bool) (refused : List LinkId) (a b : Seen)
    → map link_number states' ≡ map link_number states → ((k : ℕ) → is_undrained (at_key link_number k states') ≡ is_undrained (at_key link_number k states)) → ((k : ℕ) → is_blocked (at_key link_number k states') ≡ is_blocked (at_key link_number k states)) → ((k : ℕ) → is_there (at_key link_number k states') ≡ is_there (at_key link_number k states))
    → map connection_link core'.connections ≡ map connection_link core.connections → ServersKeep core.servers core'.servers → (LeavesWhereEnded states core → LeavesWhereEnded states' core') → SameSets a b
    → AgreesOnLinks states core used listening refused a → AgreesOnLinks states' core' used listening refused b
among-come states states' core core' used listening refused a b numbers flags blocks stays clients come ended same s = record {
  counted = s.counted ∙ sym same.used;
  there = λ k. same.there k ∙ s.there k ∙ sym (stays k);
  undrained = λ k. same.undrained k ∙ s.undrained k ∙ sym (flags k);
  blocked = λ k. same.blocked k ∙ s.blocked k ∙ sym (blocks k);
  listens = same.listening ∙ s.listens;
  parties = λ k. rw (keeps k, come.links k, come.wanted, links k, wanted-append k core.servers.wanted come.more)
      (sym (or-assoc (is_some (at_key connection_link k core.connections)) (is_some (at_key seat_link k core.servers.seats)) (is_wanted k come.more))
      ∙ ap (λ t. t || is_wanted k come.more) (s.parties k) ∙ or-assoc (is_some (at_key link_number k states)) (is_wanted k core.servers.wanted) (is_wanted k come.more));
  ended = ended s.ended;
  alone = λ k e.
      let there : is_some (at_key connection_link k core.connections) ≡ true = sym (keeps k) ∙ e in
      let none : at_key seat_link k core.servers.seats ≡ None = s.alone k there in
      none-if (at_key seat_link k core'.servers.seats) (come.links k ∙ rw none (none-wanted k core.servers.used come.more come.next (λ above. not-above k there above)));
  once = subst Distinct (sym clients) s.once;
  seats = come.seats s.seats;
  order = come.order s.limited s.order;
  apart = subst Distinct (sym numbers) s.apart;
  unknown = λ k below. none_of _ (links k ∙ ap is_some (s.unknown k below));
  clients = λ k below. none_of _ (keeps k ∙ ap is_some (s.clients k below));
  unrefused = s.unrefused;
  spared = λ k e. none_of _ (keeps k ∙ ap is_some (s.spared k e));
  next = rw come.wanted (AreNext-append used core.servers.wanted come.more s.next (subst (λ n. AreNext n come.more) s.reached come.next));
  reached = rw come.wanted (let r = s.reached in let c = come.reached in let l = length-append core.servers.wanted come.more in omega arith);
  limited = come.limited s.limited;
} where
  links : (k : ℕ) → is_some (at_key link_number k states') ≡ is_some (at_key link_number k states)
  links k = same-keys link_number k states' states numbers

  keeps : (k : ℕ) → is_some (at_key connection_link k core'.connections) ≡ is_some (at_key connection_link k core.connections)
  keeps k = same-keys connection_link k core'.connections core.connections clients

  -- a client's number is used, and no connection that comes has it
  not-above : (k : ℕ) → is_some (at_key connection_link k core.connections) ≡ true → core.servers.used < k → ⊥
  not-above k there above = false≢true (sym (ap is_some (clients-above states core used listening refused a s k above)) ∙ there)

-- nobody comes to a link whose number is used
pub party-used : (k : ℕ) (states states' : List LinkState) (core core' : CoreView) (used : ℕ) (listening : Bool) (refused : List LinkId) (a : Seen) → nat_le k used ≡ true → map connection_link core'.connections ≡ map connection_link core.connections → ServersKeep core.servers core'.servers
    → AgreesOnLinks states core used listening refused a → has_party k core' ≡ has_party k core
party-used k states states' core core' used listening refused a used' clients come s =
    let none : is_wanted k come.more ≡ false = none-wanted k core.servers.used come.more come.next (λ above. not-above above) in
    rw (same-keys connection_link k core'.connections core.connections clients, come.links k, none) (ap (λ t. is_some (at_key connection_link k core.connections) || t) (or-false (is_some (at_key seat_link k core.servers.seats))))
  where
    not-above : core.servers.used < k → ⊥
    not-above above =
        let r = s.reached in
        let below : k ≤ used = grind (arith, nat_tests) in
        absurd (omega arith)

front-none : (xs ys : List Closed) → xs ++ ys ≡ [] → xs ≡ []
front-none [] ys e = refl
front-none (x ∷ xs) ys e = cc

back-none : (xs ys : List Closed) → xs ++ ys ≡ [] → ys ≡ []
back-none [] ys e = e
back-none (x ∷ xs) ys e = cc

-- where nobody is leaving, no client is, and no server
pub calm-clients : (core : CoreView) → IsCalm core → leaving_closes core.connections ≡ []
calm-clients core calm = back-none (seat_closes core.servers.seats) (leaving_closes core.connections) calm.parted

pub calm-seats : (core : CoreView) → IsCalm core → seat_closes core.servers.seats ≡ []
calm-seats core calm = front-none (seat_closes core.servers.seats) (leaving_closes core.connections) calm.parted
