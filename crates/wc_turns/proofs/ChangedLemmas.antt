-- A link that is kept changes: it is reported, drained, or written.
use Rattle.std.proofs.Common.{◌≡◌, ◌≢◌, ◌⊎◌, inl, inr, ℕ, Bool, true, false, not, cond, eqb, ◌&&◌, ◌||◌, List, map, Option, Some, None, IfSome, is_some, refl, sym, ap, ◌∙◌, arith}
use Rattle.std.proofs.lemmas.Bool.Decides.{nat_tests}
use Rattle.wc_turns.specs.declared.links.LinkState.{LinkState}
use Rattle.wc_outside.specs.Keyed.{at_key, put_at}
use Rattle.wc_framing.specs.declared.framing.Framing.{Framing}
use Rattle.wc_framing.specs.declared.framing.Framing.TheVariants as framing
use Rattle.wc_framing.specs.Framing.{silent}
use Rattle.wc_turns.specs.Framed.{gone_in}
use Rattle.wc_turns.specs.Links.{Kind, link_number, is_undrained, is_blocked, is_there, kind_of, changed_at, reported_state, drained_state, written_link, standing_state, gone_frames}
use Rattle.wc_turns.specs.Steps.{SameTails, SameKinds}
use Rattle.wc_turns.specs.Tails.{IsTail}
use Rattle.wc_turns.proofs.KeyedLemmas.{at_key-key, at_key-put_other, at_key-put_same, map-put_at, none_of, or-false, same-keys}

-- what is looked up, where it is the link that changes or is not
abbrev pub changed : Bool → (LinkState → LinkState) → Option LinkState → Option LinkState
changed true change (Some state) = Some (change state)
changed true change None = None
changed false change o = o

-- it stays the same link, and what came on it stays
pub record KeepsLink (change : LinkState → LinkState) : Type 0 where
  pub number : (state : LinkState) → link_number (change state) ≡ link_number state
  pub tail : (state : LinkState) → (change state).tail ≡ state.tail

pub keeps-reported : KeepsLink reported_state
keeps-reported = record { number = λ state. refl; tail = λ state. refl }

pub keeps-drained : KeepsLink drained_state
keeps-drained = record { number = λ state. refl; tail = λ state. refl }

pub keeps-written : (blocked : Bool) → KeepsLink (written_link blocked)
keeps-written blocked = record { number = λ state. refl; tail = λ state. refl }

pub keeps-standing : KeepsLink standing_state
keeps-standing = record { number = λ state. refl; tail = λ state. refl }

pub keeps-gone : (count : ℕ) → KeepsLink (gone_frames count)
keeps-gone count = record { number = λ state. refl; tail = λ state. refl }

changed-by : (j k : ℕ) (t : Bool) → eqb k j ≡ t → (change : LinkState → LinkState) → KeepsLink change → (states : List LinkState) (o : Option LinkState) → at_key link_number j states ≡ o → at_key link_number k (changed_at j change states o) ≡ changed t change (at_key link_number k states)
changed-by j k true e change keeps states None h =
    let same : k ≡ j = grind (arith, nat_tests) in
    let none : at_key link_number k states ≡ None = ap (λ i. at_key link_number i states) same ∙ h in
    rw none refl
changed-by j k true e change keeps states (Some state) h =
    let same : k ≡ j = grind (arith, nat_tests) in
    let before : at_key link_number k states ≡ Some state = ap (λ i. at_key link_number i states) same ∙ h in
    let after : at_key link_number k (put_at link_number j (change state) states) ≡ Some (change state) = ap (λ i. at_key link_number i (put_at link_number j (change state) states)) same ∙ at_key-put_same link_number j state (change state) states (keeps.number state ∙ at_key-key link_number j states state h) h in
    rw (after, before) refl
changed-by j k false e change keeps states None h = refl
changed-by j k false e change keeps states (Some state) h =
    let other : k ≢ j = λ q. grind (arith, nat_tests) in
    at_key-put_other link_number j k (change state) states (keeps.number state ∙ at_key-key link_number j states state h) other

pub at_key-changed : (j k : ℕ) (change : LinkState → LinkState) → KeepsLink change → (states : List LinkState) → at_key link_number k (changed_at j change states (at_key link_number j states)) ≡ changed (eqb k j) change (at_key link_number k states)
at_key-changed j k change keeps states = changed-by j k (eqb k j) refl change keeps states (at_key link_number j states) refl

numbers-by : (j : ℕ) (change : LinkState → LinkState) → KeepsLink change → (states : List LinkState) (o : Option LinkState) → at_key link_number j states ≡ o → map link_number (changed_at j change states o) ≡ map link_number states
numbers-by j change keeps states None h = refl
numbers-by j change keeps states (Some state) h = map-put_at link_number j (change state) states (keeps.number state ∙ at_key-key link_number j states state h)

-- the same links are there
pub numbers-changed : (j : ℕ) (change : LinkState → LinkState) → KeepsLink change → (states : List LinkState) → map link_number (changed_at j change states (at_key link_number j states)) ≡ map link_number states
numbers-changed j change keeps states = numbers-by j change keeps states (at_key link_number j states) refl

tails-by : (t : Bool) (change : LinkState → LinkState) → KeepsLink change → (line : List ℕ) (o : Option LinkState) → IfSome o (λ state. IsTail line state.tail) → IfSome (changed t change o) (λ state. IsTail line state.tail)
tails-by true change keeps line (Some state) h = rw (keeps.tail state) h
tails-by true change keeps line None h = tt
tails-by false change keeps line o h = h

pub SameTails-changed : (j : ℕ) (change : LinkState → LinkState) → KeepsLink change → (states : List LinkState) → SameTails states (changed_at j change states (at_key link_number j states))
SameTails-changed j change keeps states = λ k line h. rw (at_key-changed j k change keeps states) (tails-by (eqb k j) change keeps line (at_key link_number k states) h)

-- a change of what is ready of a link alone
pub record KeepsKind (change : LinkState → LinkState) : Type 0 where
  pub server : (state : LinkState) → (change state).server ≡ state.server
  pub connecting : (state : LinkState) → (change state).connecting ≡ state.connecting
  pub refused : (state : LinkState) → (change state).refused ≡ state.refused
  pub framing : (state : LinkState) → silent (change state).framing ≡ silent state.framing
  pub ended : (state : LinkState) → (change state).ended ≡ state.ended

pub kind-reported : KeepsKind reported_state
kind-reported = record { server = λ state. refl; connecting = λ state. refl; refused = λ state. refl; framing = λ state. refl; ended = λ state. refl }

pub kind-drained : KeepsKind drained_state
kind-drained = record { server = λ state. refl; connecting = λ state. refl; refused = λ state. refl; framing = λ state. refl; ended = λ state. refl }

pub kind-written : (blocked : Bool) → KeepsKind (written_link blocked)
kind-written blocked = record { server = λ state. refl; connecting = λ state. refl; refused = λ state. refl; framing = λ state. refl; ended = λ state. refl }

silent-gone : (count : ℕ) (f : Framing) → silent (gone_in count f) ≡ silent f
silent-gone count framing.Undecided = refl
silent-gone count framing.Plain = refl
silent-gone count (framing.Socket link) = refl

pub kind-gone : (count : ℕ) → KeepsKind (gone_frames count)
kind-gone count = record { server = λ state. refl; connecting = λ state. refl; refused = λ state. refl; framing = λ state. silent-gone count state.framing; ended = λ state. refl }

kinds-by : (t : Bool) (change : LinkState → LinkState) → KeepsKind change → (o : Option LinkState) → kind_of (changed t change o) ≡ kind_of o
kinds-by true change keeps (Some state) = rw (keeps.server state, keeps.connecting state, keeps.refused state, keeps.framing state, keeps.ended state) refl
kinds-by true change keeps None = refl
kinds-by false change keeps o = refl

pub SameKinds-changed : (j : ℕ) (change : LinkState → LinkState) → KeepsLink change → KeepsKind change → (states : List LinkState) → SameKinds states (changed_at j change states (at_key link_number j states))
SameKinds-changed j change keeps kind states = λ k. inr (ap kind_of (at_key-changed j k change keeps states) ∙ kinds-by (eqb k j) change kind (at_key link_number k states))

-- the sockets have the same links as before
pub there-kind : (o o' : Option LinkState) → kind_of o' ≡ kind_of o → is_there o' ≡ is_there o
there-kind None None e = refl
there-kind None (Some new) e = absurd (let q : kind_of (Some new) ≡ None = e in cc)
there-kind (Some old) None e = absurd (let q : None ≡ kind_of (Some old) = e in cc)
there-kind (Some old) (Some new) e = ap (λ k. not (refused_of k)) e
  where
    refused_of : Option Kind → Bool
    refused_of None = false
    refused_of (Some kind) = kind.refused

there-by : (o o' : Option LinkState) → is_some o' ≡ is_some o → (o' ≡ None) ⊎ (kind_of o' ≡ kind_of o) → is_there o' ≡ is_there o
there-by o o' same (inr e) = there-kind o o' e
there-by o o' same (inl none) = ap is_there none ∙ sym (ap is_there (none_of o (sym same ∙ ap is_some none)))

pub there-as : (states states' : List LinkState) → map link_number states' ≡ map link_number states → SameKinds states states' → (k : ℕ) → is_there (at_key link_number k states') ≡ is_there (at_key link_number k states)
there-as states states' numbers kinds k = there-by (at_key link_number k states) (at_key link_number k states') (same-keys link_number k states' states numbers) (kinds k)

-- ---- a link is reported

or-one : (b : Bool) → true ≡ (b || true)
or-one true = refl
or-one false = refl

and-none : (b : Bool) → (b && false) ≡ false
and-none true = refl
and-none false = refl

and-all : (b : Bool) → (b && true) ≡ b
and-all true = refl
and-all false = refl

reported-undrained : (t : Bool) (o : Option LinkState) → is_undrained (changed t reported_state o) ≡ (is_undrained o || (t && is_some o))
reported-undrained true (Some state) = or-one state.undrained
reported-undrained true None = refl
reported-undrained false o = sym (or-false _)

reported-blocked : (t : Bool) (o : Option LinkState) → is_blocked (changed t reported_state o) ≡ (is_blocked o && not t)
reported-blocked true (Some state) = sym (and-none state.blocked)
reported-blocked true None = refl
reported-blocked false o = sym (and-all _)

eqb-swap : (j k : ℕ) (t u : Bool) → eqb j k ≡ t → eqb k j ≡ u → t ≡ u
eqb-swap j k true true e f = refl
eqb-swap j k false false e f = refl
eqb-swap j k true false e f = absurd (let same : j ≡ k = grind (arith, nat_tests) in let other : k ≢ j = λ q. grind (arith, nat_tests) in other (sym same))
eqb-swap j k false true e f = absurd (let same : k ≡ j = grind (arith, nat_tests) in let other : j ≢ k = λ q. grind (arith, nat_tests) in other (sym same))

swapped : (j k : ℕ) → eqb k j ≡ eqb j k
swapped j k = sym (eqb-swap j k (eqb j k) (eqb k j) refl refl)

pub undrained-reported : (j k : ℕ) (states : List LinkState) → is_undrained (at_key link_number k (changed_at j reported_state states (at_key link_number j states))) ≡ (is_undrained (at_key link_number k states) || (eqb j k && is_some (at_key link_number k states)))
undrained-reported j k states =
    ap is_undrained (at_key-changed j k reported_state keeps-reported states) ∙ reported-undrained (eqb k j) (at_key link_number k states)
    ∙ ap (λ t. is_undrained (at_key link_number k states) || (t && is_some (at_key link_number k states))) (swapped j k)

pub blocked-reported : (j k : ℕ) (states : List LinkState) → is_blocked (at_key link_number k (changed_at j reported_state states (at_key link_number j states))) ≡ (is_blocked (at_key link_number k states) && not (eqb j k))
blocked-reported j k states =
    ap is_blocked (at_key-changed j k reported_state keeps-reported states) ∙ reported-blocked (eqb k j) (at_key link_number k states)
    ∙ ap (λ t. is_blocked (at_key link_number k states) && not t) (swapped j k)

-- ---- a link is drained

drained-undrained : (t : Bool) (o : Option LinkState) → is_undrained (changed t drained_state o) ≡ (is_undrained o && not (t && true))
drained-undrained true (Some state) = sym (and-none state.undrained)
drained-undrained true None = refl
drained-undrained false o = sym (and-all _)

drained-blocked : (t : Bool) (o : Option LinkState) → is_blocked (changed t drained_state o) ≡ is_blocked o
drained-blocked true (Some state) = refl
drained-blocked true None = refl
drained-blocked false o = refl

pub undrained-drained : (j k : ℕ) (states : List LinkState) → is_undrained (at_key link_number k (changed_at j drained_state states (at_key link_number j states))) ≡ (is_undrained (at_key link_number k states) && not (eqb k j && true))
undrained-drained j k states = ap is_undrained (at_key-changed j k drained_state keeps-drained states) ∙ drained-undrained (eqb k j) (at_key link_number k states)

pub blocked-drained : (j k : ℕ) (states : List LinkState) → is_blocked (at_key link_number k (changed_at j drained_state states (at_key link_number j states))) ≡ is_blocked (at_key link_number k states)
blocked-drained j k states = ap is_blocked (at_key-changed j k drained_state keeps-drained states) ∙ drained-blocked (eqb k j) (at_key link_number k states)

-- ---- a link is written

written-undrained : (blocked t : Bool) (o : Option LinkState) → is_undrained (changed t (written_link blocked) o) ≡ is_undrained o
written-undrained blocked true (Some state) = refl
written-undrained blocked true None = refl
written-undrained blocked false o = refl

written-blocked : (blocked t : Bool) (o : Option LinkState) → (t ≡ true → blocked ≡ true → is_some o ≡ true) → is_blocked (changed t (written_link blocked) o) ≡ cond t blocked (is_blocked o)
written-blocked blocked true (Some state) there = refl
written-blocked true true None there = there refl refl
written-blocked false true None there = refl
written-blocked blocked false o there = refl

pub undrained-written : (j k : ℕ) (blocked : Bool) (states : List LinkState) → is_undrained (at_key link_number k (changed_at j (written_link blocked) states (at_key link_number j states))) ≡ is_undrained (at_key link_number k states)
undrained-written j k blocked states = ap is_undrained (at_key-changed j k (written_link blocked) (keeps-written blocked) states) ∙ written-undrained blocked (eqb k j) (at_key link_number k states)

-- only a link that is there can be blocked
pub blocked-written : (j k : ℕ) (blocked : Bool) (states : List LinkState) → (blocked ≡ true → is_some (at_key link_number j states) ≡ true) → is_blocked (at_key link_number k (changed_at j (written_link blocked) states (at_key link_number j states))) ≡ cond (eqb k j) blocked (is_blocked (at_key link_number k states))
blocked-written j k blocked states there =
    ap is_blocked (at_key-changed j k (written_link blocked) (keeps-written blocked) states)
    ∙ written-blocked blocked (eqb k j) (at_key link_number k states) (λ e b. let same : k ≡ j = grind (arith, nat_tests) in ap (λ i. is_some (at_key link_number i states)) same ∙ there b)

-- ---- frames of a link are sent

gone-undrained : (count : ℕ) (t : Bool) (o : Option LinkState) → is_undrained (changed t (gone_frames count) o) ≡ is_undrained o
gone-undrained count true (Some state) = refl
gone-undrained count true None = refl
gone-undrained count false o = refl

gone-blocked : (count : ℕ) (t : Bool) (o : Option LinkState) → is_blocked (changed t (gone_frames count) o) ≡ is_blocked o
gone-blocked count true (Some state) = refl
gone-blocked count true None = refl
gone-blocked count false o = refl

pub undrained-gone : (j k count : ℕ) (states : List LinkState) → is_undrained (at_key link_number k (changed_at j (gone_frames count) states (at_key link_number j states))) ≡ is_undrained (at_key link_number k states)
undrained-gone j k count states = ap is_undrained (at_key-changed j k (gone_frames count) (keeps-gone count) states) ∙ gone-undrained count (eqb k j) (at_key link_number k states)

pub blocked-gone : (j k count : ℕ) (states : List LinkState) → is_blocked (at_key link_number k (changed_at j (gone_frames count) states (at_key link_number j states))) ≡ is_blocked (at_key link_number k states)
blocked-gone j k count states = ap is_blocked (at_key-changed j k (gone_frames count) (keeps-gone count) states) ∙ gone-blocked count (eqb k j) (at_key link_number k states)
