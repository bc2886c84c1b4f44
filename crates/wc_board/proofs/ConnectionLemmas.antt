-- Connections of which each was served, or left for want of memory.
use Rattle.std.proofs.Common.{◌≡◌, ℕ, ◌<◌, ◌≤◌, Bool, true, false, cond, ◌&&◌, eqb, List, [], ◌∷◌, ◌++◌, inl, inr, Option, Some, None, IsSome, refl, ap, sym, subst, ◌∙◌, arith, zero, suc, length, get_or, set, take, drop, ◌+◌, append-nil}
use Rattle.std.specs.Prelude.{map, filter, not}
use Rattle.std.specs.List.{remove}
use Rattle.std.specs.Option.{is_none}
use Rattle.std.proofs.Math.Seq.{take-length}
use Rattle.std.proofs.lemmas.List.{set-get_or, take_all, drop_all as drop_past}
use Rattle.std.proofs.lemmas.List.Edits.{map_over_more}
use Rattle.std.proofs.lemmas.Bool.{false≢true, eq-eqb}
use Rattle.wc_text.specs.declared.names.Cause.{Cause}
use Rattle.wc_hooks.proofs.Lists.{by_bool, keeps_first, drops_first}
use Rattle.wc_outside.specs.Keyed.{at_key, without, IsKeyPlace}
use Rattle.wc_outside.proofs.KeyedLemmas.{at_key-key}
use Rattle.wc_model.specs.declared.notice.EventKind.{EventKind}
use Rattle.wc_board.specs.declared.connection.Connection.{Connection}
use Rattle.wc_board.specs.Connections.{connection_link, is_open, leaving_in, leaving_on}
use Rattle.wc_board.specs.Served.{StaysOrStarves, starved_connection, ConnectionServed, ConnectionsServed, ConnectionKept, ConnectionsKept}

pub ConnectionsKept-links : (old new : List Connection) → ConnectionsKept old new → map connection_link new ≡ map connection_link old
ConnectionsKept-links [] [] kept = refl
ConnectionsKept-links [] (b ∷ new) kept = absurd kept
ConnectionsKept-links (a ∷ old) [] kept = absurd kept
ConnectionsKept-links (a ∷ old) (b ∷ new) kept = rw (kept.0.link, ConnectionsKept-links old new kept.1) refl

pub ConnectionsKept-length : (old new : List Connection) → ConnectionsKept old new → length new ≡ length old
ConnectionsKept-length [] [] kept = refl
ConnectionsKept-length [] (b ∷ new) kept = absurd kept
ConnectionsKept-length (a ∷ old) [] kept = absurd kept
ConnectionsKept-length (a ∷ old) (b ∷ new) kept = ap suc (ConnectionsKept-length old new kept.1)

drop_all : (connections : List Connection) → drop (length connections) connections ≡ []
drop_all [] = refl
drop_all (connection ∷ connections) = drop_all connections

-- connections that were lent as a slice, and are as many as before
pub items_back : (len : ℕ) (old new : List Connection) → len ≡ length old → length new ≡ length old → take len (new ++ drop (length new) old) ≡ new
items_back len old new e same =
    ap (λ n. take len (new ++ drop n old)) same ∙ ap (λ s. take len (new ++ s)) (drop_all old) ∙ ap (take len) (append-nil new) ∙ ap (λ n. take n new) (e ∙ sym same) ∙ take-length new

leaves_shut : (connection : Connection) → IsSome connection.leaving → is_open connection ≡ false
leaves_shut connection leaves = by connection.leaving leaves where
  by : (o : Option Cause) → IsSome o → is_none o ≡ false
  by None leaves = absurd (cc)
  by (Some why) leaves = refl

pub ConnectionsKept-leaving : (j : ℕ) (old new : List Connection) → ConnectionsKept old new → IsSome (leaving_on j old) → at_key connection_link j new ≡ at_key connection_link j old
ConnectionsKept-leaving j [] [] kept some = refl
ConnectionsKept-leaving j [] (b ∷ new) kept some = absurd kept
ConnectionsKept-leaving j (a ∷ old) [] kept some = absurd kept
ConnectionsKept-leaving j (a ∷ old) (b ∷ new) kept some =
    ap (λ n. cond (eqb n j) (Some b) (at_key connection_link j new)) kept.0.link ∙ by (eqb (connection_link a) j) (ConnectionsKept-leaving j old new kept.1) some
  where
    by : (t : Bool) → (IsSome (leaving_on j old) → at_key connection_link j new ≡ at_key connection_link j old) → IsSome (leaving_in (cond t (Some a) (at_key connection_link j old))) → cond t (Some b) (at_key connection_link j new) ≡ cond t (Some a) (at_key connection_link j old)
    by true more leaves = ap (λ s. Some s) (kept.0.kept (leaves_shut a leaves))
    by false more leaves = more leaves

pub and_left : (a b : Bool) → (a && b) ≡ true → a ≡ true
and_left true b e = refl
and_left false b e = e

pub and_right : (a b : Bool) → (a && b) ≡ true → b ≡ true
and_right true b e = e
and_right false b e = absurd (false≢true e)

-- why the client of a link is leaving, where memory may have been refused
pub ConnectionsKept-causes : (j : ℕ) (old new : List Connection) → ConnectionsKept old new → StaysOrStarves (leaving_on j old) (leaving_on j new)
ConnectionsKept-causes j [] [] kept = inl refl
ConnectionsKept-causes j [] (b ∷ new) kept = absurd kept
ConnectionsKept-causes j (a ∷ old) [] kept = absurd kept
ConnectionsKept-causes j (a ∷ old) (b ∷ new) kept =
    let P : ℕ → Type 0 = λ n. StaysOrStarves (leaving_on j (a ∷ old)) (leaving_in (cond (eqb n j) (Some b) (at_key connection_link j new))) in
    subst P (sym kept.0.link) (by (eqb (connection_link a) j) (ConnectionsKept-causes j old new kept.1))
  where
    by : (t : Bool) → StaysOrStarves (leaving_on j old) (leaving_on j new) → StaysOrStarves (leaving_in (cond t (Some a) (at_key connection_link j old))) (leaving_in (cond t (Some b) (at_key connection_link j new)))
    by true more = kept.0.cause
    by false more = more

pub ConnectionKept-refl : (a : Connection) → ConnectionKept a a
ConnectionKept-refl a = record { link = refl; kept = λ shut. refl; cause = inl refl }

-- what is at a place
pub element : {X : Type 0} (xs : List X) (i : ℕ) → i < length xs → (x : X) × (x ≡ get_or xs i x)
element [] i inside = absurd (omega (arith, inside))
element (x ∷ xs) zero inside = (x, refl)
element (x ∷ xs) (suc i) inside = element xs i (omega (arith, inside))

-- the first connections are served, and the others as they were
abbrev pub ServedTo : EventKind → ℕ → (Connection → Connection) → ℕ → List Connection → List Connection → Type 0
ServedTo kind buffer service zero old now = now ≡ old
ServedTo kind buffer service (suc i) [] [] = Unit {0}
ServedTo kind buffer service (suc i) [] (b ∷ now) = ⊥
ServedTo kind buffer service (suc i) (a ∷ old) [] = ⊥
ServedTo kind buffer service (suc i) (a ∷ old) (b ∷ now) = ConnectionServed kind buffer service a b × ServedTo kind buffer service i old now

pub served_by : (kind : EventKind) (buffer : ℕ) (service : Connection → Connection) (x y : Connection) (b : Bool) → (b ≡ true → y ≡ service x) → (b ≡ false → y ≡ starved_connection kind buffer x) → ConnectionServed kind buffer service x y
served_by kind buffer service x y true f g = inl (f refl)
served_by kind buffer service x y false f g = inr (g refl)

served_more : (kind : EventKind) (buffer : ℕ) (service : Connection → Connection) (i : ℕ) (old now : List Connection) (x y : Connection) → ServedTo kind buffer service i old now → i < length now → x ≡ get_or now i x → ConnectionServed kind buffer service x y → ServedTo kind buffer service (suc i) old (set now i y)
served_more kind buffer service zero old [] x y to inside at one = absurd (omega arith)
served_more kind buffer service zero [] (b ∷ now) x y to inside at one = absurd (cc)
served_more kind buffer service zero (a ∷ old) (b ∷ now) x y to inside at one =
    let same : x ≡ a = cc in
    let P : Connection → Type 0 = λ s. ConnectionServed kind buffer service s y in
    (subst P same one, cc)
served_more kind buffer service (suc i) [] [] x y to inside at one = tt
served_more kind buffer service (suc i) [] (b ∷ now) x y to inside at one = absurd to
served_more kind buffer service (suc i) (a ∷ old) [] x y to inside at one = absurd to
served_more kind buffer service (suc i) (a ∷ old) (b ∷ now) x y to inside at one = (to.0, served_more kind buffer service i old now x y to.1 (omega arith) at one)

-- one connection more was served
pub served_next : (kind : EventKind) (buffer : ℕ) (service : Connection → Connection) (i k : ℕ) (old now : List Connection) (x y : Connection) → k ≡ suc i → ServedTo kind buffer service i old now → i < length now → x ≡ get_or now i x → ConnectionServed kind buffer service x y → ServedTo kind buffer service k old (set now i y)
served_next kind buffer service i k old now x y e to inside at one =
    let P : ℕ → Type 0 = λ n. ServedTo kind buffer service n old (set now i y) in
    subst P (sym e) (served_more kind buffer service i old now x y to inside at one)

-- all were
pub served_whole : (kind : EventKind) (buffer : ℕ) (service : Connection → Connection) (i : ℕ) (old now : List Connection) → length old ≤ i → ServedTo kind buffer service i old now → ConnectionsServed kind buffer service old now
served_whole kind buffer service zero [] [] all to = tt
served_whole kind buffer service zero [] (b ∷ now) all to = absurd (cc)
served_whole kind buffer service zero (a ∷ old) now all to = absurd (omega arith)
served_whole kind buffer service (suc i) [] [] all to = tt
served_whole kind buffer service (suc i) [] (b ∷ now) all to = absurd to
served_whole kind buffer service (suc i) (a ∷ old) [] all to = absurd to
served_whole kind buffer service (suc i) (a ∷ old) (b ∷ now) all to = (to.0, served_whole kind buffer service i old now (omega arith) to.1)

-- what the connections are once one more was served
pub serve_more : (service : Connection → Connection) (old now : List Connection) (i k : ℕ) (x y : Connection) (so_far served : Bool) → k ≡ i + 1 → x ≡ get_or now i x
    → (so_far ≡ true → now ≡ map service (take i old) ++ drop i old) → (served ≡ true → y ≡ service x) → i < length old
    → (so_far && served) ≡ true → set now i y ≡ map service (take k old) ++ drop k old
serve_more service old now i k x y so_far served e at before serves within both =
    ap (λ s. set now i s) (serves (and_right so_far served both)) ∙ map_over_more service old now i x within (before (and_left so_far served both)) at
    ∙ ap (λ n. map service (take n old) ++ drop n old) (sym e)

-- one is passed over that the service leaves as it is
pub pass_more : (service : Connection → Connection) (old now : List Connection) (i k : ℕ) (x : Connection) (so_far : Bool) → k ≡ i + 1 → x ≡ get_or now i x
    → (so_far ≡ true → now ≡ map service (take i old) ++ drop i old) → service x ≡ x → i < length old
    → so_far ≡ true → now ≡ map service (take k old) ++ drop k old
pass_more service old now i k x so_far e at before same within told =
    sym (ap (λ s. set now i s) (same ∙ at) ∙ set-get_or now i x) ∙ map_over_more service old now i x within (before told) at
    ∙ ap (λ n. map service (take n old) ++ drop n old) (sym e)

-- all were served
pub whole_told : (service : Connection → Connection) (old now : List Connection) (i : ℕ) → length old ≤ i → now ≡ map service (take i old) ++ drop i old → now ≡ map service old
whole_told service old now i past told =
    told ∙ ap (λ front. map service front ++ drop i old) (take_all i old past) ∙ ap (λ rest. map service old ++ rest) (drop_past i old past) ∙ append-nil (map service old)

pub passed_next : (kind : EventKind) (buffer : ℕ) (service : Connection → Connection) (i k : ℕ) (old now : List Connection) (x : Connection) → k ≡ suc i → ServedTo kind buffer service i old now → i < length now → x ≡ get_or now i x → service x ≡ x → ServedTo kind buffer service k old now
passed_next kind buffer service i k old now x e to inside at same =
    let stays : set now i x ≡ now = ap (λ s. set now i s) at ∙ set-get_or now i x in
    subst (λ (s : List Connection). ServedTo kind buffer service k old s) stays (served_next kind buffer service i k old now x x e to inside at (inl (sym same)))

-- ---- the clients of a link taken out

filter_removed : (p : Connection → Bool) (cs : List Connection) (i : ℕ) (x : Connection) → i < length cs → x ≡ get_or cs i x → p x ≡ false → filter p (remove cs i) ≡ filter p cs
filter_removed p [] i x inside at fails = absurd (omega (arith, inside))
filter_removed p (c ∷ cs) zero x inside at fails = sym (drops_first p c cs (ap p (sym at) ∙ fails))
filter_removed p (c ∷ cs) (suc i) x inside at fails = by_bool (p c)
    (λ t. keeps_first p c (remove cs i) t ∙ ap (λ rest. c ∷ rest) (filter_removed p cs i x (omega (arith, inside)) at fails) ∙ sym (keeps_first p c cs t))
    (λ f. drops_first p c (remove cs i) f ∙ filter_removed p cs i x (omega (arith, inside)) at fails ∙ sym (drops_first p c cs f))

-- one of them is taken out
pub removed-without : (link : ℕ) (cs : List Connection) (i : ℕ) → IsKeyPlace connection_link link cs i → without connection_link link (remove cs i) ≡ without connection_link link cs
removed-without link cs i place = with_one (element cs i place.inside) where
  with_one : ((x : Connection) × (x ≡ get_or cs i x)) → without connection_link link (remove cs i) ≡ without connection_link link cs
  with_one one =
      let key : connection_link one.0 ≡ link = at_key-key connection_link link cs one.0 (place.found one.0 ∙ ap Some (sym one.1)) in
      filter_removed (λ c. not (eqb (connection_link c) link)) cs i one.0 place.inside one.1 (ap not (eq-eqb (connection_link one.0) link key))

-- none of them is left
pub without-none : (link : ℕ) (cs : List Connection) → at_key connection_link link cs ≡ None → without connection_link link cs ≡ cs
without-none link [] none = refl
without-none link (c ∷ cs) none = by_bool (eqb (connection_link c) link)
    (λ t. let found : Some c ≡ None = ap (λ b. cond b (Some c) (at_key connection_link link cs)) (sym t) ∙ none in absurd (cc))
    (λ f. keeps_first (λ x. not (eqb (connection_link x) link)) c cs (ap not f) ∙ ap (λ rest. c ∷ rest) (without-none link cs (ap (λ b. cond b (Some c) (at_key connection_link link cs)) (sym f) ∙ none)))
