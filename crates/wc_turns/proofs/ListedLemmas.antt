-- Links that are all others but for some.
use Rattle.std.proofs.Common.{◌≡◌, ℕ, ◌≤◌, inl, inr, List, [], ◌∷◌, ◌++◌, None, refl, sym, ap, arith}
use Rattle.wc_text.specs.declared.names.LinkId.{LinkId}
use Rattle.wc_outside.specs.Keyed.{at_key}
use Rattle.wc_turns.specs.declared.links.LinkState.{LinkState}
use Rattle.wc_turns.specs.Links.{link_number, IsUnkept, AreAllBut}

pub but-weaker : (P Q : ℕ → Type 0) → ((k : ℕ) → P k → Q k) → (links all : List LinkId) → AreAllBut P links all → AreAllBut Q links all
but-weaker P Q weaker [] [] h = tt
but-weaker P Q weaker (l ∷ links) [] h = absurd h
but-weaker P Q weaker [] (one ∷ all) h = (weaker one.0 h.0, but-weaker P Q weaker [] all h.1)
but-weaker P Q weaker (l ∷ links) (one ∷ all) (inl h) = inl (h.0, but-weaker P Q weaker links all h.1)
but-weaker P Q weaker (l ∷ links) (one ∷ all) (inr h) = inr (weaker one.0 h.0, but-weaker P Q weaker (l ∷ links) all h.1)

-- one more is among them
pub but-push : (P : ℕ → Type 0) (links all : List LinkId) (link : LinkId) → AreAllBut P links all → AreAllBut P (links ++ link ∷ []) (all ++ link ∷ [])
but-push P [] [] link h = inl (refl, tt)
but-push P (l ∷ links) [] link h = absurd h
but-push P [] (one ∷ all) link h = inr (h.0, but-push P [] all link h.1)
but-push P (l ∷ links) (one ∷ all) link (inl h) = inl (h.0, but-push P links all link h.1)
but-push P (l ∷ links) (one ∷ all) link (inr h) = inr (h.0, but-push P (l ∷ links) all link h.1)

-- one more is not
pub but-passed : (P : ℕ → Type 0) (links all : List LinkId) (link : LinkId) → P link.0 → AreAllBut P links all → AreAllBut P links (all ++ link ∷ [])
but-passed P [] [] link p h = (p, tt)
but-passed P (l ∷ links) [] link p h = absurd h
but-passed P [] (one ∷ all) link p h = (h.0, but-passed P [] all link p h.1)
but-passed P (l ∷ links) (one ∷ all) link p (inl h) = inl (h.0, but-passed P links all link p h.1)
but-passed P (l ∷ links) (one ∷ all) link p (inr h) = inr (h.0, but-passed P (l ∷ links) all link p h.1)

-- where the last one of them is
pub record LastAmong (P : ℕ → Type 0) (links : List LinkId) (link : LinkId) (all : List LinkId) : Type 0 where
  pub front : List LinkId
  pub back : List LinkId
  pub same : all ≡ front ++ link ∷ back
  pub before : AreAllBut P links front
  pub after : AreAllBut P [] back

pub but-last : (P : ℕ → Type 0) (links : List LinkId) (link : LinkId) (all : List LinkId) → AreAllBut P (links ++ link ∷ []) all → LastAmong P links link all
but-last P [] link [] h = absurd h
but-last P [] link (one ∷ all) (inl h) = record { front = []; back = all; same = ap (λ l. l ∷ all) (sym h.0); before = tt; after = h.1 }
but-last P [] link (one ∷ all) (inr h) = let s = but-last P [] link all h.1 in record { front = one ∷ s.front; back = s.back; same = ap (λ ls. one ∷ ls) s.same; before = (h.0, s.before); after = s.after }
but-last P (l ∷ links) link [] h = absurd h
but-last P (l ∷ links) link (one ∷ all) (inl h) = let s = but-last P links link all h.1 in record { front = one ∷ s.front; back = s.back; same = ap (λ ls. one ∷ ls) s.same; before = inl (h.0, s.before); after = s.after }
but-last P (l ∷ links) link (one ∷ all) (inr h) = let s = but-last P (l ∷ links) link all h.1 in record { front = one ∷ s.front; back = s.back; same = ap (λ ls. one ∷ ls) s.same; before = inr (h.0, s.before); after = s.after }

-- those that have no record are so later
pub since-as : (states states' : List LinkState) (used used' : ℕ) (links all : List LinkId) → used ≤ used' → ((k : ℕ) → k ≤ used → at_key link_number k states ≡ None → at_key link_number k states' ≡ None) → AreAllBut (IsUnkept states used) links all → AreAllBut (IsUnkept states' used') links all
since-as states states' used used' links all more missing = but-weaker (IsUnkept states used) (IsUnkept states' used') (λ k h. unkept k h) links all
  where
    unkept : (k : ℕ) → IsUnkept states used k → IsUnkept states' used' k
    unkept k h = let low = h.0 in (omega arith, missing k h.0 h.1)
