-- What the core goes through, put together.
use Rattle.std.proofs.Common.{◌≡◌, ℕ, List, [], ◌∷◌, ◌++◌, inl, inr, Option, Some, None, refl, ap, subst}
use Rattle.wc_core.specs.CoreView.{CoreView}
use Rattle.wc_core.specs.Events.{Event}
use Rattle.wc_turns.specs.Goes.{Leg, GoesThrough, with_event, events_by, TakesEvent, Besides, Starves, Drops, Keeps, StarvesWhole, DropsWhole, KeepsState, AreTaken, AreEnds, Goes}
use Rattle.std.proofs.lemmas.List.{append-nil}

-- ---- which events are taken

taken-same : (events : List Event) → AreTaken events events
taken-same [] = tt
taken-same (event ∷ events) = inl (refl, taken-same events)

pub taken-none : (all : List Event) → AreEnds all → AreTaken [] all
taken-none [] ends = tt
taken-none (one ∷ all) ends = (ends.0, taken-none all ends.1)

taken-both : (es xs fs ys : List Event) → AreTaken es xs → AreTaken fs ys → AreTaken (es ++ fs) (xs ++ ys)
taken-both [] [] fs ys h g = g
taken-both (e ∷ es) [] fs ys h g = elim h [ ]
taken-both [] (x ∷ xs) [] ys h g = (h.0, taken-both [] xs [] ys h.1 g)
taken-both [] (x ∷ xs) (f ∷ fs) ys h g = inr (h.0, taken-both [] xs (f ∷ fs) ys h.1 g)
taken-both (e ∷ es) (x ∷ xs) fs ys (inl h) g = inl (h.0, taken-both es xs fs ys h.1 g)
taken-both (e ∷ es) (x ∷ xs) fs ys (inr h) g = inr (h.0, taken-both (e ∷ es) xs fs ys h.1 g)

-- none was taken, so that more may tell of ends
taken-ends : (es all : List Event) → AreTaken es [] → AreEnds all → AreTaken es all
taken-ends [] all h ends = taken-none all ends
taken-ends (_ ∷ _) all h ends = elim h [ ]

-- ---- one after another

events-both : (legs more : List Leg) → events_by (legs ++ more) ≡ events_by legs ++ events_by more
events-both [] more = refl
events-both (leg ∷ legs) more = by leg.event (events-both legs more) where
  by : (o : Option Event) → events_by (legs ++ more) ≡ events_by legs ++ events_by more → with_event o (events_by (legs ++ more)) ≡ with_event o (events_by legs) ++ events_by more
  by None e = e
  by (Some event) e = ap (λ es. event ∷ es) e

through-both : (legs more : List Leg) (a b c : CoreView) → GoesThrough legs a b → GoesThrough more b c → GoesThrough (legs ++ more) a c
through-both [] more a b c same then = let P : CoreView → Type 0 = λ core. GoesThrough more core c in subst P same then
through-both (leg ∷ legs) more a b c goes then = (goes.0, through-both legs more leg.core b c goes.1 then)

pub Goes-both : (es fs : List Event) (a b c : CoreView) → Goes es a b → Goes fs b c → Goes (es ++ fs) a c
Goes-both es fs a b c h g = record {
  legs = h.legs ++ g.legs;
  through = through-both h.legs g.legs a b c h.through g.through;
  taken = rw (events-both h.legs g.legs) (taken-both (events_by h.legs) es (events_by g.legs) fs h.taken g.taken);
}

pub Goes-same : (a b : CoreView) → b ≡ a → Goes [] a b
Goes-same a b same = record { legs = []; through = same; taken = tt }

-- events that tell of an end are passed over
pub Goes-ends : (all : List Event) (a b : CoreView) → AreEnds all → Goes [] a b → Goes all a b
Goes-ends all a b ends h = record { legs = h.legs; through = h.through; taken = taken-ends (events_by h.legs) all h.taken ends }

pub Goes-one : (event : Event) (a b : CoreView) → TakesEvent event a b → Goes (event ∷ []) a b
Goes-one event a b takes = record { legs = record { event = Some event; core = b } ∷ []; through = (takes, refl); taken = inl (refl, tt) }

goes-besides : (a b : CoreView) → Besides a b → Goes [] a b
goes-besides a b does = record { legs = record { event = None; core = b } ∷ []; through = (does, refl); taken = tt }

pub Goes-starved : (link : ℕ) (a b : CoreView) → StarvesWhole link a b → Goes [] a b
Goes-starved link a b starves = goes-besides a b (Starves link starves)

pub Goes-dropped : (link : ℕ) (a b : CoreView) → DropsWhole link a b → Goes [] a b
Goes-dropped link a b drops = goes-besides a b (Drops link drops)

pub Goes-kept : (a b : CoreView) → KeepsState a b → Goes [] a b
Goes-kept a b keeps = goes-besides a b (Keeps keeps)

pub Goes-then : (es : List Event) (a b c : CoreView) → Goes es a b → Goes [] b c → Goes es a c
Goes-then es a b c h g = let P : List Event → Type 0 = λ all. Goes all a c in subst P (append-nil es) (Goes-both es [] a b c h g)
