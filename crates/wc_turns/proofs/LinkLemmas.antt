-- Laws of the links that are open.
use Rattle.std.proofs.Common.{◌≡◌, ℕ, ◌+◌, ◌≤◌, true, false, List, [], ◌∷◌, ◌++◌, length, Option, Some, None, is_some, refl, sym, ap}
use Rattle.std.proofs.lemmas.Bool.{false≢true}
use Rattle.wc_framing.specs.declared.framing.Framing.TheVariants.{Plain}
use Rattle.wc_turns.specs.declared.links.LinkState.{LinkState}
use Rattle.wc_turns.specs.declared.links.Closed.{Closed}
use Rattle.wc_outside.specs.Keyed.{at_key, without, PlaceOf}
use Rattle.wc_turns.specs.Links.{link_number, with_closed}
use Rattle.wc_turns.proofs.KeyedLemmas.{length-without, some_of}

pub some_tail : LinkState
some_tail = record { link = record { 0 = 0 }; server = None; connecting = false; refused = false; tail = record { line = []; over = false }; framing = Plain; ended = false; undrained = false; blocked = false }

-- a place that is not given
pub missing-place : (k : ℕ) (states : List LinkState) (place : Option ℕ) → PlaceOf link_number k states place → is_some place ≡ false → at_key link_number k states ≡ None
missing-place k states None p e = p
missing-place k states (Some i) p e = absurd (false≢true (sym e))

pub place-there : (k : ℕ) (states : List LinkState) (place : Option ℕ) → PlaceOf link_number k states place → is_some place ≡ true → is_some (at_key link_number k states) ≡ true
place-there k states None p e = absurd (false≢true e)
place-there k states (Some i) p e = ap is_some (p.found some_tail)

listed-by : (o : Option LinkState) (closed : List Closed) (one : Closed) → is_some o ≡ true → with_closed o closed one ≡ closed ++ one ∷ []
listed-by (Some state) closed one e = refl
listed-by None closed one e = absurd (false≢true e)

pub listed-there : (k : ℕ) (states : List LinkState) (place : Option ℕ) (closed : List Closed) (one : Closed) → PlaceOf link_number k states place → is_some place ≡ true → with_closed (at_key link_number k states) closed one ≡ closed ++ one ∷ []
listed-there k states place closed one p e = listed-by _ closed one (place-there k states place p e)

pub fewer-there : (k : ℕ) (states : List LinkState) (place : Option ℕ) → PlaceOf link_number k states place → is_some place ≡ true → length (without link_number k states) + 1 ≤ length states
fewer-there k states place p e = length-without link_number k states (some_of _ (place-there k states place p e))
