-- One channel of several, by its name and by its place.
use Rattle.std.proofs.Common.{◌≡◌, ℕ, zero, suc, ◌<◌, ◌≤◌, Bool, true, false, cond, List, [], ◌∷◌, length, map, get_or, set, Some, None, refl, ap, arith}
use Rattle.std.specs.Prelude.{position, option_map, not, ◌&&◌}
use Rattle.std.specs.List.{remove}
use Rattle.std.proofs.lemmas.Bool.Decides.{nat_tests}
use Rattle.std.proofs.lemmas.List.Quantifiers.{position-Some}
use Rattle.wc_ircmsg.specs.declared.case_map.CaseMap.{CaseMap}
use Rattle.wc_ircmsg.specs.declared.prefixes.Prefixes.{Prefixes}
use Rattle.wc_irc.specs.declared.channel.Channel.{Channel}
use Rattle.wc_irc.specs.Channels.{Joined, joined, is_channel_named, channel_of}
use Rattle.wc_irc.specs.ChannelStates.{joined_of, change_first, without_first, comes_in}
use Rattle.wc_irc_texts.specs.Names.{is_nick, is_same}
use Rattle.wc_irc_nicks.specs.Seats.{has_seat}

-- the channel of a name, as contracts see it
pub shown_channel : (case_map : CaseMap) (name : List ℕ) (channels : List Channel) → option_map joined (channel_of case_map name channels) ≡ joined_of case_map name (map joined channels)
shown_channel case_map name [] = refl
shown_channel case_map name (c ∷ channels) = by (is_same case_map name c.name) (shown_channel case_map name channels) where
  by : (t : Bool) → option_map joined (channel_of case_map name channels) ≡ joined_of case_map name (map joined channels)
      → option_map joined (cond t (Some c) (channel_of case_map name channels)) ≡ cond t (Some (joined c)) (joined_of case_map name (map joined channels))
  by true ih = refl
  by false ih = ih

-- ---- what comes onto a list

pub short_nick : (prefixes : Prefixes) (nick : List ℕ) → is_nick prefixes nick ≡ true → length nick ≤ 64
unfolding is_nick
short_nick prefixes nick is = grind (arith, nat_tests)

pub short_comer : (prefixes : Prefixes) (nick : List ℕ) (channel : Joined) → comes_in prefixes nick channel ≡ true → length nick ≤ 64
short_comer prefixes nick channel comes = by (is_nick prefixes nick) refl comes where
  by : (t : Bool) → is_nick prefixes nick ≡ t → (t && not (has_seat channel.case_map nick channel.seats)) ≡ true → length nick ≤ 64
  by true is e = short_nick prefixes nick is
  by false is e = absurd (cc)

pub new_comer : (prefixes : Prefixes) (nick : List ℕ) (channel : Joined) → comes_in prefixes nick channel ≡ true → has_seat channel.case_map nick channel.seats ≡ false
new_comer prefixes nick channel comes = by (is_nick prefixes nick) (has_seat channel.case_map nick channel.seats) refl comes where
  by : (t u : Bool) → has_seat channel.case_map nick channel.seats ≡ u → (t && not u) ≡ true → has_seat channel.case_map nick channel.seats ≡ false
  by true true is e = absurd (cc)
  by true false is e = is
  by false u is e = absurd (cc)

pub ruleset nick_facts = (short_comer, new_comer)

-- ---- the place of a channel

-- it is there, and no earlier one has the name
record IsAt (case_map : CaseMap) (name : List ℕ) (channels : List Channel) (place : ℕ) (d : Channel) : Type 0 where
  below : place < length channels
  here : is_channel_named case_map name (get_or channels place d) ≡ true
  before : (k : ℕ) → k < place → is_channel_named case_map name (get_or channels k d) ≡ false

is_at : (case_map : CaseMap) (name : List ℕ) (channels : List Channel) (place : ℕ) (d : Channel) → position (is_channel_named case_map name) channels ≡ Some place → IsAt case_map name channels place d
is_at case_map name channels place d e =
    let found = position-Some (is_channel_named case_map name) channels place d e in
    record { below = found.0; here = found.1; before = found.2 }

at_tail : (case_map : CaseMap) (name : List ℕ) (c : Channel) (channels : List Channel) (place : ℕ) (d : Channel) → IsAt case_map name (c ∷ channels) (suc place) d → IsAt case_map name channels place d
at_tail case_map name c channels place d at = record {
  below = omega (arith, at.below);
  here = at.here;
  before = λ k h. at.before (suc k) (omega arith);
}

found_by : (case_map : CaseMap) (name : List ℕ) (channels : List Channel) (place : ℕ) (d : Channel) → IsAt case_map name channels place d → joined_of case_map name (map joined channels) ≡ Some (joined (get_or channels place d))
found_by case_map name [] place d at = absurd (omega (arith, at.below))
found_by case_map name (c ∷ channels) zero d at = rw at.here
found_by case_map name (c ∷ channels) (suc place) d at = rw (at.before 0 (omega arith)) (found_by case_map name channels place d (at_tail case_map name c channels place d at))

changed_by : (case_map : CaseMap) (name : List ℕ) (f : Joined → Joined) (channels : List Channel) (place : ℕ) (d : Channel) → IsAt case_map name channels place d → (c : Channel) → joined c ≡ f (joined (get_or channels place d))
    → map joined (set channels place c) ≡ change_first case_map name f (map joined channels)
changed_by case_map name f [] place d at c is = absurd (omega (arith, at.below))
changed_by case_map name f (first ∷ channels) zero d at c is = rw at.here (ap (λ x. x ∷ map joined channels) is)
changed_by case_map name f (first ∷ channels) (suc place) d at c is = rw (at.before 0 (omega arith)) (ap (λ others. joined first ∷ others) (changed_by case_map name f channels place d (at_tail case_map name first channels place d at) c is))

taken_by : (case_map : CaseMap) (name : List ℕ) (channels : List Channel) (place : ℕ) (d : Channel) → IsAt case_map name channels place d → map joined (remove channels place) ≡ without_first case_map name (map joined channels)
taken_by case_map name [] place d at = absurd (omega (arith, at.below))
taken_by case_map name (first ∷ channels) zero d at = rw at.here
taken_by case_map name (first ∷ channels) (suc place) d at = rw (at.before 0 (omega arith)) (ap (λ others. joined first ∷ others) (taken_by case_map name channels place d (at_tail case_map name first channels place d at)))

-- what a server has of the channel at a place that was found
pub channel_there : (case_map : CaseMap) (name : List ℕ) (channels : List Channel) (place : ℕ) (d : Channel) → position (is_channel_named case_map name) channels ≡ Some place → joined_of case_map name (map joined channels) ≡ Some (joined (get_or channels place d))
channel_there case_map name channels place d e = found_by case_map name channels place d (is_at case_map name channels place d e)

pub channel_changed : (case_map : CaseMap) (name : List ℕ) (f : Joined → Joined) (channels : List Channel) (place : ℕ) (d c : Channel) → position (is_channel_named case_map name) channels ≡ Some place → joined c ≡ f (joined (get_or channels place d))
    → map joined (set channels place c) ≡ change_first case_map name f (map joined channels)
channel_changed case_map name f channels place d c e is = changed_by case_map name f channels place d (is_at case_map name channels place d e) c is

pub channel_taken : (case_map : CaseMap) (name : List ℕ) (channels : List Channel) (place : ℕ) (d : Channel) → position (is_channel_named case_map name) channels ≡ Some place → map joined (remove channels place) ≡ without_first case_map name (map joined channels)
channel_taken case_map name channels place d e = taken_by case_map name channels place d (is_at case_map name channels place d e)

pub place_inside : (case_map : CaseMap) (name : List ℕ) (channels : List Channel) (place : ℕ) (d : Channel) → position (is_channel_named case_map name) channels ≡ Some place → place < length channels
place_inside case_map name channels place d e = (is_at case_map name channels place d e).below

-- a list that is kept at a place
pub channel_kept : (channels : List Channel) (place : ℕ) (d c : Channel) → joined c ≡ joined (get_or channels place d) → place < length channels → map joined (set channels place c) ≡ map joined channels
channel_kept [] place d c is inside = absurd (omega arith)
channel_kept (first ∷ channels) zero d c is inside = ap (λ x. x ∷ map joined channels) is
channel_kept (first ∷ channels) (suc place) d c is inside = ap (λ others. joined first ∷ others) (channel_kept channels place d c is (omega arith))

-- ---- where no channel has the name

miss : {X : Type 0} (p : X → Bool) (x : X) (xs : List X) → p x ≡ false → position p (x ∷ xs) ≡ None → position p xs ≡ None
miss p x xs e h = let h' = rw e at h in grind (arith, nat_tests)

hit : {X : Type 0} (p : X → Bool) (x : X) (xs : List X) → p x ≡ true → position p (x ∷ xs) ≡ Some 0
hit p x xs e = rw e (grind (arith, nat_tests))

pub record IsNowhere (case_map : CaseMap) (name : List ℕ) (channels : List Channel) : Type 0 where
  pub found : joined_of case_map name (map joined channels) ≡ None
  pub changed : (f : Joined → Joined) → change_first case_map name f (map joined channels) ≡ map joined channels
  pub taken : without_first case_map name (map joined channels) ≡ map joined channels

pub nowhere : (case_map : CaseMap) (name : List ℕ) (channels : List Channel) → position (is_channel_named case_map name) channels ≡ None → IsNowhere case_map name channels
nowhere case_map name [] e = record { found = refl; changed = λ f. refl; taken = refl }
nowhere case_map name (c ∷ channels) e = by (is_channel_named case_map name c) refl (nowhere case_map name channels) where
  by : (t : Bool) → is_channel_named case_map name c ≡ t → (position (is_channel_named case_map name) channels ≡ None → IsNowhere case_map name channels) → IsNowhere case_map name (c ∷ channels)
  by true is more = let here = hit (is_channel_named case_map name) c channels is in absurd (cc)
  by false is more =
      let rest = more (miss (is_channel_named case_map name) c channels is e) in
      record {
        found = rw is rest.found;
        changed = λ f. rw is (ap (λ others. joined c ∷ others) (rest.changed f));
        taken = rw is (ap (λ others. joined c ∷ others) rest.taken);
      }
