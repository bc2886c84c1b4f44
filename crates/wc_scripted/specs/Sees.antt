-- What each call of sockets makes of what is seen of them.
use Rattle.std.specs.Prelude.{ℕ, ◌≡◌, Bool, ◌==◌, ◌&&◌, ◌||◌, not, if◌then◌else◌}
use Rattle.std.specs.Prelude.{List, [], ◌∷◌, ◌++◌, ◌+◌, Option, Result, Ok, Err, IsTrue}
use Rattle.std.specs.List.{list_any}
use Rattle.wc_text.specs.declared.names.Address.{Address}
use Rattle.wc_text.specs.declared.names.LinkId.{LinkId}
use Rattle.wc_text.specs.declared.names.Arrival.{Arrival}
use Rattle.wc_outside.specs.declared.happening.Asked.TheVariants.{Listen, Connect}
use Rattle.wc_outside.specs.declared.happening.Failed.{Failed as Fault}
use Rattle.wc_outside.specs.declared.sockets.Got.{Got}
use Rattle.wc_outside.specs.declared.sockets.Put.{Put}
use Rattle.wc_outside.specs.declared.sockets.Token.{Token}
use Rattle.wc_outside.specs.Faults.{NeverFall}
use Rattle.wc_outside.specs.Happenings.{wait_gives, listen_gives, accept_gives, read_gives, write_gives}
use Rattle.wc_outside.specs.Happenings.{sent_of, found_no_room, found_nothing, found_no_arrival}
use Rattle.wc_outside.specs.Happenings.{used_after, is_arrival, is_link, is_listener}
use Rattle.wc_outside.specs.Happenings.{connect_gives, connected_gives, is_connection, is_undecided}
use Rattle.wc_outside.specs.Seen.{Seen}

-- after a call all is seen that is wanted of it, as far as it is told, and no count of faults fell
pub record Sees (old new wanted : Seen) : Type 0 where
  pub told : IsTrue new.tells → IsTrue old.tells
  pub taken : IsTrue new.tells → new.taken ≡ wanted.taken
  pub sent : IsTrue new.tells → (link : ℕ) → new.sent link ≡ wanted.sent link
  pub asked : IsTrue new.tells → new.asked ≡ wanted.asked
  pub choked : IsTrue new.tells → (link : ℕ) → new.choked link ≡ wanted.choked link
  pub used : new.used ≡ wanted.used
  pub there : (link : ℕ) → new.there link ≡ wanted.there link
  pub undrained : (link : ℕ) → new.undrained link ≡ wanted.undrained link
  pub listening : new.listening ≡ wanted.listening
  pub blocked : (link : ℕ) → new.blocked link ≡ wanted.blocked link
  pub counts : NeverFall old.faults new.faults

abbrev pub listen_sees : {A : Type 0} → Seen → ℕ → Result A Fault → Seen
listen_sees seen port result = record seen {
  taken = seen.taken ++ listen_gives result;
  asked = seen.asked ++ Listen port ∷ [];
}

-- a wait that reported these sources
abbrev pub wait_sees : Seen → List Token → Result ℕ Fault → Seen
wait_sees seen tokens (Ok moment) = record seen {
  taken = seen.taken ++ wait_gives (Ok moment);
  undrained = λ link. seen.undrained link || list_any (is_link link) tokens;
  listening = seen.listening || list_any is_listener tokens;
  blocked = λ link. seen.blocked link && not (list_any (is_link link) tokens);
}
wait_sees seen tokens (Err fault) = seen

abbrev pub accept_sees : Seen → Result (Option Arrival) Fault → Seen
accept_sees seen result = record seen {
  taken = seen.taken ++ accept_gives result;
  used = used_after seen.used result;
  there = λ link. seen.there link || is_arrival link result;
  listening = seen.listening && not (found_no_arrival result);
}

abbrev pub connect_sees : Seen → Address → Result LinkId Fault → Seen
connect_sees seen to result = record seen {
  taken = seen.taken ++ connect_gives seen.used result;
  asked = seen.asked ++ Connect to ∷ [];
  used = seen.used + 1;
  there = λ link. seen.there link || is_connection link result;
}

abbrev pub connected_sees : Seen → LinkId → Result Bool Fault → Seen
connected_sees seen link result = record seen {
  taken = seen.taken ++ connected_gives link result;
  undrained = λ other. seen.undrained other && not ((other == link.0) && is_undecided result);
}

abbrev pub read_sees : Seen → LinkId → List ℕ → Result Got Fault → Seen
read_sees seen link buffer result = record seen {
  taken = seen.taken ++ read_gives link buffer result;
  undrained = λ other. seen.undrained other && not ((other == link.0) && found_nothing result);
}

abbrev pub write_sees : Seen → LinkId → List ℕ → Result Put Fault → Seen
write_sees seen link piece result = record seen {
  taken = seen.taken ++ write_gives link result;
  sent = λ other. seen.sent other ++ (if other == link.0 then sent_of piece result else []);
  blocked = λ other. if other == link.0 then found_no_room result else seen.blocked other;
}

abbrev pub close_sees : Seen → LinkId → Seen
close_sees seen link = record seen {
  choked = λ other. seen.choked other || ((other == link.0) && seen.blocked other);
  there = λ other. seen.there other && not (other == link.0);
  undrained = λ other. seen.undrained other && not (other == link.0);
  blocked = λ other. seen.blocked other && not (other == link.0);
}
