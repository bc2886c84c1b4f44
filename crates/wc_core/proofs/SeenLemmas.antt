-- What the loop sees of a link.
use Rattle.std.proofs.Common.{◌≡◌, ℕ, ◌≤◌, List, length, is_some, true, false, Option, Some, None, IfSome, refl, ap, sym, ◌∙◌}
use Rattle.std.specs.Borrow.{Bor}
use Rattle.std.specs.Option.{option_copied}
use Rattle.std.proofs.lemmas.Bool.{false≢true}
use Rattle.wc_text.specs.declared.names.Cause.{Cause}
use Rattle.wc_session.specs.Known.{Known}
use Rattle.wc_board.specs.declared.connection.Connection.{Connection}
use Rattle.wc_board.specs.Connections.{session_at, unsent_at}
use Rattle.wc_servers.specs.Seats.{SeatView}
use Rattle.wc_core.specs.LinksSeen.{bytes_or, departure_by, departure_of_seat}

-- ---- unsent bytes

pub unsent_client : (o : Option Connection) (session : Known) (other : Option (List ℕ)) → Some session ≡ session_at o → Some session.unsent ≡ bytes_or (unsent_at o) other
unsent_client None session other e = absurd (cc)
unsent_client (Some connection) session other e = ap unsent_of e where
  unsent_of : Option Known → Option (List ℕ)
  unsent_of None = None
  unsent_of (Some session) = Some session.unsent

pub unsent_server : (o : Option Connection) (found other : Option (List ℕ)) → None ≡ session_at o → found ≡ other → found ≡ bytes_or (unsent_at o) other
unsent_server None found other e same = same
unsent_server (Some connection) found other e same = absurd (cc)

-- so many bytes are there of a client, or else of a server
pub fits_client : (o : Option Connection) (other : Option (List ℕ)) (count : ℕ) → IfSome (bytes_or (unsent_at o) other) (λ unsent. count ≤ length unsent) → IfSome (unsent_at o) (λ unsent. count ≤ length unsent)
fits_client None other count fits = tt
fits_client (Some connection) other count fits = fits

pub no_client : (o : Option Connection) (found : Option (Bor Known)) → option_copied found ≡ session_at o → is_some found ≡ false → o ≡ None
no_client None found e none = refl
no_client (Some connection) None e none = absurd (cc)
no_client (Some connection) (Some session) e none = absurd (false≢true (sym none))

pub some_client : (o : Option Connection) (found : Option (Bor Known)) → option_copied found ≡ session_at o → is_some found ≡ true → o ≡ None → ⊥
some_client None None e some none = false≢true some
some_client None (Some session) e some none = let q : Some session.now ≡ None = e in cc
some_client (Some connection) found e some none = let q : Some connection ≡ None = none in cc

-- ---- who leaves first

pub leaves_seat : (o : Option SeatView) (seat : SeatView) (cause : Cause) → Some seat ≡ o → Some cause ≡ seat.leaving → Some (record { link = record { 0 = seat.link }; cause = cause }) ≡ departure_of_seat o
leaves_seat o seat cause e why = ap (departure_by seat.link) why ∙ ap departure_of_seat e

pub leaves_none : (o : Option SeatView) (seat : SeatView) → Some seat ≡ o → None ≡ seat.leaving → None ≡ departure_of_seat o
leaves_none o seat e none = ap (departure_by seat.link) none ∙ ap departure_of_seat e
