-- Channels that are changed one after another.
use Rattle.std.proofs.Common.{◌≡◌, ℕ, zero, suc, ◌+◌, ◌≤◌, ◌<◌, List, [], ◌∷◌, ◌++◌, length, map, take, drop, get_or, set, refl, arith, ap, ◌∙◌, append-nil, Bool, true, false, cond, Some}
use Rattle.std.specs.Prelude.{not, is_some}
use Rattle.std.proofs.lemmas.List.{take_all, drop_all, length-map}
use Rattle.wc_irc.specs.declared.channel.Channel.{Channel}
use Rattle.wc_irc_texts.specs.declared.seat.Seat.{Seat}
use Rattle.wc_ircmsg.specs.declared.case_map.CaseMap.{CaseMap}
use Rattle.wc_irc.specs.Channels.{Joined, joined, without_nick, after_quit, LeavesOthers}
use Rattle.wc_irc_nicks.specs.Seats.{is_named, seat_of, has_seat, without_seat}

-- a list that is changed up to a place
abbrev pub so_far : {A : Type 0} → (A → A) → ℕ → List A → List A
so_far f n xs = map f (take n xs) ++ drop n xs

set_by : (f : Joined → Joined) (n : ℕ) (xs : List Joined) (d z : Joined) → n < length xs → z ≡ f (get_or (so_far f n xs) n d) → set (so_far f n xs) n z ≡ so_far f (suc n) xs
set_by f n [] d z inside is = absurd (omega arith)
set_by f zero (y ∷ ys) d z inside is = ap (λ x. x ∷ ys) is
set_by f (suc n) (y ∷ ys) d z inside is = ap (λ zs. f y ∷ zs) (set_by f n ys d z (omega arith) is)

shown_set : (items : List Channel) (n : ℕ) (c : Channel) → map joined (set items n c) ≡ set (map joined items) n (joined c)
shown_set [] n c = refl
shown_set (y ∷ ys) zero c = refl
shown_set (y ∷ ys) (suc n) c = ap (λ l. joined y ∷ l) (shown_set ys n c)

shown_at : (items : List Channel) (n : ℕ) (d : Channel) → joined (get_or items n d) ≡ get_or (map joined items) n (joined d)
shown_at [] n d = refl
shown_at (y ∷ ys) zero d = refl
shown_at (y ∷ ys) (suc n) d = shown_at ys n d

-- one more channel
pub change_next : (f : Joined → Joined) (items old : List Channel) (n : ℕ) (d c : Channel) → n < length old → map joined items ≡ so_far f n (map joined old) → joined c ≡ f (joined (get_or items n d))
    → map joined (set items n c) ≡ so_far f (n + 1) (map joined old)
change_next f items old n d c inside before is =
    let one : suc n ≡ n + 1 = omega arith in
    let within : n < length (map joined old) = omega (arith, length-map old joined) in
    shown_set items n c ∙ ap (λ l. set l n (joined c)) before
    ∙ set_by f n (map joined old) (joined d) (joined c) within (is ∙ ap f (shown_at items n d) ∙ ap (λ l. f (get_or l n (joined d))) before)
    ∙ ap (λ m. so_far f m (map joined old)) one

pub maps : (nick : List ℕ) (old : List Channel) → map (without_nick nick) (map joined old) ≡ after_quit nick old
maps nick [] = refl
maps nick (c ∷ old) = ap (λ l. without_nick nick (joined c) ∷ l) (maps nick old)

-- each channel
pub change_all : (nick : List ℕ) (items old : List Channel) (n : ℕ) → length old ≤ n → map joined items ≡ so_far (without_nick nick) n (map joined old) → map joined items ≡ after_quit nick old
change_all nick items old n whole before =
    let size : length (map joined old) ≤ n = omega (arith, length-map old joined) in
    before ∙ (λ i. map (without_nick nick) (take_all n (map joined old) size i) ++ drop_all n (map joined old) size i) ∙ append-nil (map (without_nick nick) (map joined old)) ∙ maps nick old

-- a list without the nick loses none
none_taken : (case_map : CaseMap) (nick : List ℕ) (seats : List Seat) → has_seat case_map nick seats ≡ false → without_seat case_map nick seats ≡ seats
none_taken case_map nick [] absent = refl
none_taken case_map nick (s ∷ seats) absent = by (is_named case_map nick s) absent (none_taken case_map nick seats) where
  by : (t : Bool) → is_some (cond t (Some s) (seat_of case_map nick seats)) ≡ false → (has_seat case_map nick seats ≡ false → without_seat case_map nick seats ≡ seats)
      → cond (not t) (s ∷ without_seat case_map nick seats) (without_seat case_map nick seats) ≡ s ∷ seats
  by true found ih = absurd (cc)
  by false found ih = ap (λ l. s ∷ l) (ih found)

pub leaves_others : (nick : List ℕ) (channel : Joined) → LeavesOthers nick channel
leaves_others nick channel = λ absent. λ i. record channel { seats = none_taken channel.case_map nick channel.seats absent i }
