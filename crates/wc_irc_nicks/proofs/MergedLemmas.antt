-- What is found in a list with changes over it.
use Rattle.std.proofs.Common.{◌≡◌, ℕ, Bool, true, false, cond, List, [], ◌∷◌, ◌++◌, Option, Some, None, option_map, refl, ap, sym, ◌∙◌}
use Rattle.std.specs.Prelude.{bytes_eq, is_some}
use Rattle.std.specs.Cmp.Lexicographic.{bytes_decides}
use Rattle.std.proofs.lemmas.Bool.{false≢true}
use Rattle.wc_ircmsg.specs.declared.case_map.CaseMap.{CaseMap}
use Rattle.wc_ircmsg.specs.CaseMaps.{folded_name}
use Rattle.std.specs.Borrow.{Bor}
use Rattle.std.specs.Option.{option_copied}
use Rattle.wc_irc_nicks.specs.declared.overlay.FoundNick.{FoundNick}
use Rattle.wc_irc_texts.specs.declared.seat.ModeSet.{ModeSet}
use Rattle.wc_irc_texts.specs.declared.seat.Seat.{Seat}
use Rattle.wc_irc_nicks.specs.Kept.{under_modes}
use Rattle.wc_irc_nicks.specs.Merged.{over, put_seat, merged}
use Rattle.wc_irc_nicks.specs.MergedSeen.{seat_in}
use Rattle.wc_irc_nicks.specs.Seats.{is_named, seat_of, has_seat, with_modes, AreApart}
use Rattle.wc_irc_nicks.proofs.KeptLemmas.{same_bytes}

-- what both lists together show of a nick
abbrev pub found_in : Option Seat → Option Seat → Option Seat
found_in None changed = changed
found_in (Some seat) changed = Some (over seat changed)

-- ---- names that are the same

named_as : (case_map : CaseMap) (nick other : List ℕ) (t : Seat) → bytes_eq (folded_name case_map nick) (folded_name case_map other) ≡ true → is_named case_map other t ≡ is_named case_map nick t
named_as case_map nick other t same = ap (λ k. bytes_eq k (folded_name case_map t.nick)) (sym ((bytes_decides (folded_name case_map nick) (folded_name case_map other)).0 same))

-- no seat has both names
named_other : (case_map : CaseMap) (nick other : List ℕ) (t : Seat) → bytes_eq (folded_name case_map nick) (folded_name case_map other) ≡ false → is_named case_map other t ≡ true → is_named case_map nick t ≡ false
named_other case_map nick other t apart is = by (is_named case_map nick t) refl where
  by : (b : Bool) → is_named case_map nick t ≡ b → b ≡ false
  by true e = absurd (false≢true (sym apart ∙ same_bytes (folded_name case_map nick) (folded_name case_map other)
      ((bytes_decides (folded_name case_map nick) (folded_name case_map t.nick)).0 e ∙ sym ((bytes_decides (folded_name case_map other) (folded_name case_map t.nick)).0 is))))
  by false e = refl

-- ---- other modes of a nick

-- of the same nick
of_same : (case_map : CaseMap) (nick other : List ℕ) (modes : ModeSet) (seats : List Seat) → bytes_eq (folded_name case_map nick) (folded_name case_map other) ≡ true
    → seat_of case_map nick (with_modes case_map other modes seats) ≡ option_map (under_modes modes) (seat_of case_map nick seats)
of_same case_map nick other modes [] same = refl
of_same case_map nick other modes (t ∷ seats) same = by (is_named case_map nick t) refl (of_same case_map nick other modes seats same) where
  by : (b : Bool) → is_named case_map nick t ≡ b → seat_of case_map nick (with_modes case_map other modes seats) ≡ option_map (under_modes modes) (seat_of case_map nick seats)
      → seat_of case_map nick (cond (is_named case_map other t) (under_modes modes t) t ∷ with_modes case_map other modes seats) ≡ option_map (under_modes modes) (cond b (Some t) (seat_of case_map nick seats))
  by true e ih =
      ap (λ c. seat_of case_map nick (cond c (under_modes modes t) t ∷ with_modes case_map other modes seats)) (named_as case_map nick other t same ∙ e)
      ∙ ap (λ c. cond c (Some (under_modes modes t)) (seat_of case_map nick (with_modes case_map other modes seats))) e
  by false e ih =
      ap (λ c. seat_of case_map nick (cond c (under_modes modes t) t ∷ with_modes case_map other modes seats)) (named_as case_map nick other t same ∙ e)
      ∙ ap (λ c. cond c (Some t) (seat_of case_map nick (with_modes case_map other modes seats))) e ∙ ih

-- of another nick
of_other : (case_map : CaseMap) (nick other : List ℕ) (modes : ModeSet) (seats : List Seat) → bytes_eq (folded_name case_map nick) (folded_name case_map other) ≡ false
    → seat_of case_map nick (with_modes case_map other modes seats) ≡ seat_of case_map nick seats
of_other case_map nick other modes [] apart = refl
of_other case_map nick other modes (t ∷ seats) apart = by (is_named case_map other t) refl (of_other case_map nick other modes seats apart) where
  by : (b : Bool) → is_named case_map other t ≡ b → seat_of case_map nick (with_modes case_map other modes seats) ≡ seat_of case_map nick seats
      → seat_of case_map nick (cond b (under_modes modes t) t ∷ with_modes case_map other modes seats) ≡ seat_of case_map nick (t ∷ seats)
  by true e ih =
      let fails = named_other case_map nick other t apart e in
      ap (λ c. cond c (Some (under_modes modes t)) (seat_of case_map nick (with_modes case_map other modes seats))) fails ∙ ih ∙ sym (ap (λ c. cond c (Some t) (seat_of case_map nick seats)) fails)
  by false e ih = kept (is_named case_map nick t) where
    kept : (c : Bool) → cond c (Some t) (seat_of case_map nick (with_modes case_map other modes seats)) ≡ cond c (Some t) (seat_of case_map nick seats)
    kept true = refl
    kept false = ih

-- the first of two
abbrev first_of : Option Seat → Option Seat → Option Seat
first_of None o = o
first_of (Some s) o = Some s

-- a nick at the end
at_end : (case_map : CaseMap) (nick : List ℕ) (s : Seat) (seats : List Seat) → seat_of case_map nick (seats ++ s ∷ []) ≡ first_of (seat_of case_map nick seats) (cond (is_named case_map nick s) (Some s) None)
at_end case_map nick s [] = refl
at_end case_map nick s (t ∷ seats) = by (is_named case_map nick t) (at_end case_map nick s seats) where
  by : (c : Bool) → seat_of case_map nick (seats ++ s ∷ []) ≡ first_of (seat_of case_map nick seats) (cond (is_named case_map nick s) (Some s) None)
      → cond c (Some t) (seat_of case_map nick (seats ++ s ∷ [])) ≡ first_of (cond c (Some t) (seat_of case_map nick seats)) (cond (is_named case_map nick s) (Some s) None)
  by true ih = refl
  by false ih = ih

-- the same nick is found under both names
seat_same : (case_map : CaseMap) (nick other : List ℕ) (seats : List Seat) → bytes_eq (folded_name case_map nick) (folded_name case_map other) ≡ true → seat_of case_map other seats ≡ seat_of case_map nick seats
seat_same case_map nick other [] same = refl
seat_same case_map nick other (t ∷ seats) same =
    ap (λ c. cond c (Some t) (seat_of case_map other seats)) (named_as case_map nick other t same) ∙ rest (is_named case_map nick t) (seat_same case_map nick other seats same) where
      rest : (c : Bool) → seat_of case_map other seats ≡ seat_of case_map nick seats → cond c (Some t) (seat_of case_map other seats) ≡ cond c (Some t) (seat_of case_map nick seats)
      rest true ih = refl
      rest false ih = ih

none_of : (o : Option Seat) → is_some o ≡ false → o ≡ None
none_of None e = refl
none_of (Some s) e = absurd (cc)

found_none : (o : Option Seat) → found_in o None ≡ o
found_none None = refl
found_none (Some s) = refl

first_none : (o : Option Seat) → first_of o None ≡ o
first_none None = refl
first_none (Some s) = refl

given : (c : Seat) (o : Option Seat) → is_some o ≡ true → option_map (under_modes c.modes) o ≡ found_in o (Some c)
given c None e = absurd (cc)
given c (Some s) e = refl

-- one more change
put_found : (case_map : CaseMap) (nick : List ℕ) (c : Seat) (seats : List Seat)
    → seat_of case_map nick (put_seat case_map c.nick c.modes seats) ≡ found_in (seat_of case_map nick seats) (cond (is_named case_map nick c) (Some c) None)
put_found case_map nick c seats = by (is_named case_map nick c) refl (has_seat case_map c.nick seats) refl where
  by : (b : Bool) → is_named case_map nick c ≡ b → (t : Bool) → has_seat case_map c.nick seats ≡ t
      → seat_of case_map nick (cond t (with_modes case_map c.nick c.modes seats) (seats ++ c ∷ [])) ≡ found_in (seat_of case_map nick seats) (cond b (Some c) None)
  by true e true has =
      of_same case_map nick c.nick c.modes seats e
      ∙ given c (seat_of case_map nick seats) (sym (ap is_some (seat_same case_map nick c.nick seats e)) ∙ has)
  by true e false has =
      let none : seat_of case_map nick seats ≡ None = sym (seat_same case_map nick c.nick seats e) ∙ none_of (seat_of case_map c.nick seats) has in
      at_end case_map nick c seats ∙ ap (λ b. first_of (seat_of case_map nick seats) (cond b (Some c) None)) e
      ∙ ap (λ o. first_of o (Some c)) none ∙ sym (ap (λ o. found_in o (Some c)) none)
  by false e true has = of_other case_map nick c.nick c.modes seats e ∙ sym (found_none (seat_of case_map nick seats))
  by false e false has =
      at_end case_map nick c seats ∙ ap (λ b. first_of (seat_of case_map nick seats) (cond b (Some c) None)) e
      ∙ first_none (seat_of case_map nick seats) ∙ sym (found_none (seat_of case_map nick seats))

two_given : (c : Seat) (o r : Option Seat) → r ≡ None → found_in (found_in o (Some c)) r ≡ found_in o (Some c)
two_given c o r none = ap (found_in (found_in o (Some c))) none ∙ found_none (found_in o (Some c))

pub found_merged : (case_map : CaseMap) (nick : List ℕ) (changed seats : List Seat) → AreApart case_map changed
    → seat_of case_map nick (merged case_map changed seats) ≡ found_in (seat_of case_map nick seats) (seat_of case_map nick changed)
found_merged case_map nick [] seats apart = sym (found_none (seat_of case_map nick seats))
found_merged case_map nick (c ∷ changed) seats apart =
    found_merged case_map nick changed (put_seat case_map c.nick c.modes seats) apart.1
    ∙ ap (λ o. found_in o (seat_of case_map nick changed)) (put_found case_map nick c seats)
    ∙ by (is_named case_map nick c) refl where
      by : (b : Bool) → is_named case_map nick c ≡ b
          → found_in (found_in (seat_of case_map nick seats) (cond b (Some c) None)) (seat_of case_map nick changed) ≡ found_in (seat_of case_map nick seats) (cond b (Some c) (seat_of case_map nick changed))
      by true e = two_given c (seat_of case_map nick seats) (seat_of case_map nick changed) (sym (seat_same case_map nick c.nick changed e) ∙ none_of (seat_of case_map c.nick changed) apart.0)
      by false e = ap (λ o. found_in o (seat_of case_map nick changed)) (found_none (seat_of case_map nick seats))

-- ---- a change over others

-- none of them has the name
abbrev NoneNamed : CaseMap → List ℕ → List Seat → Type 0
NoneNamed case_map nick [] = Unit {0}
NoneNamed case_map nick (t ∷ seats) = (is_named case_map nick t ≡ false) × NoneNamed case_map nick seats

none_from : (case_map : CaseMap) (nick : List ℕ) (seats : List Seat) → has_seat case_map nick seats ≡ false → NoneNamed case_map nick seats
none_from case_map nick [] absent = tt
none_from case_map nick (t ∷ seats) absent = by (is_named case_map nick t) refl absent (none_from case_map nick seats) where
  by : (b : Bool) → is_named case_map nick t ≡ b → is_some (cond b (Some t) (seat_of case_map nick seats)) ≡ false → (has_seat case_map nick seats ≡ false → NoneNamed case_map nick seats) → (is_named case_map nick t ≡ false) × NoneNamed case_map nick seats
  by true e found rest = absurd (cc)
  by false e found rest = (e, rest found)

-- names that are the same have none together
none_as : (case_map : CaseMap) (nick other : List ℕ) (seats : List Seat) → bytes_eq (folded_name case_map nick) (folded_name case_map other) ≡ true → NoneNamed case_map other seats → NoneNamed case_map nick seats
none_as case_map nick other [] same none = tt
none_as case_map nick other (t ∷ seats) same none = (sym (named_as case_map nick other t same) ∙ none.0, none_as case_map nick other seats same none.1)

modes_none : (case_map : CaseMap) (nick : List ℕ) (modes : ModeSet) (seats : List Seat) → NoneNamed case_map nick seats → with_modes case_map nick modes seats ≡ seats
modes_none case_map nick modes [] none = refl
modes_none case_map nick modes (t ∷ seats) none =
    let here : cond (is_named case_map nick t) (under_modes modes t) t ≡ t = ap (λ c. cond c (under_modes modes t) t) none.0 in
    let rest = modes_none case_map nick modes seats none.1 in
    λ i. here i ∷ rest i

modes_append : (case_map : CaseMap) (nick : List ℕ) (modes : ModeSet) (s : Seat) (seats : List Seat) → with_modes case_map nick modes (seats ++ s ∷ []) ≡ with_modes case_map nick modes seats ++ cond (is_named case_map nick s) (under_modes modes s) s ∷ []
modes_append case_map nick modes s [] = refl
modes_append case_map nick modes s (t ∷ seats) = ap (λ l. cond (is_named case_map nick t) (under_modes modes t) t ∷ l) (modes_append case_map nick modes s seats)

-- the later of two modes of one nick counts
modes_twice : (case_map : CaseMap) (nick other : List ℕ) (first last : ModeSet) (seats : List Seat) → bytes_eq (folded_name case_map nick) (folded_name case_map other) ≡ true
    → with_modes case_map nick last (with_modes case_map other first seats) ≡ with_modes case_map other last seats
modes_twice case_map nick other first last [] same = refl
modes_twice case_map nick other first last (t ∷ seats) same =
    let here = by (is_named case_map other t) (sym (named_as case_map nick other t same)) in
    let rest = modes_twice case_map nick other first last seats same in
    λ i. here i ∷ rest i
  where
    by : (b : Bool) → is_named case_map nick t ≡ b
        → cond (is_named case_map nick (cond b (under_modes first t) t)) (under_modes last (cond b (under_modes first t) t)) (cond b (under_modes first t) t) ≡ cond b (under_modes last t) t
    by true e = ap (λ c. cond c (under_modes last t) (under_modes first t)) e
    by false e = ap (λ c. cond c (under_modes last t) t) e

-- modes of two nicks, in either order
modes_apart : (case_map : CaseMap) (nick other : List ℕ) (modes others : ModeSet) (seats : List Seat) → bytes_eq (folded_name case_map nick) (folded_name case_map other) ≡ false
    → with_modes case_map nick modes (with_modes case_map other others seats) ≡ with_modes case_map other others (with_modes case_map nick modes seats)
modes_apart case_map nick other modes others [] apart = refl
modes_apart case_map nick other modes others (t ∷ seats) apart =
    let here = by (is_named case_map other t) refl (is_named case_map nick t) refl in
    let rest = modes_apart case_map nick other modes others seats apart in
    λ i. here i ∷ rest i
  where
    by : (b : Bool) → is_named case_map other t ≡ b → (c : Bool) → is_named case_map nick t ≡ c
        → cond (is_named case_map nick (cond b (under_modes others t) t)) (under_modes modes (cond b (under_modes others t) t)) (cond b (under_modes others t) t)
        ≡ cond (is_named case_map other (cond c (under_modes modes t) t)) (under_modes others (cond c (under_modes modes t) t)) (cond c (under_modes modes t) t)
    by true e true f = absurd (false≢true (sym (named_other case_map nick other t apart e) ∙ f))
    by true e false f = ap (λ c. cond c (under_modes modes (under_modes others t)) (under_modes others t)) f ∙ sym (ap (λ c. cond c (under_modes others t) t) e)
    by false e true f = ap (λ c. cond c (under_modes modes t) t) f ∙ sym (ap (λ c. cond c (under_modes others (under_modes modes t)) (under_modes modes t)) e)
    by false e false f = ap (λ c. cond c (under_modes modes t) t) f ∙ sym (ap (λ c. cond c (under_modes others t) t) e)

flip : (a b : List ℕ) → bytes_eq a b ≡ false → bytes_eq b a ≡ false
flip a b apart = by (bytes_eq b a) refl where
  by : (t : Bool) → bytes_eq b a ≡ t → t ≡ false
  by true e = absurd (false≢true (sym apart ∙ same_bytes a b (sym ((bytes_decides b a).0 e))))
  by false e = refl

-- a change of one nick before that of another
put_apart : (case_map : CaseMap) (nick : List ℕ) (modes : ModeSet) (c : Seat) (seats : List Seat) → is_named case_map nick c ≡ false
    → with_modes case_map nick modes (put_seat case_map c.nick c.modes seats) ≡ put_seat case_map c.nick c.modes (with_modes case_map nick modes seats)
put_apart case_map nick modes c seats apart =
    let same : has_seat case_map c.nick (with_modes case_map nick modes seats) ≡ has_seat case_map c.nick seats =
    ap is_some (of_other case_map c.nick nick modes seats (flip (folded_name case_map nick) (folded_name case_map c.nick) apart)) in
    by (has_seat case_map c.nick seats) ∙ sym (ap (λ t. cond t (with_modes case_map c.nick c.modes (with_modes case_map nick modes seats)) (with_modes case_map nick modes seats ++ c ∷ [])) same)
  where
    by : (t : Bool) → with_modes case_map nick modes (cond t (with_modes case_map c.nick c.modes seats) (seats ++ c ∷ []))
        ≡ cond t (with_modes case_map c.nick c.modes (with_modes case_map nick modes seats)) (with_modes case_map nick modes seats ++ c ∷ [])
    by true = modes_apart case_map nick c.nick modes c.modes seats apart
    by false = modes_append case_map nick modes c seats ∙ ap (λ b. with_modes case_map nick modes seats ++ cond b (under_modes modes c) c ∷ []) apart

-- two changes of one nick
put_twice : (case_map : CaseMap) (nick : List ℕ) (modes : ModeSet) (c : Seat) (seats : List Seat) → is_named case_map nick c ≡ true
    → with_modes case_map nick modes (put_seat case_map c.nick c.modes seats) ≡ put_seat case_map c.nick modes seats
put_twice case_map nick modes c seats same = by (has_seat case_map c.nick seats) refl where
  by : (t : Bool) → has_seat case_map c.nick seats ≡ t → with_modes case_map nick modes (cond t (with_modes case_map c.nick c.modes seats) (seats ++ c ∷ []))
      ≡ cond t (with_modes case_map c.nick modes seats) (seats ++ under_modes modes c ∷ [])
  by true e = modes_twice case_map nick c.nick c.modes modes seats same
  by false e =
      let none = none_as case_map nick c.nick seats same (none_from case_map c.nick seats e) in
      modes_append case_map nick modes c seats ∙ (λ i. modes_none case_map nick modes seats none i ++ cond (same i) (under_modes modes c) c ∷ [])

-- other modes after changes of other nicks
merged_apart : (case_map : CaseMap) (nick : List ℕ) (modes : ModeSet) (changed seats : List Seat) → NoneNamed case_map nick changed
    → with_modes case_map nick modes (merged case_map changed seats) ≡ merged case_map changed (with_modes case_map nick modes seats)
merged_apart case_map nick modes [] seats none = refl
merged_apart case_map nick modes (c ∷ changed) seats none =
    merged_apart case_map nick modes changed (put_seat case_map c.nick c.modes seats) none.1 ∙ ap (merged case_map changed) (put_apart case_map nick modes c seats none.0)

merged_modes : (case_map : CaseMap) (nick : List ℕ) (modes : ModeSet) (changed seats : List Seat) → AreApart case_map changed → has_seat case_map nick changed ≡ true
    → merged case_map (with_modes case_map nick modes changed) seats ≡ with_modes case_map nick modes (merged case_map changed seats)
merged_modes case_map nick modes [] seats apart there = absurd (cc)
merged_modes case_map nick modes (c ∷ changed) seats apart there = by (is_named case_map nick c) refl there (merged_modes case_map nick modes changed (put_seat case_map c.nick c.modes seats) apart.1) where
  by : (b : Bool) → is_named case_map nick c ≡ b → is_some (cond b (Some c) (seat_of case_map nick changed)) ≡ true
      → (has_seat case_map nick changed ≡ true → merged case_map (with_modes case_map nick modes changed) (put_seat case_map c.nick c.modes seats) ≡ with_modes case_map nick modes (merged case_map changed (put_seat case_map c.nick c.modes seats)))
      → merged case_map (cond b (under_modes modes c) c ∷ with_modes case_map nick modes changed) seats ≡ with_modes case_map nick modes (merged case_map changed (put_seat case_map c.nick c.modes seats))
  by true e found ih =
      let none = none_as case_map nick c.nick changed e (none_from case_map c.nick changed apart.0) in
      ap (λ l. merged case_map l (put_seat case_map c.nick modes seats)) (modes_none case_map nick modes changed none)
      ∙ sym (ap (merged case_map changed) (put_twice case_map nick modes c seats e)) ∙ sym (merged_apart case_map nick modes changed (put_seat case_map c.nick c.modes seats) none)
  by false e found ih = ih found

merged_append : (case_map : CaseMap) (s : Seat) (changed seats : List Seat) → merged case_map (changed ++ s ∷ []) seats ≡ put_seat case_map s.nick s.modes (merged case_map changed seats)
merged_append case_map s [] seats = refl
merged_append case_map s (c ∷ changed) seats = merged_append case_map s changed (put_seat case_map c.nick c.modes seats)

found_there : (o : Option Seat) (r : Option Seat) → is_some r ≡ true → is_some (found_in o r) ≡ true
found_there None r e = e
found_there (Some s) r e = refl

-- one change more
pub merged_put : (case_map : CaseMap) (nick : List ℕ) (modes : ModeSet) (changed seats : List Seat) → AreApart case_map changed
    → merged case_map (put_seat case_map nick modes changed) seats ≡ put_seat case_map nick modes (merged case_map changed seats)
merged_put case_map nick modes changed seats apart = by (has_seat case_map nick changed) refl where
  by : (t : Bool) → has_seat case_map nick changed ≡ t → merged case_map (cond t (with_modes case_map nick modes changed) (changed ++ record { nick = nick; modes = modes } ∷ [])) seats
      ≡ put_seat case_map nick modes (merged case_map changed seats)
  by true e =
      let there : has_seat case_map nick (merged case_map changed seats) ≡ true =
      ap is_some (found_merged case_map nick changed seats apart) ∙ found_there (seat_of case_map nick seats) (seat_of case_map nick changed) e in
      merged_modes case_map nick modes changed seats apart e
      ∙ sym (ap (λ t. cond t (with_modes case_map nick modes (merged case_map changed seats)) (merged case_map changed seats ++ record { nick = nick; modes = modes } ∷ [])) there)
  by false e = merged_append case_map (record { nick = nick; modes = modes }) changed seats

-- a nick that is lent is there
pub lent_there : (o : Option Seat) (r : Option FoundNick) → option_map seat_in r ≡ o → is_some r ≡ true → is_some o ≡ true
lent_there None None e some = some
lent_there None (Some r) e some = absurd (cc)
lent_there (Some s) r e some = refl

pub copied_there : (r : Option (Bor Seat)) → is_some (option_copied r) ≡ true → is_some r ≡ true
copied_there None some = some
copied_there (Some s) some = refl
