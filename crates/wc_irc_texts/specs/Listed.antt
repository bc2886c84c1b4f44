-- Names as 353 lists them: signs, of which none need be, and after them a nick, or `nick!user@host`
-- where names have hosts.
use Rattle.std.specs.Prelude.{ℕ, suc, Bool, true, List, [], ◌∷◌}
use Rattle.std.specs.Prelude.{Option, Some, None, option_map, bytes_eq, if◌then◌else◌}
use Rattle.std.specs.List.{concat}
use Rattle.wc_text.specs.Splits.{before}
use Rattle.wc_ircmsg.specs.declared.prefixes.Prefixes.{Prefixes}
use Rattle.wc_irc_texts.specs.ModeBits.{bits_changed}
use Rattle.wc_irc_texts.specs.Texts.{char_texts}

abbrev pub signs_of : Prefixes → List (List ℕ)
signs_of prefixes = char_texts prefixes.chars

-- the place of a character among signs
abbrev pub place_among : List (List ℕ) → List ℕ → Option ℕ
place_among [] character = None
place_among (sign ∷ signs) character = if bytes_eq character sign then Some 0
    else option_map suc (place_among signs character)

abbrev pub one_more : Option ℕ → List ℕ → List ℕ
one_more None places = []
one_more (Some place) places = place ∷ places

-- the places of the signs at the front of a name, whose characters these are
abbrev pub front_signs : List (List ℕ) → List (List ℕ) → List ℕ
front_signs signs [] = []
front_signs signs (character ∷ characters) = one_more (place_among signs character)
    (front_signs signs characters)

abbrev pub past_sign : Option ℕ → List (List ℕ) → List (List ℕ) → List (List ℕ)
past_sign None whole others = whole
past_sign (Some place) whole others = others

-- the characters after those signs
abbrev pub after_signs : List (List ℕ) → List (List ℕ) → List (List ℕ)
after_signs signs [] = []
after_signs signs (character ∷ characters) = past_sign (place_among signs character)
    (character ∷ characters) (after_signs signs characters)

-- what is after the signs
abbrev pub unsigned : Prefixes → List ℕ → List ℕ
unsigned prefixes name = concat (after_signs (signs_of prefixes) (char_texts name))

-- and of that the nick, which ends at the first `!` where names have hosts
abbrev pub bare_nick : Bool → List ℕ → List ℕ
bare_nick has_hosts name = if has_hosts then before 33 name else name

abbrev pub listed_nick : Prefixes → Bool → List ℕ → List ℕ
listed_nick prefixes has_hosts name = bare_nick has_hosts (unsigned prefixes name)

abbrev pub listed_places : Prefixes → List ℕ → List ℕ
listed_places prefixes name = front_signs (signs_of prefixes) (char_texts name)

-- the modes of those places, one after another
abbrev pub bits_of : ℕ → List ℕ → ℕ
bits_of bits [] = bits
bits_of bits (place ∷ places) = bits_of (bits_changed true place bits) places

abbrev pub listed_bits : Prefixes → List ℕ → ℕ
listed_bits prefixes name = bits_of 0 (listed_places prefixes name)
