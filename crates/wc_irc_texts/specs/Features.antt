-- What a server tells of itself by 005.
use Rattle.std.specs.Prelude.{ℕ, ◌&&◌, ◌==◌, ◌-◌, List, length, take, drop, fold}
use Rattle.std.specs.Prelude.{bytes_eq, codes, Option, Some, None, option_and_then, count_by}
use Rattle.std.specs.Prelude.{if◌then◌else◌, Bool}
use Rattle.wc_text.specs.Splits.{before, text_after}
use Rattle.wc_ircmsg.specs.declared.case_map.CaseMap.{CaseMap}
use Rattle.wc_ircmsg.specs.declared.case_map.CaseMap.TheVariants as maps
use Rattle.wc_ircmsg.specs.declared.prefixes.Prefixes.{Prefixes}
use Rattle.wc_ircmsg.specs.Tokens.{parts_of, are_modes, are_chars}
use Rattle.wc_irc_texts.specs.declared.features.Features.{Features}

-- those of a server that tells nothing
abbrev pub default_features : Features
default_features = record {
  prefixes = record { modes = codes "ov"; chars = codes "@+" };
  chan_types = codes "#&";
  case_map = maps.Rfc1459;
  chan_modes = codes "beI,k,l,";
  status_msg = None;
}

-- the parameters between the first and the last
abbrev pub tokens_of : List (List ℕ) → List (List ℕ)
tokens_of params = take (length params - 2) (drop 1 params)

abbrev pub prefixes_of : List ℕ × List ℕ → Option Prefixes
prefixes_of parts = if are_modes parts.0 && are_chars (length parts.0) parts.1
    then Some (record { modes = parts.0; chars = parts.1 }) else None

-- the sides of a value of PREFIX
unfoldable pub read_prefixes : List ℕ → Option Prefixes
read_prefixes value = option_and_then prefixes_of (parts_of value)

abbrev pub read_case_map : List ℕ → Option CaseMap
read_case_map value =
    if bytes_eq value (codes "ascii") then Some maps.Ascii else (
    if bytes_eq value (codes "rfc1459") then Some maps.Rfc1459 else (
    if bytes_eq value (codes "strict-rfc1459") then Some maps.StrictRfc1459 else None))

-- a value of CHANMODES is four lists, which three commas part
abbrev pub are_mode_lists : List ℕ → Bool
are_mode_lists value = count_by (λ b. b == 44) value == 3

abbrev pub with_prefixes : Features → Option Prefixes → Features
with_prefixes f None = f
with_prefixes f (Some prefixes) = record f { prefixes = prefixes }

abbrev pub with_case_map : Features → Option CaseMap → Features
with_case_map f None = f
with_case_map f (Some case_map) = record f { case_map = case_map }

abbrev pub with_chan_modes : Features → List ℕ → Features
with_chan_modes f value = if are_mode_lists value then record f { chan_modes = value } else f

abbrev pub with_status_msg : Features → List ℕ → Features
with_status_msg f value = record f { status_msg = Some value }

-- a value of another form than its token has changes nothing
abbrev pub with_value : Features → List ℕ → List ℕ → Features
with_value f name value =
    if bytes_eq name (codes "PREFIX") then with_prefixes f (read_prefixes value) else (
    if bytes_eq name (codes "CHANTYPES") then record f { chan_types = value } else (
    if bytes_eq name (codes "CASEMAPPING") then with_case_map f (read_case_map value) else (
    if bytes_eq name (codes "CHANMODES") then with_chan_modes f value else (
    if bytes_eq name (codes "STATUSMSG") then with_status_msg f value else f))))

abbrev pub with_text : Features → List ℕ → Option (List ℕ) → Features
with_text f name None = f
with_text f name (Some value) = with_value f name value

-- a token is a name, `=` and its value; one without `=`, or with a `-` in front, changes nothing
abbrev pub with_token : Features → List ℕ → Features
with_token f token = with_text f (before 61 token) (text_after 61 token)

-- with each token of a 005 in order
abbrev pub after_tokens : Features → List (List ℕ) → Features
after_tokens f params = fold with_token f (tokens_of params)
