-- What 005 tells.
use Rattle.std.proofs.Common.{◌≡◌, ℕ, List, length, refl, ap, sym, ◌∙◌, Bool, true, false, cond, ◌&&◌, Option, Some, None, Result, Ok, Err}
use Rattle.std.specs.Prelude.{IfSome, IfOk, option_and_then}
use Rattle.std.proofs.lemmas.Bool.{and_parts}
use Rattle.wc_ircmsg.specs.declared.prefixes.Prefixes.{Prefixes}
use Rattle.wc_ircmsg.specs.Tokens.{parts_of, are_modes, are_chars, SpellsPrefixes}
use Rattle.wc_ircmsg.proofs.TokenLemmas.{SpellsPrefixes-parts, SpellsPrefixes-modes, SpellsPrefixes-chars, SpellsPrefixes-made}
use Rattle.wc_irc_texts.specs.Features.{prefixes_of, read_prefixes}

spelled : (value : List ℕ) (p : Prefixes) → SpellsPrefixes value p → Some p ≡ read_prefixes value
unfolding read_prefixes
spelled value p spells =
    let parts = SpellsPrefixes-parts value p spells in
    let modes = SpellsPrefixes-modes value p spells in
    let chars = SpellsPrefixes-chars value p spells in
    sym (ap (option_and_then prefixes_of) parts
    ∙ ap (λ t. cond (t && are_chars (length p.modes) p.chars) (Some p) None) modes
    ∙ ap (λ t. cond t (Some p) None) chars)

abbrev made : List ℕ → List ℕ → Prefixes
made modes text = record { modes = modes; chars = text }

none_spelled : (value : List ℕ) (o : Option (List ℕ × List ℕ)) → parts_of value ≡ o → ((p : Prefixes) → SpellsPrefixes value p → None ≡ Some p) → None ≡ option_and_then prefixes_of o
none_spelled value None parts only = refl
none_spelled value (Some (modes, text)) parts only = by (are_modes modes && are_chars (length modes) text) refl where
  by : (t : Bool) → (are_modes modes && are_chars (length modes) text) ≡ t → None ≡ cond t (Some (made modes text)) None
  by true pass = let both = and_parts (are_modes modes) (are_chars (length modes) text) pass in only _ (SpellsPrefixes-made value modes text parts both.0 both.1)
  by false pass = refl

-- the reading of a value is the one that is computed
pub prefixes_read : (value : List ℕ) (read : Option Prefixes) → IfSome read (SpellsPrefixes value) → ((p : Prefixes) → SpellsPrefixes value p → read ≡ Some p) → read ≡ read_prefixes value
unfolding read_prefixes
prefixes_read value (Some p) found only = spelled value p found
prefixes_read value None found only = none_spelled value (parts_of value) refl only

pub prefixes_answered : {E : Type 0} (value : List ℕ) (r : Result (Option Prefixes) E) → IfOk r (λ read. IfSome read (SpellsPrefixes value)) → IfOk r (λ read. (p : Prefixes) → SpellsPrefixes value p → read ≡ Some p)
    → IfOk r (λ read. read ≡ read_prefixes value)
prefixes_answered value (Ok read) found only = prefixes_read value read found only
prefixes_answered value (Err e) found only = tt
