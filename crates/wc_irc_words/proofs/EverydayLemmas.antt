-- The everyday commands are asked for by the names that their table has.
use Rattle.std.proofs.Common.{◌≡◌, ℕ, List, ◌∷◌, ◌++◌, Some, refl}
use Rattle.wc_text.specs.Splits.{past}
use Rattle.wc_irc_words.specs.declared.everyday.Everyday.{Everyday}
use Rattle.wc_irc_words.specs.declared.everyday.Everyday.TheVariants as word
use Rattle.wc_irc_words.specs.Everyday.{everyday_name}
use Rattle.wc_irc_words.specs.Typed.{asked_of, command_of, Bids}

pub everyday_typed : (everyday : Everyday) (text : List ℕ) → asked_of (47 ∷ (everyday_name everyday ++ 32 ∷ text)) ≡ Some (Bids everyday (past 32 text))
unfolding asked_of command_of
everyday_typed word.Whois text = refl
everyday_typed word.Whowas text = refl
everyday_typed word.Who text = refl
everyday_typed word.List text = refl
everyday_typed word.Away text = refl
everyday_typed word.Invite text = refl
everyday_typed word.Op text = refl
everyday_typed word.Deop text = refl
everyday_typed word.Voice text = refl
everyday_typed word.Devoice text = refl
everyday_typed word.Halfop text = refl
everyday_typed word.Dehalfop text = refl
everyday_typed word.Ban text = refl
everyday_typed word.Unban text = refl
everyday_typed word.Kickban text = refl
everyday_typed word.Ctcp text = refl
everyday_typed word.Ping text = refl
everyday_typed word.Motd text = refl
everyday_typed word.Cycle text = refl
everyday_typed word.Oper text = refl
everyday_typed word.Knock text = refl
everyday_typed word.Time text = refl
everyday_typed word.Version text = refl
everyday_typed word.Stats text = refl
