-- The table of commands names exactly those that are known.
use Rattle.std.proofs.Common.{◌≡◌, ℕ, Bool, true, false, cond, List, [], ◌∷◌, Option, Some, None, refl, sym, ap, ◌∙◌, codes}
use Rattle.std.specs.Prelude.{not, ◌||◌, find, is_some, option_map}
use Rattle.std.specs.List.{list_any}
use Rattle.std.specs.Str.{bytes_eq}
use Rattle.std.proofs.lemmas.Slice.Eq.{bytes_eq-Decides}
use Rattle.wc_text.specs.Words.{words_of}
use Rattle.wc_irc_words.specs.declared.everyday.Everyday.{Everyday}
use Rattle.wc_irc_words.specs.declared.everyday.Everyday.TheVariants as word
use Rattle.wc_irc_words.specs.Everyday.{all_everyday, everyday_named, is_everyday, is_who}
use Rattle.wc_irc_words.specs.Typed.{ServerCommand, Bids, command_of, is_called}
use Rattle.wc_core.specs.Typed.{TypedCommand, command, news_command, option_command, input_command, hotlist_command}
use Rattle.wc_core.specs.Forms.{core_text, server_text}
use Rattle.wc_core.specs.CommandNames.{is_unknown, is_known, is_named}

-- ---- commands that servers know

-- one more name before others
one : (t : Bool) (x : ServerCommand) (others : Option ServerCommand) (rest : Bool) → is_some others ≡ rest → is_some (cond t (Some x) others) ≡ (t || rest)
one true x others rest same = refl
one false x others rest same = same

-- and a letter for it
either : (t u : Bool) (x : ServerCommand) (others : Option ServerCommand) (rest : Bool) → is_some others ≡ rest → is_some (cond (t || u) (Some x) others) ≡ (t || (u || rest))
either true u x others rest same = refl
either false u x others rest same = one u x others rest same

found : (p : Everyday → Bool) (words : List Everyday) → is_some (find p words) ≡ list_any p words
found p [] = refl
found p (word ∷ words) = by (p word) (found p words) where
  by : (t : Bool) → is_some (find p words) ≡ list_any p words → is_some (cond t (Some word) (find p words)) ≡ (t || list_any p words)
  by true more = refl
  by false more = more

mapped : (f : Everyday → ServerCommand) (o : Option Everyday) → is_some (option_map f o) ≡ is_some o
mapped f None = refl
mapped f (Some word) = refl

everyday : (name : List ℕ) → is_some (everyday_named name) ≡ (is_who name || list_any (is_everyday name) all_everyday)
everyday name = by (is_who name) where
  by : (t : Bool) → is_some (cond t (Some word.Who) (find (is_everyday name) all_everyday)) ≡ (t || list_any (is_everyday name) all_everyday)
  by true = refl
  by false = found (is_everyday name) all_everyday

for_servers : (name : List ℕ) → is_some (command_of name []) ≡ list_any (is_called name) (words_of server_text)
unfolding command_of words_of server_text
for_servers name =
    either (is_called name (codes "join")) (is_called name (codes "j")) _ _ _ (
    one (is_called name (codes "part")) _ _ _ (
    either (is_called name (codes "msg")) (is_called name (codes "m")) _ _ _ (
    one (is_called name (codes "notice")) _ _ _ (
    either (is_called name (codes "query")) (is_called name (codes "q")) _ _ _ (
    one (is_called name (codes "me")) _ _ _ (
    one (is_called name (codes "nick")) _ _ _ (
    one (is_called name (codes "topic")) _ _ _ (
    either (is_called name (codes "kick")) (is_called name (codes "k")) _ _ _ (
    one (is_called name (codes "mode")) _ _ _ (
    either (is_called name (codes "names")) (is_called name (codes "n")) _ _ _ (
    one (is_called name (codes "quote")) _ _ _ (
    one (is_called name (codes "server")) _ _ _ (
    one (is_called name (codes "connect")) _ _ _ (
    one (is_called name (codes "disconnect")) _ _ _ (
    mapped (λ word. Bids word []) (everyday_named name) ∙ everyday name)))))))))))))))

-- ---- commands that the core knows

known : (t : Bool) (x others : TypedCommand) (rest : Bool) → is_unknown x ≡ false → not (is_unknown others) ≡ rest → not (is_unknown (cond t x others)) ≡ (t || rest)
known true x others rest is same = ap not is
known false x others rest is same = same

for_options : (name : List ℕ) → not (is_unknown (option_command name [])) ≡ list_any (bytes_eq name) (codes "set" ∷ codes "unset" ∷ codes "save" ∷ [])
unfolding option_command
for_options name =
    known (bytes_eq name (codes "set")) _ _ _ refl (
    known (bytes_eq name (codes "unset")) _ _ _ refl (
    known (bytes_eq name (codes "save")) _ _ false refl refl))

-- `/input` is unknown where nothing is after it
for_news : (name : List ℕ) → not (is_unknown (news_command name [])) ≡ list_any (bytes_eq name) (codes "hotlist" ∷ codes "set" ∷ codes "unset" ∷ codes "save" ∷ [])
unfolding news_command
for_news name = by (bytes_eq name (codes "input")) refl where
  others : not (is_unknown (cond (bytes_eq name (codes "hotlist")) (hotlist_command []) (option_command name []))) ≡ list_any (bytes_eq name) (codes "hotlist" ∷ codes "set" ∷ codes "unset" ∷ codes "save" ∷ [])
  others = known (bytes_eq name (codes "hotlist")) _ _ _ refl (for_options name)

  by : (t : Bool) → bytes_eq name (codes "input") ≡ t → not (is_unknown (cond t (input_command []) (cond (bytes_eq name (codes "hotlist")) (hotlist_command []) (option_command name [])))) ≡ list_any (bytes_eq name) (codes "hotlist" ∷ codes "set" ∷ codes "unset" ∷ codes "save" ∷ [])
  by true here =
      let same : name ≡ codes "input" = (bytes_eq-Decides name (codes "input")).0 here in
      sym (ap (λ n. list_any (bytes_eq n) (codes "hotlist" ∷ codes "set" ∷ codes "unset" ∷ codes "save" ∷ [])) same)
  by false here = others

for_core : (name : List ℕ) → not (is_unknown (command name [])) ≡ list_any (bytes_eq name) (words_of core_text)
unfolding words_of core_text
for_core name =
    known (bytes_eq name (codes "print")) _ _ _ refl (
    known (bytes_eq name (codes "buffer")) _ _ _ refl (
    known (bytes_eq name (codes "close")) _ _ _ refl (
    known (bytes_eq name (codes "quit")) _ _ _ refl (
    known (bytes_eq name (codes "eval")) _ _ _ refl (
    known (bytes_eq name (codes "filter")) _ _ _ refl (
    known (bytes_eq name (codes "help")) _ _ _ refl (for_news name)))))))

pub known_named : (name : List ℕ) → is_known name ≡ is_named name
known_named name = λ i. for_core name i || for_servers name i
