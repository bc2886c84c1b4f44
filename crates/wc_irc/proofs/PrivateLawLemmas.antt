-- Which acts of what others say open a buffer, and that 256 bounds nothing.
use Rattle.std.proofs.Common.{◌≡◌, ℕ, Bool, true, false, cond, List, [], ◌∷◌, ◌++◌, length, Option, Some, None, refl, ap, codes}
use Rattle.std.specs.Prelude.{◌&&◌, nat_lt, nat_le, option_and_then, unwrap_or}
use Rattle.std.specs.List.{list_any}
use Rattle.wc_ircmsg.specs.declared.message.Message.{Message}
use Rattle.wc_buffers.specs.Calls.{EntryGroups}
use Rattle.wc_options.specs.Number.{number_in}
use Rattle.wc_options.specs.Options.{OptionsValue, value_of}
use Rattle.wc_irc.specs.declared.act.Act.{Act}
use Rattle.wc_irc_texts.specs.Names.{is_channel}
use Rattle.wc_irc_texts.specs.Rows.{param}
use Rattle.wc_irc.specs.PrivateBuffers.{private_buffers, is_full, opens_too_many}
use Rattle.wc_irc.specs.PrivateLaws.{is_open, OpensNoneWhereFull, IsUnboundAtMost, IsMostByDefault}
use Rattle.wc_irc.specs.Servers.{ServerState}
use Rattle.wc_irc.specs.SpeechActs.{Talk, Says, Does, Requests, talk_heard, talk_line, talk_tags, on_private, heard_privately, heard_on, acts_of_talk}
use Rattle.wc_irc.specs.Start.{private_max_of}
use Rattle.wc_irc.specs.TalkActs.{on_found, aimed}
use Rattle.wc_irc.specs.Targets.{server_buffer, found}

-- ---- where no room is left

abbrev OpensNone : List Act → Type 0
OpensNone acts = list_any is_open acts ≡ false

line_opens : (s : ServerState) (target nick : List ℕ) (does : Bool) (text : List ℕ) (tags : List (List ℕ)) (buffer : List ℕ) → OpensNone (talk_line s target nick does text tags buffer ∷ [])
line_opens s target nick true text tags buffer = refl
line_opens s target nick false text tags buffer = refl

found_opens : (there : Option (List ℕ)) (line : List ℕ → Act) → ((buffer : List ℕ) → OpensNone (line buffer ∷ [])) → OpensNone (on_found there (λ buffer. line buffer ∷ []))
found_opens None line each = refl
found_opens (Some buffer) line each = each buffer

privately_opens : (groups : EntryGroups) (s : ServerState) (nick : List ℕ) (line : List ℕ → Act) (there : Option (List ℕ)) → is_full groups s ≡ true → ((buffer : List ℕ) → OpensNone (line buffer ∷ []))
    → OpensNone (heard_privately groups s nick line there)
privately_opens groups s nick line None full each = rw full (each (server_buffer s.name))
privately_opens groups s nick line (Some buffer) full each = each buffer

heard_opens : (groups : EntryGroups) (s : ServerState) (target nick : List ℕ) (line : List ℕ → Act) → is_full groups s ≡ true → ((buffer : List ℕ) → OpensNone (line buffer ∷ []))
    → OpensNone (heard_on groups s target nick line)
heard_opens groups s target nick line full each = by (is_channel s.features.chan_types (aimed s target)) where
  by : (t : Bool) → OpensNone (cond t (on_found (found groups s (aimed s target)) (λ buffer. line buffer ∷ [])) (heard_privately groups s nick line (found groups s nick)))
  by true = found_opens (found groups s (aimed s target)) line each
  by false = privately_opens groups s nick line (found groups s nick) full each

pub opens_none : OpensNoneWhereFull
opens_none groups s m full = by (talk_heard m) where
  by : (talk : Talk) → OpensNone (acts_of_talk groups s m talk)
  by (Says text) = heard_opens groups s (param 0 m) m.nick (talk_line s (param 0 m) m.nick false text (talk_tags s m false)) full (λ buffer. line_opens s (param 0 m) m.nick false text (talk_tags s m false) buffer)
  by (Does deed) = heard_opens groups s (param 0 m) m.nick (talk_line s (param 0 m) m.nick true deed (talk_tags s m true)) full (λ buffer. line_opens s (param 0 m) m.nick true deed (talk_tags s m true) buffer)
  by (Requests word) = refl

-- ---- where as many may be opened as there may be in all

never_full : (groups : EntryGroups) (s : ServerState) → s.private_max ≡ 256 → is_full groups s ≡ false
unfolding is_full
never_full groups s most = ap (λ (n : ℕ). nat_lt n 256 && nat_le n (length (private_buffers groups s))) most

never_too_many : (groups : EntryGroups) (s : ServerState) (there : Option (List ℕ)) → s.private_max ≡ 256 → opens_too_many groups s there ≡ false
never_too_many groups s None most = never_full groups s most
never_too_many groups s (Some buffer) most = refl

pub unbound_at_most : IsUnboundAtMost
unbound_at_most groups s m does text most =
    let line = talk_line s (param 0 m) m.nick does text (talk_tags s m does) in
    let there = found groups s m.nick in
    ap (λ (t : Bool). cond (is_channel s.features.chan_types (aimed s (param 0 m))) (on_found (found groups s (aimed s (param 0 m))) (λ buffer. line buffer ∷ []))
    (cond t (line (server_buffer s.name) ∷ []) (on_private s m.nick line there))) (never_too_many groups s there most)

pub most_by_default : IsMostByDefault
unfolding private_max_of number_in
most_by_default options default = ap (λ (o : Option (List ℕ)). unwrap_or (option_and_then (number_in 1 256) o) 256) default
