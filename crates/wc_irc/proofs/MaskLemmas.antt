-- What a message tells of the own nick's host is kept beside what it changes.
use Rattle.std.proofs.Common.{◌≡◌, ℕ, Bool, true, false, cond, List, [], ◌∷◌, Option, refl, ap, ◌∙◌}
use Rattle.std.specs.Prelude.{is_some, unwrap_or}
use Rattle.wc_ircmsg.specs.declared.message.Message.{Message}
use Rattle.wc_irc_texts.specs.declared.kind.MessageKind.{MessageKind}
use Rattle.wc_irc_texts.specs.declared.kind.MessageKind.TheVariants.{Welcome, Tokens, NickInUse, Join, Part, Quit, Kick, Nick, Mode, Topic, TopicReply, Names, NamesEnd, ModeReply, Privmsg, Notice, Ping, Error, Invite, Other}
use Rattle.wc_irc_texts.specs.Rows.{param}
use Rattle.wc_irc.specs.Channels.{Joined}
use Rattle.wc_irc.specs.ChannelStates.{channel_at}
use Rattle.wc_irc.specs.ServerActs.{after_kind, with_mask}
use Rattle.wc_irc.specs.Servers.{ServerState, is_own, may_try, told_if_alone, mask_after}

either_mask : (t : Bool) (one other : ServerState) (mask : List ℕ) → one.mask ≡ mask → other.mask ≡ mask → (cond t one other).mask ≡ mask
either_mask true one other mask first second = first
either_mask false one other mask first second = second

told_mask : (channels : List Joined) (s : ServerState) (params : List (List ℕ)) → (told_if_alone channels s params).mask ≡ s.mask
told_mask [] s params = refl
told_mask (channel ∷ channels) s params = refl

kept_mask : (s : ServerState) (m : Message) (kind : MessageKind) → (after_kind s m kind).mask ≡ s.mask
unfolding after_kind
kept_mask s m Welcome = either_mask s.is_registered _ _ s.mask refl refl
kept_mask s m Tokens = told_mask s.channels s m.params
kept_mask s m NickInUse = either_mask (may_try s) _ _ s.mask refl refl
kept_mask s m Join = either_mask (is_some (channel_at s (param 0 m))) _ _ s.mask refl (either_mask (is_own s m.nick) _ _ s.mask refl refl)
kept_mask s m Part = either_mask (is_own s m.nick) _ _ s.mask refl refl
kept_mask s m Quit = refl
kept_mask s m Kick = either_mask (is_own s (param 1 m)) _ _ s.mask refl refl
kept_mask s m Nick = refl
kept_mask s m Mode = refl
kept_mask s m Topic = refl
kept_mask s m TopicReply = refl
kept_mask s m Names = refl
kept_mask s m NamesEnd = refl
kept_mask s m ModeReply = refl
kept_mask s m Privmsg = refl
kept_mask s m Notice = refl
kept_mask s m Ping = refl
kept_mask s m Error = refl
kept_mask s m Invite = refl
kept_mask s m Other = refl

-- a server after a message, where what it tells is put in last
pub mask_taken : (told : Option (List ℕ)) (old now new : ServerState) (m : Message) (kind : MessageKind) → now ≡ after_kind old m kind → new ≡ with_mask (unwrap_or told now.mask) now
    → unwrap_or told old.mask ≡ mask_after old m → new ≡ with_mask (mask_after old m) (after_kind old m kind)
mask_taken told old now new m kind is put made =
    put
    ∙ (λ i. with_mask (unwrap_or told (is i).mask) (is i))
    ∙ ap (λ (mask : List ℕ). with_mask (unwrap_or told mask) (after_kind old m kind)) (kept_mask old m kind)
    ∙ ap (λ (mask : List ℕ). with_mask mask (after_kind old m kind)) made
