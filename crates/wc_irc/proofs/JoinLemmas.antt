-- A server after a nick joined a channel or left it.
use Rattle.std.proofs.Common.{◌≡◌, ℕ, Bool, true, false, cond, List, Option, Some, None, ap, sym, ◌∙◌}
use Rattle.std.specs.Prelude.{is_some}
use Rattle.wc_irc.specs.Channels.{Joined, without_nick}
use Rattle.wc_irc.specs.ChannelStates.{channel_at, change_first, without_first, change_one, leave_one, with_nick, entered, after_join, after_leave}
use Rattle.wc_irc.specs.Servers.{ServerState, is_own}

pub join_there : (s : ServerState) (nick name : List ℕ) (c : Joined) (channels : List Joined) → channel_at s name ≡ Some c → channels ≡ change_first s.features.case_map name (with_nick s.features.prefixes nick) s.channels
    → record s { channels = channels } ≡ after_join s nick name
join_there s nick name c channels there is =
    (λ i. record s { channels = is i }) ∙ sym (ap (λ (o : Option Joined). cond (is_some o) (change_one s name (with_nick s.features.prefixes nick)) (cond (is_own s nick) (entered s nick name) s)) there)

pub join_own : (s : ServerState) (nick name : List ℕ) → channel_at s name ≡ None → is_own s nick ≡ true → entered s nick name ≡ after_join s nick name
join_own s nick name none own =
    sym (ap (λ (o : Option Joined). cond (is_some o) (change_one s name (with_nick s.features.prefixes nick)) (cond (is_own s nick) (entered s nick name) s)) none
    ∙ ap (λ (t : Bool). cond t (entered s nick name) s) own)

pub join_other : (s : ServerState) (nick name : List ℕ) → channel_at s name ≡ None → is_own s nick ≡ false → s ≡ after_join s nick name
join_other s nick name none other =
    sym (ap (λ (o : Option Joined). cond (is_some o) (change_one s name (with_nick s.features.prefixes nick)) (cond (is_own s nick) (entered s nick name) s)) none
    ∙ ap (λ (t : Bool). cond t (entered s nick name) s) other)

pub leave_own : (s : ServerState) (nick name : List ℕ) (channels : List Joined) → is_own s nick ≡ true → channels ≡ without_first s.features.case_map name s.channels → record s { channels = channels } ≡ after_leave s nick name
leave_own s nick name channels own is =
    (λ i. record s { channels = is i }) ∙ sym (ap (λ (t : Bool). cond t (leave_one s name) (change_one s name (without_nick nick))) own)

pub leave_other : (s : ServerState) (nick name : List ℕ) (channels : List Joined) → is_own s nick ≡ false → channels ≡ change_first s.features.case_map name (without_nick nick) s.channels → record s { channels = channels } ≡ after_leave s nick name
leave_other s nick name channels other is =
    (λ i. record s { channels = is i }) ∙ sym (ap (λ (t : Bool). cond t (leave_one s name) (change_one s name (without_nick nick))) other)

pub leave_nowhere : (s : ServerState) (nick name : List ℕ) → without_first s.features.case_map name s.channels ≡ s.channels → change_first s.features.case_map name (without_nick nick) s.channels ≡ s.channels → s ≡ after_leave s nick name
leave_nowhere s nick name taken changed = by (is_own s nick) where
  by : (t : Bool) → s ≡ cond t (leave_one s name) (change_one s name (without_nick nick))
  by true = λ i. record s { channels = sym taken i }
  by false = λ i. record s { channels = sym changed i }
