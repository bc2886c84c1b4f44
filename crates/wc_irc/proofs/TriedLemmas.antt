-- A server whose nick is in use.
use Rattle.std.proofs.Common.{◌≡◌, ℕ, ◌+◌, List, drop, true}
use Rattle.wc_irc.specs.declared.state.State.{State}
use Rattle.wc_irc.specs.Servers.{next_nick, may_try, after_taken}
use Rattle.wc_irc.specs.ServersSeen.{seen}

pub after_try : (s : State) (nick : List ℕ) (tried : ℕ) → may_try (seen s) ≡ true → nick ≡ next_nick (seen s) → drop tried s.nicks ≡ drop 1 (drop s.tried s.nicks)
    → seen (record s { nick = nick; tried = tried; taken = s.taken + 1 }) ≡ after_taken (seen s)
after_try s nick tried may next left = rw may (λ i. record (seen s) { nick = next i; nicks_left = left i; taken = s.taken + 1 })
