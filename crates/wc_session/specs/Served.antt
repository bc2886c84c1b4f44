-- What the calls answer, against what a request gets.
use Rattle.std.specs.Prelude.{◌≡◌, ℕ, List, []}
use Rattle.wc_session.specs.declared.outcome.Outcome.{Outcome}
use Rattle.wc_session.specs.declared.outcome.Outcome.TheVariants as outcome
use Rattle.wc_session.specs.declared.client.Client.{Client}
use Rattle.wc_session.specs.Reply.{Answer}
use Rattle.wc_session.specs.Sending.{Sends}
use Rattle.wc_session.specs.Known.{Known}

-- a fact, unless memory was refused
abbrev pub OnServed : Outcome → Type 0 → Type 0
OnServed outcome.NoMemory fact = Unit {0}
OnServed _ fact = fact

-- a fact, where memory was refused
abbrev pub OnNoMemory : Outcome → Type 0 → Type 0
OnNoMemory outcome.NoMemory fact = fact
OnNoMemory _ fact = Unit {0}

-- what was answered is the answer, its messages were put after the bytes, and this is known of the
-- client
pub record GivesAnswer (old new : List ℕ) (result : Outcome) (after : Client) (answer : Answer) :
    Type 0 where
  pub sends : Sends old new answer.messages
  pub outcome : result ≡ answer.outcome
  pub client : after ≡ answer.client

-- what was answered is the answer, which has no messages, and this is known of the client
pub record IsQuiet (result : Outcome) (after : Client) (answer : Answer) : Type 0 where
  pub messages : answer.messages ≡ []
  pub outcome : result ≡ answer.outcome
  pub client : after ≡ answer.client

-- the session before and after a request, and what was answered
pub record AnswersRequest (old new : Known) (result : Outcome) (answer : Answer) : Type 0 where
  pub sends : Sends old.unsent new.unsent answer.messages
  pub outcome : result ≡ answer.outcome
  pub client : new.client ≡ answer.client
