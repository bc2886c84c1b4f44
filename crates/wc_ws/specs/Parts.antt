-- What a read of one frame makes of the parts of a link.
use Rattle.std.specs.Prelude.{◌≡◌, ℕ, List, drop, Result, Ok, Err}
use Rattle.websocket.specs.declared.error.Error.{Error}
use Rattle.websocket.specs.declared.protocol.frame.codec.FrameStatus.{FrameStatus}
use Rattle.websocket.specs.declared.protocol.frame.codec.FrameStatus.TheVariants.{Partial, Complete}
use Rattle.websocket.specs.Connection.{Connection, Effect, Sends}
use Rattle.wc_ws.specs.declared.names.WsGot.{WsGot}
use Rattle.wc_ws.specs.declared.names.WsGot.TheVariants.{NotYet}
use Rattle.wc_ws.specs.Link.{told}

-- the step of the protocol, of what was fed before (i) and after (j) and of what is to be sent
-- before (o) and after (q)
abbrev pub StepsParts : Result (FrameStatus (ℕ × Effect)) Error → (before after : Connection)
    → (i j o q : List ℕ) → WsGot → Type 0
StepsParts (Err _) before after i j o q got = ⊥
StepsParts (Ok (Partial _)) before after i j o q got =
    (got ≡ NotYet) × (after ≡ before) × (j ≡ i) × (q ≡ o)
StepsParts (Ok (Complete p)) before after i j o q got =
    (got ≡ told p.1.message) × (after ≡ p.1.next) × (j ≡ drop p.0 i)
    × Sends after.role p.1.reply o q

-- the same side of a connection, within the same limits
pub record IsSameSide (before after : Connection) : Type 0 where
  pub role : after.role ≡ before.role
  pub config : after.config ≡ before.config
