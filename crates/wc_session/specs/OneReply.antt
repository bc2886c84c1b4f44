-- One reply each.
use Rattle.std.specs.Prelude.{◌≡◌, ℕ, List, [], ◌∷◌, codes}
use Rattle.wc_relaycmd.specs.declared.request.Command.{Command}
use Rattle.wc_relaycmd.specs.declared.request.Command.TheVariants as ask
use Rattle.wc_relaycmd.specs.declared.request.Request.{Request}
use Rattle.wc_objects.specs.declared.object.WireMessage.{WireMessage}

-- the id of a command's reply: that of its request, but for `ping`
abbrev pub id_of_reply : List ℕ → Command → List ℕ
id_of_reply id (ask.Ping text) = codes "_pong"
id_of_reply id _ = id

-- one message under this id, or none
abbrev pub AtMostOne : List ℕ → List WireMessage → Type 0
AtMostOne id [] = Unit {0}
AtMostOne id (m ∷ []) = m.id ≡ id
AtMostOne id (m ∷ n ∷ messages) = ⊥

abbrev pub IsOneReply : Request → List WireMessage → Type 0
IsOneReply request messages = AtMostOne (id_of_reply request.id request.command) messages
