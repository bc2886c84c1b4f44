-- Which requests get a reply.
use Rattle.std.specs.Prelude.{◌≡◌, ℕ, ◌≤◌, Bool, true, false, ◌&&◌, ◌||◌, List, [], ◌∷◌, length}
use Rattle.wc_model.specs.World.{World}
use Rattle.wc_objects.specs.declared.object.WireMessage.{WireMessage}
use Rattle.wc_session.specs.RequestContext.{Context}
use Rattle.wc_relaycmd.specs.declared.request.Command.{Command}
use Rattle.wc_relaycmd.specs.declared.request.Command.TheVariants as ask
use Rattle.wc_relaycmd.specs.declared.request.Request.{Request}
use Rattle.wc_session.specs.declared.client.Client.{Client}
use Rattle.wc_session.specs.OneReply.{id_of_reply}
use Rattle.wc_session.specs.Reply.{is_open, reply_of}

-- whether a command has a reply
abbrev pub has_reply : Command → Bool
has_reply (ask.Handshake pairs) = true
has_reply (ask.Init pairs) = false
has_reply (ask.Hdata path keys) = true
has_reply (ask.Info name) = true
has_reply (ask.Infolist name argument) = true
has_reply (ask.Nicklist buffer) = true
has_reply (ask.Input buffer text) = false
has_reply (ask.Completion buffer position text) = true
has_reply (ask.Sync buffers asked) = false
has_reply (ask.Desync buffers asked) = false
has_reply ask.Test = true
has_reply (ask.Ping text) = true
has_reply ask.Quit = false

-- one message, under this id
abbrev pub IsOne : List ℕ → List WireMessage → Type 0
IsOne id [] = ⊥
IsOne id (m ∷ []) = m.id ≡ id
IsOne id (m ∷ n ∷ messages) = ⊥

abbrev pub IsOneIf : Bool → List ℕ → List WireMessage → Type 0
IsOneIf true id messages = IsOne id messages
IsOneIf false id messages = messages ≡ []

-- whether the request of a client is served
abbrev pub is_served : Client → Request → Bool
is_served client request = client.logged_in || is_open request.command

-- Each request that is served and has a reply gets exactly one, and no other request gets any, where
-- its id is one that a line can hold.
abbrev pub GetsOneReply : Type 0
GetsOneReply = (world : World) (context : Context) (client : Client) (request : Request)
    → length request.id ≤ 65536
    → IsOneIf (is_served client request && has_reply request.command)
    (id_of_reply request.id request.command) (reply_of world context client request).messages
