-- The head of a handshake: where it ends, and which heads are accepted.
use Rattle.std.specs.Prelude.{◌≡◌, ℕ, ◌+◌, ◌≤◌, List, [], ◌∷◌, ◌++◌, length, take, drop}
use Rattle.std.specs.Prelude.{map, ◌<◌, Option, None, Some, Ok, ⊤}
use Rattle.httparse.specs.Grammar.{ReadsRequest, RequestHead}
use Rattle.httparse.specs.Spans.{name_and_value}
use Rattle.memchr.specs.Find.{FindsNeedle}
use Rattle.wc_ws.specs.declared.names.WsRefused.{WsRefused}
use Rattle.wc_ws.specs.declared.names.WsRefused.TheVariants.{HeadTooLong, BadHead, BadFrame}
use Rattle.wc_ws.specs.declared.names.WsRefused.TheVariants.{NoMemory}
use Rattle.websocket.specs.Handshake.{requested_key, IsValidKey, response_bytes, accept_key_of}

-- how many bytes a head has at most
abbrev pub head_limit : ℕ
head_limit = 8192

-- how many fields a head has at most
abbrev pub field_limit : ℕ
field_limit = 128

-- the end of a line, and the empty line that follows
abbrev pub empty_line : List ℕ
empty_line = 13 ∷ 10 ∷ 13 ∷ 10 ∷ []

-- where the first empty line of the bytes is that lies within the limit
abbrev pub FirstEmptyLine : List ℕ → Option ℕ → Type 0
FirstEmptyLine bytes place = FindsNeedle (take head_limit bytes) empty_line 0 place

-- the head up to and with the empty line at this place, and what follows it
abbrev pub head_to : ℕ → List ℕ → List ℕ
head_to place bytes = take (place + 4) bytes

abbrev pub after_head : ℕ → List ℕ → List ℕ
after_head place bytes = drop (place + 4) bytes

-- the head is a request of HTTP/1.1 for a WebSocket with this key, and nothing more
pub record IsUpgrade (head key : List ℕ) : Type 0 where
  pub request : RequestHead
  pub reads : ReadsRequest head request []
  pub few : length request.fields ≤ field_limit
  pub asks : requested_key request.method request.minor (map name_and_value request.fields) ≡ Ok key
  pub valid : IsValidKey key

-- what is sent for a head with this key
abbrev pub head_answer : List ℕ → List ℕ
head_answer key = response_bytes (accept_key_of key) []

-- ---- of what was fed before (i) and after (j) and of what is to be sent before (o) and after (q)

-- the head was taken and answered
pub record HeadTaken (i j o q : List ℕ) : Type 0 where
  pub place : ℕ
  pub key : List ℕ
  pub ends : FirstEmptyLine i (Some place)
  pub asks : IsUpgrade (head_to place i) key
  pub input : j ≡ after_head place i
  pub output : q ≡ o ++ head_answer key

-- the head is not whole
pub record HeadWaits (i j o q : List ℕ) : Type 0 where
  pub ends : FirstEmptyLine i None
  pub short : length i < head_limit
  pub input : j ≡ i
  pub output : q ≡ o

-- the head ends and asks for no WebSocket
pub record AsksNothing (i : List ℕ) : Type 0 where
  pub place : ℕ
  pub ends : FirstEmptyLine i (Some place)
  pub asks : (key : List ℕ) → ¬ (IsUpgrade (head_to place i) key)

-- why no answer is sent to a whole head
abbrev pub AnswerRefused : List ℕ → WsRefused → Type 0
AnswerRefused head (HeadTooLong _) = ⊥
AnswerRefused head BadHead = (key : List ℕ) → ¬ (IsUpgrade head key)
AnswerRefused head BadFrame = ⊥
AnswerRefused head NoMemory = ⊤

-- why the head is refused
abbrev pub HeadRefused : List ℕ → WsRefused → Type 0
HeadRefused i (HeadTooLong limit) =
    (limit ≡ head_limit) × FirstEmptyLine i None × (head_limit ≤ length i)
HeadRefused i BadHead = AsksNothing i
HeadRefused i BadFrame = ⊥
HeadRefused i NoMemory = ⊤
