-- The bytes that are sent to a link spell messages, in one way.
use Rattle.std.proofs.Common.{◌≡◌, ℕ, Bool, true, false, List, [], ◌∷◌, ◌++◌, length, take, drop, Option, Some, None, refl, sym, ap, subst, ◌∙◌, arith, nat_lt}
use Rattle.std.specs.List.{flat_map}
use Rattle.std.proofs.Math.Seq.{take-append_seam, drop-append_seam}
use Rattle.std.proofs.lemmas.List.{length-append}
use Rattle.wc_text.specs.declared.names.Cause.{Cause}
use Rattle.wc_text.specs.declared.names.Cause.TheVariants as cause
use Rattle.wc_outside.specs.Keyed.{at_key, put_at}
use Rattle.wc_objects.specs.declared.object.WireMessage.{WireMessage}
use Rattle.wc_objects.specs.Spells.{Spells}
use Rattle.wc_objects.proofs.Rooms.{length-message_bytes}
use Rattle.wc_objects.proofs.Spellings.{stated, states}
use Rattle.wc_objects.proofs.Messages.{one_message}
use Rattle.wc_relaycmd.specs.declared.request.Request.{Request}
use Rattle.wc_relaycmd.specs.Answers.{request_of}
use Rattle.wc_relaycmd.proofs.ReadLemmas.{reads-request_of}
use Rattle.wc_relaycmd.proofs.RequestTexts.{RequestIsUtf8-reads}
use Rattle.wc_session.specs.declared.client.Client.{Client}
use Rattle.wc_session.specs.declared.outcome.Outcome.{Outcome}
use Rattle.wc_session.specs.declared.outcome.Outcome.TheVariants as outcome
use Rattle.wc_session.specs.Reply.{reply_of}
use Rattle.wc_session.specs.Sending.{spelling}
use Rattle.wc_core.specs.Contexts.{context_of}
use Rattle.wc_core.specs.Events.{Event, Start, Tick, Arrives, Line as LineCame, Stands, Ends, Fails, Breaks, ListenFails}
use Rattle.wc_core.specs.State.{State, Stepped}
use Rattle.wc_servers.specs.Seats.{server_link}
use Rattle.wc_core.specs.Limits.{client_limit}
use Rattle.wc_core.specs.Step.{client_link, sends, outcome_step, reply_step, request_step, link_line_step, link_loss_step, step, run}
use Rattle.wc_core.specs.Served.{OutcomeUtf8, messages_to}
use Rattle.wc_core.specs.Typed.{lines_of_text}
use Rattle.wc_core.proofs.MessageLemmas.{sent_to-messages}
use Rattle.wc_mirror_laws.specs.Held.{HeldPart, Lines, Buffers, Nicks}
use Rattle.wc_mirror_laws.specs.Kept.{IsStateKept}
use Rattle.wc_mirror_laws.specs.Mirrors.{beginning}
use Rattle.wc_mirror_laws.specs.Bytes.{IsSpelt, SpellOnce, RunSpells, PartShows, BytesShow, BuffersShow, NicksShow}
use Rattle.wc_mirror_laws.proofs.ChangeLemmas.{acts_spelt, sends_spelt}
use Rattle.wc_mirror_laws.proofs.InputLemmas.{Tells-runs, Tells-start}
use Rattle.wc_mirror_laws.proofs.ServerLemmas.{Tells-line, Tells-loss, Tells-stands}
use Rattle.wc_mirror_laws.proofs.StepLemmas.{arrived, reply_link, reply_text, kept-put, ticked, kept-ticked, step_keeps}
use Rattle.wc_mirror_laws.proofs.AskedLemmas.{before_reply, asked_after, Tells-before}
use Rattle.wc_mirror_laws.proofs.PushLemmas.{Tells-pushes}
use Rattle.wc_mirror_laws.proofs.SpeltLemmas.{answer_spelt}
use Rattle.wc_mirror_laws.proofs.TellingLemmas.{AllSpelt}
use Rattle.wc_mirror_laws.proofs.TypedLemmas.{parted_text}
use Rattle.wc_mirror_laws.proofs.RunLemmas.{start_kept, mirrors}

-- ---- the messages of acts

follows_spelt : (link : ℕ) (state : State) (k : ℕ) (o : Outcome) → OutcomeUtf8 o → IsStateKept link state → AllSpelt (messages_to link (outcome_step state k o).acts)
follows_spelt link state k outcome.Replied utf8 kept = tt
follows_spelt link state k outcome.Silent utf8 kept = tt
follows_spelt link state k (outcome.Input buffer text) utf8 kept = (Tells-runs Lines None link [] state buffer (lines_of_text text) tt kept (parted_text text utf8)).spelt
follows_spelt link state k (outcome.Leave why) utf8 kept = tt
follows_spelt link state k outcome.NoMemory utf8 kept = tt

line_spelt : (link : ℕ) (state : State) (k : ℕ) (line : List ℕ) → IsStateKept link state → AllSpelt (messages_to link (step state (LineCame k line)).acts)
line_spelt link state k line kept = came (at_key client_link k state.clients) where
  served : (client : Client) (o : Option Request) → request_of client.escaped line ≡ o → AllSpelt (messages_to link (request_step state client o).acts)
  served client None e = tt
  served client (Some request) e =
      let first = before_reply state client request in
      let now = first.state in
      let tells = Tells-before Lines None link [] state client request tt kept in
      let answer = reply_of now.world (context_of now) client request in
      let next : State = record now { clients = put_at client_link (client_link client) answer.client now.clients } in
      let utf8 = RequestIsUtf8-reads line client.escaped request (reads-request_of line client.escaped request e) in
      subst (λ (s : Stepped). AllSpelt (messages_to link s.acts)) (sym (asked_after state client request))
      (acts_spelt link first.acts (reply_step now client request).acts tells.spelt
      (acts_spelt link (sends (client_link client) answer.messages) (outcome_step next (client_link client) answer.outcome).acts
      (sends_spelt link (client_link client) answer.messages (answer_spelt now.world.limit now.world (context_of now) client request tells.kept.world tells.kept.rows utf8))
      (follows_spelt link next (client_link client) answer.outcome (reply_text now client line request e) (kept-put link now (client_link client) answer.client (reply_link now client line request e) tells.kept))))

  came : (o : Option Client) → AllSpelt (messages_to link (link_line_step state k line o).acts)
  came None = (Tells-line Lines None link [] tt state k line (at_key server_link k state.servers) kept).spelt
  came (Some client) = served client (request_of client.escaped line) refl

lost_spelt : (link : ℕ) (state : State) (k : ℕ) (why : Cause) (o : Option Client) → IsStateKept link state → AllSpelt (messages_to link (link_loss_step state k why o).acts)
lost_spelt link state k why None kept = (Tells-loss Lines None link [] tt k why state (at_key server_link k state.servers) kept).spelt
lost_spelt link state k why (Some client) kept = tt

step_spelt : (link : ℕ) (state : State) (event : Event) → IsStateKept link state → AllSpelt (messages_to link (step state event).acts)
step_spelt link state (Start moment) kept = (Tells-start Lines None link [] state moment tt kept).spelt
step_spelt link state (Tick moment) kept = (Tells-pushes Lines None link [] (ticked state moment) tt (kept-ticked link state moment kept)).spelt
step_spelt link state (Arrives k nonce) kept = by (nat_lt (length state.clients) (client_limit state.options)) where
  by : (b : Bool) → AllSpelt (messages_to link (arrived state k nonce b).acts)
  by true = tt
  by false = tt
step_spelt link state (LineCame k line) kept = line_spelt link state k line kept
step_spelt link state (Stands k) kept = (Tells-stands Lines None link [] tt state k (at_key server_link k state.servers) kept).spelt
step_spelt link state (Ends k) kept = lost_spelt link state k cause.Ended (at_key client_link k state.clients) kept
step_spelt link state (Fails k) kept = lost_spelt link state k cause.Failed (at_key client_link k state.clients) kept
step_spelt link state (Breaks k) kept = lost_spelt link state k cause.BadSocket (at_key client_link k state.clients) kept
step_spelt link state ListenFails kept = tt

spelt_on : (link : ℕ) (state : State) (events : List Event) → IsStateKept link state → AllSpelt (messages_to link (run state events).acts)
spelt_on link state [] kept = tt
spelt_on link state (event ∷ events) kept =
    let next = (step state event).state in
    acts_spelt link (step state event).acts (run next events).acts (step_spelt link state event kept) (spelt_on link next events (step_keeps link state event kept))

-- ---- the bytes

pub run_spells : RunSpells
run_spells oracle options lines commands connects events link most texts =
    let acts = (run (beginning oracle options lines commands connects) events).acts in
    record { each = spelt_on link (beginning oracle options lines commands connects) events (start_kept lines link oracle options commands connects most texts); whole = sent_to-messages link acts }

pub part_shows : (which : HeldPart) → PartShows which
part_shows which limit oracle options lines commands connects events link id most texts short settled limited = record {
  messages = messages_to link (run (beginning oracle options lines commands connects) events).acts;
  spell = run_spells oracle options lines commands connects events link most texts;
  has = mirrors which limit oracle options lines commands connects events link id most texts short settled limited;
}

pub bytes_show : BytesShow
bytes_show = part_shows Lines

pub buffers_show : BuffersShow
buffers_show = part_shows Buffers

pub nicks_show : NicksShow
nicks_show = part_shows Nicks

-- ---- bytes spell messages in one way

some_bytes : (m : WireMessage) (rest : List ℕ) → [] ≡ spelling m ++ rest → ⊥
some_bytes m rest e = omega (arith, ap length e, length-append (spelling m) rest, length-message_bytes m.id m.objects)

-- the first message of bytes
same_first : (m n : WireMessage) (a b : List ℕ) → IsSpelt m → IsSpelt n → spelling m ++ a ≡ spelling n ++ b → (m ≡ n) × (a ≡ b)
same_first m n a b p q e =
    let first : stated (spelling m ++ a) ≡ length (spelling m) = states m (spelling m) a p.spells in
    let second : stated (spelling n ++ b) ≡ length (spelling n) = states n (spelling n) b q.spells in
    let size : length (spelling m) ≡ length (spelling n) = sym first ∙ ap stated e ∙ second in
    let same : spelling m ≡ spelling n = sym (take-append_seam (spelling m) a) ∙ ap (take (length (spelling m))) e ∙ ap (λ k. take k (spelling n ++ b)) size ∙ take-append_seam (spelling n) b in
    let rest : a ≡ b = sym (drop-append_seam (spelling m) a) ∙ ap (drop (length (spelling m))) e ∙ ap (λ k. drop k (spelling n ++ b)) size ∙ drop-append_seam (spelling n) b in
    (one_message m n (spelling m) p.within q.within p.spells (subst (Spells n) (sym same) q.spells), rest)

once : (a b : List WireMessage) → AllSpelt a → AllSpelt b → flat_map (λ m. spelling m) a ≡ flat_map (λ m. spelling m) b → a ≡ b
once [] [] p q e = refl
once [] (n ∷ b) p q e = absurd (some_bytes n (flat_map (λ m. spelling m) b) e)
once (m ∷ a) [] p q e = absurd (some_bytes m (flat_map (λ m. spelling m) a) (sym e))
once (m ∷ a) (n ∷ b) p q e =
    let both = same_first m n (flat_map (λ m. spelling m) a) (flat_map (λ m. spelling m) b) p.0 q.0 e in
    let rest = once a b p.1 q.1 both.1 in
    λ i. both.0 i ∷ rest i

pub spell_once : SpellOnce
spell_once bytes a b p q = once a b p.each q.each (sym p.whole ∙ q.whole)
