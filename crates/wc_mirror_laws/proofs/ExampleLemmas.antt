-- A client settles by three lines.
use Rattle.std.proofs.Common.{◌≡◌, ℕ, true, false, cond, List, [], ◌∷◌, ◌++◌, codes, Option, Some, None, refl, sym, ap, subst, ◌∙◌, eqb, nat_lt}
use Rattle.std.specs.Str.{is_utf8, chars}
use lib.Utf8.{encode}
use Rattle.wc_objects.specs.declared.object.WireMessage.{WireMessage}
use Rattle.wc_relaycmd.specs.declared.request.Command.TheVariants as ask
use Rattle.wc_relaycmd.specs.declared.request.Request.{Request}
use Rattle.wc_relaycmd.specs.Answers.{request_of, call_of, asked_by as asked_by_call, command_of}
use Rattle.wc_relaycmd.specs.Lists.{pairs_of, last_value}
use Rattle.wc_relaycmd.specs.Logins.{login_of}
use Rattle.wc_text.specs.declared.names.Cause.TheVariants as cause
use Rattle.wc_text.specs.declared.names.Handle.{Handle}
use Rattle.wc_buffers.specs.Calls.{EntryGroups, with_buffer}
use Rattle.wc_model.specs.World.{core_row, first_world}
use Rattle.wc_session.specs.declared.client.Client.{Client}
use Rattle.wc_options.specs.Names.{located, is_server_name}
use Rattle.wc_options.specs.Options.{fresh, with_value, value_of}
use Rattle.wc_options.specs.Table.{globals, place_in}
use Rattle.wc_relaycmd.specs.declared.algorithm.Algorithm.TheVariants.{Plain}
use Rattle.wc_relaycmd.specs.Choices.{is_common}
use Rattle.wc_session.specs.Handshakes.{first_choice, algorithm_for}
use Rattle.wc_session.specs.Heeded.{password_of, masks_of}
use Rattle.wc_session.specs.Known.{new_client}
use Rattle.wc_session.specs.Logins.{pairs_let_in, lets_in}
use Rattle.wc_session.specs.Reply.{Answer, silent, leaves, replies, init_answer, served, reply_of, hdata_answered, hdata_objects, nicklist_objects}
use Rattle.wc_session.specs.RequestContext.{Context}
use Rattle.wc_session.specs.Sending.{reply}
use Rattle.wc_session.specs.Names.{buffer_named}
use Rattle.wc_session.specs.Sync.{usual_options, of_buffer, put_to, at_named, synchronized}
use Rattle.wc_options.specs.Number.{number_in}
use Rattle.wc_core.specs.Contexts.{context_with}
use Rattle.wc_core.specs.Events.{Event, Arrives, Line}
use Rattle.wc_core.specs.Limits.{client_limit}
use Rattle.wc_core.specs.State.{State, Stepped, Closes, first_state}
use Rattle.wc_core.specs.Step.{client_link, link_line_step, reply_step, request_step, answer_step, step, run}
use Rattle.wc_core.specs.Changing.{put_step, reach_step}
use Rattle.wc_outside.specs.Keyed.{at_key}
use Rattle.wc_mirror_laws.specs.Held.{HeldPart, Lines, Buffers, Nicks}
use Rattle.wc_mirror_laws.specs.Settled.{AskedFor, asked_by, asked_with, asked_in, asked_on, client_on, follows_all, is_following, sets_have_trims, IsPlain, StaysPlain, TakesDump, SettledBy}
use Rattle.wc_mirror_laws.specs.Example.{only_password, init_line, sync_line, dump_line, buffers_line, nicks_line, three_lines, ThreeLinesSettle, ThreeLinesSettleBuffers, ThreeLinesSettleNicks}
use Rattle.wc_mirror_laws.proofs.AskedLemmas.{lists_nicks, asked_after, told_already}
use Rattle.wc_eval.specs.Verdicts.{Oracle}

-- ---- the requests

init_request : Request
init_request = record { id = []; command = ask.Init (pairs_of (codes "password=x")) }

-- the options that are named
sync_options : Option ℕ → Option (List (List ℕ))
sync_options None = Some (codes "buffers" ∷ codes "buffer" ∷ codes "nicklist" ∷ codes "trims" ∷ [])
sync_options (Some limit) = None

sync_request : Option ℕ → Request
sync_request limit = record { id = []; command = ask.Sync (codes "*" ∷ []) (sync_options limit) }

dump_request : Request
dump_request = record {
  id = codes "l";
  command = ask.Hdata (codes "buffer:gui_buffers(*)/own_lines/first_line(*)/data") (codes "buffer,id,date,date_usec,date_printed,date_usec_printed,displayed,notify_level,highlight,tags_array,prefix,message");
}

buffers_request : Request
buffers_request = record {
  id = codes "b";
  command = ask.Hdata (codes "buffer:gui_buffers(*)") (codes "number,full_name,short_name,hidden,title,local_variables");
}

nicks_request : Request
nicks_request = record { id = codes "n"; command = ask.Nicklist None }

init_reads : request_of false init_line ≡ Some init_request
unfolding request_of call_of asked_by_call command_of is_utf8 chars encode init_request
init_reads = refl

sync_reads : (limit : Option ℕ) → request_of false (sync_line limit) ≡ Some (sync_request limit)
unfolding request_of call_of asked_by_call command_of is_utf8 chars encode sync_request sync_options
sync_reads None = refl
sync_reads (Some limit) = refl

dump_reads : request_of false dump_line ≡ Some dump_request
unfolding request_of call_of asked_by_call command_of is_utf8 chars encode dump_request
dump_reads = refl

buffers_read : request_of false buffers_line ≡ Some buffers_request
unfolding request_of call_of asked_by_call command_of is_utf8 chars encode buffers_request
buffers_read = refl

nicks_read : request_of false nicks_line ≡ Some nicks_request
unfolding request_of call_of asked_by_call command_of is_utf8 chars encode nicks_request
nicks_read = refl

-- ---- the client after each

abbrev came : Client
came = new_client (record { 0 = 1 }) []

abbrev known : Client
known = record came { logged_in = true }

password_lets_in : pairs_let_in (pairs_of (codes "password=x")) (codes "x") [] (Some Plain) ≡ true
unfolding pairs_let_in lets_in login_of pairs_of last_value
password_lets_in = refl

password_is : password_of only_password ≡ codes "x"
unfolding password_of value_of with_value fresh located is_server_name globals place_in
password_is = refl

masks_are : masks_of only_password ≡ codes "*"
unfolding masks_of value_of with_value fresh located is_server_name globals place_in
masks_are = refl

plain_allowed : first_choice (codes "*") ≡ Some Plain
unfolding first_choice is_common
plain_allowed = refl

password_given : pairs_let_in (pairs_of (codes "password=x")) (password_of only_password) [] (algorithm_for (masks_of only_password) came.chosen) ≡ true
password_given =
    let pairs = pairs_of (codes "password=x") in
    ap (λ p. pairs_let_in pairs p [] (algorithm_for (masks_of only_password) came.chosen)) password_is ∙ ap (λ m. pairs_let_in pairs (codes "x") [] (first_choice m)) masks_are ∙ ap (pairs_let_in pairs (codes "x") []) plain_allowed ∙ password_lets_in

-- what they are answered from beside the buffers
abbrev asked_from : Context
asked_from = context_with only_password []

-- the groups of the core buffer alone
abbrev core_alone : EntryGroups
core_alone = with_buffer core_row [] []

abbrev synced : Option ℕ → Client
synced limit = synchronized core_alone known (codes "*" ∷ []) (sync_options limit)

init_answered : (lines : ℕ) → reply_of (first_world lines) asked_from came init_request ≡ silent known
unfolding reply_of served init_answer init_request
init_answered lines = ap (λ b. cond b (silent known) (leaves came cause.LoginFailed)) password_given

sync_answered : (limit : Option ℕ) (lines : ℕ) → reply_of (first_world lines) asked_from known (sync_request limit) ≡ silent (synced limit)
unfolding reply_of served sync_request
sync_answered limit lines = refl

abbrev told : ℕ → List WireMessage
told lines = reply (codes "l") (hdata_objects (first_world lines) (codes "buffer:gui_buffers(*)/own_lines/first_line(*)/data") (codes "buffer,id,date,date_usec,date_printed,date_usec_printed,displayed,notify_level,highlight,tags_array,prefix,message"))

dump_answered : (limit : Option ℕ) (lines : ℕ) → reply_of (first_world lines) asked_from (synced limit) dump_request ≡ replies (synced limit) (told lines)
unfolding reply_of served hdata_answered dump_request synchronized
dump_answered limit lines = refl

abbrev told_buffers : ℕ → List WireMessage
told_buffers lines = reply (codes "b") (hdata_objects (first_world lines) (codes "buffer:gui_buffers(*)") (codes "number,full_name,short_name,hidden,title,local_variables"))

buffers_answered : (limit : Option ℕ) (lines : ℕ) → reply_of (first_world lines) asked_from (synced limit) buffers_request ≡ replies (synced limit) (told_buffers lines)
unfolding reply_of served hdata_answered buffers_request synchronized
buffers_answered limit lines = refl

abbrev told_nicks : ℕ → List WireMessage
told_nicks lines = reply (codes "n") (nicklist_objects (first_world lines) None)

nicks_answered : (limit : Option ℕ) (lines : ℕ) → reply_of (first_world lines) asked_from (synced limit) nicks_request ≡ replies (synced limit) (told_nicks lines)
unfolding reply_of served nicks_request synchronized
nicks_answered limit lines = refl

-- ---- the client of the example

most_are : client_limit only_password ≡ 5
unfolding client_limit value_of with_value fresh located globals place_in number_in
most_are = refl

found : (client : Client) → client_link client ≡ 1 → at_key client_link 1 (client ∷ []) ≡ Some client
found client key = ap (λ n. cond (eqb n 1) (Some client) None) key

synced_link : (limit : Option ℕ) → client_link (synced limit) ≡ 1
unfolding synchronized
synced_link limit = refl

synced_known : (limit : Option ℕ) → (synced limit).logged_in ≡ true
unfolding synchronized
synced_known limit = refl

synced_follows : (limit : Option ℕ) → follows_all limit (synced limit) ≡ true
unfolding synchronized sync_options
synced_follows None = refl
synced_follows (Some limit) = refl

-- where it keeps a limit of its own it does not ask for lines that went
no_trims : (named : Option Handle) → sets_have_trims (at_named (put_to (of_buffer usual_options)) [] named) ≡ false
no_trims None = refl
no_trims (Some buffer) = refl

synced_plain : (limit : Option ℕ) → IsPlain limit (Some (synced limit))
unfolding synchronized sync_options
synced_plain None = tt
synced_plain (Some limit) = (refl, no_trims (buffer_named core_alone (codes "*")))

came_plain : (limit : Option ℕ) → IsPlain limit (Some came)
came_plain None = tt
came_plain (Some limit) = (refl, refl)

known_plain : (limit : Option ℕ) → IsPlain limit (Some known)
known_plain None = tt
known_plain (Some limit) = (refl, refl)

gone_plain : (limit : Option ℕ) → IsPlain limit None
gone_plain None = tt
gone_plain (Some limit) = tt

-- what is asked by it
abbrev request_by : Client → Request → AskedFor
request_by client request = record { client = client; request = request }

-- ---- the run

module _ (oracle : Oracle) where
  abbrev with_client : ℕ → Client → State
  with_client lines client = record (first_state oracle only_password lines []) { clients = client ∷ []; used = 1 }

  -- the state after the arrival
  first_step : (lines : ℕ) → (step (first_state oracle only_password lines []) (Arrives 1 [])).state ≡ with_client lines came
  first_step lines =
      let state = first_state oracle only_password lines [] in
      ap (λ n. (cond (nat_lt 0 n) (put_step (with_client lines came)) (reach_step (record state { used = 1 }) (Closes 1 cause.Surplus ∷ []))).state) most_are

  -- the state after a line
  line_state : (lines : ℕ) (client : Client) (line : List ℕ) (request : Request) (answer : Answer) → client_link client ≡ 1 → request_of client.escaped line ≡ Some request
      → reply_of (first_world lines) asked_from client request ≡ answer → (step (with_client lines client) (Line 1 line)).state ≡ (answer_step (with_client lines client) 1 answer).state
  line_state lines client line request answer key reads answered =
      let state = with_client lines client in
      ap (λ o. (link_line_step state 1 line o).state) (found client key) ∙ ap (λ o. (request_step state client o).state) reads
      ∙ ap (λ (s : Stepped). s.state) (asked_after state client request) ∙ ap (λ s. (reply_step s client request).state) (told_already state (lists_nicks client request) refl) ∙ ap (λ a. (answer_step state (client_link client) a).state) answered ∙ ap (λ n. (answer_step state n answer).state) key

  silent_step : (lines : ℕ) (before after : Client) (line : List ℕ) (request : Request) → client_link before ≡ 1 → request_of before.escaped line ≡ Some request
      → reply_of (first_world lines) asked_from before request ≡ silent after → (step (with_client lines before) (Line 1 line)).state ≡ with_client lines after
  silent_step lines before after line request key reads answered =
      line_state lines before line request (silent after) key reads answered
      ∙ ap (λ n. record (first_state oracle only_password lines []) { used = 1; clients = cond (eqb n 1) (after ∷ []) (before ∷ []) }) key

  line_asked : (lines : ℕ) (client : Client) (line : List ℕ) (request : Request) → client_link client ≡ 1 → request_of client.escaped line ≡ Some request
      → asked_in 1 (with_client lines client) (Line 1 line) ≡ request_by client request ∷ []
  line_asked lines client line request key reads = ap (asked_by line) (found client key) ∙ ap (asked_with client) reads

  next_asked : (lines : ℕ) (before after : Client) (line : List ℕ) (request : Request) (events : List Event) → client_link before ≡ 1 → request_of before.escaped line ≡ Some request
      → reply_of (first_world lines) asked_from before request ≡ silent after
      → asked_on 1 (with_client lines before) (Line 1 line ∷ events) ≡ request_by before request ∷ asked_on 1 (with_client lines after) events
  next_asked lines before after line request events key reads answered =
      ap (λ a. a ++ asked_on 1 (step (with_client lines before) (Line 1 line)).state events) (line_asked lines before line request key reads)
      ∙ ap (λ s. request_by before request ∷ asked_on 1 s events) (silent_step lines before after line request key reads answered)

  replied_client : (limit : Option ℕ) (lines : ℕ) (messages : List WireMessage) → client_on 1 (answer_step (with_client lines (synced limit)) 1 (replies (synced limit) messages)).state ≡ Some (synced limit)
  unfolding synchronized
  replied_client limit lines [] = refl
  replied_client limit lines (m ∷ messages) = refl

  plain_on : (limit : Option ℕ) (lines : ℕ) (client : Client) → client_link client ≡ 1 → IsPlain limit (Some client) → IsPlain limit (client_on 1 (with_client lines client))
  plain_on limit lines client key plain = subst (IsPlain limit) (sym (found client key)) plain

  -- ---- the line of a dump

  module _ (limit : Option ℕ) (line : List ℕ) (request : Request) (told : ℕ → List WireMessage) (reads : request_of false line ≡ Some request)
      (answered : (lines : ℕ) → reply_of (first_world lines) asked_from (synced limit) request ≡ replies (synced limit) (told lines)) where
    line_reads : request_of (synced limit).escaped line ≡ Some request
    unfolding synchronized
    line_reads = reads

    -- the states after each line
    init_state : (lines : ℕ) → (step (with_client lines came) (Line 1 init_line)).state ≡ with_client lines known
    init_state lines = silent_step lines came known init_line init_request refl init_reads (init_answered lines)

    sync_state : (lines : ℕ) → (step (with_client lines known) (Line 1 (sync_line limit))).state ≡ with_client lines (synced limit)
    sync_state lines = silent_step lines known (synced limit) (sync_line limit) (sync_request limit) refl (sync_reads limit) (sync_answered limit lines)

    last_client : (lines : ℕ) → client_on 1 (step (with_client lines (synced limit)) (Line 1 line)).state ≡ Some (synced limit)
    last_client lines =
        ap (client_on 1) (line_state lines (synced limit) line request (replies (synced limit) (told lines)) (synced_link limit) line_reads (answered lines)) ∙ replied_client limit lines (told lines)

    all_asked : (lines : ℕ) → asked_on 1 (first_state oracle only_password lines []) (three_lines limit line) ≡ request_by came init_request ∷ request_by known (sync_request limit) ∷ request_by (synced limit) request ∷ []
    all_asked lines =
        ap (λ s. asked_on 1 s (Line 1 init_line ∷ Line 1 (sync_line limit) ∷ Line 1 line ∷ [])) (first_step lines)
        ∙ next_asked lines came known init_line init_request (Line 1 (sync_line limit) ∷ Line 1 line ∷ []) refl init_reads (init_answered lines)
        ∙ ap (λ a. request_by came init_request ∷ a) (next_asked lines known (synced limit) (sync_line limit) (sync_request limit) (Line 1 line ∷ []) refl (sync_reads limit) (sync_answered limit lines))
        ∙ ap (λ a. request_by came init_request ∷ request_by known (sync_request limit) ∷ (a ++ [])) (line_asked lines (synced limit) line request (synced_link limit) line_reads)

    still : (lines : ℕ) → is_following limit (client_on 1 (run (first_state oracle only_password lines []) (three_lines limit line)).state) ≡ true
    still lines =
        ap (λ s. is_following limit (client_on 1 (step (step (step s (Line 1 init_line)).state (Line 1 (sync_line limit))).state (Line 1 line)).state)) (first_step lines)
        ∙ ap (λ s. is_following limit (client_on 1 (step (step s (Line 1 (sync_line limit))).state (Line 1 line)).state)) (init_state lines)
        ∙ ap (λ s. is_following limit (client_on 1 (step s (Line 1 line)).state)) (sync_state lines)
        ∙ ap (is_following limit) (last_client lines)
        ∙ synced_follows limit

    plain : (lines : ℕ) → StaysPlain limit 1 (first_state oracle only_password lines []) (three_lines limit line)
    plain lines =
        let last : StaysPlain limit 1 (with_client lines (synced limit)) (Line 1 line ∷ []) = (plain_on limit lines (synced limit) (synced_link limit) (synced_plain limit), subst (IsPlain limit) (sym (last_client lines)) (synced_plain limit)) in
        let third : StaysPlain limit 1 (with_client lines known) (Line 1 (sync_line limit) ∷ Line 1 line ∷ []) = (plain_on limit lines known refl (known_plain limit), subst (λ s. StaysPlain limit 1 s (Line 1 line ∷ [])) (sym (sync_state lines)) last) in
        let second : StaysPlain limit 1 (with_client lines came) (Line 1 init_line ∷ Line 1 (sync_line limit) ∷ Line 1 line ∷ []) =
        (plain_on limit lines came refl (came_plain limit), subst (λ s. StaysPlain limit 1 s (Line 1 (sync_line limit) ∷ Line 1 line ∷ [])) (sym (init_state lines)) third)
        in
        (gone_plain limit, subst (λ s. StaysPlain limit 1 s (Line 1 init_line ∷ Line 1 (sync_line limit) ∷ Line 1 line ∷ [])) (sym (first_step lines)) second)

    settles_by : (which : HeldPart) (id : List ℕ) (lines : ℕ) → TakesDump which id (request_by (synced limit) request) → SettledBy limit which 1 id (first_state oracle only_password lines []) (three_lines limit line)
    settles_by which id lines takes = record {
      before = request_by came init_request ∷ request_by known (sync_request limit) ∷ [];
      dump = request_by (synced limit) request;
      following = [];
      asked = all_asked lines;
      takes = takes;
      fair = tt;
      follows = (synced_follows limit, tt);
      still = still lines;
      plain = plain lines;
    }

dump_asked : (limit : Option ℕ) → TakesDump Lines (codes "l") (request_by (synced limit) dump_request)
unfolding dump_request
dump_asked limit = record { logged_in = synced_known limit; dump = refl; under = refl }

buffers_asked : (limit : Option ℕ) → TakesDump Buffers (codes "b") (request_by (synced limit) buffers_request)
unfolding buffers_request
buffers_asked limit = record { logged_in = synced_known limit; dump = refl; under = refl }

nicks_asked : (limit : Option ℕ) → TakesDump Nicks (codes "n") (request_by (synced limit) nicks_request)
unfolding nicks_request
nicks_asked limit = record { logged_in = synced_known limit; dump = refl; under = refl }

pub three_lines_settle : ThreeLinesSettle
three_lines_settle limit oracle lines = settles_by oracle limit dump_line dump_request told dump_reads (dump_answered limit) Lines (codes "l") lines (dump_asked limit)

pub three_lines_settle_buffers : ThreeLinesSettleBuffers
three_lines_settle_buffers limit oracle lines = settles_by oracle limit buffers_line buffers_request told_buffers buffers_read (buffers_answered limit) Buffers (codes "b") lines (buffers_asked limit)

pub three_lines_settle_nicks : ThreeLinesSettleNicks
three_lines_settle_nicks limit oracle lines = settles_by oracle limit nicks_line nicks_request told_nicks nicks_read (nicks_answered limit) Nicks (codes "n") lines (nicks_asked limit)
