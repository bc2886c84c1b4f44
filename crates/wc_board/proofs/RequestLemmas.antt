-- A request of the client of a link, and the connection of one that leaves.
use Rattle.std.proofs.Common.{◌≡◌, ℕ, Bool, true, false, List, Option, Some, None, refl, ap, sym, subst, ◌∙◌, set, get_or}
use Rattle.wc_text.specs.declared.names.Cause.{Cause}
use Rattle.wc_text.specs.declared.names.LinkId.{LinkId}
use Rattle.wc_session.specs.RequestContext.{Context}
use Rattle.wc_outside.specs.Keyed.{at_key, IsKeyPlace}
use Rattle.wc_outside.proofs.KeyedLemmas.{at_key-key, at_key-put_same}
use Rattle.wc_relaycmd.specs.declared.request.Request.{Request}
use Rattle.wc_session.specs.declared.outcome.Outcome.{Outcome}
use Rattle.wc_session.specs.declared.outcome.Outcome.TheVariants as outcome
use Rattle.wc_session.specs.Known.{Known}
use Rattle.wc_session.specs.Reply.{reply_of}
use Rattle.wc_session.specs.Served.{OnServed, OnNoMemory, AnswersRequest}
use Rattle.wc_board.specs.declared.connection.Connection.{Connection}
use Rattle.wc_board.specs.Answered.{AnsweredIf, AnsweredAt}
use Rattle.wc_board.specs.BoardView.{BoardView}
use Rattle.wc_board.specs.Connections.{connection_link, is_open, is_open_at}

pub connection-at : (link : LinkId) (connections : List Connection) (place : ℕ) (s : Connection) → IsKeyPlace connection_link link.0 connections place → s ≡ get_or connections place s → at_key connection_link link.0 connections ≡ Some s
connection-at link connections place s p e = p.found s ∙ ap Some (sym e)

pub answer_missing : (link : ℕ) (context : Context) (request : Request) (old : BoardView) → at_key connection_link link old.connections ≡ None → AnsweredAt link context request outcome.NoMemory old old (at_key connection_link link old.connections)
answer_missing link context request old at =
    let P : Option Connection → Type 0 = λ o. AnsweredAt link context request outcome.NoMemory old old o in
    subst P (sym at) (record { starves = refl; stays = refl })

pub answer_shut : (link : ℕ) (context : Context) (request : Request) (old : BoardView) (s : Connection) → at_key connection_link link old.connections ≡ Some s → is_open s ≡ false
    → AnsweredAt link context request outcome.NoMemory old old (at_key connection_link link old.connections)
answer_shut link context request old s at shut =
    let P : Option Connection → Type 0 = λ o. AnsweredAt link context request outcome.NoMemory old old o in
    let Q : Bool → Type 0 = λ b. AnsweredIf b link context request outcome.NoMemory old old s in
    subst P (sym at) (subst Q (sym shut) (record { starves = refl; stays = refl }))

pub answer_open : (link : LinkId) (context : Context) (request : Request) (result : Outcome) (old : BoardView) (place : ℕ) (s : Connection) (session' : Known) → IsKeyPlace connection_link link.0 old.connections place → at_key connection_link link.0 old.connections ≡ Some s → is_open s ≡ true
    → OnServed result (AnswersRequest s.session session' result (reply_of old.world context s.session.client request)) → OnNoMemory result (session' ≡ s.session)
    → AnsweredAt link.0 context request result old (record old { connections = set old.connections place (record s { session = session' }) }) (at_key connection_link link.0 old.connections)
answer_open link context request result old place s session' p at opened answered same =
    let new : BoardView = record old { connections = set old.connections place (record s { session = session' }) } in
    let P : Option Connection → Type 0 = λ o. AnsweredAt link.0 context request result old new o in
    let Q : Bool → Type 0 = λ b. AnsweredIf b link.0 context request result old new s in
    subst P (sym at) (subst Q (sym opened) (record {
      session = session';
      answered = answered;
      refused = same;
      put = ap (λ connections. record old { connections = connections }) (p.put (record s { session = session' }));
    }))

pub leave-gone : (link : LinkId) (connections : List Connection) (place : ℕ) (s : Connection) (why : Cause) → IsKeyPlace connection_link link.0 connections place → s ≡ get_or connections place s
    → is_open_at (at_key connection_link link.0 (set connections place (record { session = s.session; leaving = Some why }))) ≡ false
leave-gone link connections place s why p e =
    let at = connection-at link connections place s p e in
    let y : Connection = record { session = s.session; leaving = Some why } in
    ap (λ ss. is_open_at (at_key connection_link link.0 ss)) (p.put y) ∙ ap is_open_at (at_key-put_same connection_link link.0 s y connections (at_key-key connection_link link.0 connections s at) at)
