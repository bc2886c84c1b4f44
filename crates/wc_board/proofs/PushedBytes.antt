-- The bytes that pushes put after the unsent ones of a link.
use Rattle.std.proofs.Common.{◌≡◌, ℕ, Bool, true, false, cond, eqb, List, [], ◌∷◌, ◌++◌, append-nil, Option, Some, None, option_map, refl, ap, sym, ◌∙◌}
use Rattle.std.specs.Prelude.{map}
use Rattle.wc_nicklist.specs.declared.item.Row.{Row}
use Rattle.wc_model.specs.World.{World}
use Rattle.wc_objects.specs.declared.object.WireMessage.{WireMessage}
use Rattle.wc_outside.specs.Keyed.{at_key}
use Rattle.wc_board.specs.declared.connection.Connection.{Connection}
use Rattle.wc_board.specs.Connections.{connection_link, is_open, unsent_in, unsent_on}
use Rattle.wc_board.specs.Pushes.{pushes_told, sent_connection, pushed_connection, pushed_bytes}
use Rattle.wc_board.proofs.PushConnections.{put_bytes, spelt}

sent_link : (messages : List WireMessage) (connection : Connection) → connection_link (sent_connection messages connection) ≡ connection_link connection
sent_link messages connection = by (is_open connection) where
  by : (b : Bool) → connection_link (cond b (put_bytes connection (connection.session.unsent ++ spelt messages)) connection) ≡ connection_link connection
  by true = refl
  by false = refl

-- a change of each connection that keeps the links
at-map : (f : Connection → Connection) → ((s : Connection) → connection_link (f s) ≡ connection_link s) → (j : ℕ) (connections : List Connection) → at_key connection_link j (map f connections) ≡ option_map f (at_key connection_link j connections)
at-map f keeps j [] = refl
at-map f keeps j (s ∷ connections) = ap (λ n. cond (eqb n j) (Some (f s)) (at_key connection_link j (map f connections))) (keeps s) ∙ by (eqb (connection_link s) j) (at-map f keeps j connections) where
  by : (t : Bool) → at_key connection_link j (map f connections) ≡ option_map f (at_key connection_link j connections) → cond t (Some (f s)) (at_key connection_link j (map f connections)) ≡ option_map f (cond t (Some s) (at_key connection_link j connections))
  by true more = refl
  by false more = more

one_sent : (w : World) (told : ℕ → List Row) (ns : List ℕ) (o : Option Connection) → unsent_in (option_map (pushed_connection w told ns) o) ≡ unsent_in o ++ pushed_bytes w told ns o
one_sent w told ns None = refl
one_sent w told ns (Some s) = by (is_open s) where
  bytes : List ℕ
  bytes = spelt (pushes_told w told ns s.session.client)

  by : (b : Bool) → (cond b (put_bytes s (s.session.unsent ++ bytes)) s).session.unsent ≡ s.session.unsent ++ cond b bytes []
  by true = refl
  by false = sym (append-nil s.session.unsent)

pub pushed-sent : (w : World) (told : ℕ → List Row) (ns : List ℕ) (old new : List Connection) → new ≡ map (pushed_connection w told ns) old → (j : ℕ) → unsent_on j new ≡ unsent_on j old ++ pushed_bytes w told ns (at_key connection_link j old)
pushed-sent w told ns old new e j =
    ap (unsent_on j) e
    ∙ ap unsent_in (at-map (pushed_connection w told ns) (λ s. sent_link (pushes_told w told ns s.session.client) s) j old)
    ∙ one_sent w told ns (at_key connection_link j old)
