-- A frame leaves the side and the limits of its connection as they were, and a message with a
-- payload is not answered.
use Rattle.std.proofs.Common.{◌≡◌, ℕ, ◌++◌, Bool, true, false, List, length, take, Option, None, Some}
use Rattle.std.proofs.Common.{Result, Ok, Err, refl, arith, inl, inr, subst}
use Rattle.std.proofs.lemmas.Grind.{common_steps}
use Rattle.std.specs.Prelude.{option_map}
use Rattle.std.proofs.lemmas.Bool.Decides.{leb_tells}
use Rattle.websocket.specs.declared.error.Error.{Error}
use Rattle.websocket.specs.declared.protocol.incomplete.MessageType.{MessageType}
use Rattle.websocket.specs.declared.protocol.incomplete.MessageType.TheVariants as Kind
use Rattle.websocket.specs.declared.protocol.frame.coding.CloseCode.{CloseCode}
use Rattle.websocket.specs.declared.protocol.frame.coding.OpCode.{OpCode}
use Rattle.websocket.specs.declared.protocol.frame.coding.OpCode.TheVariants as Op
use Rattle.websocket.specs.declared.protocol.frame.coding.Data.{Data}
use Rattle.websocket.specs.declared.protocol.frame.coding.Data.TheVariants.{Continue, Text, Binary}
use Rattle.websocket.specs.declared.protocol.frame.coding.Control.{Control}
use Rattle.websocket.specs.declared.protocol.frame.coding.Control.TheVariants.{Close, Ping, Pong}
use Rattle.websocket.specs.declared.protocol.frame.codec.FrameStatus.{FrameStatus}
use Rattle.websocket.specs.declared.protocol.frame.codec.FrameStatus.TheVariants.{Partial, Complete}
use Rattle.websocket.specs.Frame.{check_size}
use Rattle.websocket.specs.Text.{is_utf8}
use Rattle.websocket.specs.Connection.{Connection, Effect, can_write, Sends}
use Rattle.websocket.specs.Connection.{has_allowed_code, on_close, on_short_control, on_control}
use Rattle.websocket.specs.Connection.{complete_message, check_so_far, deliver, on_message_bytes}
use Rattle.websocket.specs.Connection.{on_data_after, on_data, check_header, on_opcode, on_frame}
use Rattle.websocket.specs.Connection.{read_step}
use Rattle.websocket.proofs.DecodeLemmas.{ltb_false, ltb_true}
use Rattle.websocket.proofs.StreamLemmas.{after_check_passed, TookFrame_from_read}
use Rattle.websocket.specs.declared.protocol.context.Step.{Step}
use Rattle.websocket.specs.Content.{received_content}
use Rattle.websocket.specs.View.{Returns, ReadLeaves}
use Rattle.wc_ws.specs.Link.{carries}
use Rattle.wc_ws.specs.Parts.{IsSameSide}

pub record IsTame (conn : Connection) (effect : Effect) : Type 0 where
  pub side : IsSameSide conn effect.next
  pub quiet : carries effect.message ≡ true → effect.reply ≡ None

same_side : (conn : Connection) → IsSameSide conn conn
same_side conn = record { role = refl; config = refl }

ok_is : {A : Type 0} {a b : A} → ◌≡◌ {A = Result A Error} (Ok a) (Ok b) → b ≡ a
ok_is e = cc e

-- ---- control frames

close_cases : (conn : Connection) (payload : List ℕ) (frame : Option (CloseCode × List ℕ)) (active allowed : Bool) (effect : Effect)
    → can_write conn.state ≡ active → has_allowed_code frame ≡ allowed
    → on_close conn payload (Ok frame) ≡ Ok effect → IsTame conn effect
close_cases conn payload frame false allowed effect state code is =
    rw (ok_is is, state) (record {
      side = record { role = refl; config = refl };
      quiet = λ no. absurd (cc no);
    })
close_cases conn payload frame true true effect state code is =
    rw (ok_is is, state, code) (record {
      side = record { role = refl; config = refl };
      quiet = λ no. absurd (cc no);
    })
close_cases conn payload frame true false effect state code is =
    rw (ok_is is, state, code) (record {
      side = record { role = refl; config = refl };
      quiet = λ no. absurd (cc no);
    })

tame_close : (conn : Connection) (payload : List ℕ) (r : Result (Option (CloseCode × List ℕ)) Error) (effect : Effect)
    → on_close conn payload r ≡ Ok effect → IsTame conn effect
tame_close conn payload (Err e) effect is = absurd (cc is)
tame_close conn payload (Ok frame) effect is = close_cases conn payload frame _ _ effect refl refl is

tame_short : (conn : Connection) (control : Control) (payload : List ℕ) (effect : Effect)
    → on_short_control conn control payload ≡ Ok effect → IsTame conn effect
tame_short conn Close payload effect is = tame_close conn payload _ effect is
tame_short conn Pong payload effect is =
    rw (ok_is is) (record { side = same_side conn; quiet = λ no. absurd (cc no) })
tame_short conn Ping payload effect is =
    rw (ok_is is) (record { side = same_side conn; quiet = λ no. absurd (cc no) })

tame_control : (conn : Connection) (control : Control) (is_final : Bool) (payload : List ℕ) (effect : Effect)
    → on_control conn control is_final payload ≡ Ok effect → IsTame conn effect
unfolding on_control
tame_control conn control false payload effect is = absurd (cc is)
tame_control conn control true payload effect is =
    elim (leb_tells (length payload) 125) [
      | inl p ↦ tame_short conn control payload effect (rw (ltb_false 125 (length payload) p.1) at is)
      | inr p ↦ absurd (cc (rw (ltb_true 125 (length payload) p.1) at is))
    ]

-- ---- data frames

tame_text : (conn : Connection) (bs : List ℕ) (valid : Bool) (effect : Effect) → is_utf8 bs ≡ valid
    → deliver conn (complete_message Kind.Text bs) ≡ Ok effect → IsTame conn effect
tame_text conn bs false effect test is = absurd (cc (rw test at is))
tame_text conn bs true effect test is =
    rw (ok_is (rw test at is)) (record {
      side = record { role = refl; config = refl };
      quiet = λ _. refl;
    })

tame_whole : (conn : Connection) (kind : MessageType) (bs : List ℕ) (effect : Effect)
    → deliver conn (complete_message kind bs) ≡ Ok effect → IsTame conn effect
tame_whole conn Kind.Text bs effect is = tame_text conn bs _ effect refl is
tame_whole conn Kind.Binary bs effect is =
    rw (ok_is is) (record {
      side = record { role = refl; config = refl };
      quiet = λ _. refl;
    })

tame_bytes : (conn : Connection) (kind : MessageType) (is_final : Bool) (bs : List ℕ) (effect : Effect)
    → on_message_bytes conn kind is_final bs ≡ Ok effect → IsTame conn effect
unfolding on_message_bytes
tame_bytes conn kind true bs effect is =
    tame_whole conn kind bs effect (after_check_passed (check_size (length bs) conn.config.max_message_size) _ effect is)
tame_bytes conn kind false bs effect is =
    let kept = after_check_passed (check_so_far kind bs) _ effect (after_check_passed (check_size (length bs) conn.config.max_message_size) _ effect is) in
    rw (ok_is kept) (record {
      side = record { role = refl; config = refl };
      quiet = λ _. refl;
    })

tame_data : (conn : Connection) (fragments : Option (MessageType × List ℕ)) (kind : Data) (is_final : Bool) (payload : List ℕ) (effect : Effect)
    → on_data_after conn fragments kind is_final payload ≡ Ok effect → IsTame conn effect
tame_data conn None Continue is_final payload effect is = absurd (cc is)
tame_data conn None Text is_final payload effect is = tame_bytes conn Kind.Text is_final payload effect is
tame_data conn None Binary is_final payload effect is = tame_bytes conn Kind.Binary is_final payload effect is
tame_data conn (Some p) Continue is_final payload effect is = tame_bytes conn p.0 is_final (p.1 ++ payload) effect is
tame_data conn (Some p) Text is_final payload effect is = absurd (cc is)
tame_data conn (Some p) Binary is_final payload effect is = absurd (cc is)

tame_opcode : (conn : Connection) (op : OpCode) (is_final : Bool) (payload : List ℕ) (effect : Effect)
    → on_opcode conn op is_final payload ≡ Ok effect → IsTame conn effect
unfolding on_data
tame_opcode conn (Op.Control control) is_final payload effect is = tame_control conn control is_final payload effect is
tame_opcode conn (Op.Data kind) is_final payload effect is = tame_data conn conn.fragments kind is_final payload effect is

pub IsTame_from_read : (conn : Connection) (bs : List ℕ) (p : ℕ × Effect)
    → read_step conn bs ≡ Ok (Complete p) → IsTame conn p.1
unfolding on_frame
IsTame_from_read conn bs p read =
    let took = TookFrame_from_read conn bs p read in
    tame_opcode conn took.header.opcode took.header.is_final took.payload p.1 (after_check_passed (check_header conn took.header) _ p.1 took.does)

-- ---- a read

pub side_of : (before after : Connection) (i o q : List ℕ) (r : Result (FrameStatus (ℕ × Effect)) Error)
    → read_step before i ≡ r → ReadLeaves r before after o q → IsSameSide before after
side_of before after i o q (Err e) is leaves = absurd leaves
side_of before after i o q (Ok (Partial _)) is leaves = rw leaves.0 (same_side before)
side_of before after i o q (Ok (Complete p)) is leaves =
    rw leaves.0 ((IsTame_from_read before i p is).side)

pub quiet_of : (before after : Connection) (i j o q : List ℕ) (step : Step) (r : Result (FrameStatus (ℕ × Effect)) Error)
    → read_step before i ≡ r → Returns r j (Complete step) → ReadLeaves r before after o q
    → carries (option_map (received_content j) step.message) ≡ true → q ≡ o
quiet_of before after i j o q step (Err e) is returns leaves told = absurd leaves
quiet_of before after i j o q step (Ok (Partial _)) is returns leaves told = leaves.1
quiet_of before after i j o q step (Ok (Complete p)) is returns leaves told =
    subst (λ reply. Sends after.role reply o q)
    ((IsTame_from_read before i p is).quiet (rw returns.1.0 at told)) leaves.1

-- bytes that were lent and given back are these bytes
pub lent : (n : ℕ) (bytes rest back : List ℕ) → back ≡ take n (bytes ++ rest) → length bytes ≡ n
    → back ≡ bytes
lent n bytes rest back is same = grind (arith, common_steps)
