-- A call that takes no byte had too few.
use Rattle.std.proofs.Common.{◌≡◌, ℕ, List, length, Some, None, sym, ap, ◌∙◌, arith}
use Rattle.std.specs.Prelude.{Result, Ok, Err, IsTrue, IfOk, IfSome, IfNone}
use Rattle.std.proofs.lemmas.List.{length-take}
use Rattle.wc_objects.specs.declared.object.WireMessage.{WireMessage}
use Rattle.wc_objects.specs.Reading.{first_message}
use Rattle.wc_objects.specs.Spells.{FrontSpells, misses_bytes}
use Rattle.wc_objects.proofs.Codecs.{IsBytes}
use Rattle.wc_objects.proofs.Fronts.{found, none}
use Rattle.wc_objects.proofs.Rooms.{length-message_bytes}
use Rattle.wc_view.specs.declared.mirror.MirrorRefused.{MirrorRefused}
use Rattle.wc_view.specs.Taking.{MirrorParts, TakesMessage}
use Rattle.wc_view.proofs.TakeLemmas.{Front, answered, gives_answered}

no_size : (bytes : List ℕ) (message : WireMessage) (size : ℕ) → FrontSpells message size bytes → size ≡ 0 → ⊥
no_size bytes message size f e =
    omega (arith, ap length f.spells.spelling, length-message_bytes message.id message.objects, length-take size bytes, f.reaches, e)

none_by : (bytes : List ℕ) (read : Result Front ℕ) (result : Result ℕ MirrorRefused) (old new : MirrorParts)
    → IfOk (answered read) (λ front. IfSome front (λ f. FrontSpells f.0 f.1 bytes)) → IfOk (answered read) (λ front. IfNone front (IsTrue (misses_bytes bytes)))
    → TakesMessage result old new read → IfOk result (λ size. size ≡ 0 → IsTrue (misses_bytes bytes))
none_by bytes (Ok (Some f)) (Ok size) old new is misses t = λ e. absurd (no_size bytes f.0 f.1 is (sym t.0 ∙ e))
none_by bytes (Ok None) (Ok size) old new is misses t = λ e. misses
none_by bytes (Err place) (Ok size) old new is misses t = absurd t
none_by bytes read (Err error) old new is misses t = tt

pub none_taken : (bytes : List ℕ) (result : Result ℕ MirrorRefused) (old new : MirrorParts) → IsBytes bytes → TakesMessage result old new (first_message bytes)
    → IfOk result (λ size. size ≡ 0 → IsTrue (misses_bytes bytes))
none_taken bytes result old new fits t =
    let read = first_message bytes in
    none_by bytes read result old new (found bytes (answered read) fits (gives_answered read)) (none bytes (answered read) (gives_answered read)) t
