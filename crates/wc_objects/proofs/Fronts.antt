-- The message at the front of some bytes is the one that they spell.
use Rattle.std.proofs.Common.{◌≡◌, ℕ, ◌<◌, ◌≤◌, ◌^◌, Bool, true, false, cond, ltb, leb, ◌&&◌, ◌||◌, List, length, take, drop, Option, Some, None, Result, Ok, Err, refl, sym, ap, subst, ◌∙◌, arith}
use Rattle.std.specs.Prelude.{IfOk, IfSome, IfNone, IsTrue}
use Rattle.std.specs.List.{flat_map}
use Rattle.std.specs.Int.{w32, from_be_bytes}
use Rattle.std.proofs.lemmas.Bool.{and_parts, ltb-false, le-ltb, le-leb, leb-true}
use Rattle.std.proofs.lemmas.List.{length-append, length-take, take-append-drop, take-take}
use Rattle.wc_objects.specs.declared.object.WireMessage.{WireMessage}
use Rattle.wc_objects.specs.declared.read.MessageRefused.{MessageRefused}
use Rattle.wc_objects.specs.Spelling.{be32, text_bytes, object_bytes, body_bytes}
use Rattle.wc_objects.specs.Spells.{Spells, FrontSpells, misses_of, misses_bytes}
use Rattle.wc_objects.specs.Reading.{message_of, with_size, of_size, first_message, GivesFirst}
use Rattle.wc_objects.proofs.Codecs.{IsBytes}
use Rattle.wc_objects.proofs.FieldCodecs.{IsBytes-take, spelt_name}
use Rattle.wc_objects.proofs.Rooms.{length-be32, length-message_bytes}
use Rattle.wc_objects.proofs.Spellings.{stated, states}
use Rattle.wc_objects.proofs.Messages.{good, message_takes, message_again}

abbrev Front : Type 0
Front = Option (WireMessage × ℕ)

abbrev gives : Front → Result Front ℕ
gives front = Ok front

-- ---- how the lengths are tested

-- the tests on the length that is stated, one by one
record Enough (size : ℕ) (bytes : List ℕ) : Type 0 where
  least : 9 ≤ size
  most : size < 2 ^ 31
  there : size ≤ length bytes

found_sized : (size : ℕ) (bytes : List ℕ) (message : WireMessage) (n : ℕ) → of_size size bytes ≡ gives (Some (message, n)) → Enough size bytes × (with_size size (message_of (take size bytes)) ≡ gives (Some (message, n)))
found_sized size bytes message n e = by_tests (ltb size 9) (ltb 2147483647 size) (ltb (length bytes) size) refl refl refl e
  where
    by_tests : (a b c : Bool) → ltb size 9 ≡ a → ltb 2147483647 size ≡ b → ltb (length bytes) size ≡ c → cond (a || b) (Err 0) (cond c (gives None) (with_size size (message_of (take size bytes)))) ≡ gives (Some (message, n))
        → Enough size bytes × (with_size size (message_of (take size bytes)) ≡ gives (Some (message, n)))
    by_tests true b c p q r e = absurd (let k = e in cc)
    by_tests false true c p q r e = absurd (let k = e in cc)
    by_tests false false true p q r e = absurd (let k = e in cc)
    by_tests false false false p q r e = (record { least = ltb-false size 9 p; most = omega (arith, ltb-false 2147483647 size q); there = ltb-false (length bytes) size r }, e)

-- a message that was read in the bytes of its length
sized_is : (size n : ℕ) (read : Result WireMessage ℕ) (message : WireMessage) → with_size size read ≡ gives (Some (message, n)) → (read ≡ good message) × (size ≡ n)
sized_is size n (Ok m) message e = let same : (m, size) ≡ (message, n) = cc in (ap (λ (p : WireMessage × ℕ). good p.0) same, ap (λ (p : WireMessage × ℕ). p.1) same)
sized_is size n (Err left) message e = absurd (let k = e in cc)

states_front : (size : ℕ) (bytes : List ℕ) → 4 ≤ size → stated (take size bytes) ≡ stated bytes
states_front size bytes four = ap (from_be_bytes w32) (take-take 4 size bytes four)

front_found : (size n : ℕ) (bytes : List ℕ) (message : WireMessage) → IsBytes bytes → size ≡ stated bytes → of_size size bytes ≡ gives (Some (message, n)) → FrontSpells message n bytes
front_found size n bytes message fits says e =
    let p = found_sized size bytes message n e in
    let r = sized_is size n (message_of (take size bytes)) message p.1 in
    let long : length (take size bytes) ≡ size = omega (arith, length-take size bytes, p.0.there) in
    let own : stated (take size bytes) ≡ length (take size bytes) = states_front size bytes (omega (arith, p.0.least)) ∙ sym says ∙ sym long in
    let t = message_takes (take size bytes) message (IsBytes-take size bytes fits) r.0 own (omega (arith, long, p.0.most)) in
    subst (λ (k : ℕ). FrontSpells message k bytes) r.1 (record { reaches = p.0.there; spells = t.0; within = t.1 })

first_found : (bytes : List ℕ) (message : WireMessage) (n : ℕ) → IsBytes bytes → first_message bytes ≡ gives (Some (message, n)) → FrontSpells message n bytes
unfolding first_message
first_found bytes message n fits e = by_test (ltb (length bytes) 4) e
  where
    by_test : (b : Bool) → cond b (gives None) (of_size (stated bytes) bytes) ≡ gives (Some (message, n)) → FrontSpells message n bytes
    by_test true e = absurd (let k = e in cc)
    by_test false e = front_found (stated bytes) n bytes message fits refl e

pub found : (bytes : List ℕ) (result : Result Front MessageRefused) → IsBytes bytes → GivesFirst result (first_message bytes) → IfOk result (λ front. IfSome front (λ f. FrontSpells f.0 f.1 bytes))
found bytes (Ok (Some f)) fits e = first_found bytes f.0 f.1 fits e
found bytes (Ok None) fits e = tt
found bytes (Err error) fits e = tt

-- ---- what is spelt

body_long : (message : WireMessage) → 5 ≤ length (body_bytes message.id message.objects)
unfolding text_bytes
body_long message = omega (arith, length-append (spelt_name message.id) (flat_map object_bytes message.objects), length-append (be32 (length message.id)) message.id, length-be32 (length message.id))

spelling_long : (bytes : List ℕ) (message : WireMessage) → Spells message bytes → 9 ≤ length bytes
spelling_long bytes message p = omega (arith, ap length p.spelling, length-message_bytes message.id message.objects, body_long message)

of_size_is : (size : ℕ) (bytes : List ℕ) → Enough size bytes → of_size size bytes ≡ with_size size (message_of (take size bytes))
of_size_is size bytes enough =
    let a : ltb size 9 ≡ false = le-ltb size 9 enough.least in
    let b : ltb 2147483647 size ≡ false = le-ltb 2147483647 size (omega (arith, enough.most)) in
    let c : ltb (length bytes) size ≡ false = le-ltb (length bytes) size enough.there in
    rw (a, b, c) refl

first_spelt : (bytes : List ℕ) (message : WireMessage) (size : ℕ) → FrontSpells message size bytes → first_message bytes ≡ gives (Some (message, size))
unfolding first_message
first_spelt bytes message size f =
    let front = take size bytes in
    let long : length front ≡ size = omega (arith, length-take size bytes, f.reaches) in
    let nine : 9 ≤ size = omega (arith, spelling_long front message f.spells, long) in
    let small : size < 2 ^ 31 = omega (arith, f.spells.fits, long) in
    let says : stated bytes ≡ size = ap stated (sym (take-append-drop size bytes)) ∙ states message front (drop size bytes) f.spells ∙ long in
    let four : ltb (length bytes) 4 ≡ false = le-ltb (length bytes) 4 (omega (arith, nine, f.reaches)) in
    let read : message_of front ≡ good message = message_again front message f.spells f.within in
    ap (λ (b : Bool). cond b (gives None) (of_size (stated bytes) bytes)) four ∙ ap (λ (k : ℕ). of_size k bytes) says
    ∙ of_size_is size bytes (record { least = nine; most = small; there = f.reaches }) ∙ ap (with_size size) read

pub only : (bytes : List ℕ) (result : Result Front MessageRefused) → GivesFirst result (first_message bytes) → (message : WireMessage) (size : ℕ) → FrontSpells message size bytes → GivesFirst result (Ok (Some (message, size)))
only bytes result exact message size f = subst (λ (read : Result Front ℕ). GivesFirst result read) (first_spelt bytes message size f) exact

-- ---- bytes that are too few

missing_size : (size : ℕ) (bytes : List ℕ) → of_size size bytes ≡ gives None → misses_of size (length bytes) ≡ true
missing_size size bytes e = by_tests (ltb size 9) (ltb 2147483647 size) (ltb (length bytes) size) refl refl refl e
  where
    never : (read : Result WireMessage ℕ) → with_size size read ≡ gives None → ⊥
    never (Ok m) e = let k = e in cc
    never (Err left) e = let k = e in cc

    by_tests : (a b c : Bool) → ltb size 9 ≡ a → ltb 2147483647 size ≡ b → ltb (length bytes) size ≡ c → cond (a || b) (Err 0) (cond c (gives None) (with_size size (message_of (take size bytes)))) ≡ gives None → misses_of size (length bytes) ≡ true
    by_tests true b c p q r e = absurd (let k = e in cc)
    by_tests false true c p q r e = absurd (let k = e in cc)
    by_tests false false true p q r e = rw (le-leb 9 size (ltb-false size 9 p), le-leb size 2147483647 (ltb-false 2147483647 size q), r) refl
    by_tests false false false p q r e = absurd (never (message_of (take size bytes)) e)

missing_first : (bytes : List ℕ) → first_message bytes ≡ gives None → misses_bytes bytes ≡ true
unfolding first_message
missing_first bytes e = by_test (ltb (length bytes) 4) refl e
  where
    by_test : (b : Bool) → ltb (length bytes) 4 ≡ b → cond b (gives None) (of_size (stated bytes) bytes) ≡ gives None → misses_bytes bytes ≡ true
    by_test true t e = rw t refl
    by_test false t e = rw t (missing_size (stated bytes) bytes e)

pub none : (bytes : List ℕ) (result : Result Front MessageRefused) → GivesFirst result (first_message bytes) → IfOk result (λ front. IfNone front (IsTrue (misses_bytes bytes)))
none bytes (Ok (Some f)) e = tt
none bytes (Ok None) e = missing_first bytes e
none bytes (Err error) e = tt

size_missing : (size : ℕ) (bytes : List ℕ) → misses_of size (length bytes) ≡ true → of_size size bytes ≡ gives None
size_missing size bytes e =
    let p = and_parts (leb 9 size) (leb size 2147483647 && ltb (length bytes) size) e in
    let q = and_parts (leb size 2147483647) (ltb (length bytes) size) p.1 in
    rw (le-ltb size 9 (leb-true 9 size p.0), le-ltb 2147483647 size (leb-true size 2147483647 q.0), q.1) refl

first_missing : (bytes : List ℕ) → misses_bytes bytes ≡ true → first_message bytes ≡ gives None
unfolding first_message
first_missing bytes e = by_test (ltb (length bytes) 4) refl e
  where
    by_test : (b : Bool) → ltb (length bytes) 4 ≡ b → (b || misses_of (stated bytes) (length bytes)) ≡ true → cond b (gives None) (of_size (stated bytes) bytes) ≡ gives None
    by_test true t e = refl
    by_test false t e = size_missing (stated bytes) bytes e

pub missing : (bytes : List ℕ) (result : Result Front MessageRefused) → GivesFirst result (first_message bytes) → IsTrue (misses_bytes bytes) → GivesFirst result (Ok None)
missing bytes result exact misses = subst (λ (read : Result Front ℕ). GivesFirst result read) (first_missing bytes misses) exact
