-- A message is read exactly where its bytes spell it.
use Rattle.std.proofs.Common.{◌≡◌, ℕ, zero, suc, ◌+◌, ◌<◌, ◌≤◌, ◌^◌, true, eqb, List, [], ◌∷◌, ◌++◌, length, get_or, Result, Ok, refl, sym, ap, subst, ◌∙◌, arith}
use Rattle.std.specs.List.{flat_map, AllByRecursion}
use Rattle.std.specs.Str.{is_utf8}
use Rattle.std.proofs.lemmas.Bool.{eqb-true}
use Rattle.std.proofs.lemmas.Str.{IsUtf8-from_is_utf8, is_utf8-from_IsUtf8}
use Rattle.std.proofs.lemmas.List.{length-append}
use Rattle.std.proofs.lemmas.List.Concat.{flat_map-cons}
use Rattle.wc_objects.specs.declared.object.Object.{Object}
use Rattle.wc_objects.specs.declared.object.WireMessage.{WireMessage}
use Rattle.wc_objects.specs.declared.fault.Rule.TheVariants.{Plain}
use Rattle.wc_objects.specs.Kinds.{letters, kind_of}
use Rattle.wc_objects.specs.Forms.{object_is, well_formed}
use Rattle.wc_objects.specs.Within.{ObjectWithin, IsWithin}
use Rattle.wc_objects.specs.Spelling.{be32, text_bytes, whole_bytes, object_bytes, body_bytes, message_bytes}
use Rattle.wc_objects.specs.Spells.{Spells}
use Rattle.wc_objects.specs.Reading.{Read, ◌>>=◌, keeps, bytes_at, number_at, plain_at, name_at, object_at, objects_within, objects_of, message_of}
use Rattle.wc_objects.proofs.Codecs.{IsBytes, Codec, bind_ok, refit}
use Rattle.wc_objects.proofs.FieldCodecs.{same_bytes, AreBytes, bytes_codec, number_codec, spelt_name, name_codec}
use Rattle.wc_objects.proofs.ShortCodecs.{one_byte}
use Rattle.wc_objects.proofs.NumberCodecs.{three_letters}
use Rattle.wc_objects.proofs.Spellings.{stated, stated_front}
use Rattle.wc_objects.proofs.CountCodecs.{each_both, both_tests, both_facts}
use Rattle.wc_objects.proofs.HdaCodecs.{guarded_made}
use Rattle.wc_objects.proofs.ObjectCodecs.{IsObject, object_codec}
use Rattle.wc_objects.proofs.Rooms.{length-be32, length-message_bytes, message_bytes-sized}

abbrev AreObjects : List Object → Type 0
AreObjects = AllByRecursion IsObject

abbrev pub good : {A : Type 0} → A → Result A ℕ
good x = Ok x

same_result : {A : Type 0} (x y : A) → good x ≡ good y → x ≡ y
same_result x y e = cc

-- ---- objects to the end of the bytes

object_some : (x : Object) → 0 < length (object_bytes x)
unfolding object_bytes
object_some x = omega (arith, length-append (letters (kind_of x)) (whole_bytes x), three_letters (kind_of x))

within_takes : (fuel : ℕ) (bytes : List ℕ) (objects : List Object) → IsBytes bytes → objects_within fuel bytes ≡ good objects → (bytes ≡ flat_map object_bytes objects) × AreObjects objects
unfolding objects_within
within_takes fuel [] objects fits e = subst (λ (os : List Object). ([] ≡ flat_map object_bytes os) × AreObjects os) (same_result [] objects e) (refl, tt)
within_takes zero (b ∷ bytes) objects fits e = absurd (let k = e in cc)
within_takes (suc fuel) (b ∷ bytes) objects fits e =
    let p = bind_ok (object_at (b ∷ bytes)) (λ first. objects_within fuel first.1 >>= λ others. Ok (first.0 ∷ others)) objects e in
    let q = bind_ok (objects_within fuel p.0.1) (λ others. Ok (p.0.0 ∷ others)) objects p.2 in
    let t = object_codec.takes (b ∷ bytes) p.0.0 p.0.1 fits p.1 in
    let u = within_takes fuel p.0.1 q.0 t.1 q.1 in
    let is : p.0.0 ∷ q.0 ≡ objects = same_result (p.0.0 ∷ q.0) objects q.2 in
    let spelt : b ∷ bytes ≡ flat_map object_bytes (p.0.0 ∷ q.0) = t.0 ∙ ap (λ (r : List ℕ). object_bytes p.0.0 ++ r) u.0 ∙ sym (flat_map-cons object_bytes p.0.0 q.0) in
    subst (λ (os : List Object). (b ∷ bytes ≡ flat_map object_bytes os) × AreObjects os) is (spelt, (t.2, u.1))

abbrev go_on : ℕ → Object × List ℕ → Result (List Object) ℕ
go_on fuel first = objects_within fuel first.1 >>= λ others. Ok (first.0 ∷ others)

steps : (fuel : ℕ) (bytes : List ℕ) → 0 < length bytes → objects_within (suc fuel) bytes ≡ (object_at bytes >>= go_on fuel)
unfolding objects_within
steps fuel [] some = absurd (omega arith)
steps fuel (b ∷ bytes) some = refl

-- each object takes a byte at least, so that there are as many steps as it needs
within_again : (fuel : ℕ) (objects : List Object) → AreObjects objects → length (flat_map object_bytes objects) ≤ fuel → length (flat_map object_bytes objects) < 2 ^ 31 → objects_within fuel (flat_map object_bytes objects) ≡ good objects
unfolding objects_within
within_again fuel [] fits enough short = refl
within_again zero (x ∷ objects) fits enough short =
    absurd (omega (arith, ap length (flat_map-cons object_bytes x objects), length-append (object_bytes x) (flat_map object_bytes objects), object_some x))
within_again (suc fuel) (x ∷ objects) fits enough short =
    let whole = flat_map-cons object_bytes x objects in
    let rest = flat_map object_bytes objects in
    let long = length-append (object_bytes x) rest in
    let some = object_some x in
    let one = object_codec.again x rest fits.0 (omega (arith, ap length whole, long, short)) in
    let others = within_again fuel objects fits.1 (omega (arith, ap length whole, long, some, enough)) (omega (arith, ap length whole, long, short)) in
    steps fuel (flat_map object_bytes (x ∷ objects)) (omega (arith, ap length whole, long, some))
    ∙ ap (λ (bytes : List ℕ). object_at bytes >>= go_on fuel) whole ∙ ap (λ (r : Read Object). r >>= go_on fuel) one ∙ ap (λ (r : Result (List Object) ℕ). r >>= λ all. Ok (x ∷ all)) others

objects_again : (objects : List Object) → AreObjects objects → length (flat_map object_bytes objects) < 2 ^ 31 → objects_of (flat_map object_bytes objects) ≡ good objects
objects_again objects fits short = within_again (length (flat_map object_bytes objects)) objects fits (omega arith) short

-- ---- the byte of no compression

abbrev IsZero : ℕ → Type 0
IsZero n = n ≡ 0

abbrev spelt_zero : ℕ → List ℕ
spelt_zero n = 0 ∷ []

plain_codec : Codec plain_at spelt_zero IsZero
unfolding plain_at
plain_codec =
    refit plain_at spelt_zero (λ n. (a : List ℕ) × (n ≡ 0) × AreBytes 1 a × (eqb (get_or a 0 0) 0 ≡ true)) IsZero
    (λ n f. f.1)
    (λ n f. (0 ∷ [], f, (refl, zero_byte), refl))
    (guarded_made (bytes_at 1) same_bytes (AreBytes 1) (λ a. eqb (get_or a 0 0) 0) (λ a. 0) spelt_zero (bytes_codec 1) (λ a f t. ap (λ (k : ℕ). k ∷ []) (sym (eqb-true (get_or a 0 0) 0 t)) ∙ sym (one_byte a f.0)))
  where
    zero_byte : IsBytes (0 ∷ [])
    zero_byte zero = omega arith
    zero_byte (suc i) = omega arith

-- ---- a message

abbrev with_id : List ℕ → List Object → Result WireMessage ℕ
with_id id objects = Ok (record { id = id; objects = objects })

abbrev after_id : List ℕ × List ℕ → Result WireMessage ℕ
after_id id = objects_of id.1 >>= with_id id.0

abbrev after_plain : ℕ × List ℕ → Result WireMessage ℕ
after_plain plain = name_at plain.1 >>= after_id

abbrev after_size : ℕ × List ℕ → Result WireMessage ℕ
after_size size = plain_at size.1 >>= after_plain

pub record Taken (message : WireMessage) (bytes : List ℕ) : Type 0 where
  pub size : ℕ
  pub small : size < 2 ^ 32
  pub spelt : bytes ≡ be32 size ++ body_bytes message.id message.objects
  pub id : is_utf8 message.id ≡ true
  pub objects : AreObjects message.objects

message_taken : (bytes : List ℕ) (message : WireMessage) → IsBytes bytes → message_of bytes ≡ good message → Taken message bytes
unfolding message_of text_bytes
message_taken bytes message fits e =
    let p = bind_ok (number_at bytes) after_size message e in
    let q = bind_ok (plain_at p.0.1) after_plain message p.2 in
    let r = bind_ok (name_at q.0.1) after_id message q.2 in
    let s = bind_ok (objects_of r.0.1) (with_id r.0.0) message r.2 in
    let t = number_codec.takes bytes p.0.0 p.0.1 fits p.1 in
    let u = plain_codec.takes p.0.1 q.0.0 q.0.1 t.1 q.1 in
    let v = (name_codec (keeps Plain)).takes q.0.1 r.0.0 r.0.1 u.1 r.1 in
    let w = within_takes (length r.0.1) r.0.1 s.0 v.1 s.1 in
    let is : record { id = r.0.0; objects = s.0 } ≡ message = same_result (record { id = r.0.0; objects = s.0 }) message s.2 in
    let spelt : bytes ≡ be32 p.0.0 ++ body_bytes r.0.0 s.0 =
    t.0 ∙ ap (λ (x : List ℕ). be32 p.0.0 ++ x) (u.0 ∙ ap (λ (x : List ℕ). 0 ∷ x) (v.0 ∙ ap (λ (x : List ℕ). spelt_name r.0.0 ++ x) w.0)) in
    subst (λ (m : WireMessage). Taken m bytes) is (record { size = p.0.0; small = t.2; spelt = spelt; id = v.2; objects = w.1 })

pub message_takes : (bytes : List ℕ) (message : WireMessage) → IsBytes bytes → message_of bytes ≡ good message → stated bytes ≡ length bytes → length bytes < 2 ^ 31 → Spells message bytes × IsWithin message
unfolding well_formed
message_takes bytes message fits e sized short =
    let t = message_taken bytes message fits e in
    let body = body_bytes message.id message.objects in
    let size : t.size ≡ length bytes = sym (stated_front t.size body t.small) ∙ ap stated (sym t.spelt) ∙ sized in
    let long : length bytes ≡ 4 + length body = ap length t.spelt ∙ length-append (be32 t.size) body ∙ ap (λ n. n + length body) (length-be32 t.size) in
    let whole : bytes ≡ message_bytes message.id message.objects =
    t.spelt ∙ ap (λ n. be32 n ++ body) (size ∙ long ∙ sym (length-message_bytes message.id message.objects)) ∙ sym (message_bytes-sized message.id message.objects (length (message_bytes message.id message.objects)) refl) in (
      record {
        id = IsUtf8-from_is_utf8 message.id t.id;
        formed = both_tests object_is ObjectWithin message.objects t.objects;
        spelling = whole;
        fits = omega (arith, short);
      },
      both_facts object_is ObjectWithin message.objects t.objects,
    )

message_read : (size : ℕ) (message : WireMessage) → size < 2 ^ 32 → is_utf8 message.id ≡ true → AreObjects message.objects → 4 + length (body_bytes message.id message.objects) < 2 ^ 31 → message_of (be32 size ++ body_bytes message.id message.objects) ≡ good message
unfolding message_of text_bytes
message_read size message small id fits short =
    let objects = flat_map object_bytes message.objects in
    let body = body_bytes message.id message.objects in
    let long = length-append (spelt_name message.id) objects in
    let one = number_codec.again size body small (omega (arith, length-be32 size)) in
    let two = plain_codec.again 0 (spelt_name message.id ++ objects) refl (omega arith) in
    let three = (name_codec (keeps Plain)).again message.id objects id (omega (arith, long, short)) in
    let four = objects_again message.objects fits (omega (arith, long, short)) in
    ap (λ (r : Read ℕ). r >>= after_size) one ∙ ap (λ (r : Read ℕ). r >>= after_plain) two ∙ ap (λ (r : Read (List ℕ)). r >>= after_id) three ∙ ap (λ (r : Result (List Object) ℕ). r >>= with_id message.id) four

pub message_again : (bytes : List ℕ) (message : WireMessage) → Spells message bytes → IsWithin message → message_of bytes ≡ good message
unfolding well_formed
message_again bytes message p within =
    let sized : bytes ≡ be32 (length bytes) ++ body_bytes message.id message.objects = p.spelling ∙ message_bytes-sized message.id message.objects (length bytes) (ap length p.spelling) in
    let long : length bytes ≡ 4 + length (body_bytes message.id message.objects) = ap length p.spelling ∙ length-message_bytes message.id message.objects in
    ap message_of sized ∙ message_read (length bytes) message (omega (arith, p.fits)) (is_utf8-from_IsUtf8 message.id p.id) (each_both object_is ObjectWithin message.objects p.formed within) (omega (arith, p.fits, long))

-- no bytes spell two messages
pub one_message : (m n : WireMessage) (bytes : List ℕ) → IsWithin m → IsWithin n → Spells m bytes → Spells n bytes → m ≡ n
one_message m n bytes u v p q = same_result m n (sym (message_again bytes m p u) ∙ message_again bytes n q v)
