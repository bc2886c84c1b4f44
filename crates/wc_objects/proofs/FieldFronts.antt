-- A field at the front of some bytes is the one that they spell.
use Rattle.std.proofs.Common.{◌≡◌, ℕ, ◌-◌, ◌<◌, ◌^◌, List, ◌++◌, length, take, drop, Option, Some, None, Result, Ok, Err, refl, sym, ap, subst, ◌∙◌, append_assoc, arith}
use Rattle.std.specs.Prelude.{IfOk, IfSome}
use Rattle.std.proofs.lemmas.Str.{IsUtf8-from_is_utf8, is_utf8-from_IsUtf8}
use Rattle.std.proofs.lemmas.List.{length-append, length-drop, take_at, take-append-drop}
use Rattle.wc_objects.specs.declared.fault.Rule.TheVariants.{Plain}
use Rattle.wc_objects.specs.Spelling.{be32, pointer_bytes, text_bytes}
use Rattle.wc_objects.specs.Spells.{IsFront, IsStr}
use Rattle.wc_objects.specs.Reading.{Read, ◌>>=◌, keeps, text_by, GivesFront, pointer_at, text_at}
use Rattle.wc_objects.proofs.Codecs.{IsBytes, done}
use Rattle.wc_objects.proofs.FieldCodecs.{IsShort, IsNumber, number_codec, text_first, text_body, after_length, text_spelt, told_again, told_codec}
use Rattle.wc_objects.proofs.NumberCodecs.{pointer_codec}
use Rattle.wc_objects.proofs.Pointers.{hex_short}
use Rattle.wc_objects.proofs.Rooms.{length-be32}

is_front : (spelling rest bytes : List ℕ) → bytes ≡ spelling ++ rest → IsFront spelling (length bytes - length rest) bytes
is_front spelling rest bytes e =
    let long : length bytes - length rest ≡ length spelling = omega (arith, ap length e, length-append spelling rest) in
    record { reaches = omega arith; spelt = ap (take (length bytes - length rest)) e ∙ take_at spelling rest (length bytes - length rest) (sym long) }

front_found : {A : Type 0} (spell : A → List ℕ) (F : A → Type 0) (bytes : List ℕ) (read : Read A) (result : Option (A × ℕ)) → ((x : A) (rest : List ℕ) → read ≡ done x rest → (bytes ≡ spell x ++ rest) × F x) → GivesFront result (length bytes) read
    → IfSome result (λ found. IsFront (spell found.0) found.1 bytes × F found.0)
front_found spell F bytes read None takes g = tt
front_found spell F bytes (Err left) (Some found) takes g = absurd g
front_found {A} spell F bytes (Ok x) (Some found) takes g =
    let t = takes x.0 x.1 refl in
    let front : IsFront (spell x.0) found.1 bytes = subst (λ (k : ℕ). IsFront (spell x.0) k bytes) (sym g.1) (is_front (spell x.0) x.1 bytes t.0) in
    subst (λ (y : A). IsFront (spell y) found.1 bytes × F y) (sym g.0) (front, t.1)

front_only : {A : Type 0} (spelling : List ℕ) (x : A) (size : ℕ) (bytes : List ℕ) (read : List ℕ → Read A) (result : Option (A × ℕ)) → IsFront spelling size bytes → read (spelling ++ drop size bytes) ≡ done x (drop size bytes) → GivesFront result (length bytes) (read bytes) → result ≡ Some (x, size)
front_only {A} spelling x size bytes read result f again g =
    let whole : bytes ≡ spelling ++ drop size bytes = sym (take-append-drop size bytes) ∙ ap (λ (front : List ℕ). front ++ drop size bytes) f.spelt in
    let gives : GivesFront result (length bytes) (done x (drop size bytes)) = subst (λ (r : Read A). GivesFront result (length bytes) r) (ap read whole ∙ again) g in
    by_result result gives
  where
    by_result : (o : Option (A × ℕ)) → GivesFront o (length bytes) (done x (drop size bytes)) → o ≡ Some (x, size)
    by_result None g = absurd g
    by_result (Some found) g = let size_is : found.1 ≡ size = omega (arith, g.1, length-drop size bytes, f.reaches) in λ i. Some (g.0 i, size_is i)

-- ---- pointers

pub pointer_found : (bytes : List ℕ) (result : Option (ℕ × ℕ)) → IsBytes bytes → GivesFront result (length bytes) (pointer_at bytes) → IfSome result (λ found. IsFront (pointer_bytes found.0) found.1 bytes)
pointer_found bytes result fits g = first_part result (front_found pointer_bytes (λ n. n < 2 ^ 64) bytes (pointer_at bytes) result (λ n rest e. let t = pointer_codec.takes bytes n rest fits e in (t.0, t.2)) g)
  where
    first_part : (o : Option (ℕ × ℕ)) → IfSome o (λ found. IsFront (pointer_bytes found.0) found.1 bytes × (found.0 < 2 ^ 64)) → IfSome o (λ found. IsFront (pointer_bytes found.0) found.1 bytes)
    first_part None f = tt
    first_part (Some found) f = f.0

pub pointer_only : (bytes : List ℕ) (result : Option (ℕ × ℕ)) → GivesFront result (length bytes) (pointer_at bytes) → (pointer size : ℕ) → pointer < 2 ^ 64 → IsFront (pointer_bytes pointer) size bytes → result ≡ Some (pointer, size)
pointer_only bytes result g pointer size small f =
    front_only (pointer_bytes pointer) pointer size bytes pointer_at result f (pointer_codec.again pointer (drop size bytes) small (omega (arith, hex_short pointer small))) g

-- ---- texts

short_is : (text : Option (List ℕ)) → IsShort (keeps Plain) text → IsStr text
short_is None f = tt
short_is (Some text) f = (IsUtf8-from_is_utf8 text f.1, f.0)

is_short : (text : Option (List ℕ)) → IsStr text → IsShort (keeps Plain) text
is_short None f = tt
is_short (Some text) f = (f.1, is_utf8-from_IsUtf8 text f.0)

first_small : (text : Option (List ℕ)) → IsStr text → IsNumber (text_first text) × (length (text_body text) < 2 ^ 31)
first_small None f = (omega arith, omega arith)
first_small (Some text) f = (omega (arith, f.1), f.1)

text_takes : (bytes : List ℕ) (text : Option (List ℕ)) (rest : List ℕ) → IsBytes bytes → text_at bytes ≡ done text rest → (bytes ≡ text_bytes text ++ rest) × IsStr text
unfolding text_by
text_takes bytes text rest fits e =
    let t = (told_codec (keeps Plain)).takes bytes text rest fits e in
    (t.0 ∙ ap (λ (front : List ℕ). front ++ rest) (text_spelt text), short_is text t.2.1)

text_again : (text : Option (List ℕ)) (rest : List ℕ) → IsStr text → text_at (text_bytes text ++ rest) ≡ done text rest
unfolding text_by
text_again text rest fits =
    let small = first_small text fits in
    let whole = be32 (text_first text) ++ (text_body text ++ rest) in
    let one = number_codec.again (text_first text) (text_body text ++ rest) small.0 (omega (arith, length-be32 (text_first text))) in
    let regrouped : text_bytes text ++ rest ≡ whole = ap (λ (front : List ℕ). front ++ rest) (sym (text_spelt text)) ∙ append_assoc (be32 (text_first text)) (text_body text) rest in
    ap text_at regrouped ∙ ap (λ (r : Read ℕ). r >>= λ n. after_length (keeps Plain) whole n.0 n.1) one ∙ told_again (keeps Plain) whole (text_first text) text rest (refl, is_short text fits) small.1

abbrev Found : Type 0
Found = Option (List ℕ) × ℕ

text_front : (bytes : List ℕ) (front : Option Found) → IsBytes bytes → GivesFront front (length bytes) (text_at bytes) → IfSome front (λ found. IsFront (text_bytes found.0) found.1 bytes × IsStr found.0)
text_front bytes front fits g = front_found text_bytes IsStr bytes (text_at bytes) front (λ text rest e. text_takes bytes text rest fits e) g

pub text_found : {E : Type 0} (bytes : List ℕ) (result : Result (Option Found) E) → IsBytes bytes → IfOk result (λ front. GivesFront front (length bytes) (text_at bytes)) → IfOk result (λ front. IfSome front (λ found. IsFront (text_bytes found.0) found.1 bytes))
text_found bytes (Err error) fits g = tt
text_found bytes (Ok None) fits g = tt
text_found bytes (Ok (Some found)) fits g = (text_front bytes (Some found) fits g).0

pub text_is_str : {E : Type 0} (bytes : List ℕ) (result : Result (Option Found) E) → IsBytes bytes → IfOk result (λ front. GivesFront front (length bytes) (text_at bytes)) → IfOk result (λ front. IfSome front (λ found. IsStr found.0))
text_is_str bytes (Err error) fits g = tt
text_is_str bytes (Ok None) fits g = tt
text_is_str bytes (Ok (Some found)) fits g = (text_front bytes (Some found) fits g).1

pub text_only : {E : Type 0} (bytes : List ℕ) (result : Result (Option Found) E) → IfOk result (λ front. GivesFront front (length bytes) (text_at bytes)) → (text : Option (List ℕ)) (size : ℕ) → IsStr text → IsFront (text_bytes text) size bytes
    → IfOk result (λ front. front ≡ Some (text, size))
text_only bytes (Err error) g text size fits f = tt
text_only bytes (Ok front) g text size fits f = front_only (text_bytes text) text size bytes text_at front f (text_again text (drop size bytes) fits) g
