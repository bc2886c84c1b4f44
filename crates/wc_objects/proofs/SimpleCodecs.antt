-- Values that hold no others, each read as it is spelt.
use Rattle.std.proofs.Common.{◌≡◌, ℕ, ◌<◌, ◌^◌, true, List, length, Option, Some, None, refl, sym, ap, subst, ◌∙◌, arith}
use Rattle.std.specs.Prelude.{ℤ}
use Rattle.std.specs.Int.{w8, w32, w64}
use Rattle.std.specs.Int.RustNames.{FitsSigned}
use Rattle.std.proofs.lemmas.Bool.{and_parts}
use Rattle.wc_objects.specs.declared.kind.Kind.{Kind}
use Rattle.wc_objects.specs.declared.kind.Kind.TheVariants.{Chr, Int, Lon, Str, Buf, Ptr, Tim, Htb, Hda, Inf, Inl, Arr}
use Rattle.wc_objects.specs.declared.object.Object.{Object}
use Rattle.wc_objects.specs.declared.object.Object.TheViews.{out-Object}
use Rattle.wc_objects.specs.declared.object.Object.TheOpen.{Object-F}
use Rattle.wc_objects.specs.declared.object.Object.TheVariants as o
use Rattle.wc_objects.specs.declared.fault.Rule.TheVariants.{Plain}
use Rattle.wc_objects.specs.Kinds.{Layer, same}
use Rattle.wc_objects.specs.Forms.{is_text, simple_layer_is, simple_is}
use Rattle.wc_objects.specs.Within.{SimpleLayerWithin, SimpleWithin}
use Rattle.wc_objects.specs.Spelling.{simple_layer, simple_bytes, be32, text_bytes, pointer_bytes}
use Rattle.wc_objects.specs.Reading.{Read, broken_at, keeps, simple_at, byte_at, int_at, decimal_at, pointer_at, text_at}
use Rattle.wc_objects.proofs.Codecs.{Codec, done, mapped, refit}
use Rattle.wc_objects.proofs.FieldCodecs.{IsText, text_codec}
use Rattle.wc_objects.proofs.NumberCodecs.{spelt_byte, byte_codec, spelt_int, int_codec, spelt_decimal, decimal_codec, pointer_codec}
use Rattle.wc_objects.proofs.Layers.{object_of, layer_of, is_object, same_is}

-- a value of a type that holds no others, made of what such a value is made of
abbrev pub MadeSimple : Kind → Object → Type 0
MadeSimple Chr x = (n : ℤ) × (x ≡ o.Chr n) × FitsSigned w8 n
MadeSimple Int x = (n : ℤ) × (x ≡ o.Int n) × FitsSigned w32 n
MadeSimple Lon x = (n : ℤ) × (x ≡ o.Lon n) × FitsSigned w64 n
MadeSimple Str x = (t : Option (List ℕ)) × (x ≡ o.Str t) × IsText (keeps Plain) t
MadeSimple Buf x = (t : Option (List ℕ)) × (x ≡ o.Buf t) × IsText (keeps Plain) t
MadeSimple Ptr x = (n : ℕ) × (x ≡ o.Ptr n) × (n < 2 ^ 64)
MadeSimple Tim x = (n : ℤ) × (x ≡ o.Tim n) × FitsSigned w64 n
MadeSimple _ x = ⊥

abbrev pub IsSimpleLayer : Kind → Layer → Type 0
IsSimpleLayer kind layer = (simple_layer_is kind layer ≡ true) × SimpleLayerWithin layer

abbrev pub IsSimple : Kind → Object → Type 0
IsSimple kind x = (simple_is kind x ≡ true) × SimpleWithin x

pub text_is : (t : Option (List ℕ)) → IsText (keeps Plain) t → is_text t ≡ true
text_is None h = refl
text_is (Some text) h = h

pub is_text_of : (t : Option (List ℕ)) → is_text t ≡ true → IsText (keeps Plain) t
is_text_of None h = tt
is_text_of (Some text) h = h

-- of the type that the layer has
of_kind : (kind own : Kind) (x : Object) → same kind own ≡ true → MadeSimple own x → MadeSimple kind x
of_kind kind own x e m = subst (λ (k : Kind). MadeSimple k x) (sym (same_is kind own e)) m

from_layer : (kind : Kind) (x : Object) (layer : Layer) → out-Object x ≡ layer → IsSimpleLayer kind layer → MadeSimple kind x
from_layer kind x (Object-F.Chr n) e h = of_kind kind Chr x h.0 (n, is_object x (Object-F.Chr n) e, h.1)
from_layer kind x (Object-F.Int n) e h = of_kind kind Int x h.0 (n, is_object x (Object-F.Int n) e, h.1)
from_layer kind x (Object-F.Lon n) e h = of_kind kind Lon x h.0 (n, is_object x (Object-F.Lon n) e, h.1)
from_layer kind x (Object-F.Str t) e h = let p = and_parts (same kind Str) (is_text t) h.0 in of_kind kind Str x p.0 (t, is_object x (Object-F.Str t) e, is_text_of t p.1)
from_layer kind x (Object-F.Buf t) e h = let p = and_parts (same kind Buf) (is_text t) h.0 in of_kind kind Buf x p.0 (t, is_object x (Object-F.Buf t) e, is_text_of t p.1)
from_layer kind x (Object-F.Ptr n) e h = of_kind kind Ptr x h.0 (n, is_object x (Object-F.Ptr n) e, h.1)
from_layer kind x (Object-F.Tim n) e h = of_kind kind Tim x h.0 (n, is_object x (Object-F.Tim n) e, h.1)
from_layer kind x (Object-F.Htb key value pairs) e h = absurd (let k = h.0 in cc)
from_layer kind x (Object-F.Hda hda) e h = absurd (let k = h.0 in cc)
from_layer kind x (Object-F.Inf name value) e h = absurd (let k = h.0 in cc)
from_layer kind x (Object-F.Inl name items) e h = absurd (let k = h.0 in cc)
from_layer kind x (Object-F.Arr element values) e h = absurd (let k = h.0 in cc)

pub from_simple : (kind : Kind) (x : Object) → IsSimple kind x → MadeSimple kind x
unfolding simple_is SimpleWithin
from_simple kind x h = from_layer kind x (out-Object x) refl h

at_layer : (kind : Kind) (x : Object) (layer : Layer) → x ≡ object_of layer → IsSimpleLayer kind layer → IsSimple kind x
unfolding simple_is SimpleWithin
at_layer kind x layer e h = subst (λ (y : Object). IsSimple kind y) (sym e) (subst (λ (l : Layer). IsSimpleLayer kind l) (sym (layer_of layer)) h)

pub to_simple : (kind : Kind) (x : Object) → MadeSimple kind x → IsSimple kind x
to_simple Chr x m = at_layer Chr x (Object-F.Chr m.0) m.1 (refl, m.2)
to_simple Int x m = at_layer Int x (Object-F.Int m.0) m.1 (refl, m.2)
to_simple Lon x m = at_layer Lon x (Object-F.Lon m.0) m.1 (refl, m.2)
to_simple Str x m = at_layer Str x (Object-F.Str m.0) m.1 (text_is m.0 m.2, tt)
to_simple Buf x m = at_layer Buf x (Object-F.Buf m.0) m.1 (text_is m.0 m.2, tt)
to_simple Ptr x m = at_layer Ptr x (Object-F.Ptr m.0) m.1 (refl, m.2)
to_simple Tim x m = at_layer Tim x (Object-F.Tim m.0) m.1 (refl, m.2)
to_simple Htb x m = absurd m
to_simple Hda x m = absurd m
to_simple Inf x m = absurd m
to_simple Inl x m = absurd m
to_simple Arr x m = absurd m

spelt_layer : (layer : Layer) → simple_bytes (object_of layer) ≡ simple_layer layer
unfolding simple_bytes
spelt_layer layer = ap simple_layer (layer_of layer)

refused : (kind : Kind) → (read : List ℕ → Read Object) → ((bytes : List ℕ) → read bytes ≡ broken_at bytes) → Codec read simple_bytes (λ x. ⊥)
refused kind read never = record {
  takes = λ bytes x rest fits e. absurd (let k : broken_at bytes ≡ done x rest = sym (never bytes) ∙ e in cc);
  again = λ x rest fits short. absurd fits;
}

made_codec : (kind : Kind) → Codec (simple_at kind) simple_bytes (MadeSimple kind)
unfolding simple_at
made_codec Chr = mapped byte_at spelt_byte (λ n. FitsSigned w8 n) o.Chr simple_bytes byte_codec (λ n f. spelt_layer (Object-F.Chr n))
made_codec Int = mapped int_at spelt_int (λ n. FitsSigned w32 n) o.Int simple_bytes int_codec (λ n f. spelt_layer (Object-F.Int n))
made_codec Lon = mapped decimal_at spelt_decimal (λ n. FitsSigned w64 n) o.Lon simple_bytes decimal_codec (λ n f. spelt_layer (Object-F.Lon n))
made_codec Str = mapped text_at text_bytes (IsText (keeps Plain)) o.Str simple_bytes (text_codec (keeps Plain)) (λ t f. spelt_layer (Object-F.Str t))
made_codec Buf = mapped text_at text_bytes (IsText (keeps Plain)) o.Buf simple_bytes (text_codec (keeps Plain)) (λ t f. spelt_layer (Object-F.Buf t))
made_codec Ptr = mapped pointer_at pointer_bytes (λ n. n < 2 ^ 64) o.Ptr simple_bytes pointer_codec (λ n f. spelt_layer (Object-F.Ptr n))
made_codec Tim = mapped decimal_at spelt_decimal (λ n. FitsSigned w64 n) o.Tim simple_bytes decimal_codec (λ n f. spelt_layer (Object-F.Tim n))
made_codec Htb = refused Htb (simple_at Htb) (λ bytes. refl)
made_codec Hda = refused Hda (simple_at Hda) (λ bytes. refl)
made_codec Inf = refused Inf (simple_at Inf) (λ bytes. refl)
made_codec Inl = refused Inl (simple_at Inl) (λ bytes. refl)
made_codec Arr = refused Arr (simple_at Arr) (λ bytes. refl)

pub simple_codec : (kind : Kind) → Codec (simple_at kind) simple_bytes (IsSimple kind)
simple_codec kind = refit (simple_at kind) simple_bytes (MadeSimple kind) (IsSimple kind) (to_simple kind) (from_simple kind) (made_codec kind)

-- ---- each takes a byte at least

layer_bytes : (x : Object) (layer : Layer) → x ≡ object_of layer → simple_bytes x ≡ simple_layer layer
layer_bytes x layer e = ap simple_bytes e ∙ spelt_layer layer

text_some : (t : Option (List ℕ)) → 0 < length (text_bytes t)
unfolding text_bytes be32
text_some None = omega arith
text_some (Some text) = omega arith

int_some : (n : ℤ) → 0 < length (spelt_int n)
unfolding be32
int_some n = omega arith

pub simple_some : (kind : Kind) (x : Object) → MadeSimple kind x → 0 < length (simple_bytes x)
simple_some Chr x m = omega (arith, ap length (layer_bytes x (Object-F.Chr m.0) m.1))
simple_some Int x m = omega (arith, ap length (layer_bytes x (Object-F.Int m.0) m.1), int_some m.0)
simple_some Lon x m = omega (arith, ap length (layer_bytes x (Object-F.Lon m.0) m.1))
simple_some Str x m = omega (arith, ap length (layer_bytes x (Object-F.Str m.0) m.1), text_some m.0)
simple_some Buf x m = omega (arith, ap length (layer_bytes x (Object-F.Buf m.0) m.1), text_some m.0)
simple_some Ptr x m = omega (arith, ap length (layer_bytes x (Object-F.Ptr m.0) m.1))
simple_some Tim x m = omega (arith, ap length (layer_bytes x (Object-F.Tim m.0) m.1))
simple_some Htb x m = absurd m
simple_some Hda x m = absurd m
simple_some Inf x m = absurd m
simple_some Inl x m = absurd m
simple_some Arr x m = absurd m
