-- The room that the parts of a list take.
use Rattle.std.proofs.Common.{◌≡◌, ℕ, ◌+◌, ◌≤◌, ◌<◌, ◌++◌, List, refl, sym, ap, subst, ◌∙◌, append_assoc, length, take, get_or, arith, [], ◌∷◌, Some, append-nil}
use Rattle.std.specs.List.{flat_map}
use Rattle.std.proofs.lemmas.List.{length-append}
use Rattle.std.proofs.lemmas.List.Folds.{length-flat_map-take}
use Rattle.bytes.specs.Filled.{Filled}
use Rattle.wc_objects.specs.Spelling.{HasRoomFor, Puts, be32, text_bytes, simple_bytes, value_bytes, object_bytes, body_bytes, message_bytes, text_body_bytes}
use denote.Hole.Carrier.{out}
use Rattle.wc_objects.specs.declared.object.Object.{Object}
use Rattle.wc_objects.specs.declared.object.Object.TheViews.{out-Object}

pub length-be32 : (n : ℕ) → length (be32 n) ≡ 4
unfolding be32
length-be32 n = refl

-- where there was room for all, there is room for the next one after those before it
pub next_has_room : {X : Type 0} (front : List ℕ) (spell : X → List ℕ) (xs : List X) (i : ℕ) (d : X) (old now : Filled) → i < length xs
    → HasRoomFor old (front ++ flat_map spell xs) → Puts old now (front ++ flat_map spell (take i xs)) → HasRoomFor now (spell (get_or xs i d))
next_has_room front spell xs i d old now within room puts =
    let fits = length-flat_map-take spell xs i d within in
    let all = length-append front (flat_map spell xs) in
    let before = length-append front (flat_map spell (take i xs)) in
    (omega (arith, room.0, puts.1, fits, all, before), omega (arith, room.1, fits, all))

-- what is put after what was put
pub Puts-then : (a b c : Filled) (x y : List ℕ) → Puts a b x → Puts b c y → Puts a c (x ++ y)
Puts-then a b c x y p q = (q.0 ∙ ap (λ (t : List ℕ). t ++ y) p.0 ∙ append_assoc a.items x y, omega (arith, p.1, q.1, length-append x y))

-- the room that is left for the second part after the first
pub rest_has_room : (a b : Filled) (x y : List ℕ) → HasRoomFor a (x ++ y) → Puts a b x → HasRoomFor b y
rest_has_room a b x y room puts = (omega (arith, room.0, puts.1, length-append x y), omega (arith, room.1, length-append x y))

pub first_has_room : (a : Filled) (x y : List ℕ) → HasRoomFor a (x ++ y) → HasRoomFor a x
first_has_room a x y room = (omega (arith, room.0, length-append x y), omega (arith, room.1, length-append x y))

pub count_has_room : (a : Filled) (n : ℕ) (y : List ℕ) → HasRoomFor a (be32 n ++ y) → 4 ≤ a.spare
count_has_room a n y room = omega (arith, room.0, length-append (be32 n) y, length-be32 n)

pub length-message_bytes : (id : List ℕ) (objects : List Object) → length (message_bytes id objects) ≡ 4 + length (body_bytes id objects)
unfolding message_bytes
length-message_bytes id objects = length-append (be32 (4 + length (body_bytes id objects))) (body_bytes id objects) ∙ ap (λ n. n + length (body_bytes id objects)) (length-be32 (4 + length (body_bytes id objects)))

-- a message comes after its length
pub message_bytes-sized : (id : List ℕ) (objects : List Object) (n : ℕ) → n ≡ length (message_bytes id objects) → message_bytes id objects ≡ be32 n ++ body_bytes id objects
unfolding message_bytes
message_bytes-sized id objects n e = ap (λ k. be32 k ++ body_bytes id objects) (sym (e ∙ length-message_bytes id objects))

pub sized_has_room : (a : Filled) (id : List ℕ) (objects : List Object) (n : ℕ) → n ≡ length (message_bytes id objects) → HasRoomFor a (message_bytes id objects) → HasRoomFor a (be32 n ++ body_bytes id objects)
sized_has_room a id objects n e room = let P : List ℕ → Type 0 = λ bytes. HasRoomFor a bytes in subst P (message_bytes-sized id objects n e) room

pub puts_message : (a b c : Filled) (id : List ℕ) (objects : List Object) (n : ℕ) → n ≡ length (message_bytes id objects) → Puts a b (be32 n) → Puts b c (body_bytes id objects) → Puts a c (message_bytes id objects)
puts_message a b c id objects n e p q =
    let P : List ℕ → Type 0 = λ bytes. Puts a c bytes in
    subst P (sym (message_bytes-sized id objects n e)) (Puts-then a b c (be32 n) (body_bytes id objects) p q)

-- ---- the message of one str

abbrev pub one_text : List ℕ → List Object
one_text text = Object.Str (Some text) ∷ []

text_body : (id text : List ℕ) → body_bytes id (one_text text) ≡ text_body_bytes id text
unfolding object_bytes value_bytes simple_bytes out-Object out
text_body id text = ap (λ (t : List ℕ). 0 ∷ (text_bytes (Some id) ++ t)) (append-nil (object_bytes (Object.Str (Some text))))

pub length-text_message : (id text : List ℕ) → length (message_bytes id (one_text text)) ≡ 4 + length (text_body_bytes id text)
length-text_message id text = length-message_bytes id (one_text text) ∙ ap (λ (t : List ℕ). 4 + length t) (text_body id text)

pub text_message-sized : (id text : List ℕ) (n : ℕ) → n ≡ length (message_bytes id (one_text text)) → message_bytes id (one_text text) ≡ be32 n ++ text_body_bytes id text
text_message-sized id text n e = message_bytes-sized id (one_text text) n e ∙ ap (λ (t : List ℕ). be32 n ++ t) (text_body id text)

pub sized_has_text_room : (a : Filled) (id text : List ℕ) (n : ℕ) → n ≡ length (message_bytes id (one_text text)) → HasRoomFor a (message_bytes id (one_text text)) → HasRoomFor a (be32 n ++ text_body_bytes id text)
sized_has_text_room a id text n e room = let P : List ℕ → Type 0 = λ bytes. HasRoomFor a bytes in subst P (text_message-sized id text n e) room

pub puts_text_message : (a b c : Filled) (id text : List ℕ) (n : ℕ) → n ≡ length (message_bytes id (one_text text)) → Puts a b (be32 n) → Puts b c (text_body_bytes id text) → Puts a c (message_bytes id (one_text text))
puts_text_message a b c id text n e p q =
    let P : List ℕ → Type 0 = λ bytes. Puts a c bytes in
    subst P (sym (text_message-sized id text n e)) (Puts-then a b c (be32 n) (text_body_bytes id text) p q)

pub ruleset text_sizes = (length-text_message, length-be32)
