-- A message has one spelling, and no spelling begins another.
use Rattle.std.proofs.Common.{◌≡◌, ℕ, ◌<◌, ◌^◌, List, [], ◌++◌, length, take, sym, ap, ◌∙◌, append_assoc, append-nil, arith}
use Rattle.std.specs.Int.{w32, from_be_bytes}
use Rattle.std.proofs.lemmas.List.{length-append, nil_from_length}
use Rattle.std.proofs.lemmas.Nat.{from_be_bytes-to_be_bytes_4}
use Rattle.wc_objects.specs.declared.object.WireMessage.{WireMessage}
use Rattle.wc_objects.specs.Spelling.{be32, body_bytes}
use Rattle.wc_objects.specs.Spells.{Spells}
use Rattle.wc_objects.proofs.Rooms.{message_bytes-sized}

pub one_spelling : (message : WireMessage) (a b : List ℕ) → Spells message a → Spells message b → a ≡ b
one_spelling message a b p q = p.spelling ∙ sym q.spelling

-- the length that the first four bytes state
abbrev pub stated : List ℕ → ℕ
stated bytes = from_be_bytes w32 (take 4 bytes)

pub stated_front : (n : ℕ) (rest : List ℕ) → n < 2 ^ 32 → stated (be32 n ++ rest) ≡ n
unfolding be32
stated_front n rest small = from_be_bytes-to_be_bytes_4 n small

-- it is the length of the message
pub states : (message : WireMessage) (a rest : List ℕ) → Spells message a → stated (a ++ rest) ≡ length a
states message a rest p =
    let sized : a ≡ be32 (length a) ++ body_bytes message.id message.objects = p.spelling ∙ message_bytes-sized message.id message.objects (length a) (ap length p.spelling) in
    ap (λ (bytes : List ℕ). stated (bytes ++ rest)) sized ∙ ap stated (append_assoc (be32 (length a)) (body_bytes message.id message.objects) rest)
    ∙ stated_front (length a) (body_bytes message.id message.objects ++ rest) (omega (arith, p.fits))

pub no_front : (m n : WireMessage) (a b rest : List ℕ) → Spells m a → Spells n b → b ≡ a ++ rest → rest ≡ []
no_front m n a b rest p q e =
    let first : stated b ≡ length a = ap stated e ∙ states m a rest p in
    let second : stated (b ++ []) ≡ length b = states n b [] q in
    let both : stated b ≡ length b = ap stated (sym (append-nil b)) ∙ second in
    nil_from_length rest (omega (arith, ap length e, length-append a rest, first, both))
