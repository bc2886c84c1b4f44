-- What a handshake settles, and how it is answered.
use Rattle.std.specs.Prelude.{ℕ, Bool, false, List, [], ◌∷◌, Option, Some, None, unwrap_or, codes}
use Rattle.std.specs.Prelude.{if◌then◌else◌}
use Rattle.std.specs.Str.{bytes_eq}
use Rattle.hex.specs.Hex.{encode_upper}
use Rattle.wc_text.specs.declared.names.Pair.{Pair}
use Rattle.wc_relaycmd.specs.declared.algorithm.Algorithm.{Algorithm}
use Rattle.wc_relaycmd.specs.Choices.{algorithm_name, choice_of}
use Rattle.wc_relaycmd.specs.Lists.{last_value}
use Rattle.wc_objects.specs.declared.kind.Kind.TheVariants as k
use Rattle.wc_objects.specs.declared.object.Object.{Object}
use Rattle.wc_objects.specs.declared.object.Object.TheVariants as o

-- the algorithm of a client that said nothing: `plain`, where a mask allows it
unfoldable pub first_choice : List ℕ → Option Algorithm
first_choice masks = choice_of (codes "plain") masks

-- the algorithm by which a client has to prove that it knows the password: the one that its handshake
-- settled, and without one the first choice by the masks as they are then
abbrev pub algorithm_for : List ℕ → Option Algorithm → Option Algorithm
algorithm_for masks None = first_choice masks
algorithm_for masks (Some algorithm) = Some algorithm

-- the strongest algorithm of the client's list that is allowed by these masks; a list that is not
-- given is `plain`
unfoldable pub choice_in : List ℕ → List Pair → Option Algorithm
choice_in masks pairs = choice_of (unwrap_or (last_value (codes "password_hash_algo") pairs)
    (codes "plain")) masks

abbrev pub is_on : Option (List ℕ) → Bool
is_on None = false
is_on (Some value) = bytes_eq value (codes "on")

-- escapes are asked for by `on` alone
unfoldable pub asks_escapes : List Pair → Bool
asks_escapes pairs = is_on (last_value (codes "escape_commands") pairs)

abbrev pub name_of_choice : Option Algorithm → List ℕ
name_of_choice None = []
name_of_choice (Some algorithm) = algorithm_name algorithm

abbrev pub switch : Bool → List ℕ
switch on = if on then codes "on" else codes "off"

abbrev pub entry : List ℕ → List ℕ → Object × Object
entry name value = (o.Str (Some name), o.Str (Some value))

unfoldable pub handshake_table : List ℕ → Option Algorithm → Bool → List (Object × Object)
handshake_table nonce choice escapes =
    entry (codes "password_hash_algo") (name_of_choice choice) ∷
    entry (codes "password_hash_iterations") (codes "100000") ∷
    entry (codes "totp") (codes "off") ∷
    entry (codes "nonce") (encode_upper nonce) ∷
    entry (codes "compression") (codes "off") ∷
    entry (codes "escape_commands") (switch escapes) ∷ []

-- the objects of the reply
abbrev pub handshake_objects : List ℕ → Option Algorithm → Bool → List Object
handshake_objects nonce choice escapes = o.Htb k.Str k.Str
    (handshake_table nonce choice escapes) ∷ []
