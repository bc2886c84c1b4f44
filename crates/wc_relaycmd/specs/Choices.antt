-- The algorithm of a login.
use Rattle.std.specs.Prelude.{ℕ, List, [], ◌∷◌, Bool, false, ◌&&◌, Option, codes, ◌==◌, find}
use Rattle.std.specs.List.{slice_split, list_any}
use Rattle.std.specs.Str.{bytes_eq}
use Rattle.wc_relaycmd.specs.declared.algorithm.Algorithm.{Algorithm}
use Rattle.wc_relaycmd.specs.declared.algorithm.Algorithm.TheVariants as a
use Rattle.wc_text.specs.Mask.{matches_of}
use Rattle.wc_relaycmd.specs.Lists.{pieces_of}

-- how an algorithm is written
abbrev pub algorithm_name : Algorithm → List ℕ
algorithm_name a.Plain = codes "plain"
algorithm_name a.Sha256 = codes "sha256"
algorithm_name a.Sha512 = codes "sha512"
algorithm_name a.Pbkdf2Sha256 = codes "pbkdf2+sha256"
algorithm_name a.Pbkdf2Sha512 = codes "pbkdf2+sha512"

-- the client's list, parted at colons, has the name
abbrev pub is_offered : List ℕ → List ℕ → Bool
is_offered offered name = list_any (λ piece. bytes_eq piece name)
    (slice_split (λ b. b == 58) offered)

-- some mask of the option, whose masks commas part, matches the name
abbrev pub is_allowed : List ℕ → List ℕ → Bool
is_allowed allowed name = list_any (λ mask. matches_of false mask name) (pieces_of allowed)

unfoldable pub is_common : List ℕ → List ℕ → Algorithm → Bool
is_common offered allowed algorithm = is_offered offered (algorithm_name algorithm)
    && is_allowed allowed (algorithm_name algorithm)

-- the first of the algorithms, from the strongest down, that is offered and allowed
abbrev pub choice_of : List ℕ → List ℕ → Option Algorithm
choice_of offered allowed = find (is_common offered allowed)
    (a.Pbkdf2Sha512 ∷ a.Pbkdf2Sha256 ∷ a.Sha512 ∷ a.Sha256 ∷ a.Plain ∷ [])
