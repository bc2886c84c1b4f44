-- Servers that are told one after another that the run ends.
use Rattle.std.proofs.Common.{◌≡◌, ℕ, ◌+◌, ◌<◌, Bool, true, false, List, ◌++◌, length, take, drop, get_or, set, refl, ap, ◌∙◌}
use Rattle.std.specs.Prelude.{map}
use Rattle.std.proofs.lemmas.List.{set-get_or}
use Rattle.std.proofs.lemmas.List.Edits.{map_over_more}
use Rattle.std.specs.Str.{IsUtf8, is_utf8}
use Rattle.std.proofs.lemmas.Str.{IsUtf8-from_is_utf8, is_utf8-from_IsUtf8}
use Rattle.wc_servers.specs.Seats.{SeatView, quitting, QuitFront}

-- what they are once one more was told
pub tell_more : (old now : List SeatView) (i : ℕ) (x y : SeatView) → x ≡ get_or now i x → now ≡ map quitting (take i old) ++ drop i old → y ≡ quitting x → i < length old → set now i y ≡ map quitting (take (i + 1) old) ++ drop (i + 1) old
tell_more old now i x y at so_far hears within = ap (λ s. set now i s) hears ∙ map_over_more quitting old now i x within so_far at

-- the next one may be told
pub front_more : (old now : List SeatView) (i : ℕ) (x y : SeatView) (heard : Bool) → x ≡ get_or now i x → now ≡ map quitting (take i old) ++ drop i old → (heard ≡ true → y ≡ quitting x) → (heard ≡ false → y ≡ x) → i < length old → QuitFront old (set now i y)
front_more old now i x y true at so_far hears stays within = record { count = i + 1; told = tell_more old now i x y at so_far (hears refl) within }
front_more old now i x y false at so_far hears stays within = record { count = i; told = ap (set now i) (stays refl ∙ at) ∙ set-get_or now i x ∙ so_far }

-- ---- texts

pub utf8_is_true : (bytes : List ℕ) → IsUtf8 bytes → is_utf8 bytes ≡ true
utf8_is_true bytes h = is_utf8-from_IsUtf8 bytes h

pub utf8_is_false : (bytes : List ℕ) → (IsUtf8 bytes → ⊥) → is_utf8 bytes ≡ false
utf8_is_false bytes h = by_test (is_utf8 bytes) (λ t. h (IsUtf8-from_is_utf8 bytes t))
  where
    by_test : (b : Bool) → (b ≡ true → ⊥) → b ≡ false
    by_test true never = absurd (never refl)
    by_test false _ = refl
