-- What a prefix names.
use Rattle.std.proofs.Common.{◌≡◌, ◌≢◌, ℕ, List, [], ◌∷◌, ◌++◌, refl, ap, sym, ◌∙◌, arith, Option, Some, None, append-nil}
use Rattle.wc_text.specs.Splits.{before, text_after, Lacks}
use Rattle.wc_ircmsg.specs.Sources.{text_with_mark, or_empty, Names, nick_of, user_of, host_of}
use Rattle.wc_text.proofs.WordLemmas.{before-at, text_after-at, before-none, Lacks-before}
use Rattle.wc_ircmsg.proofs.WordLemmas.{text_after-none, Lacks-text_after, cut_at_mark, Lacks-before-other}

-- a front without the mark, and a text after the mark or nothing
pub cut-marked : (mark : ℕ) (front : List ℕ) (text : Option (List ℕ)) → Lacks mark front → (before mark (front ++ text_with_mark mark text) ≡ front) × (text_after mark (front ++ text_with_mark mark text) ≡ text)
cut-marked mark front None lacks =
    let whole = append-nil front in
    (ap (before mark) whole ∙ before-none mark front lacks, ap (text_after mark) whole ∙ text_after-none mark front lacks)
cut-marked mark front (Some text) lacks = (before-at mark front text lacks, text_after-at mark front text lacks)

-- lists without a byte, joined
Lacks-append : (c : ℕ) (front rest : List ℕ) → Lacks c front → Lacks c rest → Lacks c (front ++ rest)
Lacks-append c [] rest one other = other
Lacks-append c (b ∷ front) rest one other = (one.0, Lacks-append c front rest one.1 other)

Lacks-marked : (c mark : ℕ) (text : Option (List ℕ)) → mark ≢ c → Lacks c (or_empty text) → Lacks c (text_with_mark mark text)
Lacks-marked c mark None other lacks = tt
Lacks-marked c mark (Some text) other lacks = (other, lacks)

-- the parts of a prefix are those that are computed
pub Names-same : (source nick user host : List ℕ) → Names source nick user host → (nick ≡ nick_of source) × (user ≡ user_of source) × (host ≡ host_of source)
Names-same source nick user host names =
    let front : List ℕ = nick ++ text_with_mark 33 names.user_part in
    let unmarked = Lacks-append 64 nick (text_with_mark 33 names.user_part) names.nick_unmarked.1 (Lacks-marked 64 33 names.user_part (λ e. absurd (omega arith)) names.user_unmarked) in
    let outer = cut-marked 64 front names.host_part unmarked in
    let inner = cut-marked 33 nick names.user_part names.nick_unmarked.0 in
    let is_front : before 64 source ≡ front = ap (before 64) names.spelled ∙ outer.0 in (
      sym (ap (before 33) is_front ∙ inner.0),
      names.user_is ∙ sym (ap (λ t. or_empty (text_after 33 t)) is_front ∙ ap or_empty inner.1),
      names.host_is ∙ sym (ap (λ t. or_empty (text_after 64 t)) names.spelled ∙ ap or_empty outer.1),
    )

-- each prefix has these parts
pub Names-made : (source : List ℕ) → Names source (nick_of source) (user_of source) (host_of source)
Names-made source = record {
  user_part = text_after 33 (before 64 source);
  host_part = text_after 64 source;
  spelled = cut_at_mark 64 source ∙ ap (λ t. t ++ text_with_mark 64 (text_after 64 source)) (cut_at_mark 33 (before 64 source));
  nick_unmarked = (Lacks-before 33 (before 64 source), Lacks-before-other 33 64 (before 64 source) (Lacks-before 64 source));
  user_unmarked = Lacks-text_after 33 64 (before 64 source) (Lacks-before 64 source);
  user_is = refl;
  host_is = refl;
}
