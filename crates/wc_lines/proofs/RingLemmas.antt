-- What the calls do to the lines, and what stays true of them.
use Rattle.std.proofs.Common.{◌≡◌, ℕ, zero, suc, ◌+◌, ◌<◌, ◌≤◌, Bool, true, false, cond, List, [], ◌∷◌, ◌++◌, length, get_or, set, Option, Some, None, Bor, refl, sym, ap, subst, ◌∙◌, arith}
use Rattle.std.specs.Prelude.{◌==◌, nat_lt, All, IfSome, IsSome, MatchOption, ◌↔◌, option_copied}
use Rattle.std.specs.Option.{option_to_list}
use Rattle.std.specs.List.{position_or_len}
use Rattle.std.proofs.lemmas.Bool.Decides.{nat_tests}
use Rattle.std.proofs.lemmas.List.Elements.{All-set, All-append}
use Rattle.wc_text.specs.declared.names.Handle.{Handle}
use Rattle.wc_lines.specs.declared.line.Line.{Line}
use Rattle.wc_lines.specs.LineText.{HasUtf8Texts}
use Rattle.wc_lines.specs.Ring.{has_content, place_of, set_displayed}

-- ---- the texts
one_line : (line : Line) → HasUtf8Texts line → All HasUtf8Texts (line ∷ [])
one_line line text zero d inside = text
one_line line text (suc k) d inside = absurd (omega arith)

pub all_with_line : (lines : List Line) (line : Line) → All HasUtf8Texts lines → HasUtf8Texts line → All HasUtf8Texts (lines ++ line ∷ [])
all_with_line lines line all one = All-append HasUtf8Texts lines (line ∷ []) all (one_line line one)

-- ---- the place of a line
abbrev place : Handle → List Line → ℕ
place content lines = position_or_len (λ line. line.content.0 == content.0) lines

abbrev shown : Line → Bool → Line
shown line on = record line { displayed = on }

found : (n m k : ℕ) → cond (nat_lt n m) (Some n) None ≡ Some k → (k ≡ n) × (n < m)
found n m k e = (grind (arith, nat_tests), grind (arith, nat_tests))

not_found : (n m : ℕ) → cond (nat_lt n m) (Some n) None ≡ None → m ≤ n
not_found n m e = grind (arith, nat_tests)

abbrev IsAt : Handle → Bool → List Line → ℕ → Type 0
IsAt content on lines n =
    (n < length lines → (has_content content lines ≡ true) × ((d : Line) → set_displayed content on lines ≡ set lines n (shown (get_or lines n d) on)))
    × (length lines ≤ n → (has_content content lines ≡ false) × (set_displayed content on lines ≡ lines))

here : (content : Handle) (line : Line) (lines : List Line) → (line.content.0 == content.0) ≡ true → place content (line ∷ lines) ≡ 0
here content line lines e = rw e refl

later : (content : Handle) (line : Line) (lines : List Line) → (line.content.0 == content.0) ≡ false → place content (line ∷ lines) ≡ suc (place content lines)
later content line lines e = rw e (omega arith)

is_at_by : (content : Handle) (on : Bool) (line : Line) (lines : List Line) (test : Bool) → (line.content.0 == content.0) ≡ test
    → IsAt content on lines (place content lines) → IsAt content on (line ∷ lines) (place content (line ∷ lines))
is_at_by content on line lines true e h =
    let P : ℕ → Type 0 = IsAt content on (line ∷ lines) in
    subst P (sym (here content line lines e)) (λ inside. (rw e refl, λ d. rw e refl), λ outside. absurd (omega arith))
is_at_by content on line lines false e h =
    let P : ℕ → Type 0 = IsAt content on (line ∷ lines) in
    subst P (sym (later content line lines e)) (
      λ inside. let g = h.0 (omega arith) in (rw e g.0, λ d. rw e (ap (λ ls. line ∷ ls) (g.1 d))),
      λ outside. let g = h.1 (omega arith) in (rw e g.0, rw e (ap (λ ls. line ∷ ls) g.1)),
    )

is_at : (content : Handle) (on : Bool) (lines : List Line) → IsAt content on lines (place content lines)
is_at content on [] = (λ inside. absurd (omega arith), λ outside. (refl, refl))
is_at content on (line ∷ lines) = is_at_by content on line lines (line.content.0 == content.0) refl (is_at content on lines)

-- where no place was found, no line has the handle and none changes
pub none_at : (content : Handle) (on : Bool) (lines : List Line) → None ≡ place_of content lines → (has_content content lines ≡ false) × (set_displayed content on lines ≡ lines)
none_at content on lines e = (is_at content on lines).1 (not_found (place content lines) (length lines) (sym e))

-- where one was found, the line there changes
one_at : (content : Handle) (on : Bool) (lines : List Line) (n : ℕ) → Some n ≡ place_of content lines → (n < length lines) × IsAt content on lines n
one_at content on lines n e =
    let f = found (place content lines) (length lines) n (sym e) in
    let P : ℕ → Type 0 = IsAt content on lines in
    (omega (arith, f.0, f.1), subst P (sym f.0) (is_at content on lines))

pub some_at : (content : Handle) (lines : List Line) (n : ℕ) → Some n ≡ place_of content lines → has_content content lines ≡ true
some_at content lines n e = let h = one_at content true lines n e in (h.1.0 h.0).0

pub written : (content : Handle) (on : Bool) (lines : List Line) (n : ℕ) (line : Line) → Some n ≡ place_of content lines → line ≡ get_or lines n line
    → set lines n (shown line on) ≡ set_displayed content on lines
written content on lines n line e is =
    let h = one_at content on lines n e in
    ap (λ l. set lines n (shown l on)) is ∙ sym ((h.1.0 h.0).1 line)

-- the flag is no text
pub written_text : (content : Handle) (on : Bool) (lines : List Line) (n : ℕ) (line : Line) → Some n ≡ place_of content lines → line ≡ get_or lines n line
    → All HasUtf8Texts lines → All HasUtf8Texts (set lines n (shown line on))
written_text content on lines n line e is all =
    let h = one_at content on lines n e in
    let text : HasUtf8Texts line = subst HasUtf8Texts (sym is) (all n line h.0) in
    All-set HasUtf8Texts lines n (shown line on) record { tags = text.tags; prefix = text.prefix; message = text.message } all

-- ---- the oldest line
pub popped_len : (oldest : Option Line) (old new : ℕ) → MatchOption oldest ((old ≡ 0) × (new ≡ 0)) (λ line. new + 1 ≡ old) → 0 < old → new + 1 ≡ old
popped_len None old new cases some = absurd (omega arith)
popped_len (Some line) old new cases some = cases

pub oldest_text : (oldest : Option Line) (lines rest : List Line) → lines ≡ option_to_list oldest ++ rest → All HasUtf8Texts lines → IfSome oldest HasUtf8Texts
oldest_text None lines rest e all = tt
oldest_text (Some line) lines rest e all = subst (All HasUtf8Texts) e all 0 line (omega arith)

-- ---- a line by its place
pub text_at : (o : Option (Bor Line)) (lines : List Line) (count n : ℕ) → count ≡ length lines → (IsSome o ↔ (n < count))
    → IfSome o (λ x. x.now ≡ get_or lines n x.now) → All HasUtf8Texts lines → IfSome (option_copied o) HasUtf8Texts
text_at None lines count n same some is all = tt
text_at (Some x) lines count n same some is all = subst HasUtf8Texts (sym is) (all n x.now (omega (arith, same, some.0 refl)))
