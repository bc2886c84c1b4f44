use Rattle.std.proofs.Common.{◌≡◌, ℕ, true, false, List, [], ◌∷◌, ◌++◌, refl, ap, sym, ◌∙◌}
use Rattle.wc_eval.specs.Texts.{is_blank, before_margin, without_tail}
use Rattle.wc_eval.proofs.blanks.without_tail.Goals as goal

blank_last : (text : List ℕ) (b : ℕ) → is_blank b ≡ true → without_tail (text ++ b ∷ []) ≡ without_tail text
blank_last [] b t = rw t refl
blank_last (x ∷ text) b t = ap (before_margin x) (blank_last text b t)

other_last : (text : List ℕ) (b : ℕ) → is_blank b ≡ false → without_tail (text ++ b ∷ []) ≡ text ++ b ∷ []
other_last [] b f = rw f refl
other_last (x ∷ text) b f = ap (before_margin x) (other_last text b f) ∙ more text
  where
    more : (text : List ℕ) → before_margin x (text ++ b ∷ []) ≡ x ∷ (text ++ b ∷ [])
    more [] = refl
    more (y ∷ text) = refl

falls : (front others : List ℕ) (b : ℕ) → front ≡ others ++ b ∷ [] → true ≡ is_blank b →
    without_tail front ≡ without_tail others
falls front others b is t = ap without_tail is ∙ blank_last others b (sym t)

stays : (front others : List ℕ) (b : ℕ) → front ≡ others ++ b ∷ [] → false ≡ is_blank b →
    without_tail front ≡ front
stays front others b is f = ap without_tail is ∙ other_last others b (sym f) ∙ sym is

pub returns-then-not-is_blank : goal.returns-then-not-is_blank
returns-then-not-is_blank c =
    sym (stays c.blanks.front.now c.in-Some.others.now c.in-Some.last.now c.in-Some.ensures.cases.0
    c.if-not-is_blank.ensures) ∙ c.blanks.invariant

pub blanks-preserved : goal.blanks-preserved
blanks-preserved c =
    sym (falls c.blanks.front.now c.in-Some.others.now c.in-Some.last.now c.in-Some.ensures.cases.0
    c.if-not-is_blank.ensures) ∙ c.blanks.invariant
