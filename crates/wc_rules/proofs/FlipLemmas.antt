-- The flips of lines, one line after another.
use Rattle.std.proofs.Common.{◌≡◌, ℕ, Bool, true, false, List, [], ◌∷◌, ◌++◌, map, filter, append_assoc, cond, refl, ap, sym, ◌∙◌}
use Rattle.std.proofs.lemmas.Bool.{false≢true}
use Rattle.wc_filters.specs.declared.filter.Filter.{Filter}
use Rattle.wc_lines.specs.declared.line.Line.{Line}
use Rattle.wc_model.specs.declared.change.Flip.{Flip}
use Rattle.wc_rules.specs.Displayed.{is_flipped, flip_of, flips_of}

flipped_by : (test : Bool) (line : Line) (lines : List Line) → test ≡ true →
    map flip_of (cond test (line ∷ lines) lines) ≡ flip_of line ∷ map flip_of lines
flipped_by true line lines e = refl
flipped_by false line lines e = absurd (false≢true e)

kept_by : (test : Bool) (line : Line) (lines : List Line) → test ≡ false →
    map flip_of (cond test (line ∷ lines) lines) ≡ map flip_of lines
kept_by true line lines e = absurd (false≢true (sym e))
kept_by false line lines e = refl

module _ (filters : List Filter) (name : List ℕ) (left rest : List Line) (line : Line) (next : left ≡ line ∷ rest) where
  -- a line whose flag is another one is listed
  pub listed : (flips new whole : List Flip) → is_flipped filters name line ≡ true → new ≡ flips ++ flip_of line ∷ [] →
      flips ++ flips_of filters name left ≡ whole → new ++ flips_of filters name rest ≡ whole
  listed flips new whole flipped put was =
      let first = flipped_by (is_flipped filters name line) line (filter (is_flipped filters name) rest) flipped in
      ap (λ l. l ++ flips_of filters name rest) put ∙ append_assoc flips (flip_of line ∷ []) (flips_of filters name rest)
      ∙ ap (λ l. flips ++ l) (sym first ∙ ap (flips_of filters name) (sym next)) ∙ was

  -- another line is not
  pub passed : (flips whole : List Flip) → is_flipped filters name line ≡ false →
      flips ++ flips_of filters name left ≡ whole → flips ++ flips_of filters name rest ≡ whole
  passed flips whole same was =
      let first = kept_by (is_flipped filters name line) line (filter (is_flipped filters name) rest) same in
      ap (λ l. flips ++ l) (sym first ∙ ap (flips_of filters name) (sym next)) ∙ was
