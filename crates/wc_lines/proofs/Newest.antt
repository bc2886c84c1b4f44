-- The newest line, by its place.
use Rattle.std.proofs.Common.{◌≡◌, suc, ◌-◌, ◌<◌, ltb, List, [], ◌∷◌, length, get_or, Option, Some, None, is_some, IfSome, option_map, Bor, refl, sym, ap, ◌∙◌, arith}
use Rattle.std.proofs.lemmas.Bool.{false≢true}
use Rattle.std.proofs.lemmas.Bool.Decides.{nat_tests}
use Rattle.wc_lines.specs.declared.line.Line.{Line}
use Rattle.wc_lines.specs.Ring.{newest}

last : (line : Line) (lines : List Line) (d : Line) → newest (line ∷ lines) ≡ Some (get_or (line ∷ lines) (length lines) d)
last line [] d = refl
last line (next ∷ lines) d = last next lines d

-- what is at the last place is the newest line
pub newest_at : (o : Option (Bor Line)) (lines : List Line) → is_some o ≡ ltb 0 (length lines)
    → IfSome o (λ x. x.now ≡ get_or lines (length lines - 1) x.now) → option_map (λ (x : Bor Line). x.now) o ≡ newest lines
newest_at None [] some is = refl
newest_at None (line ∷ lines) some is = absurd (false≢true (some ∙ (let more : 0 < suc (length lines) = omega arith in grind (arith, nat_tests))))
newest_at (Some x) [] some is = absurd (false≢true (sym some))
newest_at (Some x) (line ∷ lines) some is =
    let place : suc (length lines) - 1 ≡ length lines = omega arith in
    ap Some (is ∙ ap (λ n. get_or (line ∷ lines) n x.now) place) ∙ sym (last line lines x.now)
