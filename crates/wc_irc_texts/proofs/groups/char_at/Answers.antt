use Rattle.std.proofs.Common.{◌≡◌, ◌<◌, length, ap, sym, ◌∙◌, arith, codes, slice_index_or, List, ℕ}
use Rattle.std.proofs.lemmas.Bool.Decides.{nat_tests}
use Rattle.wc_irc_texts.specs.Texts.{char_texts}
use Rattle.wc_irc_texts.proofs.TextLemmas.{after_char-shorter}
use Rattle.wc_irc_texts.proofs.ListedLemmas.{char_here, char_later, no_char}
use Rattle.wc_irc_texts.proofs.groups.char_at.Goals as goal

pub returns-then-left-eq0 : goal.returns-then-left-eq0
returns-then-left-eq0 c =
    let rest = c.loop-rest.rest.now in
    let some : 0 < length rest = grind (arith, nat_tests) in
    sym (ap (λ n. slice_index_or (char_texts rest) n (codes " ")) c.if-left-eq0.true ∙ char_here rest c.cut_char.result.0.now (codes " ") some c.cut_char.ensures.first) ∙ c.loop-rest.invariant

pub loop-rest-smaller : goal.loop-rest-smaller
loop-rest-smaller c =
    let rest = c.loop-rest.rest.now in
    let some : 0 < length rest = grind (arith, nat_tests) in
    omega (arith, ap (λ (l : List ℕ). length l) c.cut_char.ensures.rest, after_char-shorter rest some)

pub loop-rest-preserved : goal.loop-rest-preserved
loop-rest-preserved c =
    let rest = c.loop-rest.rest.now in
    let some : 0 < length rest = grind (arith, nat_tests) in
    let more : 0 < c.loop-rest.left = omega arith in
    sym (char_later rest c.cut_char.result.1.now c.loop-rest.left (codes " ") some c.cut_char.ensures.rest more) ∙ c.loop-rest.invariant

pub returns : goal.returns
returns c =
    let none : length c.loop-rest.rest.now ≡ 0 = grind (arith, nat_tests) in
    sym (no_char c.loop-rest.rest.now c.loop-rest.left (codes " ") none) ∙ c.loop-rest.invariant
