use Rattle.std.proofs.Common.{◌≡◌, ◌<◌, true, false, length, ap, sym, ◌∙◌, arith, List, ℕ}
use Rattle.std.specs.Prelude.{bytes_eq}
use Rattle.std.proofs.lemmas.Bool.Decides.{nat_tests}
use Rattle.wc_irc_texts.specs.Listed.{place_among}
use Rattle.wc_irc_texts.specs.Texts.{char_texts}
use Rattle.wc_irc_texts.proofs.TextLemmas.{after_char-shorter}
use Rattle.wc_irc_texts.proofs.ListedLemmas.{shifted, shifted-suc, shifted-here, among-step, among-none}
use Rattle.wc_irc_texts.proofs.listed.place_among.Goals as goal

pub returns-then-eq : goal.returns-then-eq
returns-then-eq c =
    let rest = c.loop-character.rest.now in
    let some : 0 < length rest = grind (arith, nat_tests) in
    let is : bytes_eq c.args.character.now c.cut_char.result.0.now ≡ true = sym c.eq.ensures ∙ c.if-eq.true in
    shifted-here c.loop-character.place
    ∙ sym (ap (shifted c.loop-character.place) (among-step rest c.cut_char.result.0.now c.cut_char.result.1.now c.args.character.now true some c.cut_char.ensures.first c.cut_char.ensures.rest is))
    ∙ c.loop-character.invariant.same

pub loop-character-smaller : goal.loop-character-smaller
loop-character-smaller c =
    let rest = c.loop-character.rest.now in
    let some : 0 < length rest = grind (arith, nat_tests) in
    omega (arith, ap (λ (l : List ℕ). length l) c.cut_char.ensures.rest, after_char-shorter rest some)

pub loop-character-preserved : goal.loop-character-preserved
loop-character-preserved c =
    let rest = c.loop-character.rest.now in
    let some : 0 < length rest = grind (arith, nat_tests) in
    let is : bytes_eq c.args.character.now c.cut_char.result.0.now ≡ false = sym c.eq.ensures ∙ c.if-eq.false in
    record {
      few = omega (arith, ap (λ (l : List ℕ). length l) c.cut_char.ensures.rest, after_char-shorter rest some, c.loop-character.invariant.few);
      same =
          sym (shifted-suc c.loop-character.place (place_among (char_texts c.cut_char.result.1.now) c.args.character.now))
          ∙ sym (ap (shifted c.loop-character.place) (among-step rest c.cut_char.result.0.now c.cut_char.result.1.now c.args.character.now false some c.cut_char.ensures.first c.cut_char.ensures.rest is))
          ∙ c.loop-character.invariant.same;
    }

pub returns : goal.returns
returns c =
    let none : length c.loop-character.rest.now ≡ 0 = grind (arith, nat_tests) in
    sym (ap (shifted c.loop-character.place) (among-none c.loop-character.rest.now c.args.character.now none)) ∙ c.loop-character.invariant.same
