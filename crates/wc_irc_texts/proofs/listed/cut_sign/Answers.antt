use Rattle.std.proofs.Common.{◌≡◌, ◌<◌, length, sym, ◌∙◌, arith}
use Rattle.std.proofs.lemmas.Bool.Decides.{nat_tests}
use Rattle.wc_irc_texts.specs.Texts.{char_texts}
use Rattle.wc_irc_texts.proofs.ListedLemmas.{empty_cut, no_sign, one_sign}
use Rattle.wc_irc_texts.proofs.listed.cut_sign.Goals as goal

pub returns-then-is_empty : goal.returns-then-is_empty
returns-then-is_empty c =
    let none : length c.args.name.now ≡ 0 = grind (arith, nat_tests) in
    empty_cut (char_texts c.args.signs.now) c.args.name.now none

pub returns-in-Some : goal.returns-in-Some
returns-in-Some c =
    let some : 0 < length c.args.name.now = grind (arith, nat_tests) in
    one_sign (char_texts c.args.signs.now) c.args.name.now c.cut_char.result.0.now c.cut_char.result.1.now c.in-Some.place some c.cut_char.ensures.first c.cut_char.ensures.rest (sym c.place_among.ensures ∙ c.in-Some.is)

pub returns-in-None : goal.returns-in-None
returns-in-None c =
    let some : 0 < length c.args.name.now = grind (arith, nat_tests) in
    no_sign (char_texts c.args.signs.now) c.args.name.now c.cut_char.result.0.now c.cut_char.result.1.now some c.cut_char.ensures.first c.cut_char.ensures.rest (sym c.place_among.ensures ∙ c.in-None.is)
