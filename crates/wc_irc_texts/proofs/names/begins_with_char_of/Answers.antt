use Rattle.std.proofs.Common.{◌≡◌, ◌<◌, true, false, length, ap, sym, ◌∙◌, arith}
use Rattle.std.proofs.lemmas.List.{nil_from_length}
use Rattle.std.proofs.lemmas.Bool.Decides.{nat_tests}
use Rattle.wc_irc_texts.specs.Names.{begins_with_char_of, begins_with_text}
use Rattle.wc_irc_texts.proofs.TextLemmas.{begins-step, no_chars_begin}
use Rattle.wc_irc_texts.proofs.names.begins_with_char_of.Goals as goal

pub returns-then-begins_with_text : goal.returns-then-begins_with_text
returns-then-begins_with_text c =
    let text = c.args.text.now in
    let rest = c.loop-rest.rest.now in
    let some : 0 < length rest = grind (arith, nat_tests) in
    let yes : begins_with_text text c.cut_char.result.0.now ≡ true = sym c.begins_with_text.ensures ∙ c.if-begins_with_text.true in
    sym (begins-step text rest c.cut_char.result.0.now c.cut_char.result.1.now true some c.cut_char.ensures.first c.cut_char.ensures.rest yes) ∙ c.loop-rest.invariant

pub loop-rest-preserved : goal.loop-rest-preserved
loop-rest-preserved c =
    let text = c.args.text.now in
    let rest = c.loop-rest.rest.now in
    let some : 0 < length rest = grind (arith, nat_tests) in
    let no : begins_with_text text c.cut_char.result.0.now ≡ false = sym c.begins_with_text.ensures ∙ c.if-begins_with_text.false in
    sym (begins-step text rest c.cut_char.result.0.now c.cut_char.result.1.now false some c.cut_char.ensures.first c.cut_char.ensures.rest no) ∙ c.loop-rest.invariant

pub returns : goal.returns
returns c =
    let none : length c.loop-rest.rest.now ≡ 0 = grind (arith, nat_tests) in
    sym (no_chars_begin c.args.text.now) ∙ sym (ap (λ t. begins_with_char_of t c.args.text.now) (nil_from_length c.loop-rest.rest.now none)) ∙ c.loop-rest.invariant
