use Rattle.std.proofs.Common.{◌≡◌, ◌++◌, ◌<◌, length, ap, sym, ◌∙◌, arith, append_assoc, append-nil}
use Rattle.std.proofs.lemmas.List.{nil_from_length}
use Rattle.std.proofs.lemmas.Bool.Decides.{nat_tests}
use Rattle.wc_irc_texts.specs.Texts.{plain_after}
use Rattle.wc_irc_texts.specs.TextsSeen.{before_format, from_format, past_format}
use Rattle.wc_irc_texts.proofs.TextLemmas.{plain-shorter, plain-step, plain_made}
use Rattle.wc_irc_texts.proofs.formatting.plain.Goals as goal

pub loop-rest-smaller : goal.loop-rest-smaller
loop-rest-smaller c =
    let rest = c.loop-rest.rest.now in
    let left : c.past_format-rest.result.now ≡ past_format (from_format rest) = c.past_format-rest.ensures ∙ ap past_format c.cut_format.ensures.back in
    let some : 0 < length rest = grind (arith, nat_tests) in
    omega (arith, ap length left, plain-shorter rest some)

pub loop-rest-preserved : goal.loop-rest-preserved
loop-rest-preserved c =
    let rest = c.loop-rest.rest.now in
    let left : c.past_format-rest.result.now ≡ past_format (from_format rest) = c.past_format-rest.ensures ∙ ap past_format c.cut_format.ensures.back in
    let kept : c.append.new.self ≡ c.loop-rest.bare ++ before_format rest = c.in_ok-append.ensures.ok ∙ ap (λ t. c.loop-rest.bare ++ t) c.cut_format.ensures.front in
    ap (λ t. t ++ plain_after 0 c.past_format-rest.result.now) kept
    ∙ append_assoc c.loop-rest.bare (before_format rest) (plain_after 0 c.past_format-rest.result.now)
    ∙ ap (λ t. c.loop-rest.bare ++ (before_format rest ++ plain_after 0 t)) left
    ∙ ap (λ t. c.loop-rest.bare ++ t) (plain-step rest) ∙ c.loop-rest.invariant

pub returns : goal.returns
returns c =
    let none : length c.loop-rest.rest.now ≡ 0 = grind (arith, nat_tests) in
    sym (append-nil c.loop-rest.bare) ∙ sym (ap (λ t. c.loop-rest.bare ++ plain_after 0 t) (nil_from_length c.loop-rest.rest.now none)) ∙ c.loop-rest.invariant ∙ sym (plain_made c.args.text.now)
