use Rattle.std.proofs.Common.{◌≡◌, ◌<◌, ◌-◌, length, ap, sym, ◌∙◌, arith, option_map}
use Rattle.std.proofs.lemmas.Bool.Decides.{nat_tests}
use Rattle.wc_text.specs.Splits.{past}
use Rattle.wc_triggers.specs.Words.{words_up_to}
use Rattle.wc_triggers.proofs.WordLemmas.{words_after, next_of, wrong_of, too_many, all_words}
use Rattle.wc_triggers.proofs.words.words_of.Goals as goal

pub returns-then-left-eq0 : goal.returns-then-left-eq0
returns-then-left-eq0 c =
    let rest = c.loop-rest.rest.now in
    let some : 0 < length rest = grind (arith, nat_tests) in
    too_many c.loop-rest.words c.loop-rest.left rest (words_up_to 8 (past 32 c.args.text.now)) c.if-left-eq0.true some c.loop-rest.invariant

pub returns-in_default : goal.returns-in_default
returns-in_default c =
    let rest = c.loop-rest.rest.now in
    let some : 0 < length rest = grind (arith, nat_tests) in
    wrong_of c.loop-rest.words c.loop-rest.left rest (words_up_to 8 (past 32 c.args.text.now)) (omega arith) some c.loop-rest.invariant
    (ap (option_map _) (sym c.in_default.is) ∙ c.in_ok-word.ensures)

pub loop-rest-preserved : goal.loop-rest-preserved
loop-rest-preserved c =
    let rest = c.loop-rest.rest.now in
    let some : 0 < length rest = grind (arith, nat_tests) in
    ap (λ words. words_after words (words_up_to (c.loop-rest.left - 1) c.in-Some.following.now)) c.in_ok-push.ensures.ok
    ∙ next_of c.loop-rest.words c.loop-rest.left rest (words_up_to 8 (past 32 c.args.text.now)) c.in-Some.word c.in-Some.following.now
    (omega arith) some c.loop-rest.invariant (ap (option_map _) (sym c.in-Some.is) ∙ c.in_ok-word.ensures)

pub returns : goal.returns
returns c =
    let none : length c.loop-rest.rest.now ≡ 0 = grind (arith, nat_tests) in
    all_words c.loop-rest.words c.loop-rest.left c.loop-rest.rest.now (words_up_to 8 (past 32 c.args.text.now)) none c.loop-rest.invariant
