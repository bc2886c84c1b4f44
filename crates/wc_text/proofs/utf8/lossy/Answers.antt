use Rattle.std.proofs.Common.{◌≡◌, ◌++◌, ◌∷◌, length, ◌∙◌, ap, sym, arith}
use Rattle.std.specs.Str.Lossy.{replacement_bytes}
use Rattle.std.proofs.lemmas.Bool.Decides.{nat_tests}
use Rattle.std.proofs.lemmas.Result.{IfOk-weaker}
use Rattle.wc_text.specs.Lossy.{char_len, lossy_of}
use Rattle.wc_text.proofs.LossyLemmas.{next_lossy, end_lossy, whole_lossy}
use Rattle.wc_text.proofs.utf8.lossy.Goals as goal

pub returns-then-is_empty : goal.returns-then-is_empty
returns-then-is_empty c =
    let s = c.split_valid.ensures in
    let none : length c.split_valid.result.1.now ≡ 0 = grind (arith, nat_tests) in
    let same : c.args.bytes.now ≡ lossy_of c.args.bytes.now = whole_lossy c.args.bytes.now _ _ s.whole s.valid none in
    IfOk-weaker c.from_slice.result (λ text. text ≡ c.args.bytes.now) _ (λ text e. e ∙ same) c.from_slice.ensures

pub returns-in_default : goal.returns-in_default
returns-in_default c =
    let s = c.split_valid-in-loop-text.ensures in
    c.in_ok-append.ensures.ok ∙ end_lossy c.loop-text.text _ c.loop-text.rest.now _ _ c.loop-text.invariant s.whole s.valid c.in_default.ensures.cases

pub loop-text-preserved : goal.loop-text-preserved
loop-text-preserved c =
    let s = c.split_valid-in-loop-text.ensures in
    let valid = c.split_valid-in-loop-text.result.0.now in
    let first : c.split_valid-in-loop-text.result.1.now ≡ c.in-Some.field-0-0.now ∷ c.in-Some.following.now = c.in-Some.ensures.cases.0 in
    ap (λ text. text ++ lossy_of c.in-Some.following.now) (c.in_ok-append-2.ensures.ok ∙ ap (λ text. text ++ replacement_bytes) c.in_ok-append.ensures.ok)
    ∙ next_lossy c.loop-text.text valid c.loop-text.rest.now c.in-Some.following.now _ c.in-Some.field-0-0.now c.loop-text.invariant
    (s.whole ∙ ap (λ bytes. valid ++ bytes) first) s.valid (sym (ap char_len first) ∙ s.no_char)
