use Rattle.std.proofs.Common.{◌≡◌, ℕ, List, [], ◌∷◌, ◌++◌, length, ◌+◌, ◌<◌, Err, IsUtf8, refl, ap, sym, subst, ◌∙◌}
use Rattle.std.proofs.lemmas.Str.{IsUtf8-append, IsUtf8-nil}
use Rattle.wc_eval.specs.Verdicts.{Oracle}
use Rattle.wc_eval.specs.Names.{facts_of}
use Rattle.wc_eval.specs.Replaced.{Groups, match_span, text_between, value_at, replaced_text}
use Rattle.wc_eval.proofs.StepLemmas.{stay_same, stay_both, gives_error, gives_over}
use Rattle.wc_eval.proofs.ReplacedLemmas.{nothing, matches_begin, matches_end, end_over, plain_over, match_stops, made_over, match_next}
use Rattle.wc_eval.proofs.replaced.replaced_text.Goals as goal

at_first : (rest others : List Groups) (found slice : Groups) → rest ≡ found ∷ others → slice ≡ found → rest ≡ slice ∷ others
at_first rest others found slice first same = first ∙ ap (λ m. m ∷ others) (sym same)

before_is : (text plain : List ℕ) (at start : ℕ) (span : ℕ × ℕ) (m : Groups) → plain ≡ text_between text at start → start ≡ span.0 → span ≡ match_span m →
    plain ≡ text_between text at (match_span m).0
before_is text plain at start span m is begins spans = is ∙ ap (text_between text at) (begins ∙ ap (λ s. s.0) spans)

pub matches-init : goal.matches-init
matches-init c = record {
  comes = matches_begin (facts_of c.args.scope) c.args.replacement.now c.args.text.now c.new-value.result 0 c.args.matches.now c.args.matches.now
      c.args.verdicts.now c.args.kept.now c.new-value.ensures refl refl;
  stay = stay_same c.args.verdicts.now;
  made = subst IsUtf8 (sym c.new-value.ensures) IsUtf8-nil;
}

pub returns-in_err-append-clause-gives : goal.returns-in_err-append-clause-gives
returns-in_err-append-clause-gives c =
    let old = c.matches in
    let text = c.args.text.now in
    let whole = λ (oracle : Oracle). replaced_text (facts_of c.args.scope) oracle c.args.replacement.now text c.args.matches.now in
    let replacer = λ (oracle : Oracle). value_at (facts_of c.args.scope) oracle c.args.replacement.now in
    let m = c.as_slice-groups.result.now in
    let first = at_first old.rest.now c.in-Some.others.now c.in-Some.found.now m c.in-Some.ensures.cases.0 c.as_slice-groups.ensures in
    let is = before_is text c.text_between.result.now old.at _ c.match_span-start.result m c.text_between.ensures.value refl c.match_span-start.ensures in
    let stop = c.in_err-append.field-0.0 in
    let error = c.from_residual in
    gives_error old.verdicts c.args.kept.now old.kept whole stop error.result error.ensures.1
    (gives_over old.verdicts c.args.kept.now old.kept whole stop (λ e.
    plain_over whole replacer text old.value c.text_between.result.now [] old.at old.rest.now old.verdicts c.args.kept.now old.kept old.invariant.comes
    m c.in-Some.others.now first is (c.in_err-append.ensures.over (ap Err e))))

pub returns-in_err-made-clause-gives : goal.returns-in_err-made-clause-gives
returns-in_err-made-clause-gives c =
    let old = c.matches in
    let text = c.args.text.now in
    let whole = λ (oracle : Oracle). replaced_text (facts_of c.args.scope) oracle c.args.replacement.now text c.args.matches.now in
    let replacer = λ (oracle : Oracle). value_at (facts_of c.args.scope) oracle c.args.replacement.now in
    let m = c.as_slice-groups.result.now in
    let first = at_first old.rest.now c.in-Some.others.now c.in-Some.found.now m c.in-Some.ensures.cases.0 c.as_slice-groups.ensures in
    let is = before_is text c.text_between.result.now old.at _ c.match_span-start.result m c.text_between.ensures.value refl c.match_span-start.ensures in
    let stop = c.in_err-made.field-0.0 in
    let error = c.from_residual-in_err-made in
    gives_error c.value_at.new.verdicts c.args.kept.now c.value_at.new.kept whole stop error.result error.ensures.1
    (match_stops whole replacer text old.value c.text_between.result.now c.append.new.value old.at old.rest.now old.verdicts c.args.kept.now old.kept old.invariant.comes
    m c.in-Some.others.now first is c.value_at.new.verdicts c.value_at.new.kept c.in_ok-append.ensures.ok c.value_at.ensures.stay stop c.in_err-made.ensures.gives)

pub returns-in_err-append-2-clause-gives : goal.returns-in_err-append-2-clause-gives
returns-in_err-append-2-clause-gives c =
    let old = c.matches in
    let text = c.args.text.now in
    let whole = λ (oracle : Oracle). replaced_text (facts_of c.args.scope) oracle c.args.replacement.now text c.args.matches.now in
    let replacer = λ (oracle : Oracle). value_at (facts_of c.args.scope) oracle c.args.replacement.now in
    let m = c.as_slice-groups.result.now in
    let first = at_first old.rest.now c.in-Some.others.now c.in-Some.found.now m c.in-Some.ensures.cases.0 c.as_slice-groups.ensures in
    let is = before_is text c.text_between.result.now old.at _ c.match_span-start.result m c.text_between.ensures.value refl c.match_span-start.ensures in
    let stop = c.in_err-append-2.field-0.0 in
    let error = c.from_residual-in_err-append-2 in
    gives_error c.value_at.new.verdicts c.args.kept.now c.value_at.new.kept whole stop error.result error.ensures.1
    (gives_over c.value_at.new.verdicts c.args.kept.now c.value_at.new.kept whole stop (λ e.
    made_over whole replacer text old.value c.text_between.result.now c.append.new.value old.at old.rest.now old.verdicts c.args.kept.now old.kept old.invariant.comes
    m c.in-Some.others.now first is c.value_at.new.verdicts c.value_at.new.kept c.in_ok-append.ensures.ok c.value_at.ensures.stay
    c.in_ok-made.made c.in_ok-made.ensures.gives
    (subst (λ l. 65536 < length c.append.new.value + length l) c.as_slice.ensures (c.in_err-append-2.ensures.over (ap Err e)))))

pub matches-preserved : goal.matches-preserved
matches-preserved c =
    let old = c.matches in
    let text = c.args.text.now in
    let whole = λ (oracle : Oracle). replaced_text (facts_of c.args.scope) oracle c.args.replacement.now text c.args.matches.now in
    let replacer = λ (oracle : Oracle). value_at (facts_of c.args.scope) oracle c.args.replacement.now in
    let m = c.as_slice-groups.result.now in
    let first = at_first old.rest.now c.in-Some.others.now c.in-Some.found.now m c.in-Some.ensures.cases.0 c.as_slice-groups.ensures in
    let is = before_is text c.text_between.result.now old.at _ c.match_span-start.result m c.text_between.ensures.value refl c.match_span-start.ensures in
    let more = c.in_ok-append-2.ensures.ok ∙ ap (λ l. c.append.new.value ++ l) c.as_slice.ensures in
    record {
      comes = match_next whole replacer text old.value c.text_between.result.now c.append.new.value old.at old.rest.now old.verdicts c.args.kept.now old.kept old.invariant.comes
          m c.in-Some.others.now first is c.value_at.new.verdicts c.value_at.new.kept c.in_ok-append.ensures.ok c.value_at.ensures.stay
          c.in_ok-made.made c.in_ok-made.ensures.gives c.append-in-Some.new.value _ more (ap (λ s. s.1) c.match_span-start.ensures);
      stay = stay_both c.args.verdicts.now old.verdicts c.value_at.new.verdicts old.invariant.stay c.value_at.ensures.stay;
      made = subst IsUtf8 (sym more) (IsUtf8-append c.append.new.value c.in_ok-made.made
          (subst IsUtf8 (sym c.in_ok-append.ensures.ok) (IsUtf8-append old.value c.text_between.result.now old.invariant.made c.text_between.ensures.utf8))
          c.in_ok-made.ensures.utf8);
    }

-- behind the loop
pub returns-in_err-append-3-clause-gives : goal.returns-in_err-append-3-clause-gives
returns-in_err-append-3-clause-gives c =
    let old = c.matches in
    let text = c.args.text.now in
    let whole = λ (oracle : Oracle). replaced_text (facts_of c.args.scope) oracle c.args.replacement.now text c.args.matches.now in
    let replacer = λ (oracle : Oracle). value_at (facts_of c.args.scope) oracle c.args.replacement.now in
    let plain = c.text_between-2.result.now in
    let stop = c.in_err-append-3.field-0.0 in
    let error = c.from_residual-in_err-append-3 in
    gives_error old.verdicts c.args.kept.now old.kept whole stop error.result error.ensures.1
    (gives_over old.verdicts c.args.kept.now old.kept whole stop (λ e.
    end_over whole replacer text old.value plain [] old.at old.rest.now old.verdicts c.args.kept.now old.kept old.invariant.comes
    (nothing old.rest.now c.in_default.ensures.cases) c.text_between-2.ensures.value (c.in_err-append-3.ensures.over (ap Err e))))

pub returns-clause-gives : goal.returns-clause-gives
returns-clause-gives c =
    let old = c.matches in
    let text = c.args.text.now in
    let whole = λ (oracle : Oracle). replaced_text (facts_of c.args.scope) oracle c.args.replacement.now text c.args.matches.now in
    let replacer = λ (oracle : Oracle). value_at (facts_of c.args.scope) oracle c.args.replacement.now in
    matches_end whole replacer text old.value c.text_between-2.result.now c.append-2.new.value old.at old.rest.now old.verdicts c.args.kept.now old.kept old.invariant.comes
    (nothing old.rest.now c.in_default.ensures.cases) c.text_between-2.ensures.value c.in_ok-append-3.ensures.ok c.in_ok-append-3.ensures.short

pub returns-clause-utf8 : goal.returns-clause-utf8
returns-clause-utf8 c =
    subst IsUtf8 (sym c.in_ok-append-3.ensures.ok) (IsUtf8-append c.matches.value c.text_between-2.result.now c.matches.invariant.made c.text_between-2.ensures.utf8)
