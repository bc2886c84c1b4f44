use Rattle.std.proofs.Common.{◌≡◌, ℕ, List, [], ◌++◌, ◌∙◌, Some, Ok, Err, ap, sym, subst, refl, arith, IsUtf8, option_map, get_or, Vec, Bor, Global, All, drop, length, ◌+◌, ◌<◌, OnOk}
use Rattle.std.proofs.lemmas.Str.{IsUtf8-append, IsUtf8-nil}
use Rattle.std.proofs.lemmas.List.Elements.{All-nil, All-push}
use Rattle.wc_eval.specs.Texts.{without_blanks}
use Rattle.wc_eval.specs.Walks.{CutsToForm}
use Rattle.wc_eval.specs.declared.kind.Kind.{Kind}
use Rattle.wc_eval.specs.declared.kind.Kind.TheVariants as kind
use Rattle.wc_eval.specs.Kinds.{commas_of}
use Rattle.wc_eval.specs.Arguments.{arguments_of, lent_texts}
use Rattle.wc_eval.specs.Names.{facts_of, AreTexts}
use Rattle.wc_eval.specs.Progress.{Gives}
use Rattle.wc_eval.specs.LongValues.{GivesLong}
use Rattle.wc_eval.specs.Conditions.{condition_by, inside_at, side_of}
use Rattle.wc_eval.specs.Meaning.{evaluator, form_at, kind_value, if_value, values_by, call_by, call_value, after_call}
use Rattle.wc_eval.proofs.Utf8Lemmas.{blanks_utf8, group_utf8, kind_utf8, form_utf8}
use Rattle.wc_eval.proofs.StepLemmas.{stay_same, stay_both, gives_error, gives_over, gives_then}
use Rattle.wc_eval.proofs.MeaningLemmas.{text_begin, text_end, text_over, form_stops, made_over, text_next}
use Rattle.wc_eval.proofs.MeaningLemmas.{form_enters, form_value, values_begin, values_end, values_stop, values_next}
use Rattle.wc_eval.proofs.MeaningLemmas.{lent_at, lent_none, lent_utf8}
use Rattle.wc_eval.specs.Values.{Makes}
use Rattle.wc_eval.proofs.KindValues.{long_from, long_same, long_error, fits_from, fits_stops, fits_utf8}
use Rattle.wc_eval.proofs.KindValues.{kind_calls, if_digit, if_taken, call_lacks, call_stops}
use Rattle.wc_eval.proofs.KindValues.{call_makes, branch_utf8, if_utf8, arguments_utf8}
use Rattle.wc_eval.proofs.EndLemmas.{condition_over, condition_few}
use Rattle.wc_eval.proofs.TurnLemmas.{turns_begin, turns_next, begin_utf8}
use Rattle.wc_eval.proofs.TurnLemmas.{turn_utf8, sides_utf8, side_text, side_plain, side_stops}
use Rattle.wc_eval.proofs.context.Context.+eval.Goals as goal

bare_utf8 : (text bare : List ℕ) → bare ≡ without_blanks text → IsUtf8 text → IsUtf8 bare
bare_utf8 text bare e utf8 = subst IsUtf8 (sym e) (blanks_utf8 text utf8)

-- ---- a text

pub text-forms-init : goal.text-forms-init
text-forms-init t c = record {
  comes = text_begin (facts_of c.args.self.scope) c.args.self.levels c.args.text.now
      c.args.verdicts.now c.args.kept.now c.new-value.result c.new-value.ensures;
  stay = stay_same c.args.verdicts.now;
  made = subst IsUtf8 (sym c.new-value.ensures) IsUtf8-nil;
  utf8 = c.requires.text;
}

pub text-returns-in_err-append-clause-gives : goal.text-returns-in_err-append-clause-gives
text-returns-in_err-append-clause-gives t c =
    let old = c.forms in
    let cut = c.cut_to_form in
    let stop = c.in_err-append.field-0.0 in
    let error = c.from_residual in
    gives_error old.verdicts c.args.kept.now old.kept (λ oracle. evaluator (facts_of c.args.self.scope) oracle
    c.args.self.levels c.args.text.now) stop error.result error.ensures.1
    (gives_over old.verdicts c.args.kept.now old.kept (λ oracle. evaluator (facts_of c.args.self.scope) oracle
    c.args.self.levels c.args.text.now) stop (λ e. text_over (λ oracle. evaluator (facts_of c.args.self.scope) oracle
    c.args.self.levels c.args.text.now)
    (λ oracle. form_at (facts_of c.args.self.scope) oracle c.args.self.levels) old.value
    cut.result.0.now old.rest.now [] old.verdicts c.args.kept.now old.kept old.invariant.comes
    cut.result.1 cut.ensures.form (c.in_err-append.ensures.over (ap Err e))))

pub text-returns-in_default-clause-gives : goal.text-returns-in_default-clause-gives
text-returns-in_default-clause-gives t c =
    let old = c.forms in
    let cut = c.cut_to_form in
    text_end (λ oracle. evaluator (facts_of c.args.self.scope) oracle
    c.args.self.levels c.args.text.now)
    (λ oracle. form_at (facts_of c.args.self.scope) oracle c.args.self.levels) old.value
    cut.result.0.now old.rest.now c.append.new.value old.verdicts c.args.kept.now old.kept
    old.invariant.comes
    (subst (CutsToForm old.rest.now cut.result.0.now) c.in_default.is cut.ensures.form)
    c.in_ok-append.ensures.ok c.in_ok-append.ensures.short

pub text-returns-in_default-clause-utf8 : goal.text-returns-in_default-clause-utf8
text-returns-in_default-clause-utf8 t c =
    let old = c.forms in
    let cut = c.cut_to_form in
    let whole = subst (CutsToForm old.rest.now cut.result.0.now) c.in_default.is cut.ensures.form in
    subst IsUtf8 (sym c.in_ok-append.ensures.ok) (IsUtf8-append old.value cut.result.0.now
    old.invariant.made (subst IsUtf8 (sym whole.0) old.invariant.utf8))

pub text-form-requires : goal.text-form-requires
text-form-requires t c =
    let old = c.forms in
    let cut = c.cut_to_form in
    let cuts = subst (CutsToForm old.rest.now cut.result.0.now) c.in-Some.is cut.ensures.form in (
      omega (arith, c.decreases),
      (
        c.requires.scope,
        (form_utf8 old.rest.now cut.result.0.now
            c.in-Some.form.now c.in-Some.after.now cuts old.invariant.utf8).form_is,
      ),
    )

pub text-returns-in_err-made-clause-gives : goal.text-returns-in_err-made-clause-gives
text-returns-in_err-made-clause-gives t c =
    let old = c.forms in
    let cut = c.cut_to_form in
    let cuts = subst (CutsToForm old.rest.now cut.result.0.now) c.in-Some.is cut.ensures.form in
    let stop = c.in_err-made.field-0.0 in
    let error = c.from_residual-in_err-made in
    gives_error c.form.new.verdicts c.args.kept.now c.form.new.kept (λ oracle. evaluator (facts_of c.args.self.scope) oracle
    c.args.self.levels c.args.text.now) stop error.result
    error.ensures.1
    (form_stops (λ oracle. evaluator (facts_of c.args.self.scope) oracle
    c.args.self.levels c.args.text.now)
    (λ oracle. form_at (facts_of c.args.self.scope) oracle c.args.self.levels) old.value
    cut.result.0.now old.rest.now c.append.new.value old.verdicts c.args.kept.now old.kept
    old.invariant.comes c.form.new.verdicts c.form.new.kept (c.in-Some.form, c.in-Some.after) cuts
    c.in_ok-append.ensures.ok c.form.ensures.stay stop c.in_err-made.ensures.gives)

pub text-returns-in_err-append-2-clause-gives : goal.text-returns-in_err-append-2-clause-gives
text-returns-in_err-append-2-clause-gives t c =
    let old = c.forms in
    let cut = c.cut_to_form in
    let cuts = subst (CutsToForm old.rest.now cut.result.0.now) c.in-Some.is cut.ensures.form in
    let stop = c.in_err-append-2.field-0.0 in
    let error = c.from_residual-in_err-append-2 in
    gives_error c.form.new.verdicts c.args.kept.now c.form.new.kept (λ oracle. evaluator (facts_of c.args.self.scope) oracle
    c.args.self.levels c.args.text.now) stop error.result
    error.ensures.1
    (gives_over c.form.new.verdicts c.args.kept.now c.form.new.kept (λ oracle. evaluator (facts_of c.args.self.scope) oracle
    c.args.self.levels c.args.text.now) stop (λ e.
    made_over (λ oracle. evaluator (facts_of c.args.self.scope) oracle
    c.args.self.levels c.args.text.now)
    (λ oracle. form_at (facts_of c.args.self.scope) oracle c.args.self.levels) old.value
    cut.result.0.now old.rest.now c.append.new.value old.verdicts c.args.kept.now old.kept
    old.invariant.comes c.form.new.verdicts c.form.new.kept (c.in-Some.form, c.in-Some.after) cuts
    c.in_ok-append.ensures.ok c.form.ensures.stay c.in_ok-made.made c.in_ok-made.ensures.gives
    (subst (λ l. 65536 < length c.append.new.value + length l) c.as_slice.ensures
    (c.in_err-append-2.ensures.over (ap Err e)))))

pub text-forms-preserved : goal.text-forms-preserved
text-forms-preserved t c =
    let old = c.forms in
    let cut = c.cut_to_form in
    let cuts = subst (CutsToForm old.rest.now cut.result.0.now) c.in-Some.is cut.ensures.form in
    let parts = form_utf8 old.rest.now cut.result.0.now c.in-Some.form.now c.in-Some.after.now cuts
    old.invariant.utf8 in
    let more = c.in_ok-append-2.ensures.ok ∙ ap (λ l. c.append.new.value ++ l) c.as_slice.ensures in
    record {
      comes = text_next (λ oracle. evaluator (facts_of c.args.self.scope) oracle
          c.args.self.levels c.args.text.now)
          (λ oracle. form_at (facts_of c.args.self.scope) oracle c.args.self.levels) old.value
          cut.result.0.now old.rest.now c.append.new.value old.verdicts c.args.kept.now old.kept
          old.invariant.comes c.form.new.verdicts c.form.new.kept (c.in-Some.form, c.in-Some.after) cuts
          c.in_ok-append.ensures.ok c.form.ensures.stay c.in_ok-made.made c.in_ok-made.ensures.gives c.append-in-forms.new.value more;
      stay = stay_both c.args.verdicts.now old.verdicts c.form.new.verdicts old.invariant.stay
          c.form.ensures.stay;
      made = subst IsUtf8 (sym more) (IsUtf8-append c.append.new.value c.in_ok-made.made
          (subst IsUtf8 (sym c.in_ok-append.ensures.ok) (IsUtf8-append old.value cut.result.0.now
          old.invariant.made parts.front_is)) c.in_ok-made.ensures.utf8);
      utf8 = parts.rest_is;
    }

-- ---- a form

pub form-returns-in_err-inner-clause-gives : goal.form-returns-in_err-inner-clause-gives
form-returns-in_err-inner-clause-gives t c =
    let stop = c.in_err-inner.field-0.0 in
    let error = c.from_residual in
    gives_error c.args.verdicts.now c.args.kept.now c.enter.new.kept (λ oracle. form_at (facts_of c.args.self.scope) oracle
    c.args.self.levels c.args.inside.now) stop error.result
    error.ensures.1
    (form_enters (facts_of c.args.self.scope) c.args.self.levels c.args.inside.now
    c.args.verdicts.now c.args.kept.now c.enter.new.kept c.in_err-inner.ensures.over stop)

pub form-form_of_kind-requires : goal.form-form_of_kind-requires
form-form_of_kind-requires t c =
    let ok = c.in_ok-inner.ensures.ok in (
      omega (arith, c.decreases, ok.1),
      (
        subst (λ s. AreTexts (facts_of s)) (sym ok.0) c.requires.scope,
        subst (λ (f : Kind × List ℕ). IsUtf8 f.1) (sym c.cut-kind.ensures)
            (kind_utf8 c.args.inside.now c.requires.inside),
      ),
    )

pub form-returns-in_err-value-clause-gives : goal.form-returns-in_err-value-clause-gives
form-returns-in_err-value-clause-gives t c =
    let inner = c.in_ok-inner.inner in
    let made = c.form_of_kind in
    let stop = c.in_err-value.field-0.0 in
    let error = c.from_residual-in_err-value in
    gives_error made.new.verdicts c.args.kept.now made.new.kept (λ oracle. form_at (facts_of c.args.self.scope) oracle
    c.args.self.levels c.args.inside.now) stop error.result
    error.ensures.1
    (form_value (facts_of c.args.self.scope) (facts_of inner.scope)
    (ap facts_of c.in_ok-inner.ensures.ok.0) c.args.self.levels inner.levels c.args.inside.now
    c.cut-kind.result.1.now c.cut-kind.result.0 made.new.verdicts c.args.kept.now c.enter.new.kept
    made.new.kept c.in_ok-inner.ensures.ok.1 c.in_ok-inner.ensures.few c.in_ok-inner.ensures.ok.2
    c.cut-kind.ensures (Err stop)
    (fits_stops made.new.verdicts c.enter.new.kept made.new.kept (λ oracle. kind_value (facts_of inner.scope) oracle
    (evaluator (facts_of inner.scope) oracle inner.levels) c.cut-kind.result.0
    c.cut-kind.result.1.now) stop
    c.in_err-value.ensures.gives))

pub form-returns-clause-gives : goal.form-returns-clause-gives
form-returns-clause-gives t c =
    let inner = c.in_ok-inner.inner in
    let made = c.form_of_kind in
    form_value (facts_of c.args.self.scope) (facts_of inner.scope)
    (ap facts_of c.in_ok-inner.ensures.ok.0) c.args.self.levels inner.levels c.args.inside.now
    c.cut-kind.result.1.now c.cut-kind.result.0 made.new.verdicts c.args.kept.now c.enter.new.kept
    c.count_value.new.self c.in_ok-inner.ensures.ok.1 c.in_ok-inner.ensures.few c.in_ok-inner.ensures.ok.2
    c.cut-kind.ensures c.count_value.result
    (fits_from made.new.verdicts c.enter.new.kept made.new.kept (λ oracle. kind_value (facts_of inner.scope) oracle
    (evaluator (facts_of inner.scope) oracle inner.levels) c.cut-kind.result.0
    c.cut-kind.result.1.now) c.in_ok-value.value c.count_value.new.self
    c.count_value.result c.in_ok-value.ensures.gives c.count_value.ensures.fits)

pub form-returns-clause-utf8 : goal.form-returns-clause-utf8
form-returns-clause-utf8 t c =
    let made = c.form_of_kind in
    fits_utf8 c.in_ok-value.value made.new.kept c.count_value.new.self c.count_value.result
    c.count_value.ensures.fits c.in_ok-value.ensures.utf8

-- ---- a kind

pub form_of_kind-text-requires-in-Eval : goal.form_of_kind-text-requires-in-Eval
form_of_kind-text-requires-in-Eval t c = (
  omega (arith, c.decreases),
  (
    c.requires.scope,
    subst IsUtf8 (sym c.as_slice.ensures) c.in_ok-once-in-Eval.ensures.utf8,
  ),
)

pub form_of_kind-returns-in_ok-once-in-Eval-clause-gives : goal.form_of_kind-returns-in_ok-once-in-Eval-clause-gives
form_of_kind-returns-in_ok-once-in-Eval-clause-gives t c =
    let once = c.text in
    let twice = c.text-in-Eval in
    subst (λ k. GivesLong (λ oracle. kind_value (facts_of c.args.self.scope) oracle
    (evaluator (facts_of c.args.self.scope) oracle c.args.self.levels) k c.args.text.now)
    twice.new.verdicts c.args.kept.now twice.new.kept twice.result) (sym c.in-Eval.is)
    (long_from twice.new.verdicts c.args.kept.now twice.new.kept
    (λ oracle. kind_value (facts_of c.args.self.scope) oracle
    (evaluator (facts_of c.args.self.scope) oracle c.args.self.levels) kind.Eval c.args.text.now) twice.result
    (gives_then (λ oracle. evaluator (facts_of c.args.self.scope) oracle
    c.args.self.levels c.args.text.now)
    (λ oracle. evaluator (facts_of c.args.self.scope) oracle c.args.self.levels) once.new.verdicts
    twice.new.verdicts c.args.kept.now once.new.kept twice.new.kept c.in_ok-once-in-Eval.once twice.result
    c.in_ok-once-in-Eval.ensures.gives twice.ensures.stay
    (subst (λ l. Gives (λ oracle. evaluator (facts_of c.args.self.scope) oracle c.args.self.levels l)
    twice.new.verdicts once.new.kept twice.new.kept twice.result) c.as_slice.ensures
    twice.ensures.gives)))

pub form_of_kind-returns-in-If-clause-gives : goal.form_of_kind-returns-in-If-clause-gives
form_of_kind-returns-in-If-clause-gives t c =
    let taken = c.taken_branch in
    subst (λ k. GivesLong (λ oracle. kind_value (facts_of c.args.self.scope) oracle
    (evaluator (facts_of c.args.self.scope) oracle c.args.self.levels) k c.args.text.now)
    taken.new.verdicts c.args.kept.now taken.new.kept taken.result) (sym c.in-If.is)
    (long_from taken.new.verdicts c.args.kept.now taken.new.kept
    (λ oracle. kind_value (facts_of c.args.self.scope) oracle
    (evaluator (facts_of c.args.self.scope) oracle c.args.self.levels) kind.If c.args.text.now) taken.result
    taken.ensures.gives)

pub form_of_kind-returns-in_default-clause-gives : goal.form_of_kind-returns-in_default-clause-gives
form_of_kind-returns-in_default-clause-gives t c =
    let called = c.call in
    long_same called.new.verdicts c.args.kept.now called.new.kept
    (λ oracle. call_by (facts_of c.args.self.scope)
    (evaluator (facts_of c.args.self.scope) oracle c.args.self.levels) c.args.kind
    (arguments_of (commas_of c.args.kind) c.args.text.now))
    (λ oracle. kind_value (facts_of c.args.self.scope) oracle
    (evaluator (facts_of c.args.self.scope) oracle c.args.self.levels) c.args.kind c.args.text.now)
    (λ oracle progress. kind_calls (facts_of c.args.self.scope) oracle
    (evaluator (facts_of c.args.self.scope) oracle c.args.self.levels) c.args.kind c.args.text.now
    progress c.in_default.not-Raw c.in_default.not-Eval c.in_default.not-If) called.result
    called.ensures.gives

-- ---- branches

pub taken_branch-condition-requires : goal.taken_branch-condition-requires
taken_branch-condition-requires t c =
    (omega (arith, c.decreases), (c.requires.scope, c.requires.text))

pub taken_branch-returns-in_default-clause-gives : goal.taken_branch-returns-in_default-clause-gives
taken_branch-returns-in_default-clause-gives t c =
    let made = c.condition in
    let is = c.in_ok-from_slice.ensures ∙ c.digit.ensures in
    subst (λ l. Gives (λ oracle. if_value
    (evaluator (facts_of c.args.self.scope) oracle c.args.self.levels) (condition_by oracle
    (evaluator (facts_of c.args.self.scope) oracle c.args.self.levels)) c.args.text.now)
    made.new.verdicts c.args.kept.now made.new.kept (Ok l)) (sym is)
    (if_digit (λ oracle. evaluator (facts_of c.args.self.scope) oracle c.args.self.levels)
    (λ oracle. condition_by oracle (evaluator (facts_of c.args.self.scope) oracle c.args.self.levels))
    c.args.text.now c.in_default.ensures made.new.verdicts c.args.kept.now made.new.kept
    c.in_ok-holds.holds c.in_ok-holds.ensures.gives)

pub taken_branch-returns-clause-gives : goal.taken_branch-returns-clause-gives
taken_branch-returns-clause-gives t c =
    let made = c.condition-2 in
    if_taken (λ oracle. evaluator (facts_of c.args.self.scope) oracle c.args.self.levels)
    (λ oracle. condition_by oracle (evaluator (facts_of c.args.self.scope) oracle c.args.self.levels))
    c.args.text.now c.in-Some.condition.now c.in-Some.branches.now c.in-Some.ensures
    made.new.verdicts c.text.new.verdicts c.args.kept.now made.new.kept c.text.new.kept
    c.in_ok-holds-2.holds c.branch-branches.result.now c.text.result c.in_ok-holds-2.ensures.gives
    c.text.ensures.stay c.branch-branches.ensures c.text.ensures.gives

pub taken_branch-text-requires : goal.taken_branch-text-requires
taken_branch-text-requires t c =
    let both = if_utf8 c.args.text.now c.in-Some.condition.now c.in-Some.branches.now c.in-Some.ensures
    c.requires.text in (
      omega (arith, c.decreases),
      (
        c.requires.scope,
        branch_utf8 c.in-Some.branches.now
            c.branch-branches.result.now c.in_ok-holds-2.holds c.branch-branches.ensures both.1,
      ),
    )

pub taken_branch-condition-requires-2 : goal.taken_branch-condition-requires-2
taken_branch-condition-requires-2 t c = (
  omega (arith, c.decreases),
  (
    c.requires.scope,
    (if_utf8 c.args.text.now c.in-Some.condition.now
        c.in-Some.branches.now c.in-Some.ensures c.requires.text).0,
  ),
)

-- ---- calls

pub call-values-requires : goal.call-values-requires
call-values-requires t c =
    let found = ap (λ l. Some (lent_texts l)) c.as_slice.ensures.value
    ∙ ap (option_map (λ (texts : Vec (Bor (List ℕ)) Global). lent_texts texts.items)) (sym c.in-Some.is)
    ∙ c.in_ok-texts.ensures ∙ ap (λ n. arguments_of n c.args.text.now) c.commas.ensures in (
      omega (arith, c.decreases),
      (
        c.requires.scope,
        arguments_utf8 (commas_of c.args.kind)
            c.args.text.now (lent_texts c.as_slice.result.now) found c.requires.text,
      ),
    )

pub call-returns-in_default-clause-gives : goal.call-returns-in_default-clause-gives
call-returns-in_default-clause-gives t c =
    let lacks = ap (option_map (λ (texts : Vec (Bor (List ℕ)) Global). lent_texts texts.items)) (sym c.in_default.is)
    ∙ c.in_ok-texts.ensures ∙ ap (λ n. arguments_of n c.args.text.now) c.commas.ensures in
    subst (λ l. GivesLong (λ oracle. call_by (facts_of c.args.self.scope)
    (evaluator (facts_of c.args.self.scope) oracle c.args.self.levels) c.args.kind
    (arguments_of (commas_of c.args.kind) c.args.text.now))
    c.args.verdicts.now c.args.kept.now c.args.kept.now (Ok l)) (sym c.new.ensures)
    (call_lacks (facts_of c.args.self.scope) (λ oracle. evaluator (facts_of c.args.self.scope) oracle c.args.self.levels)
    c.args.kind (commas_of c.args.kind) c.args.text.now c.args.verdicts.now c.args.kept.now
    c.args.kept.now lacks)

pub call-returns-clause-gives : goal.call-returns-clause-gives
call-returns-clause-gives t c =
    let found = ap (λ l. Some (lent_texts l)) c.as_slice.ensures.value
    ∙ ap (option_map (λ (texts : Vec (Bor (List ℕ)) Global). lent_texts texts.items)) (sym c.in-Some.is)
    ∙ c.in_ok-texts.ensures ∙ ap (λ n. arguments_of n c.args.text.now) c.commas.ensures in
    let made = c.values in
    let called = c.call_value in
    call_makes (facts_of c.args.self.scope) (λ oracle. evaluator (facts_of c.args.self.scope) oracle c.args.self.levels)
    c.args.kind (commas_of c.args.kind) c.args.text.now made.new.verdicts c.args.kept.now made.new.kept
    (lent_texts c.as_slice.result.now) found c.in_ok-values.values called.new.kept called.result
    c.in_ok-values.ensures.gives
    (subst (λ l. Makes (call_value (facts_of c.args.self.scope) made.new.kept c.args.kind l) called.result)
    c.as_slice-2.ensures called.ensures.made)
    (subst (λ l. OnOk called.result (called.new.kept ≡ after_call c.args.kind l made.new.kept))
    c.as_slice-2.ensures called.ensures.kept)

pub call-returns-in_err-values-clause-gives : goal.call-returns-in_err-values-clause-gives
call-returns-in_err-values-clause-gives t c =
    let found = ap (λ l. Some (lent_texts l)) c.as_slice.ensures.value
    ∙ ap (option_map (λ (texts : Vec (Bor (List ℕ)) Global). lent_texts texts.items)) (sym c.in-Some.is)
    ∙ c.in_ok-texts.ensures ∙ ap (λ n. arguments_of n c.args.text.now) c.commas.ensures in
    let made = c.values in
    let stop = c.in_err-values.field-0.0 in
    let error = c.from_residual-in_err-values in
    long_error made.new.verdicts c.args.kept.now made.new.kept (λ oracle. call_by (facts_of c.args.self.scope)
    (evaluator (facts_of c.args.self.scope) oracle c.args.self.levels) c.args.kind
    (arguments_of (commas_of c.args.kind) c.args.text.now)) stop error.result
    error.ensures.1
    (call_stops (facts_of c.args.self.scope) (λ oracle. evaluator (facts_of c.args.self.scope) oracle c.args.self.levels)
    c.args.kind (commas_of c.args.kind) c.args.text.now made.new.verdicts c.args.kept.now made.new.kept
    (lent_texts c.as_slice.result.now) found stop c.in_err-values.ensures.gives)

pub values-loop-text-init : goal.values-loop-text-init
values-loop-text-init t c = record {
  comes = values_begin (λ oracle. evaluator (facts_of c.args.self.scope) oracle c.args.self.levels)
      (lent_texts c.args.texts.now) c.new-values.result (lent_texts c.args.texts.now)
      c.args.verdicts.now c.args.kept.now c.new-values.ensures refl;
  stay = stay_same c.args.verdicts.now;
  made = subst (All IsUtf8) (sym c.new-values.ensures) (All-nil IsUtf8);
}

pub values-text-requires : goal.values-text-requires
values-text-requires t c = (
  omega (arith, c.decreases),
  (
    c.requires.scope,
    lent_utf8 c.args.texts.now c.loop-text.text-index
        (record { ref_ptr = (0, 0); now = [] }) c.loop-text-test.true c.requires.texts,
  ),
)

pub values-loop-text-preserved : goal.values-loop-text-preserved
values-loop-text-preserved t c =
    let old = c.loop-text in
    let made = c.text in
    record {
      comes = values_next (λ oracle. evaluator (facts_of c.args.self.scope) oracle c.args.self.levels)
          (lent_texts c.args.texts.now) old.values (lent_texts (drop old.text-index c.args.texts.now))
          (lent_texts (drop (old.text-index + 1) c.args.texts.now))
          (get_or c.args.texts.now old.text-index (record { ref_ptr = (0, 0); now = [] })).now
          (lent_at c.args.texts.now old.text-index (record { ref_ptr = (0, 0); now = [] }) c.loop-text-test.true)
          old.verdicts made.new.verdicts c.args.kept.now old.kept made.new.kept old.invariant.comes
          made.ensures.stay c.in_ok-value.value c.push.new.self c.in_ok-value.ensures.gives
          c.in_ok-push.ensures.ok;
      stay = stay_both c.args.verdicts.now old.verdicts made.new.verdicts old.invariant.stay
          made.ensures.stay;
      made = subst (All IsUtf8) (sym c.in_ok-push.ensures.ok) (All-push IsUtf8 old.values
          c.in_ok-value.value old.invariant.made c.in_ok-value.ensures.utf8);
    }

pub values-returns-clause-gives : goal.values-returns-clause-gives
values-returns-clause-gives t c =
    let old = c.loop-text in
    values_end (λ oracle. evaluator (facts_of c.args.self.scope) oracle c.args.self.levels)
    (lent_texts c.args.texts.now) old.values (lent_texts (drop old.text-index c.args.texts.now))
    old.verdicts c.args.kept.now old.kept old.invariant.comes
    (lent_none c.args.texts.now old.text-index c.loop-text-test.false)

pub values-returns-in_err-value-clause-gives : goal.values-returns-in_err-value-clause-gives
values-returns-in_err-value-clause-gives t c =
    let old = c.loop-text in
    let made = c.text in
    let stop = c.in_err-value.field-0.0 in
    gives_error made.new.verdicts c.args.kept.now made.new.kept (λ oracle. values_by
    (evaluator (facts_of c.args.self.scope) oracle c.args.self.levels) (lent_texts c.args.texts.now)) stop
    c.from_residual.result c.from_residual.ensures.1
    (values_stop (λ oracle. evaluator (facts_of c.args.self.scope) oracle c.args.self.levels)
    (lent_texts c.args.texts.now) old.values (lent_texts (drop old.text-index c.args.texts.now))
    (lent_texts (drop (old.text-index + 1) c.args.texts.now))
    (get_or c.args.texts.now old.text-index (record { ref_ptr = (0, 0); now = [] })).now
    (lent_at c.args.texts.now old.text-index (record { ref_ptr = (0, 0); now = [] }) c.loop-text-test.true)
    old.verdicts made.new.verdicts c.args.kept.now old.kept made.new.kept old.invariant.comes
    made.ensures.stay stop c.in_err-value.ensures.gives)

-- ---- conditions

pub condition-returns-then-not-opens_at_most-clause-gives :
    goal.condition-returns-then-not-opens_at_most-clause-gives
condition-returns-then-not-opens_at_most-clause-gives t c =
    condition_over (λ oracle. evaluator (facts_of c.args.self.scope) oracle c.args.self.levels)
    c.args.text.now c.args.verdicts.now c.args.kept.now c.args.kept.now
    (sym c.if-not-opens_at_most.ensures)

pub condition-returns-clause-gives : goal.condition-returns-clause-gives
condition-returns-clause-gives t c =
    condition_few (λ oracle. evaluator (facts_of c.args.self.scope) oracle c.args.self.levels)
    c.args.text.now c.holds.new.verdicts c.args.kept.now c.holds.new.kept
    (sym c.if-not-opens_at_most.ensures) c.holds.result c.holds.ensures.gives

-- ---- one condition

pub single_holds-comparison_holds-requires : goal.single_holds-comparison_holds-requires
single_holds-comparison_holds-requires t c =
    let bare = c.without_blanks-text in
    let both = sides_utf8 bare.result.now c.in-Some.sides c.in-Some.ensures
    (bare_utf8 c.args.part.now bare.result.now bare.ensures c.requires.part) in
    (omega (arith, c.decreases), (c.requires.scope, (both.0, both.1)))

pub single_holds-side-requires : goal.single_holds-side-requires
single_holds-side-requires t c = (
  omega (arith, c.decreases),
  (
    c.requires.scope,
    bare_utf8 c.args.part.now c.without_blanks-text.result.now c.without_blanks-text.ensures
        c.requires.part,
  ),
)

-- ---- a comparison

pub comparison_holds-side-requires : goal.comparison_holds-side-requires
comparison_holds-side-requires t c = (
  omega (arith, c.decreases),
  (
    c.requires.scope,
    bare_utf8 c.args.sides.left.now c.without_blanks.result.now c.without_blanks.ensures
        c.requires.left,
  ),
)

pub comparison_holds-side-requires-2 : goal.comparison_holds-side-requires-2
comparison_holds-side-requires-2 t c = (
  omega (arith, c.decreases),
  (
    c.requires.scope,
    bare_utf8 c.args.sides.right.now c.without_blanks-2.result.now c.without_blanks-2.ensures
        c.requires.right,
  ),
)

-- ---- a side

pub side-returns-then-is_text-clause-gives : goal.side-returns-then-is_text-clause-gives
side-returns-then-is_text-clause-gives t c =
    side_text (λ oracle. evaluator (facts_of c.args.self.scope) oracle c.args.self.levels)
    c.args.groups c.args.is_text c.args.text.now c.text.new.verdicts c.args.kept.now c.text.new.kept
    c.if-is_text.true c.text.result c.text.ensures.gives

pub side-returns-in_default-clause-gives : goal.side-returns-in_default-clause-gives
side-returns-in_default-clause-gives t c =
    side_plain (λ oracle. evaluator (facts_of c.args.self.scope) oracle c.args.self.levels)
    c.args.groups c.args.is_text c.args.text.now c.text-in_default.new.verdicts c.args.kept.now
    c.text-in_default.new.kept c.if-is_text.false (sym c.in_default.ensures)
    c.text-in_default.result c.text-in_default.ensures.gives

pub side-holds-requires : goal.side-holds-requires
side-holds-requires t c = (
  omega (arith, c.decreases),
  (
    c.requires.scope,
    group_utf8 c.args.text.now c.in-Some.inside.now (sym c.in-Some.ensures) c.requires.text,
  ),
)

pub side-returns-in_err-holds-clause-gives : goal.side-returns-in_err-holds-clause-gives
side-returns-in_err-holds-clause-gives t c =
    let stop = c.in_err-holds.field-0.0 in
    let error = c.from_residual-in_err-holds in
    gives_error c.holds.new.verdicts c.args.kept.now c.holds.new.kept (λ oracle. side_of
    (evaluator (facts_of c.args.self.scope) oracle c.args.self.levels) (inside_at oracle
    (evaluator (facts_of c.args.self.scope) oracle c.args.self.levels) c.args.groups) c.args.is_text
    c.args.text.now) stop error.result error.ensures.1
    (side_stops (λ oracle. evaluator (facts_of c.args.self.scope) oracle c.args.self.levels)
    c.args.groups c.args.is_text c.args.text.now c.holds.new.verdicts c.args.kept.now
    c.holds.new.kept c.if-is_text.false c.in-Some.inside.now (sym c.in-Some.ensures) (omega arith)
    stop c.in_err-holds.ensures.gives)

-- ---- the turns

pub holds-turns-init : goal.holds-turns-init
holds-turns-init t c = record {
  comes = turns_begin (λ oracle. evaluator (facts_of c.args.self.scope) oracle c.args.self.levels)
      c.args.groups c.args.text.now c.begin-turn.result c.args.verdicts.now c.args.kept.now
      c.begin-turn.ensures;
  stay = stay_same c.args.verdicts.now;
  utf8 = begin_utf8 c.args.text.now c.begin-turn.result c.begin-turn.ensures c.requires.text;
}

pub holds-turns-preserved : goal.holds-turns-preserved
holds-turns-preserved t c =
    let test = c.in-Test in
    let old = c.turns in
    let made = c.single_holds in
    let found = c.in_ok-holds-in-Test in
    let next = c.go_on-turn in
    record {
      comes = turns_next
          (λ oracle. evaluator (facts_of c.args.self.scope) oracle c.args.self.levels)
          c.args.groups c.args.text.now old.turn test.part test.ranks test.is old.verdicts
          made.new.verdicts c.args.kept.now old.kept made.new.kept old.invariant.comes
          made.ensures.stay found.holds next.result found.ensures.gives next.ensures.turn;
      stay = stay_both c.args.verdicts.now old.verdicts made.new.verdicts old.invariant.stay
          made.ensures.stay;
      utf8 = turn_utf8 old.turn test.part test.ranks test.is old.invariant.utf8 found.holds
          next.result next.ensures.turn;
    }
