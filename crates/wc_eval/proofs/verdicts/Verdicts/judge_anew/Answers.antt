use Rattle.std.proofs.Common.{rules, ◌≡◌, ◌<◌, ◌^◌, ◌++◌, ◌∷◌, [], None, ap, sym, subst, ◌∙◌, length}
use Rattle.wc_eval.specs.Verdicts.{verdict_on, verdict_in, AreOnce, IsCaused}
use Rattle.wc_eval.specs.Judged.{rows_of, verdict_of, IsRight}
use Rattle.wc_eval.proofs.VerdictLemmas.{right_push, judged_right, once_push, others_kept, rows_push, judges_new, only_push}
use Rattle.wc_eval.proofs.verdicts.Verdicts.judge_anew.Goals as goal

module _ (c : goal.After-keep) where
  same : c.in_ok-key.key.items ≡ c.args.pattern.now
  same = search rules

  entries : c.put-count.new.judged.entries ≡ c.self.inside.judged.entries ++ (c.in_ok-key.key, c.verdict-verdict.result) ∷ []
  entries = c.put-count.ensures.entries ∙ ap (λ es. es ++ (c.in_ok-key.key, c.verdict-verdict.result) ∷ []) c.reserve.ensures.entries

  none : verdict_in c.args.pattern.now (rows_of c.self.inside.judged.entries) ≡ None
  none = ap (verdict_on c.args.pattern.now) c.self.view_is ∙ c.requires.new

  caused : IsCaused c.self.inside.compiler.others c.build.new.compiler.others c.args.pattern.now c.verdict-verdict.result
  caused = subst (λ v. IsCaused c.self.inside.compiler.others c.build.new.compiler.others c.args.pattern.now v)
      (sym c.verdict-verdict.ensures) c.in_ok-judgement.ensures.caused

  right : IsRight c.in_ok-key.key.items c.verdict-verdict.result
  right = subst (λ v. IsRight c.in_ok-key.key.items v) (sym c.verdict-verdict.ensures)
      (subst (λ t. IsRight t (verdict_of c.in_ok-judgement.judgement)) (sym same) (judged_right c.args.pattern.now c.in_ok-judgement.judgement c.requires.utf8 c.in_ok-judgement.ensures.built))

pub invariant_of-self-2 : goal.invariant_of-self-2
invariant_of-self-2 c =
    let es = c.self.inside.judged.entries in
    let key = c.in_ok-key.key in
    let v = c.verdict-verdict.result in
    let known = c.self.invariant in
    let few : length (es ++ (key, v) ∷ []) < 2 ^ 64 =
    subst (λ n. n < 2 ^ 64) (c.put-count.ensures.count ∙ ap length (entries c)) c.put-count.type_inv in
    let new : verdict_in key.items (rows_of es) ≡ None = ap (λ t. verdict_in t (rows_of es)) (same c) ∙ none c in
    let once : AreOnce (rows_of (es ++ (key, v) ∷ [])) =
    subst AreOnce (sym (rows_push es key v)) (once_push (rows_of es) key.items v known.1 new) in
    let most = others_kept es key v c.args.pattern.now c.self.inside.compiler.others c.build.new.compiler.others known.2 few
    c.build.ensures.later (caused c) in
    rw (entries c) (right_push es key v known.0 (right c), once, most)

pub returns-clause-judges : goal.returns-clause-judges
returns-clause-judges c =
    let es = c.self.inside.judged.entries in
    let v = c.verdict-verdict.result in
    rw (← c.self.view_is)
    (judges_new _ _ c.in_ok-key.key.items c.args.pattern.now v (same c) (none c)
    (ap rows_of (entries c) ∙ rows_push es c.in_ok-key.key v) c.build.ensures.later (caused c))

pub returns-clause-only : goal.returns-clause-only
returns-clause-only c =
    let es = c.self.inside.judged.entries in
    let v = c.verdict-verdict.result in
    rw (← c.self.view_is)
    (only_push (record { rows = rows_of es; others = c.self.inside.compiler.others })
    (record { rows = rows_of c.put-count.new.judged.entries; others = c.build.new.compiler.others }) c.in_ok-key.key.items c.args.pattern.now v (same c)
    (ap rows_of (entries c) ∙ rows_push es c.in_ok-key.key v))
