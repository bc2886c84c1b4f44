use Rattle.std.proofs.Common.{◌≡◌, length, refl, ap, sym, ◌∙◌, arith}
use Rattle.std.proofs.lemmas.List.{append-nil}
use Rattle.wc_scripted.specs.Rows.{row_at, is_fresh_row}
use Rattle.wc_scripted.proofs.RowLemmas.{reported_full, reported_all, reported_step, Reported-trans}
use Rattle.wc_scripted.proofs.report.report_links.Goals as goal

pub returns-then-ready-eq-READY_LIMIT-clause-tokens :
    goal.returns-then-ready-eq-READY_LIMIT-clause-tokens
returns-then-ready-eq-READY_LIMIT-clause-tokens c = let f = c.loop-number.invariant.filled in reported_full _ _ (λ link. is_fresh_row (row_at link c.args.rows.now)) c.loop-number.number (length c.args.rows.now) (omega arith) c.loop-number.invariant.tokens (omega arith)

pub loop-number-preserved : goal.loop-number-preserved
loop-number-preserved c = record {
  tokens = reported_step _ _ _ (λ link. is_fresh_row (row_at link c.args.rows.now)) c.loop-number.number _ c.loop-number.invariant.tokens c.report_link.ensures.tokens (ap is_fresh_row (c.loop-number.invariant.ahead c.loop-number.number (omega arith)));
  rows = rw c.report_link.ensures.tokens (Reported-trans _ _ _ _ _ c.loop-number.invariant.rows c.report_link.ensures.rows);
  ahead = λ link h. c.report_link.ensures.others link (omega arith) ∙ c.loop-number.invariant.ahead link (omega arith);
  filled = c.report_link.ensures.filled c.loop-number.invariant.filled;
}

pub returns-clause-tokens : goal.returns-clause-tokens
returns-clause-tokens c =
    let same : c.loop-number.number ≡ length c.args.rows.now = omega arith in
    let all = rw same at c.loop-number.invariant.tokens in
    let f = c.loop-number.invariant.filled in
    reported_all _ _ (λ link. is_fresh_row (row_at link c.args.rows.now)) (length c.args.rows.now) all (omega arith)

pub loop-number-init : goal.loop-number-init
loop-number-init c = record {
  tokens = sym (append-nil _);
  rows = c.requires.reported;
  ahead = λ link h. refl;
  filled = c.requires.filled;
}
