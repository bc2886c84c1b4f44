use Rattle.std.proofs.Common.{◌≡◌, ◌+◌, ℕ, arith, rules, ap, refl, sym, ◌∙◌, take, drop, vec_len}
use Rattle.std.proofs.lemmas.List.{drop-take, drop-drop}
use Rattle.std.proofs.Math.Seq.{take-add}
use Rattle.std.specs.List.{list_any}
use Rattle.wc_scripted.specs.declared.rows.Row.{Row}
use Rattle.wc_scripted.specs.Plays.{is_fresh}
use Rattle.wc_scripted.specs.Rows.{row_at, is_fresh_row, noted, refilled}
use Rattle.wc_scripted.specs.Scripts.{turn_size, is_for}
use Rattle.wc_scripted.specs.Views.{play_of, seen_of}
use Rattle.wc_scripted.proofs.CursorLemmas.{given_more}
use Rattle.wc_scripted.proofs.RowLemmas.{sources_along, sources_past, fresh_past, fresh_same}
use Rattle.wc_scripted.proofs.PlayLemmas.{arrived_more}
use Rattle.wc_scripted.proofs.memory_sockets.MemorySocketsSockets.wait.Goals as goal

pub returns-clause-sees : goal.returns-clause-sees
returns-clause-sees c = record {
  told = search rules;
  taken = search rules;
  sent = λ t link. ap (λ (row : Row). row.sent) (c.report_turn.ensures.rows link);
  asked = search rules;
  choked = λ t link. ap (λ (row : Row). row.choked) (c.report_turn.ensures.rows link);
  used = search rules;
  there = λ link. ap (λ (row : Row). row.is_open) (c.report_turn.ensures.rows link);
  undrained = λ link. ap (λ (row : Row). row.undrained) (c.report_turn.ensures.rows link);
  listening = c.report_turn.ensures.listening;
  blocked = λ link. ap (λ (row : Row). row.blocked) (c.report_turn.ensures.rows link);
  counts = search rules;
}

pub returns-clause-sources : goal.returns-clause-sources
returns-clause-sources c =
    let since = rw (c.wake-moment.ensures.steps, c.wake-moment.ensures.released, drop-take) at c.since.ensures in
    let tokens = rw since at c.report_turn.ensures.tokens in
    let fresh : (link : ℕ) → is_fresh_row (noted link (take (turn_size (drop c.args.self.now.play.script.released c.args.self.now.play.script.steps)) (drop c.args.self.now.play.script.released c.args.self.now.play.script.steps)) (refilled (row_at link c.args.self.now.rows.items))) ≡ is_fresh (play_of c.args.self.now) (seen_of c.args.self.now) link = λ link. fresh_same (row_at link c.args.self.now.rows.items).is_open (row_at link c.args.self.now.rows.items).news (list_any (is_for link) (take (turn_size (drop c.args.self.now.play.script.released c.args.self.now.play.script.steps)) (drop c.args.self.now.play.script.released c.args.self.now.play.script.steps))) (row_at link c.args.self.now.rows.items).blocked in
    tokens ∙ ap (λ s. take 64 s) (sources_along _ _ _ (is_fresh (play_of c.args.self.now) (seen_of c.args.self.now)) (vec_len c.args.self.now.rows) (vec_len c.args.self.now.rows) refl fresh refl ∙ sources_past _ (is_fresh (play_of c.args.self.now) (seen_of c.args.self.now)) (vec_len c.args.self.now.rows) (c.args.self.now.used + 1) c.args.self.now.numbered (λ link h. fresh_past c.args.self.now.rows.items link _ (omega arith)))

pub returns-clause-play : goal.returns-clause-play
returns-clause-play c =
    let since = rw (c.wake-moment.ensures.steps, c.wake-moment.ensures.released, drop-take) at c.since.ensures in
    record {
      released = rw (c.wake-moment.ensures.steps, c.wake-moment.ensures.released) (take-add c.args.self.now.play.script.released (turn_size (drop c.args.self.now.play.script.released c.args.self.now.play.script.steps)) c.args.self.now.play.script.steps);
      coming = rw (c.wake-moment.ensures.steps, c.wake-moment.ensures.released) (sym (drop-drop (turn_size (drop c.args.self.now.play.script.released c.args.self.now.play.script.steps)) c.args.self.now.play.script.released c.args.self.now.play.script.steps));
      moment = search rules;
      arrived = rw (c.wake-moment.ensures.steps, c.wake-moment.ensures.released, c.wake-moment.ensures.listener, take-add) (arrived_more _ _ _ c.args.self.now.play.fits.within);
      given = λ link. rw (c.wake-moment.ensures.steps, c.wake-moment.ensures.released, c.wake-moment.ensures.cursors, take-add) (given_more link _ _ _ (c.args.self.now.play.fits.placed link).within);
      news = λ link. rw since at (ap (λ (row : Row). row.news) (c.report_turn.ensures.rows link));
      arriving = rw since at c.report_turn.ensures.arriving;
      window = search rules;
      took = λ link. ap (λ (row : Row). row.taken) (c.report_turn.ensures.rows link);
      calls = search rules;
      failing = search rules;
    }
