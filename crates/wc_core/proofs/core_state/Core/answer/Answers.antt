use Rattle.std.proofs.Common.{ℕ, List, subst, arith}
use Rattle.wc_board.specs.Answered.{AnswersAfterPushes}
use Rattle.wc_core.proofs.AnswerLemmas.{answers-counted, answers-open}
use Rattle.wc_core.proofs.core_state.Core.answer.Goals as goal

pub count_dropped-requires : goal.count_dropped-requires
count_dropped-requires c = (let less = answers-open _ _ c.args.link.0 _ c.args.request c.request-outcome.result c.request-outcome.ensures in omega (arith, less, c.open_count-before.ensures))

pub returns : goal.returns
returns c =
    let P : List (List ℕ) → Type 0 = λ commands. AnswersAfterPushes c.args.link.0 (record { options = c.self.inside.options; hotlist = c.self.inside.hotlist; commands = commands }) c.args.request c.request-outcome.result c.self.inside.board c.request-outcome.new.self in
    rw (← c.self.view_is) (answers-counted _ c.request-outcome.new.self c.count_dropped.new.self c.open_count-before.result c.args.link.0 c.args.request c.request-outcome.result (subst P c.as_slice.ensures c.request-outcome.ensures) c.count_dropped.ensures.counts c.open_count-before.ensures c.count_dropped.ensures.rises)
