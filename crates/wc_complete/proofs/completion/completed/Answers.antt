use Rattle.std.proofs.Common.{length, ap, arith}
use Rattle.wc_complete.proofs.WordLaws.{word_shorter}
use Rattle.wc_complete.proofs.completion.completed.Goals as goal

pub overflow_sub-front : goal.overflow_sub-front
overflow_sub-front c = omega (arith, ap length c.last_word-word.ensures, word_shorter c.args.front.now)
