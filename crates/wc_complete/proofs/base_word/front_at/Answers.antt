use Rattle.std.proofs.Common.{length, ap, arith}
use Rattle.wc_complete.proofs.WordLaws.{after_shorter}
use Rattle.wc_complete.proofs.base_word.front_at.Goals as goal

pub overflow_sub-text : goal.overflow_sub-text
overflow_sub-text c = omega (arith, ap length c.after_chars-rest.ensures, after_shorter c.unsigned_abs.result c.args.text.now)
