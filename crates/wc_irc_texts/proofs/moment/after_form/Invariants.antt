use Rattle.std.proofs.Common.{◌≡◌, length}
use Rattle.wc_irc_texts.specs.Moments.{after_form}
use Rattle.wc_irc_texts.proofs.moment.after_form.Given as goal

-- the bytes that are passed change nothing of what comes after the form
abbrev pub invariant-loop-sign : goal.invariant-loop-sign
invariant-loop-sign l = after_form l.signs l.text ≡ after_form l.fn.signs l.fn.text

abbrev pub decreases-loop-sign : goal.decreases-loop-sign
decreases-loop-sign l = length l.signs
