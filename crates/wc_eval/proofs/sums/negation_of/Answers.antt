use Rattle.std.proofs.Common.{◌≡◌, ◌+◌, ◌-◌, suc, to_z, Some, ℕ, ℤ, refl, sym, ◌∙◌, rules, arith}
use Rattle.std.specs.Prelude.{neg_ℤ}
use mir.Val.{SFits}
use mir.Syntax.{w64}
use Rattle.std.proofs.lemmas.Int.{to_z-of_z}
use Rattle.wc_eval.specs.Answers.{negation_of}
use Rattle.wc_eval.specs.Sums.{whole}
use Rattle.wc_eval.proofs.sums.negation_of.Goals as goal

once_more : (n m : ℕ) (x y : ℤ) → n ≡ suc m → Some y ≡ whole (neg_ℤ x) → negation_of n x ≡ negation_of m y
once_more n m x y is e = rw (is, ← e) refl

pub loop-turn-preserved : goal.loop-turn-preserved
loop-turn-preserved c =
    let fits : SFits w64 c.in_ok-negated.negated = search rules in
    let next : c.args.times - c.loop-turn._turn ≡ suc (c.args.times - (c.loop-turn._turn + 1)) = omega arith in
    rw (to_z-of_z w64 c.in_ok-negated.negated fits)
    (sym (once_more (c.args.times - c.loop-turn._turn) (c.args.times - (c.loop-turn._turn + 1))
    (to_z w64 c.loop-turn.negated-bits) c.in_ok-negated.negated next c.in_ok-negated.ensures)
    ∙ c.loop-turn.invariant)
