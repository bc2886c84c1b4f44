use Rattle.std.proofs.Common.{refl, sym, ◌∙◌, arith}
use Rattle.wc_text.proofs.CutLemmas.{cut_whole, begin_cut, next_cut, end_cut}
use Rattle.wc_text.proofs.cuts.cut.Goals as goal

pub returns-then-text-limit : goal.returns-then-text-limit
returns-then-text-limit c = sym (cut_whole c.args.text.now c.args.limit c.requires c.if-text-limit.true)

pub loop-end-init : goal.loop-end-init
loop-end-init c = (begin_cut c.args.text.now c.args.limit (omega arith), omega arith)

pub loop-end-preserved : goal.loop-end-preserved
loop-end-preserved c =
    (next_cut c.args.text.now c.loop-end.end c.requires c.loop-end-test.true (omega arith) (c.if-is_within_char.ensures.within refl) ∙ c.loop-end.invariant.0, omega arith)

pub returns-else-is_within_char : goal.returns-else-is_within_char
returns-else-is_within_char c =
    end_cut c.args.text.now c.loop-end.end c.requires (omega arith) (λ some. c.if-is_within_char.ensures.begins refl) ∙ c.loop-end.invariant.0
