use Rattle.std.proofs.Common.{true, false, sym, ◌∙◌}
use Rattle.wc_core.specs.Forms.{form_named, is_form_of}
use Rattle.wc_core.proofs.FormLemmas.{form_left}
use Rattle.wc_core.proofs.command_forms.form_named.Goals as goal

pub returns-then-is_form_of : goal.returns-then-is_form_of
unfolding form_named
returns-then-is_form_of c =
    sym (form_left (is_form_of c.args.name.now) c.loop-left.left c.cut_line.result.1 c.in-Some.rest c.cut_line.result.0.now true c.in-Some.is c.cut_line.ensures.front c.cut_line.ensures.back (sym c.is_form_of.ensures ∙ c.if-is_form_of.true))
    ∙ c.loop-left.invariant

pub loop-left-preserved : goal.loop-left-preserved
loop-left-preserved c =
    sym (form_left (is_form_of c.args.name.now) c.loop-left.left c.cut_line.result.1 c.in-Some.rest c.cut_line.result.0.now false c.in-Some.is c.cut_line.ensures.front c.cut_line.ensures.back (sym c.is_form_of.ensures ∙ c.if-is_form_of.false))
    ∙ c.loop-left.invariant
