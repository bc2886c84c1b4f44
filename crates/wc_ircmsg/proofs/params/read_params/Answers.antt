use Rattle.std.proofs.Common.{◌∙◌, sym, inl, inr, arith}
use Rattle.wc_ircmsg.proofs.ParamLemmas.{params_more, params_end}
use Rattle.wc_ircmsg.proofs.params.read_params.Goals as goal
use Rattle.wc_ircmsg.proofs.params.read_params.Goals.{then-loop-places-test+else-not-is_empty, else-loop-places-test}

pub loop-places-preserved : goal.loop-places-preserved
loop-places-preserved c =
    params_more c.loop-places.params _ _ _ _ c.loop-places.rest.now _ c.loop-places.places c.loop-places-test.true (sym c.is_empty.ensures ∙ c.if-not-is_empty.true) c.loop-places.invariant
    c.in_ok-from_slice.ensures c.cut_param.ensures.param c.cut_param.ensures.rest c.in_ok-push.ensures.ok

pub returns : goal.returns
returns c = elim c.loop-places-test.branch [
  | then-loop-places-test+else-not-is_empty w ↦ params_end c.loop-places.params _ c.loop-places.rest.now c.loop-places.places (inr (sym w.is_empty.ensures ∙ w.if-not-is_empty.false)) c.loop-places.invariant
  | else-loop-places-test w ↦ params_end c.loop-places.params _ c.loop-places.rest.now c.loop-places.places (inl (omega arith)) c.loop-places.invariant
]
