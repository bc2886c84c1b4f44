use Rattle.std.proofs.Common.{◌≡◌, OnOk, sym, subst}
use Rattle.wc_eval.specs.Meaning.{argument, with_defined, after_call}
use Rattle.wc_eval.proofs.KindValues.{made_of}
use Rattle.wc_eval.proofs.calls.call_value.Goals as goal

pub returns-in-Define-clause-kept : goal.returns-in-Define-clause-kept
returns-in-Define-clause-kept c =
    let values = c.args.values.now in
    let old = c.args.kept.now in
    let set = c.define in
    let named = subst (λ n. OnOk set.result (set.new.kept ≡ with_defined n c.argument-second.result.now old))
    c.argument-first.ensures.value set.ensures.kept in
    let valued = subst (λ v. OnOk set.result (set.new.kept ≡ with_defined (argument values 0) v old))
    c.argument-second.ensures.value named in
    made_of set.result c.made-in-Define.result (set.new.kept ≡ after_call c.args.kind values old)
    c.made-in-Define.ensures.made
    (subst (λ k. OnOk set.result (set.new.kept ≡ after_call k values old)) (sym c.in-Define.is) valued)
