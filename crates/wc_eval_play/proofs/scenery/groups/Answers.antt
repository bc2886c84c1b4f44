use Rattle.std.proofs.Common.{All, IsUtf8, sym, subst}
use Rattle.std.proofs.lemmas.List.Elements.{All-nil, All-push}
use Rattle.std.proofs.lemmas.Str.{IsUtf8-nil}
use Rattle.wc_eval_play.proofs.scenery.groups.Goals as goal

pub returns : goal.returns
returns c =
    let none = subst (All IsUtf8) (sym c.new-groups.ensures) (All-nil IsUtf8) in
    let one = subst (All IsUtf8) (sym c.in_ok-push.ensures.ok) (All-push IsUtf8 c.new-groups.result
    c.in_ok-from_slice.field-0 none (subst IsUtf8 (sym c.in_ok-from_slice.ensures) c.as_bytes.ensures.utf8)) in
    let two = subst (All IsUtf8) (sym c.in_ok-push-2.ensures.ok) (All-push IsUtf8 c.push.new.self
    c.in_ok-from_slice-2.field-0 one (subst IsUtf8 (sym c.in_ok-from_slice-2.ensures) c.as_bytes-2.ensures.utf8)) in
    subst (All IsUtf8) (sym c.in_ok-push-3.ensures.ok) (All-push IsUtf8 c.push-2.new.self
    c.new.result two (subst IsUtf8 (sym c.new.ensures) IsUtf8-nil))
