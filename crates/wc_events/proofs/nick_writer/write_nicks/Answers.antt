use Rattle.std.proofs.Common.{◌≡◌, ℕ, ◌-◌, ◌^◌, ◌<◌, ◌≤◌, ◌++◌, List, length, subst}
use Rattle.std.specs.Prelude.{OnOk, IsErrOf}
use Rattle.wc_objects.specs.declared.write.WriteRefused.{WriteRefused}
use Rattle.wc_events.proofs.NickWritten.{nicks_message_by}
use Rattle.wc_events.proofs.nick_writer.write_nicks.Goals as goal

pub returns-clause-ok : goal.returns-clause-ok
returns-clause-ok c =
    let same = nicks_message_by c.args.id.now c.args.nicks c.keys.result c.text.result.now c.text.ensures c.keys.ensures in
    subst (λ (bytes : List ℕ). OnOk c.append.result (c.append.new.out.items ≡ c.args.out.now.items ++ bytes)) same c.append.ensures.ok

pub returns-clause-fits : goal.returns-clause-fits
returns-clause-fits c =
    let same = nicks_message_by c.args.id.now c.args.nicks c.keys.result c.text.result.now c.text.ensures c.keys.ensures in
    subst (λ (bytes : List ℕ). OnOk c.append.result (length bytes ≤ 2 ^ 31 - 1)) same c.append.ensures.fits

pub returns-clause-too_long : goal.returns-clause-too_long
returns-clause-too_long c =
    let same = nicks_message_by c.args.id.now c.args.nicks c.keys.result c.text.result.now c.text.ensures c.keys.ensures in
    subst (λ (bytes : List ℕ). IsErrOf c.append.result WriteRefused.TooLong → 2 ^ 31 - 1 < length bytes) same c.append.ensures.too_long
