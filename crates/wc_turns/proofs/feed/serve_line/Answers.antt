use Rattle.std.proofs.Common.{◌≡◌, ℕ, List, [], ◌∷◌, length, nat_le, true, subst, arith}
use Rattle.std.proofs.lemmas.Bool.Decides.{nat_tests}
use Rattle.wc_core.specs.Events.{Line}
use Rattle.wc_turns.specs.Lines.{line_limit}
use Rattle.wc_turns.specs.Served.{MayRun}
use Rattle.wc_turns.proofs.ServedLemmas.{LeavesAtLine-one, MayRun-one}
use Rattle.wc_turns.proofs.feed.serve_line.Goals as goal

pub returns-clause-causes : goal.returns-clause-causes
returns-clause-causes c = LeavesAtLine-one c.args.link.0 c.args.core.now c.relay_line.new.self c.without_cr.result.now c.relay_line.ensures.does

pub returns-clause-does : goal.returns-clause-does
returns-clause-does c =
    let fits = c.if-line-gt-LINE_LIMIT.false in
    let below : nat_le (length c.args.line.now) line_limit ≡ true = grind (arith, nat_tests, fits) in
    let P : List ℕ → Type 0 = λ line. MayRun c.args.core.now c.relay_line.new.self (Line c.args.link.0 line ∷ []) in
    rw below (subst P c.without_cr.ensures (MayRun-one c.args.core.now c.relay_line.new.self (Line c.args.link.0 c.without_cr.result.now) c.relay_line.ensures.does (record { does = c.relay_line.ensures.does; contained = c.relay_line.ensures.contained; counted = c.relay_line.ensures.counted; drops = c.relay_line.ensures.drops })))
