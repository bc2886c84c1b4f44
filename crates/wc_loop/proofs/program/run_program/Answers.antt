use Rattle.std.proofs.Common.{sym, ap, ◌∙◌, arith}
use Rattle.std.specs.Io.KnownBytes.{append_known}
use Rattle.wc_loop.specs.Endings.{number_of, counts_in, status_of}
use Rattle.wc_loop.proofs.OutcomeLemmas.{IsNumber-runs, StatusOf-runs, Common-runs, Waits-runs, Demo-runs, IfSome-headline, IfSome-agrees, IfSome-calm, IfSome-causes, IfSome-takes}
use Rattle.wc_loop.proofs.EndingLemmas.{held-saved}
use Rattle.wc_loop.proofs.MirrorLemmas.{ClientsHoldDumps-last, LinesAreShown-last}
use Rattle.wc_loop.proofs.WordsLemmas.{commands_texts}
use Rattle.wc_loop.proofs.program.run_program.Goals as goal

pub returns-clause-headline : goal.returns-clause-headline
returns-clause-headline g c =
    let seen = g.S.Sockets.seen in
    let runs = rw c.as_slice.ensures.value at c.run_words-outcome.ensures.runs in
    let common = Common-runs _ _ _ _ _ (seen c.args.sockets.now) (seen c.run_words-outcome.new.sockets) _ _ c.requires runs in
    rw c.end.ensures.last (IfSome-headline _ _ _ _ _ common.left)

pub returns-clause-contained : goal.returns-clause-contained
returns-clause-contained g c =
    let seen = g.S.Sockets.seen in
    let runs = rw c.as_slice.ensures.value at c.run_words-outcome.ensures.runs in
    let common = Common-runs _ _ _ _ _ (seen c.args.sockets.now) (seen c.run_words-outcome.new.sockets) _ _ c.requires runs in
    rw c.end.ensures.last (IfSome-takes _ _ _ _ _ common.left)

pub returns-clause-mirrored : goal.returns-clause-mirrored
returns-clause-mirrored g c = ClientsHoldDumps-last _ (commands_texts c.args.words.now.items) _ _ _

pub returns-clause-shown : goal.returns-clause-shown
returns-clause-shown g c = LinesAreShown-last _ (commands_texts c.args.words.now.items) _ _ _

pub returns-clause-waits : goal.returns-clause-waits
returns-clause-waits g c =
    let seen = g.S.Sockets.seen in
    let runs = rw c.as_slice.ensures.value at c.run_words-outcome.ensures.runs in
    rw c.end.ensures.last (Waits-runs _ _ _ _ _ (seen c.args.sockets.now) (seen c.run_words-outcome.new.sockets) _ _ c.requires runs)

pub returns-clause-causes : goal.returns-clause-causes
returns-clause-causes g c =
    let seen = g.S.Sockets.seen in
    let runs = rw c.as_slice.ensures.value at c.run_words-outcome.ensures.runs in
    let common = Common-runs _ _ _ _ _ (seen c.args.sockets.now) (seen c.run_words-outcome.new.sockets) _ _ c.requires runs in
    rw c.end.ensures.last (IfSome-causes _ _ _ _ _ common.left)

pub returns-clause-printed : goal.returns-clause-printed
returns-clause-printed g c = λ seven.
    let seen = g.S.Sockets.seen in
    let runs = rw c.as_slice.ensures.value at c.run_words-outcome.ensures.runs in
    let common = Common-runs _ _ _ _ _ (seen c.args.sockets.now) (seen c.run_words-outcome.new.sockets) _ _ c.requires runs in
    let is = IsNumber-runs _ _ _ _ _ _ _ _ _ runs in
    rw (c.end.ensures.status seven, c.end.ensures.last) (record { number = number_of c.run_words-outcome.result.ending; counts = counts_in c.run_words-outcome.result.ending; is = is; holds = c.end.ensures.printed seven ∙ ap (append_known (g.O.Sink.contents c.args.out.now)) common.text })

pub returns-clause-demo : goal.returns-clause-demo
returns-clause-demo g c = λ none.
    let seen = g.S.Sockets.seen in
    let runs = rw c.as_slice.ensures.value at c.run_words-outcome.ensures.runs in
    let status = c.end.ensures.status (λ seven. omega arith) in
    Demo-runs _ _ _ _ _ (seen c.args.sockets.now) (seen c.run_words-outcome.new.sockets) _ _ (g.O.Sink.contents c.args.out.now) (g.O.Sink.contents c.end.new.out) runs (sym status ∙ none) (c.end.ensures.printed (λ seven. omega arith))

pub returns-clause-served : goal.returns-clause-served
returns-clause-served g c = λ eight.
    let seen = g.S.Sockets.seen in
    let common = Common-runs _ _ _ _ _ (seen c.args.sockets.now) (seen c.run_words-outcome.new.sockets) _ _ c.requires c.run_words-outcome.ensures.runs in
    let status = c.end.ensures.status (λ seven. omega arith) in
    rw c.end.ensures.last (common.served (sym status ∙ eight))

pub returns-clause-sent : goal.returns-clause-sent
returns-clause-sent g c = λ none.
    let seen = g.S.Sockets.seen in
    let common = Common-runs _ _ _ _ _ (seen c.args.sockets.now) (seen c.run_words-outcome.new.sockets) _ _ c.requires c.run_words-outcome.ensures.runs in
    let status = c.end.ensures.status (λ seven. omega arith) in
    rw c.end.ensures.last (common.sent (sym status ∙ none))

pub returns-clause-last : goal.returns-clause-last
returns-clause-last g c =
    let seen = g.S.Sockets.seen in
    let common = Common-runs _ _ _ _ _ (seen c.args.sockets.now) (seen c.run_words-outcome.new.sockets) _ _ c.requires c.run_words-outcome.ensures.runs in
    rw c.end.ensures.last common.counted

pub returns-clause-agrees : goal.returns-clause-agrees
returns-clause-agrees g c =
    let seen = g.S.Sockets.seen in
    let common = Common-runs _ _ _ _ _ (seen c.args.sockets.now) (seen c.run_words-outcome.new.sockets) _ _ c.requires c.run_words-outcome.ensures.runs in
    rw c.end.ensures.last (IfSome-agrees _ _ _ _ _ common.left)

pub returns-clause-calm : goal.returns-clause-calm
returns-clause-calm g c =
    let seen = g.S.Sockets.seen in
    let common = Common-runs _ _ _ _ _ (seen c.args.sockets.now) (seen c.run_words-outcome.new.sockets) _ _ c.requires c.run_words-outcome.ensures.runs in
    rw c.end.ensures.last (IfSome-calm _ _ _ _ _ common.left)

pub returns-clause-asked : goal.returns-clause-asked
returns-clause-asked g c = λ seven.
    let seen = g.S.Sockets.seen in
    let runs = rw c.as_slice.ensures.value at c.run_words-outcome.ensures.runs in
    let common = Common-runs _ _ _ _ _ (seen c.args.sockets.now) (seen c.run_words-outcome.new.sockets) _ _ c.requires runs in
    rw (c.end.ensures.status seven, c.end.ensures.last) common.asked

pub returns-clause-kept : goal.returns-clause-kept
returns-clause-kept g c = λ three seven.
    rw c.end.ensures.last (c.run_words-outcome.ensures.kept (λ q. three (c.end.ensures.status seven ∙ q)))

pub returns-clause-status : goal.returns-clause-status
returns-clause-status g c = λ seven.
    let seen = g.S.Sockets.seen in
    let runs = rw c.as_slice.ensures.value at c.run_words-outcome.ensures.runs in
    rw (c.end.ensures.status seven, c.end.ensures.last) (StatusOf-runs _ _ _ _ _ (seen c.args.sockets.now) (seen c.run_words-outcome.new.sockets) _ _ runs)

pub returns-clause-unsaved : goal.returns-clause-unsaved
returns-clause-unsaved g c = λ three.
    let unsaved = rw c.as_slice.ensures.value at c.run_words-outcome.ensures.unsaved in
    rw c.end.ensures.last (unsaved (sym (c.end.ensures.status (λ seven. omega arith)) ∙ three))

pub returns-clause-held : goal.returns-clause-held
returns-clause-held g c =
    let seen = g.S.Sockets.seen in
    let contents = g.K.Keeper.contents in
    let unsaved = rw c.as_slice.ensures.value at c.run_words-outcome.ensures.unsaved in
    rw c.end.ensures.last (held-saved _ (contents c.args.keeper.now) (contents c.run_words-outcome.new.keeper) (seen c.run_words-outcome.new.sockets) (status_of c.run_words-outcome.result.ending) c.run_words-outcome.result.last c.run_words-outcome.ensures.kept unsaved c.run_words-outcome.ensures.unwoken)
