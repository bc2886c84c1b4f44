use Rattle.std.proofs.Common.{◌≡◌, ℕ, List, set, sym, subst, ◌∙◌, ap}
use Rattle.std.specs.Prelude.{All}
use Rattle.wc_lines.specs.declared.line.Line.{Line}
use Rattle.wc_lines.specs.Held.{RingView}
use Rattle.wc_lines.specs.Ring.{has_content, with_displayed}
use Rattle.wc_lines.specs.LineText.{HasUtf8Texts}
use Rattle.wc_lines.proofs.RingLemmas.{none_at, some_at, written, written_text}
use Rattle.wc_lines.proofs.lines.Lines.set_displayed.Goals as goal

abbrev held_at : ℕ → ℕ → ℕ → List Line → RingView
held_at limit pushed room lines = record { limit = limit; lines = lines; pushed = pushed; room = room }

pub returns-in_default-clause-found : goal.returns-in_default-clause-found
returns-in_default-clause-found c =
    let lines = c.self.inside.queue.items in
    sym ((none_at c.args.content c.args.on lines c.in_default.ensures).0) ∙ ap (λ held. has_content c.args.content held.lines) c.self.view_is

pub returns-in_default-clause-lines : goal.returns-in_default-clause-lines
returns-in_default-clause-lines c =
    let lines = c.self.inside.queue.items in
    subst (λ held. held ≡ with_displayed c.args.content c.args.on held) c.self.view_is
    (ap (held_at c.self.inside.limit c.self.inside.pushed c.self.inside.room) (sym ((none_at c.args.content c.args.on lines c.in_default.ensures).1)))

pub returns-clause-found : goal.returns-clause-found
returns-clause-found c =
    let lines = c.self.inside.queue.items in
    sym (some_at c.args.content lines c.in-Some.place c.in-Some.ensures) ∙ ap (λ held. has_content c.args.content held.lines) c.self.view_is

pub returns-clause-lines : goal.returns-clause-lines
returns-clause-lines c =
    let lines = c.self.inside.queue.items in
    let changed = set lines c.in-Some.place c.set_displayed.new.self in
    subst (λ held. held_at c.self.inside.limit c.self.inside.pushed c.self.inside.room changed ≡ with_displayed c.args.content c.args.on held) c.self.view_is
    (ap (held_at c.self.inside.limit c.self.inside.pushed c.self.inside.room) (ap (set lines c.in-Some.place) c.set_displayed.ensures ∙ written c.args.content c.args.on lines c.in-Some.place c.index_mut-line.result.now c.in-Some.ensures c.index_mut-line.ensures.value))

pub invariant_of-self : goal.invariant_of-self
invariant_of-self c =
    let was = c.self.invariant in
    record {
      some = was.some;
      most = was.most;
      within = was.within;
      room = was.room;
      taken = was.taken;
      text = subst (λ line. All HasUtf8Texts (set c.self.inside.queue.items c.in-Some.place line)) (sym c.set_displayed.ensures) (written_text c.args.content c.args.on c.self.inside.queue.items c.in-Some.place c.index_mut-line.result.now c.in-Some.ensures c.index_mut-line.ensures.value was.text);
    }
