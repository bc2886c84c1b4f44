use Rattle.std.proofs.Common.{◌≡◌, ◌++◌, ◌∷◌, [], Some, None, refl, ap, sym, ◌∙◌}
use Rattle.wc_board.specs.Connections.{connection_link}
use Rattle.wc_core.specs.Contained.{starved_by}
use Rattle.wc_turns.proofs.ArriveLemmas.{refused-as, refused-step, refused-opened, refused-closed, calm-push, admitted-of}
use Rattle.wc_turns.proofs.KeyedLemmas.{absent-missing}
use Rattle.wc_turns.proofs.PointLemmas.{no-client}
use Rattle.wc_turns.proofs.headless.Headless.link_came.Goals as goal

pub returns-in-Some-clause-serves : goal.returns-in-Some-clause-serves
returns-in-Some-clause-serves c =
    let e = c.in-Some.ensures in
    let old = c.args.self.now in
    let admitted = admitted-of c.admit.result _ (sym c.is_err.ensures.value ∙ c.if-is_err.false) c.admit.ensures.ok in
    record {
      cause = Some c.in-Some.cause;
      fits = e.cause;
      opened = refused-opened c.args.arrival.link old.links.opened.items c.admit.new.self.opened.items c.close.new.self.opened.items admitted c.close.ensures.opened;
      closed = λ none. refused-closed c.args.arrival.link old.links.opened.items c.admit.new.self.opened.items c.admit.new.self.closed.items c.close.new.self.closed.items (record { link = c.args.arrival.link; cause = c.in-Some.cause }) admitted c.close.ensures.closed none
          ∙ ap (λ cs. cs ++ record { link = c.args.arrival.link; cause = c.in-Some.cause } ∷ []) c.admit.ensures.closed;
      core = e.refused;
      closes = λ nobody told. (e.comes (absent-missing connection_link c.args.arrival.link.0 old.core.connections (no-client c.args.arrival.link.0 old.core nobody)) told).cause;
      rises = e.rises;
      starves = λ q. absurd (let none : Some c.in-Some.cause ≡ None = q in cc);
      step = refused-step old.core c.accepted.new.self c.args.arrival.link.0 c.args.arrival.nonce c.in-Some.cause (refused-as old.core c.accepted.new.self c.args.arrival.link.0 (starved_by c.in-Some.cause old.core.starved) e.refused) e.comes;
    }

pub returns-in-None-clause-comes : goal.returns-in-None-clause-comes
returns-in-None-clause-comes c =
    let core = c.in-None.ensures.admitted refl in
    record {
      clock = refl;
      used = refl;
      listening = refl;
      turns = refl;
      ran = c.saturating_add-self.ensures;
      refused = refl;
      unlisted = refl;
      quits = ap (λ s. s.quits) core;
      calm = λ calm. calm-push c.args.self.now.core c.accepted.new.self c.args.arrival.link c.args.arrival.nonce core calm;
    }
