use Rattle.wc_turns.specs.Heard.{Happened}
use Rattle.wc_turns.proofs.AskedLemmas.{hears-begun, hears-refused}
use Rattle.wc_turns.proofs.connect.connect_next.Goals as goal
use Rattle.std.proofs.Common.{subst, true, sym, refl, ap, None, ℕ, not, eqb, ◌&&◌, ◌||◌, ◌≡◌, ◌∙◌, ◌∷◌, ◌+◌, [], arith, Bool, false}
use Rattle.wc_core.specs.CoreView.{CoreView}
use Rattle.wc_turns.specs.Turns.{LoopStep}
use Rattle.wc_turns.specs.Parts.{AsksWanted}
use Rattle.wc_turns.proofs.AskedLemmas.{none-left, AsksWanted-refl, connect-room, connect-low, wanted-begun, told-begun, told-refused, shut-flag, kept-flag, refused-link}
use Rattle.wc_turns.proofs.CloseLemmas.{LoopStep-refl}
use Rattle.wc_turns.proofs.AskLemmas.{with_wanted, wanted-next, LoopStep-dropped, LoopStep-unmade, asks-dropped, asks-kept}
use Rattle.wc_turns.proofs.ConnectLemmas.{LoopStep-begun}
use Rattle.wc_turns.proofs.TurnLemmas.{NeverFall-trans}
use Rattle.wc_turns.specs.Links.{is_there, is_undrained, is_blocked, link_number}
use Rattle.wc_outside.specs.Keyed.{at_key}
use Rattle.wc_turns.specs.Steps.{TakesWanted}
use Rattle.wc_outside.specs.declared.happening.Happening.TheVariants.{Refused}
use Rattle.wc_turns.proofs.KeyedLemmas.{or-false}
use Rattle.wc_turns.proofs.SourceLemmas.{NothingBecameReady-trans, NothingBecameReady-same, NothingBecameReady-drained, TakesNothing-call}

pub returns-in_default-clause-continues : goal.returns-in_default-clause-continues
returns-in_default-clause-continues g c =
    let x = c.args.headless.now in
    let a = g.S.Sockets.seen c.args.sockets.now in
    subst (λ (k : CoreView). LoopStep true 0 0 x (record x { core = k }) a a) (sym (none-left x.core c.take_wanted.new.self c.in_default.ensures.others (c.in_default.ensures.none refl).0 (c.in_default.ensures.none refl).1)) (LoopStep-refl x a)

pub returns-in_default-clause-asks : goal.returns-in_default-clause-asks
returns-in_default-clause-asks g c =
    let x = c.args.headless.now in
    let a = g.S.Sockets.seen c.args.sockets.now in
    subst (λ (k : CoreView). AsksWanted x (record x { core = k }) a a) (sym (none-left x.core c.take_wanted.new.self c.in_default.ensures.others (c.in_default.ensures.none refl).0 (c.in_default.ensures.none refl).1)) (AsksWanted-refl x a)

pub returns-in_default-clause-done : goal.returns-in_default-clause-done
returns-in_default-clause-done g c = λ q. (c.in_default.ensures.none refl).1

pub connect-requires : goal.connect-requires
connect-requires g c = connect-room c.args.headless.now (g.S.Sockets.seen c.args.sockets.now) c.in-Some.wanted c.take_wanted.new.self.servers.wanted c.in-Some.ensures.taken c.requires.agrees

pub returns-then-link_begun-clause-continues : goal.returns-then-link_begun-clause-continues
returns-then-link_begun-clause-continues g c =
    let x = c.args.headless.now in
    let x' = record x { core = c.take_wanted.new.self } in
    let a = g.S.Sockets.seen c.args.sockets.now in
    let b = g.S.Sockets.seen c.connect.new.self in
    let w = c.in-Some.wanted in
    let others = c.take_wanted.new.self.servers.wanted in
    let first : x.core.servers.wanted ≡ w ∷ others = c.in-Some.ensures.taken in
    let same : x' ≡ record x { core = with_wanted others x.core } = ap (λ (k : CoreView). record x { core = k }) c.in-Some.ensures.others in
    let s = c.requires.agrees in
    let next : w.link.0 ≡ x.used + 1 = wanted-next x a w others first s in
    let e = c.in-Ok.ensures in
    let here : c.in-Ok.link.0 ≡ w.link.0 = (let n = e.next in let u = s.among.counted in omega arith) in
    let d = c.close.ensures in
    let z = g.S.Sockets.seen c.close.new.self in
    let absent : (k : ℕ) → k ≡ c.in-Ok.link.0 → at_key link_number k x.links.opened.items ≡ None = λ k q. s.among.unknown k (omega arith) in
    LoopStep-dropped false [] [] x x' c.link_begun.new.self a z w others first same c.if-link_begun.ensures s
    (record { told = λ t. e.told (d.told t); taken = λ t. d.taken t ∙ e.taken (d.told t); asked = λ t. d.asked t ∙ e.asked (d.told t); counts = NeverFall-trans _ _ _ e.counts d.counts }) refl refl refl refl (λ history. refl) (λ history. tt)
    (d.used ∙ e.used)
    (λ k h. d.there k ∙ ap (λ t. t && not (eqb k c.in-Ok.link.0)) (e.there k) ∙ shut-flag k c.in-Ok.link.0 _ _ (λ q. ap is_there (absent k q)) h)
    (λ k h. d.undrained k ∙ kept-flag k c.in-Ok.link.0 _ _ (λ q. ap is_undrained (absent k q)) (e.undrained k ∙ h))
    (λ k h. d.blocked k ∙ kept-flag k c.in-Ok.link.0 _ _ (λ q. ap is_blocked (absent k q)) (e.blocked k ∙ h))
    (d.listening ∙ e.listening)
    (λ t h. told-begun x x' c.link_begun.new.self a.taken w c.if-link_begun.ensures refl refl refl next (wanted-begun x a w others first s) (connect-low x a w others first s) h)
    (λ history spells h. hears-begun x x' c.link_begun.new.self a.taken history w c.if-link_begun.ensures next h)

pub returns-then-link_begun-clause-asks : goal.returns-then-link_begun-clause-asks
returns-then-link_begun-clause-asks g c =
    let x = c.args.headless.now in
    let x' = record x { core = c.take_wanted.new.self } in
    let a = g.S.Sockets.seen c.args.sockets.now in
    let b = g.S.Sockets.seen c.connect.new.self in
    let w = c.in-Some.wanted in
    let others = c.take_wanted.new.self.servers.wanted in
    let first : x.core.servers.wanted ≡ w ∷ others = c.in-Some.ensures.taken in
    let same : x' ≡ record x { core = with_wanted others x.core } = ap (λ (k : CoreView). record x { core = k }) c.in-Some.ensures.others in
    let s = c.requires.agrees in
    let next : w.link.0 ≡ x.used + 1 = wanted-next x a w others first s in
    let e = c.in-Ok.ensures in
    let here : c.in-Ok.link.0 ≡ w.link.0 = (let n = e.next in let u = s.among.counted in omega arith) in
    let d = c.close.ensures in
    let z = g.S.Sockets.seen c.close.new.self in
    let absent : (k : ℕ) → k ≡ c.in-Ok.link.0 → at_key link_number k x.links.opened.items ≡ None = λ k q. s.among.unknown k (omega arith) in
    asks-dropped false x x' c.link_begun.new.self a z w others first same c.if-link_begun.ensures s
    (NothingBecameReady-trans a b z (NothingBecameReady-same a b e.undrained e.listening) (NothingBecameReady-drained b z (λ k. not (eqb k c.in-Ok.link.0)) d.undrained d.listening))
    (TakesNothing-call a z [] (λ t. d.taken t ∙ e.taken (d.told t)) (λ k. refl) refl)

pub returns-else-link_begun-clause-continues : goal.returns-else-link_begun-clause-continues
returns-else-link_begun-clause-continues g c =
    let x = c.args.headless.now in
    let x' = record x { core = c.take_wanted.new.self } in
    let a = g.S.Sockets.seen c.args.sockets.now in
    let b = g.S.Sockets.seen c.connect.new.self in
    let w = c.in-Some.wanted in
    let others = c.take_wanted.new.self.servers.wanted in
    let first : x.core.servers.wanted ≡ w ∷ others = c.in-Some.ensures.taken in
    let same : x' ≡ record x { core = with_wanted others x.core } = ap (λ (k : CoreView). record x { core = k }) c.in-Some.ensures.others in
    let s = c.requires.agrees in
    let next : w.link.0 ≡ x.used + 1 = wanted-next x a w others first s in
    let e = c.in-Ok.ensures in
    let here : c.in-Ok.link.0 ≡ w.link.0 = (let n = e.next in let u = s.among.counted in omega arith) in
    LoopStep-begun x x' c.link_begun.new.self a b w others first same c.if-link_begun.ensures
    (record { told = e.told; taken = e.taken; asked = e.asked; counts = e.counts }) e.used e.asked e.sent e.choked (λ k. e.there k ∙ ap (λ n. a.there k || eqb n k) here) e.undrained e.blocked e.listening

pub returns-else-link_begun-clause-asks : goal.returns-else-link_begun-clause-asks
returns-else-link_begun-clause-asks g c =
    let x = c.args.headless.now in
    let x' = record x { core = c.take_wanted.new.self } in
    let a = g.S.Sockets.seen c.args.sockets.now in
    let b = g.S.Sockets.seen c.connect.new.self in
    let w = c.in-Some.wanted in
    let others = c.take_wanted.new.self.servers.wanted in
    let first : x.core.servers.wanted ≡ w ∷ others = c.in-Some.ensures.taken in
    let same : x' ≡ record x { core = with_wanted others x.core } = ap (λ (k : CoreView). record x { core = k }) c.in-Some.ensures.others in
    let s = c.requires.agrees in
    let next : w.link.0 ≡ x.used + 1 = wanted-next x a w others first s in
    let e = c.in-Ok.ensures in
    let here : c.in-Ok.link.0 ≡ w.link.0 = (let n = e.next in let u = s.among.counted in omega arith) in
    asks-kept false x x' c.link_begun.new.self a b w others first same c.if-link_begun.ensures s
    (NothingBecameReady-same a b e.undrained e.listening) (TakesNothing-call a b [] e.taken (λ k. refl) refl)

pub returns-in-Err-clause-continues : goal.returns-in-Err-clause-continues
returns-in-Err-clause-continues g c = refused-by c.link_refused.result c.link_refused.ensures
  where
    refused-by : (t : Bool) → TakesWanted t (record c.args.headless.now { core = c.take_wanted.new.self }) c.link_refused.new.self c.in-Some.wanted true → LoopStep true 0 0 c.args.headless.now c.link_refused.new.self (g.S.Sockets.seen c.args.sockets.now) (g.S.Sockets.seen c.connect.new.self)
    refused-by true drops =
        let x = c.args.headless.now in
        let x' = record x { core = c.take_wanted.new.self } in
        let a = g.S.Sockets.seen c.args.sockets.now in
        let b = g.S.Sockets.seen c.connect.new.self in
        let w = c.in-Some.wanted in
        let others = c.take_wanted.new.self.servers.wanted in
        let first : x.core.servers.wanted ≡ w ∷ others = c.in-Some.ensures.taken in
        let same : x' ≡ record x { core = with_wanted others x.core } = ap (λ (k : CoreView). record x { core = k }) c.in-Some.ensures.others in
        let s = c.requires.agrees in
        let next : w.link.0 ≡ x.used + 1 = wanted-next x a w others first s in
        let e = c.in-Err.ensures in
        let here = refused-link a.used w.link (next ∙ ap (λ n. n + 1) s.among.counted) in
        LoopStep-dropped true (Refused w.link ∷ []) (Happened (Refused w.link) ∷ []) x x' c.link_refused.new.self a b w others first same drops s
        (record { told = e.told; taken = λ t. e.taken t ∙ here a.taken; asked = e.asked; counts = e.counts }) refl refl refl refl (λ history. refl) (λ history. (tt, tt))
        e.used (λ k h. e.there k ∙ or-false _ ∙ h) (λ k h. e.undrained k ∙ h) (λ k h. e.blocked k ∙ h) e.listening
        (λ t h. told-refused x x' c.link_refused.new.self a.taken w drops refl refl refl next (s.among.unknown w.link.0 (omega arith)) (wanted-begun x a w others first s) (connect-low x a w others first s) h)
        (λ history spells h. hears-refused x x' c.link_refused.new.self a.taken history w drops next spells h)
    refused-by false takes =
        let x = c.args.headless.now in
        let x' = record x { core = c.take_wanted.new.self } in
        let a = g.S.Sockets.seen c.args.sockets.now in
        let b = g.S.Sockets.seen c.connect.new.self in
        let w = c.in-Some.wanted in
        let others = c.take_wanted.new.self.servers.wanted in
        let first : x.core.servers.wanted ≡ w ∷ others = c.in-Some.ensures.taken in
        let same : x' ≡ record x { core = with_wanted others x.core } = ap (λ (k : CoreView). record x { core = k }) c.in-Some.ensures.others in
        let s = c.requires.agrees in
        let next : w.link.0 ≡ x.used + 1 = wanted-next x a w others first s in
        let e = c.in-Err.ensures in
        let here = refused-link a.used w.link (next ∙ ap (λ n. n + 1) s.among.counted) in
        LoopStep-unmade x x' c.link_refused.new.self a b w others first same takes s
        (record { told = e.told; taken = λ t. e.taken t ∙ here a.taken; asked = e.asked; counts = e.counts })
        e.used e.asked e.sent e.choked (λ k. e.there k ∙ or-false _) e.undrained e.blocked e.listening

pub returns-in-Err-clause-asks : goal.returns-in-Err-clause-asks
returns-in-Err-clause-asks g c = refused-by c.link_refused.result c.link_refused.ensures
  where
    refused-by : (t : Bool) → TakesWanted t (record c.args.headless.now { core = c.take_wanted.new.self }) c.link_refused.new.self c.in-Some.wanted true → AsksWanted c.args.headless.now c.link_refused.new.self (g.S.Sockets.seen c.args.sockets.now) (g.S.Sockets.seen c.connect.new.self)
    refused-by true drops =
        let x = c.args.headless.now in
        let x' = record x { core = c.take_wanted.new.self } in
        let a = g.S.Sockets.seen c.args.sockets.now in
        let b = g.S.Sockets.seen c.connect.new.self in
        let w = c.in-Some.wanted in
        let others = c.take_wanted.new.self.servers.wanted in
        let first : x.core.servers.wanted ≡ w ∷ others = c.in-Some.ensures.taken in
        let same : x' ≡ record x { core = with_wanted others x.core } = ap (λ (k : CoreView). record x { core = k }) c.in-Some.ensures.others in
        let s = c.requires.agrees in
        let next : w.link.0 ≡ x.used + 1 = wanted-next x a w others first s in
        let e = c.in-Err.ensures in
        asks-dropped true x x' c.link_refused.new.self a b w others first same drops s
        (NothingBecameReady-same a b e.undrained e.listening) (TakesNothing-call a b (Refused (record { 0 = a.used + 1 }) ∷ []) e.taken (λ k. refl) refl)
    refused-by false takes =
        let x = c.args.headless.now in
        let x' = record x { core = c.take_wanted.new.self } in
        let a = g.S.Sockets.seen c.args.sockets.now in
        let b = g.S.Sockets.seen c.connect.new.self in
        let w = c.in-Some.wanted in
        let others = c.take_wanted.new.self.servers.wanted in
        let first : x.core.servers.wanted ≡ w ∷ others = c.in-Some.ensures.taken in
        let same : x' ≡ record x { core = with_wanted others x.core } = ap (λ (k : CoreView). record x { core = k }) c.in-Some.ensures.others in
        let s = c.requires.agrees in
        let next : w.link.0 ≡ x.used + 1 = wanted-next x a w others first s in
        let e = c.in-Err.ensures in
        asks-kept true x x' c.link_refused.new.self a b w others first same takes s
        (NothingBecameReady-same a b e.undrained e.listening) (TakesNothing-call a b (Refused (record { 0 = a.used + 1 }) ∷ []) e.taken (λ k. refl) refl)
