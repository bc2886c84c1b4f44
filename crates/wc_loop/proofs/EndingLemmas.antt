-- How a run ends.
use Rattle.std.proofs.Common.{◌≡◌, ◌≢◌, ◌⊎◌, inl, inr, ℕ, ◌≤◌, Bool, true, false, eqb, cond, IsTrue, List, [], ◌∷◌, ◌++◌, length, map, Option, Some, None, Ok, Err, IfOk, IfSome, IsSomeAnd, is_some, refl, sym, ap, subst, ◌∙◌, arith}
use Rattle.std.proofs.lemmas.Bool.{false≢true}
use Rattle.std.proofs.lemmas.Bool.Decides.{nat_tests}
use Rattle.std.proofs.lemmas.List.{append-nil, length-append}
use Rattle.wc_text.specs.declared.names.Address.{Address}
use Rattle.wc_outside.specs.Faults.{Rose, NeverFall}
use Rattle.wc_outside.specs.Seen.{Seen}
use Rattle.wc_outside.specs.declared.happening.Asked.TheVariants.{Listen, Connect}
use Rattle.wc_turns.specs.declared.headless.Headless.{Headless}
use Rattle.wc_loop.specs.declared.ending.Ending.{Ending}
use Rattle.wc_loop.specs.declared.ending.Ending.TheVariants.{Version, Help, BadWord, WaitFailed, NoConfiguration, BadLine, NoMemory, ListenFailed, NotSaved, TurnsTaken, Quit as EndsQuit, Demo}
use Rattle.wc_turns.specs.declared.turn.TurnEnd.{TurnEnd}
use Rattle.wc_turns.specs.declared.turn.TurnEnd.TheVariants.{GoOn, Quit, WaitFault, ListenFault, KeeperFault}
use Rattle.wc_outside.specs.declared.happening.Asked.{Asked}
use Rattle.wc_options.specs.Config.{config_of}
use Rattle.wc_options.specs.Options.{OptionsValue}
use Rattle.wc_core.specs.Limits.{port_of}
use Rattle.wc_loop.proofs.OptionsLemmas.{some_port}
use Rattle.wc_turns.specs.Turns.{wake_count, listen_faults, faults_then}
use Rattle.wc_loop.specs.Headline.{Headline, IsConfigured}
use Rattle.wc_loop.specs.Words.{Opening}
use Rattle.wc_turns.specs.Saves.{held_by, SavesTurn}
use Rattle.wc_turns.proofs.TurnLemmas.{NeverFall-trans}
use Rattle.wc_loop.specs.Endings.{KeepsText, HoldsEarlier, HoldsSaved, FailsToSave, ClosesLast, LastTurn, LastDid, ServedLast, SentLast, saved_in, status_of, asked_in, IsPort, kept_of, LastOf, WaitsAtMost, HasQuit, EndsAt, IsEarly, IsLastState, Runs}
use Rattle.wc_loop.proofs.HeadlineLemmas.{IfSome-last}

kept_of-some : (h : Headless) → 1 ≤ h.turns → kept_of h ≡ Some h
kept_of-some h above = let e : eqb h.turns 0 ≡ false = grind (arith, nat_tests) in rw e refl

-- a configuration that is readable
abbrev pub IsReadable : List ℕ → Type 0
IsReadable kept = (options : OptionsValue) × (config_of kept ≡ Ok options)

readable : (contents : Option (List ℕ)) (P : Type 0) → IfSome contents IsReadable → IfSome contents (λ kept. (n : ℕ) → config_of kept ≡ Err n → P)
readable None P known = tt
readable (Some kept) P known = λ n bad. (let e : Ok known.0 ≡ Err n = sym known.1 ∙ bad in cc)

pub known-readable : (opening : Opening) (contents : Option (List ℕ)) (first : Headless) (port : ℕ) → IfSome contents (IsConfigured opening first port) → IfSome contents IsReadable
known-readable opening None first port known = tt
known-readable opening (Some kept) first port known = (known.options, known.set)

pub known-port : (opening : Opening) (contents : Option (List ℕ)) (first : Headless) (port : ℕ) → IfSome contents (IsConfigured opening first port) → IsPort contents port
known-port opening None first port known = tt
known-port opening (Some kept) first port known = subst (λ r. IfOk r (λ options. port ≡ port_of options)) (sym known.set) known.port_set

-- the listener was asked for at the port that is set, and connections where a wait returned
pub record Listened (contents : Option (List ℕ)) (waits : ℕ) (asked : List Asked) : Type 0 where
  pub port : ℕ
  pub set : IsPort contents port
  pub connects : List Address
  pub unwoken : waits ≡ 0 → connects ≡ []
  pub is : asked ≡ Listen port ∷ map Connect connects

not_early : (status : ℕ) → status ≢ 4 → status ≢ 5 → (status ≡ 4) ⊎ (status ≡ 5) → ⊥
not_early status a b (inl q) = a q
not_early status a b (inr q) = b q

LastOf-kept : (seen : Seen) (h : Headless) → (IsTrue seen.tells → wake_count seen.taken ≡ h.turns) → LastOf seen (kept_of h)
LastOf-kept seen h woke = go (eqb h.turns 0) refl
  where
    go : (b : Bool) → eqb h.turns 0 ≡ b → LastOf seen (cond b None (Some h))
    go true e = λ t. (let w = woke t in grind (arith, nat_tests))
    go false e = (grind (arith, nat_tests), woke)

-- what the keeper holds after the last turn
pub kept-text : (x h : Headless) (before mid after : Option (List ℕ)) → x.core.saved ≡ None → mid ≡ before → SavesTurn x.core h.core mid after → (h.turns ≡ 0 → h.core.saved ≡ None) → KeepsText before after (kept_of h)
kept-text x h before mid after none same saves unsaved some =
    saves before (λ here. same ∙ ap (λ o. held_by o before) (sym none)) some ∙ ap (λ o. held_by o before) (go (eqb h.turns 0) refl)
  where
    go : (b : Bool) → eqb h.turns 0 ≡ b → h.core.saved ≡ saved_in (cond b None (Some h))
    go true e = unsaved (grind (arith, nat_tests))
    go false e = refl

pub not-keeper : (then : TurnEnd) (ending : Ending) → EndsAt then ending → status_of ending ≢ 3 → then ≢ KeeperFault
not-keeper then ending at three q = three (ap status_of (subst (λ end. EndsAt end ending) q at))

pub keeper-of : (then : TurnEnd) (ending : Ending) → EndsAt then ending → status_of ending ≡ 3 → then ≡ KeeperFault
keeper-of GoOn ending at three = absurd (let e : 3 ≡ 8 = sym three ∙ ap status_of at in cc)
keeper-of Quit ending at three = absurd (let e : 3 ≡ 0 = sym three ∙ ap status_of at in cc)
keeper-of WaitFault ending at three = absurd (let e : 3 ≡ 2 = sym three ∙ ap status_of at in cc)
keeper-of ListenFault ending at three = absurd (let e : 3 ≡ 6 = sym three ∙ ap status_of at in cc)
keeper-of KeeperFault ending at three = refl

pub none-asked : (before : List Asked) (connects : List Address) → before ++ map Connect connects ≡ before → connects ≡ []
none-asked before [] e = refl
none-asked before (address ∷ connects) e = absurd (omega (arith, ap length e, length-append before (map Connect (address ∷ connects))))

unkept : (h : Headless) → is_some (kept_of h) ≡ false → h.turns ≡ 0
unkept h = go (eqb h.turns 0) refl
  where
    go : (b : Bool) → eqb h.turns 0 ≡ b → is_some (cond b None (Some h)) ≡ false → h.turns ≡ 0
    go true e none = grind (arith, nat_tests)
    go false e none = cc

-- no state is there where no wait returned
pub kept_of-none : (h : Headless) → kept_of h ≡ None → h.turns ≡ 0
kept_of-none h = go (eqb h.turns 0) refl
  where
    go : (b : Bool) → eqb h.turns 0 ≡ b → cond b None (Some h) ≡ None → h.turns ≡ 0
    go true e none = grind (arith, nat_tests)
    go false e none = cc

-- what the keeper holds where the last turn failed to save
pub held-earlier : (opening : Opening) (contents mid kept : Option (List ℕ)) (x h : Headless) (before after : Seen) → x.core.saved ≡ None → mid ≡ contents → (f : FailsToSave x h before after mid kept) → Headline opening contents f.seen f.earlier → HoldsEarlier opening contents kept after h
held-earlier opening contents mid kept x h before after none same f headline = record {
  earlier = f.earlier;
  seen = f.seen;
  headline = headline;
  agrees = f.agrees;
  turn = f.turn;
  holds = f.saves contents (λ here. same ∙ ap (λ o. held_by o contents) (sym none));
}

-- why the last turn closed links
pub closes-last : (opening : Opening) (contents : Option (List ℕ)) (x h : Headless) (start before after : Seen) → NeverFall start.faults before.faults → (f : LastTurn x h before after) → Headline opening contents f.seen f.earlier → ClosesLast opening contents start after h
closes-last opening contents x h start before after counts f headline = record {
  earlier = f.earlier;
  seen = f.seen;
  end = f.end;
  headline = headline;
  counts = NeverFall-trans start.faults before.faults f.seen.faults counts f.until.counts;
  agrees = f.agrees;
  turn = f.turn;
  causes = f.causes;
  closes = f.closes;
}

-- what the last turn did, seen from before the first one
pub last-since : {end : TurnEnd} {how : Headless → Headless → Seen → Seen → Type 0} (h : Headless) (start before after : Seen) → (IsTrue before.tells → IsTrue start.tells) → (IsTrue before.tells → before.taken ≡ start.taken ++ []) → LastDid end how before after h → LastDid end how start after h
last-since h start before after told taken f = record {
  earlier = f.earlier;
  seen = f.seen;
  told = λ t. told (f.told t);
  gained = f.gained;
  taken = λ t. f.taken t ∙ ap (λ xs. xs ++ f.gained) (taken (f.told t) ∙ append-nil start.taken);
  agrees = f.agrees;
  turn = f.turn;
  did = f.did;
}

-- however the run ended
pub held-saved : (opening : Opening) (contents kept : Option (List ℕ)) (after : Seen) (status : ℕ) (last : Option Headless) → (status ≢ 3 → KeepsText contents kept last) → (status ≡ 3 → IfSome last (HoldsEarlier opening contents kept after)) → (last ≡ None → kept ≡ contents) → HoldsSaved opening contents kept after last
held-saved opening contents kept after status None text earlier same = same refl
held-saved opening contents kept after status (Some last) text earlier same = go (eqb status 3) refl
  where
    go : (b : Bool) → eqb status 3 ≡ b → HoldsSaved opening contents kept after (Some last)
    go true e = inr (earlier (grind (arith, nat_tests)))
    go false e = inl (text (λ three. (let t = ap (λ n. eqb n 3) three in false≢true (sym e ∙ t))))

-- over what is run and connected at the start
module _ (opening : Opening) where
  -- what comes after the last turn
  pub record After (turns : ℕ) (contents : Option (List ℕ)) (k k' : ℕ) (before after : Seen) (then : TurnEnd) (h : Headless) : Type 0 where
    pub above : 1 ≤ turns
    pub known : IfSome contents IsReadable
    pub woke : IsTrue after.tells → wake_count after.taken ≡ h.turns
    pub listens : IsTrue after.tells → then ≢ KeeperFault → listen_faults after.taken ≡ faults_then then
    pub quit : then ≡ Quit → h.core.quits ≡ true
    pub going : then ≢ Quit → then ≢ ListenFault → then ≢ KeeperFault → h.core.quits ≡ false
    pub all : then ≡ GoOn → h.turns ≡ turns
    pub fewer : then ≡ WaitFault → h.turns ≢ turns
    pub some : (then ≡ ListenFault) ⊎ ((then ≡ Quit) ⊎ (then ≡ KeeperFault)) → 1 ≤ h.turns
    pub most : h.turns ≤ turns
    pub wait_fault : then ≡ WaitFault → Rose before.faults.waits after.faults.waits
    pub listen_fault : then ≡ ListenFault → Rose before.faults.listens after.faults.listens
    pub keeper_fault : then ≡ KeeperFault → Rose k k'
    pub asked : IsTrue after.tells → Listened contents h.turns after.asked
    pub served : then ≡ GoOn → ServedLast before after h
    pub sent : then ≡ Quit → SentLast before after h
    pub left : 1 ≤ h.turns → IsLastState opening contents before after h

  at-most : (turns : ℕ) (after : Seen) (h : Headless) → h.turns ≤ turns → (IsTrue after.tells → wake_count after.taken ≡ h.turns) → WaitsAtMost turns after (kept_of h)
  at-most turns after h most woke = record { counted = IfSome-last (kept_of h) h _ refl (λ above. most); told = λ t. (let w = woke t in omega arith) }

  kept-quit : (b : Bool) (h : Headless) → 1 ≤ h.turns → h.core.quits ≡ b → IsSomeAnd (kept_of h) (HasQuit b)
  kept-quit b h above q = rw (kept_of-some h above) q

  -- a state in which `/quit` was not run
  not-quit : (h : Headless) → h.core.quits ≡ false → IsSomeAnd (kept_of h) (HasQuit true) → ⊥
  not-quit h going = go (eqb h.turns 0)
    where
      go : (b : Bool) → IsSomeAnd (cond b None (Some h)) (HasQuit true) → ⊥
      go true q = q
      go false q = false≢true (sym going ∙ q)

  -- a state in which it was
  not-going : (h : Headless) → 1 ≤ h.turns → h.core.quits ≡ true → IfSome (kept_of h) (HasQuit false) → ⊥
  not-going h above over q = false≢true (sym (rw (kept_of-some h above) at q) ∙ over)

  -- the ends after the last turn
  pub Runs-following : (turns : ℕ) (contents : Option (List ℕ)) (k k' : ℕ) (before after : Seen) (then : TurnEnd) (ending : Ending) (h : Headless) → After turns contents k k' before after then h → EndsAt then ending
      → Runs opening turns contents k k' before after ending (kept_of h)
  Runs-following turns contents k k' before after GoOn ending h b at = rw at (record {
    ends = record {
      later = λ q. omega arith;
      known = omega arith;
      line = λ q. absurd (omega arith);
      unreadable = readable contents _ b.known;
      quit = λ q. absurd (omega arith);
      quit_told = λ q t. absurd (omega arith);
      quit_due = λ q six three. absurd (not-quit h (b.going (λ r. cc) (λ r. cc) (λ r. cc)) q);
      all = λ q. rw (kept_of-some h (let a = b.above in let n = b.all refl in omega arith)) (b.all refl, b.going (λ r. cc) (λ r. cc) (λ r. cc));
      told = λ q t. (b.woke t ∙ b.all refl, b.listens t (λ r. cc));
      due = λ t w g l three. refl;
      failed = λ q t. absurd (omega arith);
      listened = λ q t. absurd (omega arith);
      early = λ q. absurd (not_early 8 (λ q. omega arith) (λ q. omega arith) q);
    };
    line = λ q. absurd (omega arith);
    shown = refl;
    saving = λ q. absurd (omega arith);
    counted = LastOf-kept after h b.woke;
    most = at-most turns after h b.most b.woke;
    left = IfSome-last (kept_of h) h _ refl b.left;
    served = λ q. IfSome-last (kept_of h) h _ refl (λ above. b.served refl);
    sent = λ q. absurd (omega arith);
    faults = record { wait = λ q. absurd (omega arith); keeper = λ q. absurd (omega arith); listener = λ q. absurd (omega arith) };
    asked = λ t. (let l = b.asked t in record { port = l.port; set = l.set; connects = l.connects; unwoken = λ none. l.unwoken (unkept h none); is = l.is });
  })
  Runs-following turns contents k k' before after Quit ending h b at = rw at (record {
    ends = record {
      later = λ q. omega arith;
      known = omega arith;
      line = λ q. absurd (omega arith);
      unreadable = readable contents _ b.known;
      quit = λ q. kept-quit true h (b.some (inr (inl refl))) (b.quit refl);
      quit_told = λ q t. b.listens t (λ r. cc);
      quit_due = λ q six three. refl;
      all = λ q. absurd (omega arith);
      told = λ q t. absurd (omega arith);
      due = λ t w g l three. absurd (not-going h (b.some (inr (inl refl))) (b.quit refl) g);
      failed = λ q t. absurd (omega arith);
      listened = λ q t. absurd (omega arith);
      early = λ q. absurd (not_early 0 (λ q. omega arith) (λ q. omega arith) q);
    };
    line = λ q. absurd (omega arith);
    shown = refl;
    saving = λ q. absurd (omega arith);
    counted = LastOf-kept after h b.woke;
    most = at-most turns after h b.most b.woke;
    left = IfSome-last (kept_of h) h _ refl b.left;
    served = λ q. absurd (omega arith);
    sent = λ q. IfSome-last (kept_of h) h _ refl (λ above. b.sent refl);
    faults = record { wait = λ q. absurd (omega arith); keeper = λ q. absurd (omega arith); listener = λ q. absurd (omega arith) };
    asked = λ t. (let l = b.asked t in record { port = l.port; set = l.set; connects = l.connects; unwoken = λ none. l.unwoken (unkept h none); is = l.is });
  })
  Runs-following turns contents k k' before after WaitFault ending h b at = rw at (record {
    ends = record {
      later = λ q. omega arith;
      known = omega arith;
      line = λ q. absurd (omega arith);
      unreadable = readable contents _ b.known;
      quit = λ q. absurd (omega arith);
      quit_told = λ q t. absurd (omega arith);
      quit_due = λ q six three. absurd (not-quit h (b.going (λ r. cc) (λ r. cc) (λ r. cc)) q);
      all = λ q. absurd (omega arith);
      told = λ q t. absurd (omega arith);
      due = λ t w g l three. absurd (b.fewer refl (sym (b.woke t) ∙ w));
      failed = λ q t. b.listens t (λ r. cc);
      listened = λ q t. absurd (omega arith);
      early = λ q. absurd (not_early 2 (λ q. omega arith) (λ q. omega arith) q);
    };
    line = λ q. absurd (omega arith);
    shown = refl;
    saving = λ q. absurd (omega arith);
    counted = LastOf-kept after h b.woke;
    most = at-most turns after h b.most b.woke;
    left = IfSome-last (kept_of h) h _ refl b.left;
    served = λ q. absurd (omega arith);
    sent = λ q. absurd (omega arith);
    faults = record { wait = λ q. b.wait_fault refl; keeper = λ q. absurd (omega arith); listener = λ q. absurd (omega arith) };
    asked = λ t. (let l = b.asked t in record { port = l.port; set = l.set; connects = l.connects; unwoken = λ none. l.unwoken (unkept h none); is = l.is });
  })
  Runs-following turns contents k k' before after ListenFault ending h b at = rw at (record {
    ends = record {
      later = λ q. omega arith;
      known = omega arith;
      line = λ q. absurd (omega arith);
      unreadable = readable contents _ b.known;
      quit = λ q. absurd (omega arith);
      quit_told = λ q t. absurd (omega arith);
      quit_due = λ q six three. absurd (six refl);
      all = λ q. absurd (omega arith);
      told = λ q t. absurd (omega arith);
      due = λ t w g l three. absurd (let n = b.listens t (λ r. cc) in omega arith);
      failed = λ q t. absurd (omega arith);
      listened = λ q t. (let n = b.listens t (λ r. cc) in omega arith);
      early = λ q. absurd (not_early 6 (λ q. omega arith) (λ q. omega arith) q);
    };
    line = λ q. absurd (omega arith);
    shown = refl;
    saving = λ q. absurd (omega arith);
    counted = LastOf-kept after h b.woke;
    most = at-most turns after h b.most b.woke;
    left = IfSome-last (kept_of h) h _ refl b.left;
    served = λ q. absurd (omega arith);
    sent = λ q. absurd (omega arith);
    faults = record { wait = λ q. absurd (omega arith); keeper = λ q. absurd (omega arith); listener = λ q. b.listen_fault refl };
    asked = λ t. (let l = b.asked t in record { port = l.port; set = l.set; connects = l.connects; unwoken = λ none. l.unwoken (unkept h none); is = l.is });
  })
  Runs-following turns contents k k' before after KeeperFault ending h b at = rw at (record {
    ends = record {
      later = λ q. omega arith;
      known = omega arith;
      line = λ q. absurd (omega arith);
      unreadable = readable contents _ b.known;
      quit = λ q. absurd (omega arith);
      quit_told = λ q t. absurd (omega arith);
      quit_due = λ q six three. absurd (three refl);
      all = λ q. absurd (omega arith);
      told = λ q t. absurd (omega arith);
      due = λ t w g l three. absurd (three refl);
      failed = λ q t. absurd (omega arith);
      listened = λ q t. absurd (omega arith);
      early = λ q. absurd (not_early 3 (λ q. omega arith) (λ q. omega arith) q);
    };
    line = λ q. absurd (omega arith);
    shown = refl;
    saving = λ q. sym (ap is_some (kept_of-some h (b.some (inr (inr refl)))));
    counted = LastOf-kept after h b.woke;
    most = at-most turns after h b.most b.woke;
    left = IfSome-last (kept_of h) h _ refl b.left;
    served = λ q. absurd (omega arith);
    sent = λ q. absurd (omega arith);
    faults = record { wait = λ q. absurd (omega arith); keeper = λ q. b.keeper_fault refl; listener = λ q. absurd (omega arith) };
    asked = λ t. (let l = b.asked t in record {
      port = l.port;
      set = l.set;
      connects = l.connects;
      unwoken = λ none. l.unwoken (unkept h none);
      is = subst (λ o. after.asked ≡ asked_in l.port 3 (is_some o) ++ map Connect l.connects) (sym (kept_of-some h (b.some (inr (inr refl))))) l.is;
    });
  })

  bad-line : (contents : Option (List ℕ)) (n : ℕ) → IfSome contents (λ kept. config_of kept ≡ Err n) → IfSome contents (λ kept. (options : OptionsValue) → config_of kept ≢ Ok options)
  bad-line None n bad = tt
  bad-line (Some kept) n bad = λ options ok. (let e : Ok options ≡ Err n = sym ok ∙ bad in cc)

  always : (contents : Option (List ℕ)) (P : List ℕ → Type 0) → ((kept : List ℕ) → P kept) → IfSome contents P
  always None P p = tt
  always (Some kept) P p = p kept

  -- no wait returned
  pub record Unawaited (turns : ℕ) (seen : Seen) : Type 0 where
    pub above : 1 ≤ turns
    pub woke : IsTrue seen.tells → wake_count seen.taken ≡ 0

  -- the ends before the listener is asked for
  pub Runs-early : (turns : ℕ) (contents : Option (List ℕ)) (k k' : ℕ) (seen : Seen) (ending : Ending) → Unawaited turns seen → (IsTrue seen.tells → seen.asked ≡ []) → IsEarly contents k k' ending → Runs opening turns contents k k' seen seen ending None
  Runs-early turns contents k k' seen NoConfiguration u asked early = record {
    ends = record {
      later = λ q. omega arith;
      known = omega arith;
      line = λ q. absurd (omega arith);
      unreadable = always contents _ (λ kept n bad three five. absurd (three refl));
      quit = λ q. absurd (omega arith);
      quit_told = λ q t. absurd (omega arith);
      quit_due = λ q six three. absurd q;
      all = λ q. absurd (omega arith);
      told = λ q t. absurd (omega arith);
      due = λ t w g l three. absurd (let z = u.woke t in let a = u.above in omega arith);
      failed = λ q t. absurd (omega arith);
      listened = λ q t. absurd (omega arith);
      early = λ q. refl;
    };
    line = λ q. absurd (omega arith);
    shown = refl;
    saving = λ q. refl;
    counted = u.woke;
    most = record { counted = tt; told = λ t. (let z = u.woke t in omega arith) };
    left = tt;
    served = λ q. tt;
    sent = λ q. tt;
    faults = record { wait = λ q. absurd (omega arith); keeper = λ q. early; listener = λ q. absurd (omega arith) };
    asked = λ t. (let p = some_port contents in record { port = p.0; set = p.1; connects = []; unwoken = λ none. refl; is = asked t });
  }
  Runs-early turns contents k k' seen (BadLine n) u asked early = record {
    ends = record {
      later = λ q. omega arith;
      known = omega arith;
      line = λ q. bad-line contents n early;
      unreadable = always contents _ (λ kept n bad three five. refl);
      quit = λ q. absurd (omega arith);
      quit_told = λ q t. absurd (omega arith);
      quit_due = λ q six three. absurd q;
      all = λ q. absurd (omega arith);
      told = λ q t. absurd (omega arith);
      due = λ t w g l three. absurd (let z = u.woke t in let a = u.above in omega arith);
      failed = λ q t. absurd (omega arith);
      listened = λ q t. absurd (omega arith);
      early = λ q. refl;
    };
    line = λ q. early;
    shown = refl;
    saving = λ q. absurd (omega arith);
    counted = u.woke;
    most = record { counted = tt; told = λ t. (let z = u.woke t in omega arith) };
    left = tt;
    served = λ q. tt;
    sent = λ q. tt;
    faults = record { wait = λ q. absurd (omega arith); keeper = λ q. absurd (omega arith); listener = λ q. absurd (omega arith) };
    asked = λ t. (let p = some_port contents in record { port = p.0; set = p.1; connects = []; unwoken = λ none. refl; is = asked t });
  }
  Runs-early turns contents k k' seen NoMemory u asked early = record {
    ends = record {
      later = λ q. omega arith;
      known = omega arith;
      line = λ q. absurd (omega arith);
      unreadable = always contents _ (λ kept n bad three five. absurd (five refl));
      quit = λ q. absurd (omega arith);
      quit_told = λ q t. absurd (omega arith);
      quit_due = λ q six three. absurd q;
      all = λ q. absurd (omega arith);
      told = λ q t. absurd (omega arith);
      due = λ t w g l three. absurd (let z = u.woke t in let a = u.above in omega arith);
      failed = λ q t. absurd (omega arith);
      listened = λ q t. absurd (omega arith);
      early = λ q. refl;
    };
    line = λ q. absurd (omega arith);
    shown = refl;
    saving = λ q. absurd (omega arith);
    counted = u.woke;
    most = record { counted = tt; told = λ t. (let z = u.woke t in omega arith) };
    left = tt;
    served = λ q. tt;
    sent = λ q. tt;
    faults = record { wait = λ q. absurd (omega arith); keeper = λ q. absurd (omega arith); listener = λ q. absurd (omega arith) };
    asked = λ t. (let p = some_port contents in record { port = p.0; set = p.1; connects = []; unwoken = λ none. refl; is = asked t });
  }
  Runs-early turns contents k k' seen Version u asked early = absurd early
  Runs-early turns contents k k' seen Help u asked early = absurd early
  Runs-early turns contents k k' seen (BadWord n) u asked early = absurd early
  Runs-early turns contents k k' seen WaitFailed u asked early = absurd early
  Runs-early turns contents k k' seen ListenFailed u asked early = absurd early
  Runs-early turns contents k k' seen NotSaved u asked early = absurd early
  Runs-early turns contents k k' seen TurnsTaken u asked early = absurd early
  Runs-early turns contents k k' seen EndsQuit u asked early = absurd early
  Runs-early turns contents k k' seen (Demo lines counts) u asked early = absurd early

  -- the listener was asked for in vain
  pub Runs-unheard : (turns : ℕ) (contents : Option (List ℕ)) (k k' : ℕ) (before after : Seen) (first : Headless) (port : ℕ) → Unawaited turns after → IfSome contents (IsConfigured opening first port)
      → (IsTrue after.tells → listen_faults after.taken ≡ 1) → Rose before.faults.listens after.faults.listens → (IsTrue after.tells → after.asked ≡ Listen port ∷ []) → Runs opening turns contents k k' before after ListenFailed None
  Runs-unheard turns contents k k' before after first port u known listens rose asked = record {
    ends = record {
      later = λ q. omega arith;
      known = omega arith;
      line = λ q. absurd (omega arith);
      unreadable = readable contents _ (known-readable opening contents first port known);
      quit = λ q. absurd (omega arith);
      quit_told = λ q t. absurd (omega arith);
      quit_due = λ q six three. absurd q;
      all = λ q. absurd (omega arith);
      told = λ q t. absurd (omega arith);
      due = λ t w g l three. absurd (let z = u.woke t in let a = u.above in omega arith);
      failed = λ q t. absurd (omega arith);
      listened = λ q t. (let n = listens t in omega arith);
      early = λ q. refl;
    };
    line = λ q. absurd (omega arith);
    shown = refl;
    saving = λ q. absurd (omega arith);
    counted = u.woke;
    most = record { counted = tt; told = λ t. (let z = u.woke t in omega arith) };
    left = tt;
    served = λ q. tt;
    sent = λ q. tt;
    faults = record { wait = λ q. absurd (omega arith); keeper = λ q. absurd (omega arith); listener = λ q. rose };
    asked = λ t. record { port = port; set = known-port opening contents first port known; connects = []; unwoken = λ none. refl; is = asked t };
  }
