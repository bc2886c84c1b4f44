-- A run is a turn after others.
use Rattle.std.proofs.Common.{◌≡◌, ◌≢◌, ◌⊎◌, inl, inr, ℕ, ◌+◌, ◌^◌, ◌<◌, ◌≤◌, false, refl, ap, arith}
use Rattle.wc_outside.specs.Faults.{Rose}
use Rattle.wc_outside.specs.Seen.{Seen}
use Rattle.wc_turns.specs.declared.turn.TurnEnd.{TurnEnd}
use Rattle.wc_turns.specs.declared.turn.TurnEnd.TheVariants.{GoOn, Quit, WaitFault, ListenFault, KeeperFault}
use Rattle.wc_turns.specs.declared.headless.Headless.{Headless}
use Rattle.wc_turns.specs.Turns.{LoopStep, FaultsIn, faults_then, waits_then}
use Rattle.wc_turns.proofs.TurnLemmas.{LoopStep-sum}

pub Rose-before : (p q n : ℕ) → p ≤ q → Rose q n → Rose p n
Rose-before p q n below h = omega arith

pub waits-few : (then : TurnEnd) → waits_then then ≤ 1
waits-few GoOn = omega arith
waits-few Quit = omega arith
waits-few WaitFault = omega arith
waits-few ListenFault = omega arith
waits-few KeeperFault = omega arith

-- one more turn, where so many waits returned before
pub LoopStep-turn : (then : TurnEnd) (faults count : ℕ) (x y z : Headless) (a b c : Seen) → y.turns ≡ count → count + 1 < 2 ^ 64 → LoopStep false count 0 x y a b → LoopStep false (waits_then then) faults y z b c
    → LoopStep false z.turns faults x z a c
LoopStep-turn then faults count x y z a b c turns below h q =
    let few = waits-few then in
    let more : z.turns ≡ y.turns + waits_then then = q.turns (omega arith) in
    LoopStep-sum (omega arith) (omega arith) x y z a b c h q

-- a turn that neither goes on nor ends with `/quit` or a failure of the listener or the keeper ends with a failure of the wait
pub unwoken-by : (then : TurnEnd) (P : Type 0) → then ≢ GoOn → then ≢ Quit → then ≢ ListenFault → then ≢ KeeperFault → (then ≡ WaitFault → P) → P
unwoken-by GoOn P on quit listen keeper wait = absurd (on refl)
unwoken-by Quit P on quit listen keeper wait = absurd (quit refl)
unwoken-by WaitFault P on quit listen keeper wait = wait refl
unwoken-by ListenFault P on quit listen keeper wait = absurd (listen refl)
unwoken-by KeeperFault P on quit listen keeper wait = absurd (keeper refl)

pub woke-once : (then : TurnEnd) → (then ≡ ListenFault) ⊎ ((then ≡ Quit) ⊎ (then ≡ KeeperFault)) → waits_then then ≡ 1
woke-once then (inl e) = ap waits_then e
woke-once then (inr (inl e)) = ap waits_then e
woke-once then (inr (inr e)) = ap waits_then e

-- no wait returned in a turn
pub unwaited : (then : TurnEnd) → waits_then then ≡ 0 → then ≡ WaitFault
unwaited GoOn e = absurd (omega (arith, e))
unwaited Quit e = absurd (omega (arith, e))
unwaited WaitFault e = refl
unwaited ListenFault e = absurd (omega (arith, e))
unwaited KeeperFault e = absurd (omega (arith, e))

-- how often the listener failed is told, but where the keeper failed
pub faults-told : (then : TurnEnd) (faults : ℕ) → FaultsIn then faults → then ≢ KeeperFault → faults ≡ faults_then then
faults-told GoOn faults fits keeper = fits
faults-told Quit faults fits keeper = fits
faults-told WaitFault faults fits keeper = fits
faults-told ListenFault faults fits keeper = fits
faults-told KeeperFault faults fits keeper = absurd (keeper refl)
