-- How what is done follows one another.
use Rattle.std.proofs.Common.{◌≡◌, ℕ, ◌≤◌, Bool, true, false, List, [], ◌∷◌, ◌++◌, inl, inr, Option, Some, None, IsSome, refl, ap, sym, subst, ◌∙◌, ◌||◌, arith, append-nil, append_assoc}
use Rattle.std.specs.Prelude.{map}
use Rattle.wc_text.specs.declared.names.Cause.{Cause}
use Rattle.wc_text.specs.declared.names.Cause.TheVariants.{NoMemory}
use Rattle.wc_outside.specs.Keyed.{at_key}
use Rattle.wc_board.specs.declared.connection.Connection.{Connection}
use Rattle.wc_board.specs.BoardView.{BoardView}
use Rattle.wc_core.specs.CoreView.{CoreView}
use Rattle.wc_servers.specs.Outs.{Out, ServersFollow}
use Rattle.wc_servers.proofs.OutLemmas.{ServersFollow-refl, ServersFollow-trans}
use Rattle.wc_core.specs.ServersKept.{LeaveInOrder, ServersKeep}
use Rattle.wc_core.proofs.ComeLemmas.{ServersKeep-refl, ServersKeep-trans, LeaveInOrder-refl, LeaveInOrder-trans}
use Rattle.wc_core.specs.State.{State, Act, Stepped, is_end, has_end}
use Rattle.wc_core.specs.Step.{no_step, then_does}
use Rattle.wc_board.specs.Connections.{connection_link, unsent_on, leaving_in, leaving_on}
use Rattle.wc_core.specs.Served.{links_of, state_of, WereTold, sent_by, sent_to, or_else, close_by, close_of, outs_by, outs_of, Distinct, Follows, LeavesBy, KeepsSaved, KeepsClients, FollowsUnlessStarved, Does, ChangesBuffers, ChangesServers}
use Rattle.wc_board.specs.Served.{StaysOrStarves}
use Rattle.wc_core.specs.State.{Beside, beside}
use Rattle.wc_eval.specs.Verdicts.{Oracle, Agrees}
use Rattle.wc_core.specs.BoardSteps.{board_of}
use Rattle.wc_core.proofs.BoardStepLemmas.{steps-none, steps-both, steps-same}
use Rattle.wc_core.proofs.OracleLemmas.{Stay-refl, Stay-trans, Agrees-before, verdicts-same}

pub sent_to-append : (j : ℕ) (a b : List Act) → sent_to j (a ++ b) ≡ sent_to j a ++ sent_to j b
sent_to-append j [] b = refl
sent_to-append j (x ∷ a) b = ap (λ t. sent_by j x ++ t) (sent_to-append j a b) ∙ sym (append_assoc (sent_by j x) (sent_to j a) (sent_to j b))

or_else-assoc : (a b c : Option Cause) → or_else (or_else a b) c ≡ or_else a (or_else b c)
or_else-assoc None b c = refl
or_else-assoc (Some x) b c = refl

pub or_else-none : (a : Option Cause) → or_else a None ≡ a
or_else-none None = refl
or_else-none (Some x) = refl

pub close_of-append : (j : ℕ) (a b : List Act) → close_of j (a ++ b) ≡ or_else (close_of j a) (close_of j b)
close_of-append j [] b = refl
close_of-append j (x ∷ a) b = ap (λ o. or_else (close_by j x) o) (close_of-append j a b) ∙ sym (or_else-assoc (close_by j x) (close_of j a) (close_of j b))

pub or-assoc : (a b c : Bool) → ((a || b) || c) ≡ (a || (b || c))
or-assoc true b c = refl
or-assoc false b c = refl

pub or-false : (b : Bool) → (b || false) ≡ b
or-false true = refl
or-false false = refl

pub or-true : (b : Bool) → (b || true) ≡ true
or-true true = refl
or-true false = refl

pub has_end-append : (a b : List Act) → has_end (a ++ b) ≡ (has_end a || has_end b)
has_end-append [] b = refl
has_end-append (x ∷ a) b = ap (λ t. is_end x || t) (has_end-append a b) ∙ sym (or-assoc (is_end x) (has_end a) (has_end b))

pub outs_of-append : (a b : List Act) → outs_of (a ++ b) ≡ outs_of a ++ outs_of b
outs_of-append [] b = refl
outs_of-append (x ∷ a) b = ap (λ t. outs_by x ++ t) (outs_of-append a b) ∙ sym (append_assoc (outs_by x) (outs_of a) (outs_of b))

-- servers stay as they are
pub servers-same : (a b : CoreView) → b.servers ≡ a.servers → ServersKeep a.servers b.servers
servers-same a b e = subst (ServersKeep a.servers) (sym e) (ServersKeep-refl a.servers)

pub no-outs : (a b : CoreView) (acts : List Act) → b.servers ≡ a.servers → outs_of acts ≡ [] → ServersFollow a.servers b.servers (outs_of acts)
no-outs a b acts e none =
    let P : List Out → Type 0 = λ outs. ServersFollow a.servers b.servers outs in
    subst P (sym none) (subst (λ servers. ServersFollow a.servers servers []) (sym e) (ServersFollow-refl a.servers))

pub no-order : (a b : CoreView) (acts : List Act) → b.servers ≡ a.servers → outs_of acts ≡ [] → LeaveInOrder a.servers b.servers (outs_of acts)
no-order a b acts e none =
    let P : List Out → Type 0 = λ outs. LeaveInOrder a.servers b.servers outs in
    subst P (sym none) (subst (λ servers. LeaveInOrder a.servers servers []) (sym e) (LeaveInOrder-refl a.servers))

-- nothing is done
pub Follows-stays : (told : Beside) (a : CoreView) → WereTold a told → Follows told a a (no_step (state_of a told))
Follows-stays told a were = record { means = record { same = refl; told = were }; oracle = refl; bytes = λ j. sym (append-nil (unsent_on j a.connections)); leaving = λ j. sym (or_else-none (leaving_on j a.connections)); quits = sym (or-false a.quits); servers = ServersFollow-refl a.servers; parts = LeaveInOrder-refl a.servers }

-- one step after another
pub Follows-then : (told : Beside) (a b c : CoreView) (first : Stepped) (next : State → Stepped) → ServersKeep a.servers b.servers → Follows told a b first → Follows (beside first.state) b c (next (state_of b (beside first.state))) → Follows told a c (then_does first next)
Follows-then told a b c first next come f g =
    let P : State → Type 0 = λ s. Follows (beside first.state) b c (next s) in
    let h : Follows (beside first.state) b c (next first.state) = subst P (sym f.means.same) g in
    let acts = (next first.state).acts in
    record {
      means = h.means;
      oracle = h.oracle ∙ f.oracle;
      bytes = λ j. h.bytes j ∙ ap (λ t. t ++ sent_to j acts) (f.bytes j) ∙ append_assoc (unsent_on j a.connections) (sent_to j first.acts) (sent_to j acts) ∙ ap (λ t. unsent_on j a.connections ++ t) (sym (sent_to-append j first.acts acts));
      leaving = λ j. h.leaving j ∙ ap (λ o. or_else o (close_of j acts)) (f.leaving j) ∙ or_else-assoc (leaving_on j a.connections) (close_of j first.acts) (close_of j acts) ∙ ap (λ o. or_else (leaving_on j a.connections) o) (sym (close_of-append j first.acts acts));
      quits = h.quits ∙ ap (λ t. t || has_end acts) f.quits ∙ or-assoc a.quits (has_end first.acts) (has_end acts) ∙ ap (λ t. a.quits || t) (sym (has_end-append first.acts acts));
      servers = (let Q : List Out → Type 0 = λ outs. ServersFollow a.servers c.servers outs in subst Q (sym (outs_of-append first.acts acts)) (ServersFollow-trans a.servers b.servers c.servers (outs_of first.acts) (outs_of acts) f.servers h.servers));
      parts = (let Q : List Out → Type 0 = λ outs. LeaveInOrder a.servers c.servers outs in subst Q (sym (outs_of-append first.acts acts)) (LeaveInOrder-trans a.servers b.servers c.servers (outs_of first.acts) (outs_of acts) come f.parts h.parts));
    }

pub KeepsSaved-trans : (a b c : CoreView) → KeepsSaved a b → KeepsSaved b c → KeepsSaved a c
KeepsSaved-trans a b c (inl f) (inl g) = inl (g.0 ∙ f.0, g.1 ∙ f.1)
KeepsSaved-trans a b c (inr f) (inl g) = inr (g.0 ∙ f.0, subst IsSome (sym g.1) f.1)
KeepsSaved-trans a b c f (inr g) = inr g

pub KeepsClients-refl : (a : CoreView) → KeepsClients a a
KeepsClients-refl a = record { board = steps-none (board_of a); rises = omega arith; links = refl; kept = λ j s. refl; saves = inl (refl, refl); servers = ServersKeep-refl a.servers; verdicts = Stay-refl a.verdicts }

pub KeepsClients-trans : (a b c : CoreView) → KeepsClients a b → KeepsClients b c → KeepsClients a c
KeepsClients-trans a b c f g = record {
  board = steps-both (board_of a) (board_of b) (board_of c) f.board g.board;
  rises = (let p = f.rises in let q = g.rises in omega arith);
  links = g.links ∙ f.links;
  kept = λ j s.
      let same = f.kept j s in
      let P : Option Connection → Type 0 = λ o. IsSome (leaving_in o) in
      g.kept j (subst P (sym same) s) ∙ same;
  saves = KeepsSaved-trans a b c f.saves g.saves;
  servers = ServersKeep-trans a.servers b.servers c.servers f.servers g.servers;
  verdicts = Stay-trans a.verdicts b.verdicts c.verdicts f.verdicts g.verdicts;
}

-- the same board, and want of memory may be counted
pub KeepsClients-connections : (a b : CoreView) → board_of b ≡ board_of a → a.starved ≤ b.starved → KeepsSaved a b → ServersKeep a.servers b.servers → b.verdicts ≡ a.verdicts → KeepsClients a b
KeepsClients-connections a b same rises saves servers judged = let e : b.connections ≡ a.connections = ap (λ (board : BoardView). board.connections) same in record { board = steps-same a b same; rises = rises; links = ap (map connection_link) e; kept = λ j s. ap (at_key connection_link j) e; saves = saves; servers = servers; verdicts = verdicts-same a.verdicts b.verdicts judged }

-- nothing is saved where this is all that is known of what was saved
pub saves-as : (a b c : CoreView) → b ≡ c → c.saved ≡ a.saved → c.unwritten ≡ a.unwritten → KeepsSaved a b
saves-as a b c e saved unwritten = inl (ap (λ (core : CoreView). core.unwritten) e ∙ unwritten, ap (λ (core : CoreView). core.saved) e ∙ saved)

pub FollowsUnlessStarved-exact : (told : Beside) (a b : CoreView) (s : Stepped) → KeepsClients a b → (Distinct (links_of a) → (j : ℕ) → leaving_on j b.connections ≡ or_else (leaving_on j a.connections) (close_of j s.acts))
    → (Distinct (links_of a) → WereTold a told → Follows told a b s) → FollowsUnlessStarved told a b s
FollowsUnlessStarved-exact told a b s keeps leaves did = record { keeps = keeps; causes = λ distinct j. inl (leaves distinct j); does = λ same below distinct were agrees. did distinct were }

-- where no client begins to leave
pub leaves-none : (a : CoreView) (s : Stepped) → ((j : ℕ) → close_of j s.acts ≡ None) → (j : ℕ) → leaving_on j a.connections ≡ or_else (leaving_on j a.connections) (close_of j s.acts)
leaves-none a s closes j = sym (ap (or_else (leaving_on j a.connections)) (closes j) ∙ or_else-none (leaving_on j a.connections))

pub Does-stays : (a : CoreView) → Does a a no_step
Does-stays a = λ told. FollowsUnlessStarved-exact told a a (no_step (state_of a told)) (KeepsClients-refl a) (λ distinct. leaves-none a (no_step (state_of a told)) (λ j. refl)) (λ distinct were. Follows-stays told a were)

-- a client that is leaving stays so for the same cause
leaving-stays : (a b : CoreView) (j : ℕ) (why : Cause) → KeepsClients a b → leaving_on j a.connections ≡ Some why → leaving_on j b.connections ≡ Some why
leaving-stays a b j why keeps e =
    let P : Option Cause → Type 0 = λ o. IsSome o in
    ap leaving_in (keeps.kept j (subst P (sym e) (some_is why))) ∙ e
  where
    some_is : (why : Cause) → IsSome (Some why)
    some_is why = refl

-- the first of two steps closes no one, and whom the second one closes is the same for the state that the core
-- then means
pub record ClosesLater (b : CoreView) (first : Stepped) (next : State → Stepped) : Type 0 where
  pub first_none : (j : ℕ) → close_of j first.acts ≡ None
  pub same : (j : ℕ) → close_of j (next (state_of b (beside first.state))).acts ≡ close_of j (next first.state).acts

pub causes-then : (a b c : CoreView) (first : Stepped) (next : State → Stepped) (j : ℕ) → ClosesLater b first next → KeepsClients b c
    → LeavesBy (leaving_on j a.connections) (close_of j first.acts) (leaving_on j b.connections) → LeavesBy (leaving_on j b.connections) (close_of j (next (state_of b (beside first.state))).acts) (leaving_on j c.connections)
    → LeavesBy (leaving_on j a.connections) (close_of j (then_does first next).acts) (leaving_on j c.connections)
causes-then a b c first next j closes keeps f g = by (stays_by f) g where
  later : State
  later = state_of b (beside first.state)

  whole : close_of j (next later).acts ≡ close_of j (then_does first next).acts
  whole =
      closes.same j ∙ ap (λ o. or_else o (close_of j (next first.state).acts)) (sym (closes.first_none j))
      ∙ sym (close_of-append j first.acts (next first.state).acts)

  stays_by : LeavesBy (leaving_on j a.connections) (close_of j first.acts) (leaving_on j b.connections) → StaysOrStarves (leaving_on j a.connections) (leaving_on j b.connections)
  stays_by (inl e) = inl (e ∙ ap (or_else (leaving_on j a.connections)) (closes.first_none j) ∙ or_else-none (leaving_on j a.connections))
  stays_by (inr e) = e

  by : StaysOrStarves (leaving_on j a.connections) (leaving_on j b.connections) → LeavesBy (leaving_on j b.connections) (close_of j (next later).acts) (leaving_on j c.connections)
      → LeavesBy (leaving_on j a.connections) (close_of j (then_does first next).acts) (leaving_on j c.connections)
  by (inl e) (inl g) = inl (g ∙ ap (λ o. or_else o (close_of j (next later).acts)) e ∙ ap (or_else (leaving_on j a.connections)) whole)
  by (inl e) (inr (inl g)) = inr (inl (g ∙ e))
  by (inl e) (inr (inr g)) = inr (inr g)
  by (inr e) g = inr (inr (leaving-stays b c j NoMemory keeps e))

pub FollowsUnlessStarved-then : (told : Beside) (a b c : CoreView) (first : Stepped) (next : State → Stepped) → ClosesLater b first next → FollowsUnlessStarved told a b first → Does b c next → FollowsUnlessStarved told a c (then_does first next)
FollowsUnlessStarved-then told a b c first next closes f done = record {
  keeps = KeepsClients-trans a b c f.keeps g.keeps;
  causes = λ distinct j. causes-then a b c first next j closes g.keeps (f.causes distinct j) (g.causes (subst Distinct (sym f.keeps.links) distinct) j);
  does = λ same below distinct were agrees.
      let p = f.keeps.rises in
      let q = g.keeps.rises in
      let half : b.starved ≡ a.starved = omega arith in
      let rest : c.starved ≡ b.starved = omega arith in
      let before = f.does half below distinct were (Agrees-before told.oracle b.verdicts c.verdicts g.keeps.verdicts agrees) in
      let P : Oracle → Type 0 = λ oracle. Agrees oracle c.verdicts in
      Follows-then told a b c first next f.keeps.servers before (g.does rest (omega arith) (subst Distinct (sym f.keeps.links) distinct) before.means.told (subst P (sym before.oracle) agrees));
} where
  g : FollowsUnlessStarved (beside first.state) b c (next (state_of b (beside first.state)))
  g = done (beside first.state)

-- ---- what stays

pub ChangesBuffers-trans : (a b c : CoreView) → ChangesBuffers a b → ChangesBuffers b c → ChangesBuffers a c
ChangesBuffers-trans a b c f g = let F : CoreView → CoreView = λ core. record core { world = c.world; pending = c.pending; connections = c.connections; hotlist = c.hotlist; starved = c.starved; cuts = c.cuts } in g ∙ ap F f

pub ChangesServers-trans : (a b c : CoreView) → ChangesServers a b → ChangesServers b c → ChangesServers a c
ChangesServers-trans a b c f g = let F : CoreView → CoreView = λ core. record core { world = c.world; pending = c.pending; connections = c.connections; hotlist = c.hotlist; servers = c.servers; starved = c.starved; cuts = c.cuts } in g ∙ ap F f

pub changes-servers : (a b : CoreView) → ChangesBuffers a b → ChangesServers a b
changes-servers a b e =
    let F : CoreView → CoreView = λ core. record core { servers = b.servers } in
    let same : b ≡ F b = refl in
    same ∙ ap F e
