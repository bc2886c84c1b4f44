-- What becomes of the core by changes of filters.
use Rattle.std.proofs.Common.{◌≡◌, ◌≢◌, ℕ, List, [], ◌∷◌, ◌++◌, Option, Some, None, refl, sym, ap, subst, ◌∙◌, inl, inr, arith, append-nil, append_assoc, ◌+◌, ◌<◌, ◌≤◌, length, drop, get_or, suc, Bool, true, false, eqb-true}
use Rattle.std.specs.Prelude.{Err, ◌==◌}
use Rattle.std.proofs.lemmas.Bool.{false≢true}
use Rattle.std.proofs.lemmas.List.{drop_more, drop_all}
use Rattle.std.proofs.lemmas.List.Concat.{flat_map-append}
use Rattle.wc_text.specs.declared.names.Handle.{Handle}
use Rattle.wc_eval.specs.Verdicts.{Agrees, Stay}
use Rattle.wc_filters.specs.declared.filter.Filter.{Filter}
use Rattle.wc_filters.specs.declared.refused.FilterRefused.{FilterRefused}
use Rattle.wc_filters.specs.declared.refused.FilterRefused.TheVariants as refused
use Rattle.wc_filters.specs.Kept.{refusal_of}
use Rattle.wc_model.specs.declared.change.Flip.{Flip}
use Rattle.wc_model.specs.World.{World}
use Rattle.wc_world.specs.Near.{numbers, all_numbers}
use Rattle.wc_rules.specs.Plans.{IsPlan}
use Rattle.wc_rules.specs.RulesView.{RulesView}
use Rattle.wc_session.specs.declared.client.Client.{Client}
use Rattle.wc_servers.proofs.OutLemmas.{ServersFollow-refl}
use Rattle.wc_board.specs.Connections.{unsent_on}
use Rattle.wc_core.specs.BoardSteps.{board_of}
use Rattle.wc_core.specs.CoreView.{CoreView}
use Rattle.wc_core.specs.Contained.{Rest, state_with, RunsAt, Runs}
use Rattle.wc_core.specs.Changing.{put_step, made_step, with_filters, refilter_step, filters_step, add_filter_if, planned_step}
use Rattle.wc_core.specs.Fitted.{flips_at, flips_among, flips_change, flips_everywhere}
use Rattle.wc_core.specs.Inputs.{Judges, Values}
use Rattle.wc_core.specs.Resolved.{filter_text}
use Rattle.wc_core.specs.Served.{clients_of}
use Rattle.wc_core.specs.State.{State, Stepped}
use Rattle.wc_core.specs.Step.{refusal_step}
use Rattle.wc_core.proofs.BoardStepLemmas.{by-same}
use Rattle.wc_core.proofs.ChangeCloses.{adds_if-closes}
use Rattle.wc_core.proofs.ComeLemmas.{ServersKeep-refl, LeaveInOrder-refl}
use Rattle.wc_core.proofs.CountLemmas.{counts-none}
use Rattle.wc_core.proofs.DidLemmas.{leaves-none, KeepsClients-connections, or-false}
use Rattle.wc_core.proofs.EvalLemmas.{Runs-judged}
use Rattle.wc_core.proofs.RunLemmas.{RunsAt-exact}

-- ---- filters that are taken

filters-are : (told : Rest) (old : CoreView) (filters : List Filter) → RunsAt told old (record old { filters = filters }) (put_step (with_filters (state_with old told) filters))
filters-are told old filters =
    let new : CoreView = record old { filters = filters } in
    let of : List Client → Stepped = λ clients. put_step (record (with_filters (state_with old told) filters) { clients = clients }) in
    RunsAt-exact told old new of (KeepsClients-connections old new refl (omega arith) (inl (refl, refl)) (ServersKeep-refl old.servers) refl) (by-same (board_of old) (board_of old) refl) (counts-none old new refl refl refl)
    (λ distinct. leaves-none old (of (clients_of old.connections)) (λ j. refl))
    (λ distinct were. record { means = record { same = refl; told = were }; oracle = refl; bytes = λ j. sym (append-nil (unsent_on j old.connections)); leaving = leaves-none old (of (clients_of old.connections)) (λ j. refl); quits = sym (or-false old.quits); servers = ServersFollow-refl old.servers; parts = LeaveInOrder-refl old.servers })
    (λ distinct were. record { holds = record { same = refl; told = were }; is_on = inr refl; oracle = refl; quits = sym (or-false old.quits); servers = ServersFollow-refl old.servers })

-- no flag differs
pub takes-filters : (old new : CoreView) (filters : List Filter) (flips : List Flip) → flips ≡ [] → new ≡ record old { filters = filters } → Runs old new (λ state. refilter_step state filters flips)
takes-filters old new filters flips none e = λ told.
    let P : CoreView → Type 0 = λ core. RunsAt told old core (put_step (with_filters (state_with old told) filters)) in
    let Q : List Flip → Type 0 = λ flips. RunsAt told old new (refilter_step (state_with old told) filters flips) in
    subst Q (sym none) (subst P (sym e) (filters-are told old filters))

-- some do
pub flips-lines : (old new : CoreView) (filters : List Filter) (flips : List Flip) → flips ≢ [] → Runs old new (λ state. made_step (with_filters state filters) (flips_change flips)) → Runs old new (λ state. refilter_step state filters flips)
flips-lines old new filters [] some done = absurd (some refl)
flips-lines old new filters (flip ∷ flips) some done = done

-- the flips that were found are those of each state that the core means
pub filters-found : (old new : CoreView) (filters : List Filter) (flips : List Flip) → flips ≡ flips_everywhere filters old.world → Runs old new (λ state. refilter_step state filters flips) → Runs old new (λ state. filters_step state filters)
filters-found old new filters flips e done = λ told.
    let P : List Flip → Type 0 = λ flips. RunsAt told old new (refilter_step (state_with old told) filters flips) in
    subst P e (done told)

-- the core with the rules after they were taken
pub took : (old core : CoreView) (rules : RulesView) (filters : List Filter) → core ≡ old → rules ≡ record { verdicts = core.verdicts; filters = filters } → record core { verdicts = rules.verdicts; filters = rules.filters } ≡ record old { filters = filters }
took old core rules filters e is = ap (λ (r : RulesView). record core { verdicts = r.verdicts; filters = r.filters }) is ∙ ap (λ (c : CoreView). record c { filters = filters }) e

-- there are no flips where they are none by their number
pub none-are : (flips lent : List Flip) (b : Bool) → b ≡ (length lent == 0) → b ≡ true → lent ≡ flips → flips ≡ []
none-are flips [] b e t same = sym same
none-are flips (flip ∷ lent) b e t same = (let none : suc (length lent) ≡ 0 = eqb-true (suc (length lent)) 0 (sym e ∙ t) in absurd (omega (arith, none)))

pub some-are : (flips lent : List Flip) (b : Bool) → b ≡ (length lent == 0) → b ≡ false → lent ≡ flips → flips ≢ []
some-are flips lent b e f same = λ none. absurd (false≢true (sym f ∙ e ∙ ap (λ (l : List Flip). length l == 0) (same ∙ none)))

-- ---- one more filter

-- what a call judged that leaves the filters
pub judges-rules : (a : CoreView) (rules : RulesView) → rules ≡ record { verdicts = rules.verdicts; filters = a.filters } → Stay a.verdicts rules.verdicts → Judges a (record a { verdicts = rules.verdicts; filters = rules.filters })
judges-rules a rules only stay = record {
  only = ap (λ (r : RulesView). record a { verdicts = rules.verdicts; filters = r.filters }) only;
  stay = stay;
}

-- why a filter would not be added
abbrev pub why : Filter → State → Option FilterRefused
why filter state = refusal_of state.oracle state.filters filter.name filter.pattern

abbrev adding : Filter → State → Option FilterRefused → Stepped
adding filter state o = add_filter_if state filter o

pub adds-filter : (a b c : CoreView) (filter : Filter) (plan : List Filter) → Judges a b → plan ≡ a.filters ++ filter ∷ [] → Values a b None (why filter) → Runs b c (λ state. filters_step state plan) → Runs a c (λ state. add_filter_if state filter (why filter state))
adds-filter a b c filter plan judges e values done =
    Runs-judged a b c None (why filter) (adding filter) (λ j state o. adds_if-closes j state filter o) judges values (λ told.
    let P : List Filter → Type 0 = λ filters. RunsAt told b c (filters_step (state_with b told) filters) in
    subst P (e ∙ ap (λ (core : CoreView). core.filters ++ filter ∷ []) (sym judges.only)) (done told))

refuses-filter : (a b c : CoreView) (filter : Filter) (reason : FilterRefused) → Judges a b → Values a b (Some reason) (why filter) → Runs b c (λ state. refusal_step state (filter_text filter.name reason)) → Runs a c (λ state. add_filter_if state filter (why filter state))
refuses-filter a b c filter reason judges values done = Runs-judged a b c (Some reason) (why filter) (adding filter) (λ j state o. adds_if-closes j state filter o) judges values done

-- want of memory is told by no line
starves-filter : (a b c : CoreView) (filter : Filter) → Judges a b → ((step : State → Stepped) → Runs b c step) → Runs a c (λ state. add_filter_if state filter (why filter state))
starves-filter a b c filter judges any =
    Runs-judged {X = Bool} a b c true (λ state. true) (λ state x. add_filter_if state filter (why filter state)) (λ j state x. adds_if-closes j state filter (why filter state)) judges (λ told agrees. refl) (any (λ state. add_filter_if state filter (why filter state)))

pub refused-filter : (a b c : CoreView) (filter : Filter) (filters : List Filter) (reason : FilterRefused) → Judges a b → ((told : Rest) → Agrees told.oracle b.verdicts → IsPlan (why filter (state_with a told)) filters (Err reason))
    → (reason ≢ refused.NoMemory → Runs b c (λ state. refusal_step state (filter_text filter.name reason))) → (reason ≡ refused.NoMemory → (step : State → Stepped) → Runs b c step) → Runs a c (λ state. add_filter_if state filter (why filter state))
refused-filter a b c filter filters refused.NameTaken judges plan told starves = refuses-filter a b c filter refused.NameTaken judges (λ told agrees. sym (plan told agrees)) (told (λ e. absurd (cc)))
refused-filter a b c filter filters refused.BadPattern judges plan told starves = refuses-filter a b c filter refused.BadPattern judges (λ told agrees. sym (plan told agrees)) (told (λ e. absurd (cc)))
refused-filter a b c filter filters refused.TooMany judges plan told starves = refuses-filter a b c filter refused.TooMany judges (λ told agrees. sym (plan told agrees)) (told (λ e. absurd (cc)))
refused-filter a b c filter filters refused.NoMemory judges plan told starves = starves-filter a b c filter judges (starves refl)

-- ---- filters that were planned

pub plans-done : (old new : CoreView) (name called : List ℕ) (plan asked : Option (List Filter)) → called ≡ name → plan ≡ asked → Runs old new (λ state. planned_step state called plan) → Runs old new (λ state. planned_step state name asked)
plans-done old new name called plan asked same e done = λ told.
    let P : Option (List Filter) → Type 0 = λ o. RunsAt told old new (planned_step (state_with old told) name o) in
    let Q : List ℕ → Type 0 = λ name. RunsAt told old new (planned_step (state_with old told) name plan) in
    subst P e (subst Q same (done told))

-- ---- the flips of all buffers

-- those of one buffer more
pub flips-more : (filters : List Filter) (world : World) (flips all : List Flip) (group : List Handle) (i : ℕ) → i < length group → flips ++ flips_among filters world (numbers (drop i group)) ≡ all
    → (flips ++ flips_at filters world (get_or group i (record { 0 = 0 })).0) ++ flips_among filters world (numbers (drop (i + 1) group)) ≡ all
flips-more filters world flips all group i inside e =
    append_assoc flips (flips_at filters world (get_or group i (record { 0 = 0 })).0) (flips_among filters world (numbers (drop (i + 1) group))) ∙ ap (λ buffers. flips ++ flips_among filters world (numbers buffers)) (sym (drop_more group i (record { 0 = 0 }) inside)) ∙ e

pub flips-end : (filters : List Filter) (world : World) (flips all : List Flip) (group : List Handle) (i : ℕ) → length group ≤ i → flips ++ flips_among filters world (numbers (drop i group)) ≡ all → flips ≡ all
flips-end filters world flips all group i end e = sym (append-nil flips) ∙ ap (λ buffers. flips ++ flips_among filters world (numbers buffers)) (sym (drop_all i group end)) ∙ e

-- those of one group more
pub flips-group : (filters : List Filter) (world : World) (flips all : List Flip) (groups rest : List (List Handle)) (group : List Handle) → groups ≡ group ∷ rest → flips ++ flips_among filters world (all_numbers groups) ≡ all
    → (flips ++ flips_among filters world (numbers group)) ++ flips_among filters world (all_numbers rest) ≡ all
flips-group filters world flips all groups rest group next e =
    append_assoc flips (flips_among filters world (numbers group)) (flips_among filters world (all_numbers rest)) ∙ ap (λ more. flips ++ more) (sym (flat_map-append (λ buffer. flips_at filters world buffer) (numbers group) (all_numbers rest)))
    ∙ ap (λ all. flips ++ flips_among filters world (all_numbers all)) (sym next) ∙ e
