-- What is typed reaches the client that follows.
use Rattle.std.proofs.Common.{◌≡◌, ℕ, ◌≤◌, zero, suc, Bool, true, false, cond, ◌&&◌, not, List, [], ◌∷◌, Option, Some, None, refl, arith, leb, bytes_eq, IsUtf8}
use Rattle.std.specs.Prelude.{IfSome}
use Rattle.std.specs.List.{AllByRecursion}
use Rattle.wc_text.specs.declared.names.Handle.{Handle}
use Rattle.wc_text.specs.Splits.{BeginsWithout}
use Rattle.wc_buffers.specs.Calls.{is_there}
use Rattle.wc_model.specs.declared.change.Change.{Change}
use Rattle.wc_model.specs.Apply.{refusal_of}
use Rattle.wc_options.specs.Number.{number_of, within, number_in}
use Rattle.wc_options.specs.Options.{OptionsValue, refusal_of as option_refusal, value_of, with_value, without_value}
use Rattle.wc_options.specs.declared.refusal.SetRefused.{SetRefused}
use Rattle.wc_options.specs.declared.refusal.SetRefused.TheVariants.{UnknownOption}
use Rattle.wc_core.specs.Resolved.{Effect, Stays, Ends as ResolvedEnds, Tells as TellsRefusal, Asks, SetsOption, UnsetsOption, SavesOptions, ChangesHotlist, ChangesFilters, effect_of, option_text}
use Rattle.wc_core.specs.State.{State, Stepped, has_end}
use Rattle.wc_core.specs.Step.{no_step, then_does, set_step_if, set_step, unset_step_if, unset_step, limit_change, limit_step, set_effect_step, unset_effect_step, refused, ask_step, effect_step, other_of, input_by, input_step, lines_step, core_buffer, commands_step, start_step, begun_state, plain_step, Evaluation, evaluated_by, input_with, eval_step, evaluation_at}
use Rattle.wc_core.specs.Changing.{put_step, save_step, hotlist_step}
use Rattle.wc_core.specs.News.{rows_used}
use Rattle.wc_core.specs.Limits.{lines_option, limit_set, limit_unset}
use Rattle.wc_core.specs.ServerSteps.{before_step}
use Rattle.wc_core.specs.ServerTyped.{connect_all_step}
use Rattle.wc_core.specs.Typed.{typed_line, lines_of_text, evaluation_of}
use Rattle.wc_mirror_laws.proofs.HotlistKept.{used_small}
use Rattle.wc_mirror_laws.proofs.HotlistNews.{news_used, rows_there}
use Rattle.wc_mirror_laws.specs.Changes.{IsAsked}
use Rattle.wc_mirror_laws.specs.Held.{HeldPart}
use Rattle.wc_mirror_laws.specs.Kept.{IsStateKept}
use Rattle.wc_mirror_laws.proofs.ChangeLemmas.{Tells, Tells-stays, Tells-then, Tells-changes, Tells-tells, Tells-asks, Tells-refilters}
use Rattle.wc_mirror_laws.proofs.LimitLemmas.{counts_same}
use Rattle.wc_mirror_laws.proofs.NewsLemmas.{news_put, news_by_command}
use Rattle.wc_mirror_laws.proofs.ServedLemmas.{Tells-all, Tells-serves}
use Rattle.wc_mirror_laws.proofs.ServerLemmas.{Tells-before, Tells-quits}
use Rattle.wc_mirror_laws.proofs.SkipLemmas.{begun_kept}
use Rattle.wc_mirror_laws.proofs.TypedLemmas.{OnAsks, parted_text, typed_text, resolved_told}
use Rattle.wc_core.specs.Evaluated.{value_at, holds_at, answer_text, printed_value}
use Rattle.std.specs.Str.{is_utf8}
use Rattle.std.proofs.lemmas.Str.{IsUtf8-from_is_utf8}
use Rattle.std.proofs.lemmas.List.Elements.{All-nil}
use Rattle.std.proofs.lemmas.Bool.Decides.{nat_tests}
use Rattle.wc_mirror_laws.proofs.PrintLemmas.{level_fits}
use Rattle.wc_core.specs.declared.typed_eval.EvalUse.{EvalUse}
use Rattle.wc_core.specs.declared.typed_eval.EvalUse.TheVariants as eval

-- ---- the limit that an option asks for

number_within : (o : Option ℕ) → IfSome (within 1 4096 o) (λ n. (1 ≤ n) × (n ≤ 4096))
number_within None = tt
number_within (Some n) = by (leb 1 n) (leb n 4096) refl refl where
  by : (low high : Bool) → leb 1 n ≡ low → leb n 4096 ≡ high → IfSome (cond (low && high) (Some n) None) (λ n. (1 ≤ n) × (n ≤ 4096))
  by true true p q = (grind (arith, nat_tests), grind (arith, nat_tests))
  by true false p q = tt
  by false high p q = tt

set_within : (name value : List ℕ) → IfSome (limit_set name value) (λ n. (1 ≤ n) × (n ≤ 4096))
unfolding limit_set number_in
set_within name value = by (bytes_eq name lines_option) where
  by : (b : Bool) → IfSome (cond b (within 1 4096 (number_of value)) None) (λ n. (1 ≤ n) × (n ≤ 4096))
  by true = number_within (number_of value)
  by false = tt

unset_within : (name : List ℕ) → IfSome (limit_unset name) (λ n. (1 ≤ n) × (n ≤ 4096))
unfolding limit_unset
unset_within name = by (bytes_eq name lines_option) where
  by : (b : Bool) → IfSome (cond b (Some 4096) None) (λ n. (1 ≤ n) × (n ≤ 4096))
  by true = (omega arith, omega arith)
  by false = tt

-- ---- what is typed

-- the options have no part in what is held
Tells-options : (which : HeldPart) (limit : Option ℕ) (link : ℕ) (id : List ℕ) (state : State) (options : OptionsValue) → IsStateKept link state → Tells which limit link id state (put_step (record state { options = options }))
Tells-options which limit link id state options kept = record { following = refl; kept = record { most = kept.most; world = kept.world; once = kept.once; shown = kept.shown; told = kept.told; texts = kept.texts; rows = kept.rows; news = kept.news; there = kept.there; first = kept.first }; plain = λ plain. plain; counts = counts_same state.world; spelt = tt; news = news_put state (record state { options = options }) [] refl refl; right = λ follows plain stays part had. had }

-- a change, before which the channel of a buffer that is closed is left
Tells-changed : (which : HeldPart) (limit : Option ℕ) (link : ℕ) (id : List ℕ) (state : State) (change : Change) → BeginsWithout 95 id → IsStateKept link state → IsAsked change.what
    → Tells which limit link id state (then_does (before_step state change) (λ next. ask_step next change))
Tells-changed which limit link id state change free kept told =
    let first = Tells-before which limit link id free state change kept in
    Tells-then which limit link id state (before_step state change) (λ next. ask_step next change) first (Tells-asks which limit link id (before_step state change).state change free first.kept told)

Tells-sets : (which : HeldPart) (limit : Option ℕ) (link : ℕ) (id : List ℕ) (state : State) (name value : List ℕ) (o : Option SetRefused) → BeginsWithout 95 id → IsStateKept link state → Tells which limit link id state (set_step_if state name value o)
Tells-sets which limit link id state name value None free kept = Tells-options which limit link id state (with_value state.options name value) kept
Tells-sets which limit link id state name value (Some reason) free kept = Tells-tells which limit link id state (option_text name reason) free kept

Tells-unsets : (which : HeldPart) (limit : Option ℕ) (link : ℕ) (id : List ℕ) (state : State) (name : List ℕ) (o : Option (List ℕ)) → BeginsWithout 95 id → IsStateKept link state → Tells which limit link id state (unset_step_if state name o)
Tells-unsets which limit link id state name None free kept = Tells-tells which limit link id state (option_text name UnknownOption) free kept
Tells-unsets which limit link id state name (Some value) free kept = Tells-options which limit link id state (without_value state.options name) kept

-- no other limit is refused
limit_accepted : (state : State) (n : ℕ) → refused state (limit_change n) ≡ None
unfolding refusal_of
limit_accepted state n = refl

-- another limit of lines, which is one that a world may have
Tells-limits : (which : HeldPart) (limit : Option ℕ) (link : ℕ) (id : List ℕ) (state : State) (o : Option ℕ) → BeginsWithout 95 id → IsStateKept link state → IfSome o (λ n. (1 ≤ n) × (n ≤ 4096)) → Tells which limit link id state (limit_step state o)
Tells-limits which limit link id state None free kept told = Tells-stays which limit link id state kept
Tells-limits which limit link id state (Some n) free kept told = Tells-changes which limit link id state (limit_change n) free kept told (limit_accepted state n)

-- before an option of the limit has its value that is in effect
Tells-set-effects : (which : HeldPart) (limit : Option ℕ) (link : ℕ) (id : List ℕ) (state : State) (name value : List ℕ) → BeginsWithout 95 id → IsStateKept link state → Tells which limit link id state (set_effect_step state name value)
Tells-set-effects which limit link id state name value free kept =
    let first = limit_step state (limit_set name value) in
    let tells = Tells-limits which limit link id state (limit_set name value) free kept (set_within name value) in
    Tells-then which limit link id state first (λ next. set_step next name value) tells (Tells-sets which limit link id first.state name value (option_refusal first.state.options name value) free tells.kept)

Tells-unset-effects : (which : HeldPart) (limit : Option ℕ) (link : ℕ) (id : List ℕ) (state : State) (name : List ℕ) → BeginsWithout 95 id → IsStateKept link state → Tells which limit link id state (unset_effect_step state name)
Tells-unset-effects which limit link id state name free kept =
    let first = limit_step state (limit_unset name) in
    let tells = Tells-limits which limit link id state (limit_unset name) free kept (unset_within name) in
    Tells-then which limit link id state first (λ next. unset_step next name) tells (Tells-unsets which limit link id first.state name (value_of first.state.options name) free tells.kept)

Tells-resolved : (which : HeldPart) (limit : Option ℕ) (link : ℕ) (id : List ℕ) (state : State) (r : Effect) → BeginsWithout 95 id → IsStateKept link state → OnAsks r → Tells which limit link id state (effect_step state r)
Tells-resolved which limit link id state Stays free kept told = Tells-stays which limit link id state kept
Tells-resolved which limit link id state ResolvedEnds free kept told = Tells-quits which limit link id free state kept
Tells-resolved which limit link id state (TellsRefusal text) free kept told = Tells-tells which limit link id state text free kept
Tells-resolved which limit link id state (Asks change) free kept told = Tells-changed which limit link id state change free kept told
Tells-resolved which limit link id state (SetsOption name value) free kept told = Tells-set-effects which limit link id state name value free kept
Tells-resolved which limit link id state (UnsetsOption name) free kept told = Tells-unset-effects which limit link id state name free kept
Tells-resolved which limit link id state SavesOptions free kept told = record { following = refl; kept = record { most = kept.most; world = kept.world; once = kept.once; shown = kept.shown; told = kept.told; texts = kept.texts; rows = kept.rows; news = kept.news; there = kept.there; first = kept.first }; plain = λ plain. plain; counts = counts_same state.world; spelt = tt; news = news_put state (save_step state).state [] refl refl; right = λ follows plain stays part had. had }
Tells-resolved which limit link id state (ChangesHotlist usage buffer) free kept told =
    let news = news_used state.world.groups usage buffer state.hotlist kept.news in
    record {
      following = refl;
      kept = record {
        most = kept.most;
        world = kept.world;
        once = kept.once;
        shown = kept.shown;
        told = kept.told;
        texts = kept.texts;
        rows = used_small usage buffer state.hotlist kept.rows;
        news = news;
        there = rows_there state.world.groups (rows_used usage buffer state.hotlist) news;
        first = kept.first;
      };
      plain = λ plain. plain;
      counts = counts_same state.world;
      spelt = tt;
      news = news_by_command state (hotlist_step state usage buffer).state usage buffer refl refl;
      right = λ follows plain stays part had. had;
    }
Tells-resolved which limit link id state (ChangesFilters change) free kept told = Tells-refilters which limit link id state change free kept

Tells-plain : (which : HeldPart) (limit : Option ℕ) (link : ℕ) (id : List ℕ) (state : State) (buffer : Handle) (line : List ℕ) → BeginsWithout 95 id → IsStateKept link state → IsUtf8 line
    → Tells which limit link id state (plain_step state buffer line)
Tells-plain which limit link id state buffer line free kept utf8 = by (other_of (typed_line line)) where
  by : (o : Option (List ℕ)) → Tells which limit link id state (input_by state buffer line o)
  by None =
      Tells-resolved which limit link id state (effect_of state.world state.moment buffer (typed_line line)) free kept
      (resolved_told state.world.limit state.world state.moment buffer (typed_line line) kept.world (typed_text line utf8))
  by (Some text) = Tells-serves which limit link id free state buffer line text kept

-- ---- what is evaluated reaches it too, however many are inside one another

abbrev TellsAll : HeldPart → Option ℕ → ℕ → List ℕ → Evaluation → Type 0
TellsAll which limit link id evaluate = (state : State) (buffer : Handle) (usage : EvalUse) (text : List ℕ) → IsStateKept link state → Tells which limit link id state (evaluate state buffer usage text)

Tells-evaluated : (which : HeldPart) (limit : Option ℕ) (link : ℕ) (id : List ℕ) (evaluate : Evaluation) → BeginsWithout 95 id → TellsAll which limit link id evaluate → (state : State) (buffer : Handle) (line : List ℕ) (o : Option (EvalUse × List ℕ)) → IsStateKept link state → IsUtf8 line
    → Tells which limit link id state (evaluated_by evaluate state buffer line o)
Tells-evaluated which limit link id evaluate free all state buffer line None kept utf8 = Tells-plain which limit link id state buffer line free kept utf8
Tells-evaluated which limit link id evaluate free all state buffer line (Some (usage, text)) kept utf8 = all state buffer usage text kept

Tells-input : (which : HeldPart) (limit : Option ℕ) (link : ℕ) (id : List ℕ) (evaluate : Evaluation) → BeginsWithout 95 id → TellsAll which limit link id evaluate → (state : State) (buffer : Handle) (line : List ℕ) → IsStateKept link state → IsUtf8 line
    → Tells which limit link id state (input_with evaluate state buffer line)
Tells-input which limit link id evaluate free all state buffer line kept utf8 = Tells-evaluated which limit link id evaluate free all state buffer line (evaluation_of (typed_line line)) kept utf8

Tells-printed : (which : HeldPart) (limit : Option ℕ) (link : ℕ) (id : List ℕ) (state : State) (value : List ℕ) → BeginsWithout 95 id → IsStateKept link state → Tells which limit link id state (ask_step state (printed_value state.moment value))
Tells-printed which limit link id state value free kept = Tells-asks which limit link id state (printed_value state.moment value) free kept (All-nil IsUtf8, level_fits [] false)

Tells-eval : (which : HeldPart) (limit : Option ℕ) (link : ℕ) (id : List ℕ) (evaluate : Evaluation) → BeginsWithout 95 id → TellsAll which limit link id evaluate → TellsAll which limit link id (eval_step (input_with evaluate))
Tells-eval which limit link id evaluate free all state buffer eval.Run text kept = by (is_utf8 value) refl where
  value : List ℕ
  value = value_at state buffer text

  by : (t : Bool) → is_utf8 value ≡ t → Tells which limit link id state (cond t (input_with evaluate state buffer value) (no_step state))
  by true e = Tells-input which limit link id evaluate free all state buffer value kept (IsUtf8-from_is_utf8 value e)
  by false e = Tells-stays which limit link id state kept
Tells-eval which limit link id evaluate free all state buffer eval.Print text kept = Tells-printed which limit link id state (value_at state buffer text) free kept
Tells-eval which limit link id evaluate free all state buffer eval.Test text kept = Tells-printed which limit link id state (answer_text (holds_at state buffer text)) free kept

Tells-levels : (which : HeldPart) (limit : Option ℕ) (link : ℕ) (id : List ℕ) (levels : ℕ) → BeginsWithout 95 id → TellsAll which limit link id (evaluation_at levels)
unfolding evaluation_at
Tells-levels which limit link id zero free = λ state buffer usage text kept. Tells-stays which limit link id state kept
Tells-levels which limit link id (suc levels) free = Tells-eval which limit link id (evaluation_at levels) free (Tells-levels which limit link id levels free)

Tells-does : (which : HeldPart) (limit : Option ℕ) (link : ℕ) (id : List ℕ) (state : State) (buffer : Handle) (line : List ℕ) → BeginsWithout 95 id → IsStateKept link state → IsUtf8 line
    → Tells which limit link id state (input_step state buffer line)
Tells-does which limit link id state buffer line free kept utf8 = Tells-input which limit link id (evaluation_at 32) free (Tells-levels which limit link id 32 free) state buffer line kept utf8

pub Tells-runs : (which : HeldPart) (limit : Option ℕ) (link : ℕ) (id : List ℕ) (state : State) (buffer : Handle) (lines : List (List ℕ)) → BeginsWithout 95 id → IsStateKept link state → AllByRecursion IsUtf8 lines
    → Tells which limit link id state (lines_step state buffer lines)
Tells-runs which limit link id state buffer [] free kept utf8 = Tells-stays which limit link id state kept
Tells-runs which limit link id state buffer (line ∷ lines) free kept utf8 =
    by (not (is_there buffer state.world.groups)) (has_end one.acts) (Tells-does which limit link id state buffer line free kept utf8.0)
    (λ next k. Tells-runs which limit link id next buffer lines free k utf8.1)
  where
    one : Stepped
    one = input_step state buffer line

    by : (gone quits : Bool) → Tells which limit link id state one → ((next : State) → IsStateKept link next → Tells which limit link id next (lines_step next buffer lines))
        → Tells which limit link id state (cond gone (no_step state) (cond quits one (then_does one (λ next. lines_step next buffer lines))))
    by true quits first others = Tells-stays which limit link id state kept
    by false true first others = first
    by false false first others = Tells-then which limit link id state one (λ next. lines_step next buffer lines) first (others one.state first.kept)

-- the commands of the start
pub Tells-commands : (which : HeldPart) (limit : Option ℕ) (link : ℕ) (id : List ℕ) (state : State) (commands : List (List ℕ)) → BeginsWithout 95 id → IsStateKept link state → AllByRecursion IsUtf8 commands
    → Tells which limit link id state (commands_step state commands)
Tells-commands which limit link id state [] free kept utf8 = Tells-stays which limit link id state kept
Tells-commands which limit link id state (command ∷ commands) free kept utf8 =
    by (has_end one.acts) (Tells-runs which limit link id state core_buffer (lines_of_text command) free kept (parted_text command utf8.0))
    (λ next k. Tells-commands which limit link id next commands free k utf8.1)
  where
    one : Stepped
    one = lines_step state core_buffer (lines_of_text command)

    by : (quits : Bool) → Tells which limit link id state one → ((next : State) → IsStateKept link next → Tells which limit link id next (commands_step next commands))
        → Tells which limit link id state (cond quits one (then_does one (λ next. commands_step next commands)))
    by true first others = first
    by false first others = Tells-then which limit link id state one (λ next. commands_step next commands) first (others one.state first.kept)

-- and after them the servers that are connected by themselves
pub Tells-start : (which : HeldPart) (limit : Option ℕ) (link : ℕ) (id : List ℕ) (state : State) (moment : ℕ) → BeginsWithout 95 id → IsStateKept link state
    → Tells which limit link id (begun_state state moment) (start_step (begun_state state moment) state.commands)
Tells-start which limit link id state moment free kept =
    by (has_end one.acts) (Tells-commands which limit link id (begun_state state moment) state.commands free (begun_kept link state moment kept) kept.texts)
  where
    one : Stepped
    one = commands_step (begun_state state moment) state.commands

    by : (quits : Bool) → Tells which limit link id (begun_state state moment) one → Tells which limit link id (begun_state state moment) (cond quits one (then_does one connect_all_step))
    by true first = first
    by false first = Tells-then which limit link id (begun_state state moment) one connect_all_step first (Tells-all which limit link id free one.state first.kept)
