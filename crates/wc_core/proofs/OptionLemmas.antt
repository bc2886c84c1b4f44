-- What becomes of an option, and what is told where it does not get a value.
use Rattle.std.proofs.Common.{◌≡◌, ◌≢◌, ℕ, zero, suc, Bool, true, false, cond, not, List, [], ◌∷◌, codes, length, nat_le, ◌&&◌, Option, Some, None, refl, sym, subst, inl, inr, arith, append-nil, get_or}
use Rattle.std.specs.Str.{IsUtf8}
use Rattle.std.proofs.lemmas.Str.{IsUtf8-nil, IsUtf8-append}
use Rattle.wc_options.specs.Config.{config_text}
use Rattle.wc_options.specs.Names.{Located, AtGlobal, AtServer, located, row_of_located}
use Rattle.wc_options.specs.Options.{OptionsValue, refusal_of, refusal_in, refusal_at, value_of, with_value, without_value, makes_server, most_servers}
use Rattle.wc_options.specs.Table.{OptionRow, globals, of_server, no_row}
use Rattle.wc_options.specs.Values.{value_fits}
use Rattle.wc_options.specs.declared.refusal.SetRefused.{SetRefused}
use Rattle.wc_options.specs.declared.refusal.SetRefused.TheVariants as option
use Rattle.wc_core.specs.CoreView.{CoreView}
use Rattle.wc_core.specs.Resolved.{option_text}
use Rattle.wc_core.specs.State.{State, Stepped}
use Rattle.wc_core.specs.Step.{refusal_step, set_step, set_step_if, unset_step, unset_step_if, save_step}
use Rattle.wc_board.specs.Connections.{unsent_on}
use Rattle.wc_servers.proofs.OutLemmas.{ServersFollow-refl}
use Rattle.wc_core.proofs.ComeLemmas.{ServersKeep-refl, LeaveInOrder-refl}
use Rattle.wc_core.proofs.DidLemmas.{or-false, leaves-none, KeepsClients-connections}
use Rattle.wc_core.proofs.TypedLemmas.{ascii_text}
use Rattle.wc_core.specs.Contained.{Rest, state_with, RunsAt, Runs}
use Rattle.wc_core.specs.Served.{clients_of}
use Rattle.wc_session.specs.declared.client.Client.{Client}
use Rattle.wc_core.specs.Changing.{put_step, then_does, refused, change_step_if, limit_change, limit_step}
use Rattle.wc_core.proofs.ChainLemmas.{ClosesNone, Runs-cut, Runs-then}
use Rattle.wc_core.proofs.ChangeCloses.{limits-closes}
use Rattle.wc_model.specs.Apply.{refusal_of as change_refusal}
use Rattle.wc_core.proofs.RunLemmas.{RunsAt-exact}
use Rattle.wc_core.proofs.CountLemmas.{counts-none}
use Rattle.wc_core.proofs.BoardStepLemmas.{by-same}
use Rattle.wc_core.specs.BoardSteps.{board_of}

-- ---- another limit of lines

-- it is never refused
pub limit-done : (old new : CoreView) (limit : ℕ) → Runs old new (λ state. change_step_if state (limit_change limit) (refused state (limit_change limit))) → Runs old new (λ state. limit_step state (Some limit))
unfolding change_refusal
limit-done old new limit done = done

-- where it was cut short nothing more is done
pub limit-cut : (old new : CoreView) (limit asked : Option ℕ) (next : State → Stepped) → limit ≡ asked → new.cuts ≢ old.cuts → Runs old new (λ state. limit_step state limit) → Runs old new (λ state. then_does (limit_step state asked) next)
limit-cut old new limit asked next e cut done =
    let P : Option ℕ → Type 0 = λ o. Runs old new (λ state. then_does (limit_step state o) next) in
    subst P e (Runs-cut old new (λ state. limit_step state limit) next (λ j state. limits-closes j state limit) cut done)

pub limit-then : (old mid new : CoreView) (limit asked : Option ℕ) (next : State → Stepped) → ClosesNone next → limit ≡ asked → mid.cuts ≡ old.cuts → Runs old mid (λ state. limit_step state limit) → Runs mid new next → Runs old new (λ state. then_does (limit_step state asked) next)
limit-then old mid new limit asked next none e uncut done more =
    let P : Option ℕ → Type 0 = λ o. Runs old new (λ state. then_does (limit_step state o) next) in
    subst P e (Runs-then old mid new (λ state. limit_step state limit) next (λ j state. limits-closes j state limit) none uncut done more)

-- ---- the options after a command

pub options-are : (told : Rest) (old : CoreView) (options : OptionsValue) → RunsAt told old (record old { options = options }) (put_step (record (state_with old told) { options = options }))
options-are told old options =
    let new : CoreView = record old { options = options } in
    let of : List Client → Stepped = λ clients. put_step (record (state_with old told) { options = options; clients = clients }) in
    RunsAt-exact told old new of (KeepsClients-connections old new refl (omega arith) (inl (refl, refl)) (ServersKeep-refl old.servers) refl) (by-same (board_of old) (board_of old) refl) (counts-none old new refl refl refl)
    (λ distinct. leaves-none old (of (clients_of old.connections)) (λ j. refl))
    (λ distinct were. record { means = record { same = refl; told = were }; oracle = refl; bytes = λ j. sym (append-nil (unsent_on j old.connections)); leaving = leaves-none old (of (clients_of old.connections)) (λ j. refl); quits = sym (or-false old.quits); servers = ServersFollow-refl old.servers; parts = LeaveInOrder-refl old.servers })
    (λ distinct were. record { holds = record { same = refl; told = were }; is_on = inr refl; oracle = refl; quits = sym (or-false old.quits); servers = ServersFollow-refl old.servers })

-- the text of the options is kept as the one that was saved last
pub save-done : (old : CoreView) (text : List ℕ) → text ≡ config_text old.options → Runs old (record old { saved = Some text; unwritten = true }) save_step
save-done old text e = λ told.
    let P : List ℕ → Type 0 = λ t. RunsAt told old (record old { saved = Some text; unwritten = true }) (put_step (record (state_with old told) { saved = Some t })) in
    subst P e (saved told)
  where
    new : CoreView
    new = record old { saved = Some text; unwritten = true }

    of : Rest → List Client → Stepped
    of told clients = put_step (record (state_with old told) { saved = Some text; clients = clients })

    saved : (told : Rest) → RunsAt told old new (put_step (record (state_with old told) { saved = Some text }))
    saved told =
        RunsAt-exact told old new (of told) (KeepsClients-connections old new refl (omega arith) (inr (refl, refl)) (ServersKeep-refl old.servers) refl) (by-same (board_of old) (board_of old) refl) (counts-none old new refl refl refl)
        (λ distinct. leaves-none old (of told (clients_of old.connections)) (λ j. refl))
        (λ distinct were. record { means = record { same = refl; told = were }; oracle = refl; bytes = λ j. sym (append-nil (unsent_on j old.connections)); leaving = leaves-none old (of told (clients_of old.connections)) (λ j. refl); quits = sym (or-false old.quits); servers = ServersFollow-refl old.servers; parts = LeaveInOrder-refl old.servers })
        (λ distinct were. record { holds = record { same = refl; told = were }; is_on = inr refl; oracle = refl; quits = sym (or-false old.quits); servers = ServersFollow-refl old.servers })

pub set-done : (old : CoreView) (options : OptionsValue) (name value : List ℕ) → refusal_of old.options name value ≡ None → options ≡ with_value old.options name value → Runs old (record old { options = options }) (λ state. set_step state name value)
set-done old options name value accepted e = λ told.
    let P : OptionsValue → Type 0 = λ o. RunsAt told old (record old { options = options }) (put_step (record (state_with old told) { options = o })) in
    let Q : Option SetRefused → Type 0 = λ o. RunsAt told old (record old { options = options }) (set_step_if (state_with old told) name value o) in
    subst Q (sym accepted) (subst P e (options-are told old options))

set-told : (old new : CoreView) (name value : List ℕ) (reason : SetRefused) → refusal_of old.options name value ≡ Some reason → Runs old new (λ state. refusal_step state (option_text name reason)) → Runs old new (λ state. set_step state name value)
set-told old new name value reason refused done = λ told.
    let Q : Option SetRefused → Type 0 = λ o. RunsAt told old new (set_step_if (state_with old told) name value o) in
    subst Q (sym refused) (done told)

-- where the options stayed as they were
set-refused-by : (old new : CoreView) (name value : List ℕ) (reason : SetRefused) → (reason ≢ option.NoMemory → refusal_of old.options name value ≡ Some reason)
    → (reason ≢ option.NoMemory → Runs old new (λ state. refusal_step state (option_text name reason))) → (reason ≡ option.NoMemory → (step : State → Stepped) → Runs old new step)
    → Runs old new (λ state. set_step state name value)
set-refused-by old new name value option.NoMemory refuses told starves = starves refl (λ state. set_step state name value)
set-refused-by old new name value option.UnknownOption refuses told starves = set-told old new name value option.UnknownOption (refuses (λ e. cc)) (told (λ e. cc))
set-refused-by old new name value (option.BadValue range) refuses told starves = set-told old new name value (option.BadValue range) (refuses (λ e. cc)) (told (λ e. cc))
set-refused-by old new name value (option.TooManyServers limit) refuses told starves = set-told old new name value (option.TooManyServers limit) (refuses (λ e. cc)) (told (λ e. cc))

pub set-refused : (old new : CoreView) (options : OptionsValue) (name value : List ℕ) (reason : SetRefused) → options ≡ old.options → (reason ≢ option.NoMemory → refusal_of old.options name value ≡ Some reason)
    → (reason ≢ option.NoMemory → Runs (record old { options = options }) new (λ state. refusal_step state (option_text name reason)))
    → (reason ≡ option.NoMemory → (step : State → Stepped) → Runs (record old { options = options }) new step)
    → Runs old new (λ state. set_step state name value)
set-refused old new options name value reason e refuses told starves =
    let P : OptionsValue → Type 0 = λ o. reason ≢ option.NoMemory → Runs (record old { options = o }) new (λ state. refusal_step state (option_text name reason)) in
    let Q : OptionsValue → Type 0 = λ o. reason ≡ option.NoMemory → (step : State → Stepped) → Runs (record old { options = o }) new step in
    set-refused-by old new name value reason refuses (subst P e told) (subst Q e starves)

pub unset-done : (old : CoreView) (options : OptionsValue) (name : List ℕ) → value_of old.options name ≢ None → options ≡ without_value old.options name → Runs old (record old { options = options }) (λ state. unset_step state name)
unset-done old options name known e = λ told. by told (value_of old.options name) refl where
  P : Rest → OptionsValue → Type 0
  P told o = RunsAt told old (record old { options = options }) (put_step (record (state_with old told) { options = o }))

  Q : Rest → Option (List ℕ) → Type 0
  Q told o = RunsAt told old (record old { options = options }) (unset_step_if (state_with old told) name o)

  by : (told : Rest) (o : Option (List ℕ)) → value_of old.options name ≡ o → RunsAt told old (record old { options = options }) (unset_step (state_with old told) name)
  by told None at = absurd (known at)
  by told (Some value) at = subst (Q told) (sym at) (subst (P told) e (options-are told old options))

unset-told : (old new : CoreView) (name : List ℕ) (reason : SetRefused) → reason ≡ option.UnknownOption → value_of old.options name ≡ None → Runs old new (λ state. refusal_step state (option_text name reason)) → Runs old new (λ state. unset_step state name)
unset-told old new name reason unknown none done = λ told.
    let P : SetRefused → Type 0 = λ reason. RunsAt told old new (refusal_step (state_with old told) (option_text name reason)) in
    let Q : Option (List ℕ) → Type 0 = λ o. RunsAt told old new (unset_step_if (state_with old told) name o) in
    subst Q (sym none) (subst P unknown (done told))

unknown-kept : (reason : SetRefused) → reason ≡ option.UnknownOption → reason ≢ option.NoMemory
unknown-kept option.NoMemory e = let q : option.NoMemory ≡ option.UnknownOption = e in cc
unknown-kept option.UnknownOption e = λ q. cc
unknown-kept (option.BadValue range) e = λ q. cc
unknown-kept (option.TooManyServers limit) e = λ q. cc

pub unset-refused : (old new : CoreView) (options : OptionsValue) (name : List ℕ) (reason : SetRefused) → options ≡ old.options → reason ≡ option.UnknownOption → value_of old.options name ≡ None
    → (reason ≢ option.NoMemory → Runs (record old { options = options }) new (λ state. refusal_step state (option_text name reason)))
    → Runs old new (λ state. unset_step state name)
unset-refused old new options name reason e unknown none told =
    let P : OptionsValue → Type 0 = λ o. Runs (record old { options = o }) new (λ state. refusal_step state (option_text name reason)) in
    unset-told old new name reason unknown none (subst P e (told (unknown-kept reason unknown)))

-- ---- why an option does not get a value

abbrev AreRangesUtf8 : List OptionRow → Type 0
AreRangesUtf8 [] = Unit {0}
AreRangesUtf8 (row ∷ rows) = IsUtf8 row.range × AreRangesUtf8 rows

range_text : (rows : List OptionRow) (place : ℕ) → AreRangesUtf8 rows → IsUtf8 (get_or rows place no_row).range
range_text [] place all = IsUtf8-nil
range_text (row ∷ rows) zero all = all.0
range_text (row ∷ rows) (suc place) all = range_text rows place all.1

global_ranges : AreRangesUtf8 globals
unfolding globals
global_ranges = (ascii_text (codes "1 to 4096") refl, (ascii_text (codes "text") refl, (ascii_text (codes "masks joined by commas") refl, (ascii_text (codes "1 to 64") refl, (ascii_text (codes "0 to 4096") refl, (ascii_text (codes "counted, fresh, read at the start") refl, (ascii_text (codes "1 to 65535, read at the start") refl, (ascii_text (codes "1 to 256, read at the start") refl, (ascii_text (codes "text, not empty") refl, (ascii_text (codes "text, not empty") refl, (ascii_text (codes "one word") refl, (ascii_text (codes "text") refl, (ascii_text (codes "text") refl, (ascii_text (codes "on, off") refl, (ascii_text (codes "on, off") refl, (ascii_text (codes "text") refl, (ascii_text (codes "text") refl, (ascii_text (codes "continue, disconnect") refl, (ascii_text (codes "words") refl, tt)))))))))))))))))))

server_ranges : AreRangesUtf8 of_server
unfolding of_server
server_ranges = (
  ascii_text (codes "address/port") refl,
  (
    ascii_text (codes "text, not empty") refl,
    (
      ascii_text (codes "one word") refl,
      (
        ascii_text (codes "text, not empty") refl,
        (
          ascii_text (codes "text") refl,
          (
            ascii_text (codes "text") refl,
            (
              ascii_text (codes "on, off") refl,
              (
                ascii_text (codes "on, off") refl,
                (
                  ascii_text (codes "text") refl,
                  (
                    ascii_text (codes "text") refl,
                    (
                      ascii_text (codes "continue, disconnect") refl,
                      (ascii_text (codes "words") refl, tt),
                    ),
                  ),
                ),
              ),
            ),
          ),
        ),
      ),
    ),
  ),
)

located_range : (place : Located) → IsUtf8 (row_of_located place).range
located_range (AtGlobal place) = range_text globals place global_ranges
located_range (AtServer server place) = range_text of_server place server_ranges

abbrev OptionUtf8 : List ℕ → Option SetRefused → Type 0
OptionUtf8 name None = Unit {0}
OptionUtf8 name (Some reason) = IsUtf8 (option_text name reason)

option_if : (b : Bool) (name : List ℕ) (x y : Option SetRefused) → OptionUtf8 name x → OptionUtf8 name y → OptionUtf8 name (cond b x y)
option_if true name x y p q = p
option_if false name x y p q = q

pub unknown_text : (name : List ℕ) → IsUtf8 name → IsUtf8 (option_text name option.UnknownOption)
unknown_text name utf8 = IsUtf8-append (codes "option: unknown: ") name (ascii_text (codes "option: unknown: ") refl) utf8

at_text : (options : OptionsValue) (name value : List ℕ) (place : Located) → OptionUtf8 name (refusal_at options value place)
at_text options name value place =
    option_if (not (value_fits (row_of_located place).kind value)) name (Some (option.BadValue (row_of_located place).range)) _
    (IsUtf8-append (codes "option: bad value, range ") (row_of_located place).range (ascii_text (codes "option: bad value, range ") refl) (located_range place))
    (option_if (makes_server options place && nat_le most_servers (length options.servers)) name (Some (option.TooManyServers most_servers)) None (ascii_text (codes "option: too many servers") refl) tt)

in_text : (options : OptionsValue) (name value : List ℕ) (o : Option Located) → IsUtf8 name → OptionUtf8 name (refusal_in options value o)
in_text options name value None utf8 = unknown_text name utf8
in_text options name value (Some place) utf8 = at_text options name value place

of_text : (options : OptionsValue) (name value : List ℕ) → IsUtf8 name → OptionUtf8 name (refusal_of options name value)
unfolding refusal_of
of_text options name value utf8 = in_text options name value (located name) utf8

told_text : (options : OptionsValue) (name value : List ℕ) (reason : SetRefused) → IsUtf8 name → refusal_of options name value ≡ Some reason → IsUtf8 (option_text name reason)
told_text options name value reason utf8 e = subst (OptionUtf8 name) e (of_text options name value utf8)

-- what is told is text
pub refused_text : (options : OptionsValue) (name value : List ℕ) (reason : SetRefused) → IsUtf8 name → (reason ≢ option.NoMemory → refusal_of options name value ≡ Some reason) → IsUtf8 (option_text name reason)
refused_text options name value option.NoMemory utf8 refuses = IsUtf8-nil
refused_text options name value option.UnknownOption utf8 refuses = told_text options name value option.UnknownOption utf8 (refuses (λ e. cc))
refused_text options name value (option.BadValue range) utf8 refuses = told_text options name value (option.BadValue range) utf8 (refuses (λ e. cc))
refused_text options name value (option.TooManyServers limit) utf8 refuses = told_text options name value (option.TooManyServers limit) utf8 (refuses (λ e. cc))

pub unset_text : (name : List ℕ) (reason : SetRefused) → IsUtf8 name → reason ≡ option.UnknownOption → IsUtf8 (option_text name reason)
unset_text name reason utf8 e = subst (λ reason. IsUtf8 (option_text name reason)) (sym e) (unknown_text name utf8)
