-- What is typed for servers, and how connections are begun.
use Rattle.std.proofs.Common.{◌≡◌, ◌≢◌, ℕ, ◌^◌, ◌<◌, ◌≤◌, Bool, true, false, cond, List, ◌∷◌, codes, Option, Some, None, Result, Ok, is_some, refl, ap, sym, subst, ◌∙◌, arith, nat_le}
use Rattle.std.specs.Borrow.{Bor}
use Rattle.std.specs.Option.{option_copied}
use Rattle.std.specs.Prelude.{option_map}
use Rattle.std.proofs.lemmas.Bool.Decides.{nat_tests}
use Rattle.wc_text.specs.declared.names.Handle.{Handle}
use Rattle.wc_text.specs.declared.names.Pair.{Pair}
use Rattle.wc_options.specs.Options.{OptionsValue, refusal_of, with_value, without}
use Rattle.wc_options.specs.declared.refusal.SetRefused.{SetRefused}
use Rattle.wc_options.specs.declared.refusal.SetRefused.TheVariants as option
use Rattle.wc_irc.specs.declared.refused.ServerRefused.{ServerRefused}
use Rattle.wc_irc.specs.ServerOptions.{connect_refusal, delete_refusal}
use Rattle.wc_irc_texts.specs.Texts.{in_one_line}
use Rattle.wc_irc_words.specs.Typed.{ServerCommand, asked_of}
use Rattle.wc_irc.specs.Servers.{ServerState}
use Rattle.wc_irc.specs.Start.{start_of}
use Rattle.wc_servers.specs.Seats.{ServerSeat}
use Rattle.wc_core.specs.CoreView.{CoreView}
use Rattle.wc_core.specs.Resolved.{option_text}
use Rattle.wc_core.specs.State.{State, Stepped}
use Rattle.wc_core.specs.Changing.{no_step, then_does, put_step}
use Rattle.wc_core.specs.ServerSteps.{say_step, server_of}
use Rattle.wc_core.specs.ServerTyped.{is_linked, settings_if, settings_step, delete_step, disconnect_step_if, meant_server, disconnect_step, on_buffer_step, served_step, served_line_step, open_step, seat_step, begin_step, connect_step_if, connect_step, connects_itself, connect_own_step, connect_each_step, server_names, connect_all_step}
use Rattle.wc_core.specs.Served.{plain_beside, state_of}
use Rattle.wc_core.proofs.ChainLemmas.{Runs-then, Runs-cut, Runs-as}
use Rattle.wc_core.proofs.OptionLemmas.{options-are}
use Rattle.wc_core.proofs.ServerCloses.{settings-closes, opens-closes, connects_own-closes, connects_each-closes}
use Rattle.wc_core.specs.Contained.{state_with, Runs, Rest}

-- ---- options one after another

-- one that gets its value, and the others
pub settings-more : (old new : CoreView) (options : OptionsValue) (setting : Pair) (settings : List Pair) → refusal_of old.options setting.name setting.value ≡ None → options ≡ with_value old.options setting.name setting.value
    → Runs (record old { options = options }) new (λ state. settings_step state settings) → Runs old new (λ state. settings_step state (setting ∷ settings))
settings-more old new options setting settings accepted e done =
    let next : State → Stepped = λ state. settings_step state settings in
    let first : State → Stepped = λ state. put_step (record state { options = options }) in
    let F : Rest → OptionsValue → Stepped = λ told options. then_does (put_step (record (state_with old told) { options = options })) next in
    Runs-as old new (λ state. then_does (first state) next) (λ state. settings_step state (setting ∷ settings)) (λ told. ap (F told) e ∙ sym (ap (settings_if (state_with old told) setting next) accepted))
    (Runs-then old (record old { options = options }) new first next (λ j state. refl) (λ j state. settings-closes j state settings) refl (λ told. options-are told old options) done)

-- one that does not, which is told
settings-told : (old new : CoreView) (setting : Pair) (settings : List Pair) (reason : SetRefused) → refusal_of old.options setting.name setting.value ≡ Some reason → Runs old new (λ state. say_step state (option_text setting.name reason))
    → Runs old new (λ state. settings_step state (setting ∷ settings))
settings-told old new setting settings reason refused done =
    Runs-as old new (λ state. say_step state (option_text setting.name reason)) (λ state. settings_step state (setting ∷ settings)) (λ told. sym (ap (settings_if (state_with old told) setting (λ next. settings_step next settings)) refused)) done

pub settings-stop : (old new : CoreView) (options : OptionsValue) (setting : Pair) (settings : List Pair) (reason : SetRefused) → options ≡ old.options → (reason ≢ option.NoMemory → refusal_of old.options setting.name setting.value ≡ Some reason)
    → (reason ≢ option.NoMemory → Runs (record old { options = options }) new (λ state. say_step state (option_text setting.name reason)))
    → (reason ≡ option.NoMemory → (step : State → Stepped) → Runs (record old { options = options }) new step)
    → Runs old new (λ state. settings_step state (setting ∷ settings))
settings-stop old new options setting settings reason e refuses told starves =
    let P : OptionsValue → Type 0 = λ o. reason ≢ option.NoMemory → Runs (record old { options = o }) new (λ state. say_step state (option_text setting.name reason)) in
    let Q : OptionsValue → Type 0 = λ o. reason ≡ option.NoMemory → (step : State → Stepped) → Runs (record old { options = o }) new step in
    by reason refuses (subst P e told) (subst Q e starves)
  where
    by : (reason : SetRefused) → (reason ≢ option.NoMemory → refusal_of old.options setting.name setting.value ≡ Some reason) → (reason ≢ option.NoMemory → Runs old new (λ state. say_step state (option_text setting.name reason)))
        → (reason ≡ option.NoMemory → (step : State → Stepped) → Runs old new step) → Runs old new (λ state. settings_step state (setting ∷ settings))
    by option.NoMemory refuses told starves = starves refl (λ state. settings_step state (setting ∷ settings))
    by option.UnknownOption refuses told starves = settings-told old new setting settings option.UnknownOption (refuses (λ e. cc)) (told (λ e. cc))
    by (option.BadValue range) refuses told starves = settings-told old new setting settings (option.BadValue range) (refuses (λ e. cc)) (told (λ e. cc))
    by (option.TooManyServers limit) refuses told starves = settings-told old new setting settings (option.TooManyServers limit) (refuses (λ e. cc)) (told (λ e. cc))

-- ---- a server with a link

pub linked_found : {A : Type 0} (f : A → ServerSeat) (o : Option (Bor A)) (found : Option ServerSeat) → option_map f (option_copied o) ≡ found → is_some o ≡ is_some found
linked_found f None found e = ap is_some e
linked_found f (Some x) found e = ap is_some e

-- ---- connections

pub connects-as : (old new : CoreView) (name : List ℕ) (linked : Bool) (o : Option (List ℕ)) → linked ≡ is_linked (state_of old (plain_beside old)) name → o ≡ connect_refusal old.options linked name → Runs old new (λ state. connect_step_if state name o)
    → Runs old new (λ state. connect_step state name)
connects-as old new name linked o there e done =
    Runs-as old new (λ state. connect_step_if state name o) (λ state. connect_step state name) (λ told. ap (connect_step_if (state_with old told) name) (e ∙ ap (λ b. connect_refusal old.options b name) there)) done

-- no link number is left, or one is
pub spent-says : (old new : CoreView) (name : List ℕ) → 2 ^ 62 ≤ old.servers.used → Runs old new (λ state. say_step state (codes "no handle left")) → Runs old new (λ state. connect_step_if state name None)
spent-says old new name most done =
    let test : nat_le (2 ^ 62) old.servers.used ≡ true = grind (arith, nat_tests) in
    Runs-as old new (λ state. say_step state (codes "no handle left")) (λ state. connect_step_if state name None) (λ told. ap (λ b. cond b (say_step (state_with old told) (codes "no handle left")) (begin_step (state_with old told) (start_of old.options name))) (sym test)) done

pub begins-free : (old new : CoreView) (name : List ℕ) → old.servers.used < 2 ^ 62 → Runs old new (λ state. begin_step state (start_of state.options name)) → Runs old new (λ state. connect_step_if state name None)
begins-free old new name few done =
    let test : nat_le (2 ^ 62) old.servers.used ≡ false = grind (arith, nat_tests) in
    Runs-as old new (λ state. begin_step state (start_of state.options name)) (λ state. connect_step_if state name None) (λ told. ap (λ b. cond b (say_step (state_with old told) (codes "no handle left")) (begin_step (state_with old told) (start_of old.options name))) (sym test)) done

pub begins-as : (old new : CoreView) (name : List ℕ) (r : Result ServerState ServerRefused) → start_of old.options name ≡ r → Runs old new (λ state. begin_step state r) → Runs old new (λ state. begin_step state (start_of state.options name))
begins-as old new name r e done = Runs-as old new (λ state. begin_step state r) (λ state. begin_step state (start_of state.options name)) (λ told. ap (begin_step (state_with old told)) (sym e)) done

-- the buffer is opened, and then the connection is begun
pub begins-then : (old mid new : CoreView) (s : ServerState) → mid.cuts ≡ old.cuts → Runs old mid (λ state. open_step state s) → Runs mid new (λ state. seat_step state s) → Runs old new (λ state. begin_step state (Ok s))
begins-then old mid new s uncut opened done = Runs-then old mid new (λ state. open_step state s) (λ state. seat_step state s) (λ j state. opens-closes j state s) (λ j state. refl) uncut opened done

pub begins-cut : (old new : CoreView) (s : ServerState) → new.cuts ≢ old.cuts → Runs old new (λ state. open_step state s) → Runs old new (λ state. begin_step state (Ok s))
begins-cut old new s cut opened = Runs-cut old new (λ state. open_step state s) (λ state. seat_step state s) (λ j state. opens-closes j state s) cut opened

-- ---- those that are connected by themselves

pub owns-as : (old new : CoreView) (name : List ℕ) (own : Bool) → own ≡ connects_itself old.options name → Runs old new (λ state. cond own (connect_step state name) (no_step state)) → Runs old new (λ state. connect_own_step state name)
owns-as old new name own e done =
    Runs-as old new (λ state. cond own (connect_step state name) (no_step state)) (λ state. connect_own_step state name) (λ told. ap (λ b. cond b (connect_step (state_with old told) name) (no_step (state_with old told))) e) done

pub each-more : (old mid new : CoreView) (name : List ℕ) (names : List (List ℕ)) → mid.cuts ≡ old.cuts → Runs old mid (λ state. connect_own_step state name) → Runs mid new (λ state. connect_each_step state names) → Runs old new (λ state. connect_each_step state (name ∷ names))
each-more old mid new name names uncut one others =
    Runs-then old mid new (λ state. connect_own_step state name) (λ state. connect_each_step state names) (λ j state. connects_own-closes j state name) (λ j state. connects_each-closes j state names) uncut one others

-- the others are skipped where one was cut short
pub each-cut : (old new : CoreView) (name : List ℕ) (names : List (List ℕ)) → new.cuts ≢ old.cuts → Runs old new (λ state. connect_own_step state name) → Runs old new (λ state. connect_each_step state (name ∷ names))
each-cut old new name names cut one = Runs-cut old new (λ state. connect_own_step state name) (λ state. connect_each_step state names) (λ j state. connects_own-closes j state name) cut one

pub all-as : (old new : CoreView) (names : List (List ℕ)) → old.connects ≡ true → names ≡ server_names old.options → Runs old new (λ state. connect_each_step state names) → Runs old new connect_all_step
all-as old new names on e done =
    Runs-as old new (λ state. connect_each_step state names) connect_all_step
    (λ told. ap (connect_each_step (state_with old told)) e ∙ ap (λ b. cond b (connect_each_step (state_with old told) (server_names old.options)) (no_step (state_with old told))) (sym on)) done

pub all-held : (old : CoreView) → old.connects ≡ false → Runs old old no_step → Runs old old connect_all_step
all-held old off done = Runs-as old old no_step connect_all_step (λ told. ap (λ b. cond b (connect_each_step (state_with old told) (server_names old.options)) (no_step (state_with old told))) (sym off)) done

-- ---- what is typed

-- a line as it is read
pub serves-as : (old new : CoreView) (buffer : Handle) (line text : List ℕ) (o : Option ServerCommand) → o ≡ asked_of (in_one_line line) → Runs old new (λ state. served_step state buffer line text o) → Runs old new (λ state. served_line_step state buffer line text)
serves-as old new buffer line text o e done = Runs-as old new (λ state. served_step state buffer line text o) (λ state. served_line_step state buffer line text) (λ told. ap (served_step (state_with old told) buffer line text) e) done

-- a server is deleted, or why it is not is told
pub deletes-as : (old new : CoreView) (name : List ℕ) (linked : Bool) (o : Option (List ℕ)) → linked ≡ is_linked (state_of old (plain_beside old)) name → o ≡ delete_refusal old.options linked name → Runs old new (λ state. delete_step state name o)
    → Runs old new (λ state. delete_step state name (delete_refusal state.options (is_linked state name) name))
deletes-as old new name linked o there e done =
    Runs-as old new (λ state. delete_step state name o) (λ state. delete_step state name (delete_refusal state.options (is_linked state name) name)) (λ told. ap (delete_step (state_with old told) name) (e ∙ ap (λ b. delete_refusal old.options b name) there)) done

pub deletes-free : (old : CoreView) (options : OptionsValue) (name : List ℕ) → options ≡ record old.options { servers = without name old.options.servers } → Runs old (record old { options = options }) (λ state. delete_step state name None)
deletes-free old options name e =
    let F : Rest → OptionsValue → Stepped = λ told options. put_step (record (state_with old told) { options = options }) in
    Runs-as old (record old { options = options }) (λ state. put_step (record state { options = options })) (λ state. delete_step state name None) (λ told. ap (F told) e) (λ told. options-are told old options)

-- a connection is ended, or why it is not is told
pub disconnects-as : (old new : CoreView) (buffer : Handle) (name : Option (List ℕ)) (o : Option ServerSeat) → o ≡ meant_server (state_of old (plain_beside old)) buffer name → Runs old new (λ state. disconnect_step_if state name o) → Runs old new (λ state. disconnect_step state buffer name)
disconnects-as old new buffer name o e done = Runs-as old new (λ state. disconnect_step_if state name o) (λ state. disconnect_step state buffer name) (λ told. ap (disconnect_step_if (state_with old told) name) e) done

-- what is typed for the server of a buffer
pub typed-as : (old new : CoreView) (buffer : Handle) (line : List ℕ) (o : Option ServerSeat) → o ≡ server_of (state_of old (plain_beside old)) buffer → Runs old new (λ state. on_buffer_step state buffer line o) → Runs old new (λ state. on_buffer_step state buffer line (server_of state buffer))
typed-as old new buffer line o e done = Runs-as old new (λ state. on_buffer_step state buffer line o) (λ state. on_buffer_step state buffer line (server_of state buffer)) (λ told. ap (on_buffer_step (state_with old told) buffer line) e) done
