-- What the calls read of the options that are stored.
use Rattle.std.proofs.Common.{ℕ, zero, suc, ◌≡◌, ◌≢◌, ◌+◌, ◌<◌, ◌≤◌, Bool, true, false, cond, not, List, [], ◌∷◌, ◌++◌, length, map, take, get_or, set, Option, Some, None, refl, ap, sym, ◌∙◌, subst, arith}
use Rattle.std.proofs.Common.{leb}
use Rattle.std.proofs.lemmas.Bool.Decides.{nat_tests}
use Rattle.std.specs.Prelude.{find, position, is_some, option_map, unwrap_or}
use Rattle.std.specs.List.{remove}
use Rattle.std.proofs.lemmas.List.{length-map, get_or-map, get_or_read, map_more, take_all}
use Rattle.wc_options.specs.Kept.{Fits, FitAll, AreServers, AreOptionsKept, AreTextsStored, unset_at_first}
use Rattle.wc_options.specs.Names.{Located, AtGlobal, AtServer, row_of_located}
use Rattle.wc_options.specs.Options.{ServerOptions, OptionsValue, is_named, has_server, own_at_first, fresh_server, fresh, no_server, with_own, put_own, stands_for, global_value, server_value, value_at, refusal_at, with_value_at, makes_server, reset_at, without}
use Rattle.wc_options.specs.Table.{OptionRow, globals, of_server, place_in, row_at, no_row}
use Rattle.wc_options.specs.Values.{value_fits}
use Rattle.wc_options.specs.declared.refusal.SetRefused.{SetRefused}
use Rattle.wc_options.specs.declared.refusal.SetRefused.TheVariants.{TooManyServers}
use Rattle.wc_options.proofs.KeptLemmas.{FitAll-unset, stored-own, length-own_values}
use Rattle.wc_options.proofs.ServersLemmas.{IsAt-position, find_at, find_none, put_own_at, put_own_none, reset_own_at, without_at, without_none}

length-globals : length globals ≡ 19
unfolding globals
length-globals = refl

pub length-defaults : (defaults : List (List ℕ)) → defaults ≡ map (λ (row : OptionRow). row.default) globals → length defaults ≡ 19
length-defaults defaults e = ap length e ∙ length-map globals (λ row. row.default) ∙ length-globals

abbrev pub default_of : OptionRow → List ℕ
default_of row = row.default

-- ---- the first options

pub defaults_more : (place : ℕ) → place < 19 → map default_of (take (place + 1) globals) ≡ map default_of (take place globals) ++ (row_at globals place).default ∷ []
defaults_more place h =
    let below : place < length globals = rw length-globals h in
    map_more default_of globals place no_row below

pub unset_more : (place : ℕ) → place < 19 → map unset_at_first (take (place + 1) globals) ≡ map unset_at_first (take place globals) ++ None ∷ []
unset_more place h =
    let below : place < length globals = rw length-globals h in
    map_more unset_at_first globals place no_row below

pub globals_all : (place : ℕ) → 19 ≤ place → take place globals ≡ globals
globals_all place h = take_all place globals (rw length-globals h)

pub ruleset first_options = (defaults_more, unset_more, globals_all)

pub stored-new : (values : List (Option (List ℕ))) (servers : List ServerOptions) (defaults : List (List ℕ)) (no_address : List ℕ) (names : List (List ℕ))
    → values ≡ map unset_at_first globals → servers ≡ [] → defaults ≡ map default_of globals → no_address ≡ [] → names ≡ [] → AreTextsStored (record { set = values; servers = servers }) defaults no_address names
stored-new values servers defaults no_address names unset none are empty nameless = record {
  kept = record { set_fit = subst (FitAll unset_at_first globals) (sym unset) (FitAll-unset globals); servers_fit = subst AreServers (sym none) tt; few = rw none (omega arith) };
  defaults_are = are;
  no_address_is = empty;
  names_are = nameless ∙ sym (ap (map (λ (server : ServerOptions). server.name)) none);
}

pub fresh-is : (values : List (Option (List ℕ))) (servers : List ServerOptions) → values ≡ map unset_at_first globals → servers ≡ []
    → (let options : OptionsValue = record { set = values; servers = servers } in options ≡ fresh)
unfolding fresh
fresh-is values servers unset none = ap (λ (vs : List (Option (List ℕ))). let o : OptionsValue = record { set = vs; servers = servers } in o) unset
    ∙ ap (λ (ss : List ServerOptions). let o : OptionsValue = record { set = map unset_at_first globals; servers = ss } in o) none

-- ---- the value that counts

pub global_value-some : (options : OptionsValue) (place : ℕ) (read : Option (List ℕ)) (value : List ℕ)
    → read ≡ get_or options.set place read → place < length options.set → read ≡ Some value → value ≡ global_value options place
global_value-some options place read value at h e =
    let own : get_or options.set place None ≡ Some value = sym (get_or_read options.set place read h at None) ∙ e in
    rw own refl

pub global_value-none : (options : OptionsValue) (place : ℕ) (read : Option (List ℕ)) (defaults : List (List ℕ)) (default : List ℕ)
    → read ≡ get_or options.set place read → place < length options.set → read ≡ None → defaults ≡ map default_of globals → place < 19 → default ≡ get_or defaults place default
    → default ≡ global_value options place
global_value-none options place read defaults default at h e are below there =
    let own : get_or options.set place None ≡ None = sym (get_or_read options.set place read h at None) ∙ e in
    let within : place < length globals = rw length-globals below in
    rw own (there ∙ ap (λ ds. get_or ds place default) are ∙ get_or-map default_of globals place no_row default within)

pub default_of_none : (place : ℕ) → place < 12 → None ≡ stands_for (row_at of_server place) → (row_at of_server place).default ≡ []
unfolding of_server globals place_in
default_of_none zero h e = refl
default_of_none (suc zero) h e = cc
default_of_none (suc (suc zero)) h e = cc
default_of_none (suc (suc (suc zero))) h e = cc
default_of_none (suc (suc (suc (suc zero)))) h e = cc
default_of_none (suc (suc (suc (suc (suc zero))))) h e = cc
default_of_none (suc (suc (suc (suc (suc (suc zero)))))) h e = cc
default_of_none (suc (suc (suc (suc (suc (suc (suc zero))))))) h e = cc
default_of_none (suc (suc (suc (suc (suc (suc (suc (suc zero)))))))) h e = cc
default_of_none (suc (suc (suc (suc (suc (suc (suc (suc (suc zero))))))))) h e = cc
default_of_none (suc (suc (suc (suc (suc (suc (suc (suc (suc (suc zero)))))))))) h e = cc
default_of_none (suc (suc (suc (suc (suc (suc (suc (suc (suc (suc (suc zero))))))))))) h e = cc
default_of_none (suc (suc (suc (suc (suc (suc (suc (suc (suc (suc (suc (suc place)))))))))))) h e = absurd (omega arith)

pub server_value-none : (options : OptionsValue) (server : ServerOptions) (place : ℕ) (no_address : List ℕ)
    → place < 12 → None ≡ get_or server.own place None → None ≡ stands_for (row_at of_server place) → no_address ≡ [] → no_address ≡ server_value options server place
server_value-none options server place no_address h own stands empty =
    rw (← own, ← stands) (empty ∙ sym (default_of_none place h stands))

pub value_found : (options : OptionsValue) (name : List ℕ) (found place : ℕ) (server : ServerOptions) (value : List ℕ)
    → Some found ≡ position (is_named name) options.servers → server ≡ get_or options.servers found server → value ≡ server_value options server place → Some value ≡ value_at options (AtServer name place)
value_found options name found place server value at read is =
    let here : find (is_named name) options.servers ≡ Some server = find_at name options.servers found server (IsAt-position name options.servers found server (sym at)) ∙ ap Some (sym read) in
    rw here (ap Some is)

pub value_not_found : (options : OptionsValue) (name : List ℕ) (place : ℕ) → None ≡ position (is_named name) options.servers → None ≡ value_at options (AtServer name place)
value_not_found options name place at = rw (find_none name options.servers (sym at)) refl

-- ---- setting an option of a server

pub made-none : (options : OptionsValue) (name : List ℕ) → None ≡ position (is_named name) options.servers → has_server name options.servers ≡ false
made-none options name at = ap is_some (find_none name options.servers (sym at))

pub made-some : (options : OptionsValue) (name : List ℕ) (found : ℕ) → Some found ≡ position (is_named name) options.servers → has_server name options.servers ≡ true
made-some options name found at = ap is_some (find_at name options.servers found no_server (IsAt-position name options.servers found no_server (sym at)))

pub with_own_there : (options : OptionsValue) (name : List ℕ) (found place : ℕ) (value : List ℕ) → Some found ≡ position (is_named name) options.servers
    → (let changed : OptionsValue = record options { servers = set options.servers found (with_own place (Some value) (get_or options.servers found no_server)) } in changed ≡ with_value_at options value (AtServer name place))
with_own_there options name found place value at =
    ap (λ (servers : List ServerOptions). let o : OptionsValue = record options { servers = servers } in o)
    (sym (put_own_at name place value options.servers found no_server (IsAt-position name options.servers found no_server (sym at))))

pub with_own_made : (options : OptionsValue) (name : List ℕ) (place : ℕ) (value : List ℕ) → None ≡ position (is_named name) options.servers
    → (let changed : OptionsValue = record options { servers = options.servers ++ with_own place (Some value) (fresh_server name) ∷ [] } in changed ≡ with_value_at options value (AtServer name place))
with_own_made options name place value at =
    ap (λ (servers : List ServerOptions). let o : OptionsValue = record options { servers = servers } in o)
    (sym (put_own_none name place value options.servers (find_none name options.servers (sym at))))

pub stored-own_at : (options : OptionsValue) (defaults : List (List ℕ)) (no_address : List ℕ) (names : List (List ℕ)) (found place : ℕ) (value : Option (List ℕ)) (server new : ServerOptions)
    → AreTextsStored options defaults no_address names → found < length options.servers → Fits own_at_first (row_at of_server place) value
    → server ≡ get_or options.servers found server → new ≡ with_own place value server
    → AreTextsStored (record { set = options.set; servers = set options.servers found new }) defaults no_address names
stored-own_at options defaults no_address names found place value server new stored h fit read is =
    subst (λ (s : ServerOptions). AreTextsStored (record { set = options.set; servers = set options.servers found s }) defaults no_address names)
    (sym (is ∙ ap (with_own place value) read)) (stored-own options defaults no_address names found place value server stored h fit)

pub length-own_at : (servers : List ServerOptions) (found : ℕ) (server : ServerOptions) → found < length servers → AreServers servers → server ≡ get_or servers found server → length server.own ≡ 12
length-own_at servers found server h are read = ap (λ (s : ServerOptions). length s.own) read ∙ length-own_values servers found server h are

pub length-fresh : (server : ServerOptions) (name : List ℕ) → server ≡ fresh_server name → length server.own ≡ 12
unfolding of_server
length-fresh server name e = ap (λ (s : ServerOptions). length s.own) e

pub refusal_there : (options : OptionsValue) (name : List ℕ) (place : ℕ) (value : List ℕ) → value_fits (row_at of_server place).kind value ≡ true → has_server name options.servers ≡ true
    → refusal_at options value (AtServer name place) ≡ None
refusal_there options name place value fit there = rw (fit, there) refl

pub refusal_full : (options : OptionsValue) (name : List ℕ) (place : ℕ) (value : List ℕ) → value_fits (row_at of_server place).kind value ≡ true → has_server name options.servers ≡ false → 64 ≤ length options.servers
    → refusal_at options value (AtServer name place) ≡ Some (TooManyServers 64)
refusal_full options name place value fit absent full =
    let full_test : leb 64 (length options.servers) ≡ true = grind (arith, nat_tests) in
    rw (fit, absent, full_test) refl

-- ---- unsetting an option of a server, and taking a server away

pub reset_there : (options : OptionsValue) (name : List ℕ) (found place : ℕ) → Some found ≡ position (is_named name) options.servers
    → (let changed : OptionsValue = record options { servers = set options.servers found (with_own place (own_at_first (row_at of_server place)) (get_or options.servers found no_server)) } in changed ≡ reset_at options (AtServer name place))
reset_there options name found place at =
    ap (λ (servers : List ServerOptions). let o : OptionsValue = record options { servers = servers } in o)
    (sym (reset_own_at name place options.servers found no_server (IsAt-position name options.servers found no_server (sym at))))

pub put_reset : (options : OptionsValue) (name : List ℕ) (found place : ℕ) (value : Option (List ℕ)) → value ≡ own_at_first (row_at of_server place) → Some found ≡ position (is_named name) options.servers
    → (let changed : OptionsValue = record options { servers = set options.servers found (with_own place value (get_or options.servers found no_server)) } in changed ≡ reset_at options (AtServer name place))
put_reset options name found place value e at =
    ap (λ (v : Option (List ℕ)). let o : OptionsValue = record options { servers = set options.servers found (with_own place v (get_or options.servers found no_server)) } in o) e
    ∙ reset_there options name found place at

pub value_there : (options : OptionsValue) (name : List ℕ) (found place : ℕ) → Some found ≡ position (is_named name) options.servers → value_at options (AtServer name place) ≢ None
value_there options name found place at none =
    let here : find (is_named name) options.servers ≡ Some (get_or options.servers found no_server) = find_at name options.servers found no_server (IsAt-position name options.servers found no_server (sym at)) in
    let none' : Some (server_value options (get_or options.servers found no_server) place) ≡ None = sym (ap (option_map (λ server. server_value options server place)) here) ∙ none in
    cc

pub removed_there : (options : OptionsValue) (name : List ℕ) (found : ℕ) → Some found ≡ position (is_named name) options.servers → without name options.servers ≡ remove options.servers found
removed_there options name found at = without_at name options.servers found no_server (IsAt-position name options.servers found no_server (sym at))

pub removed_none : (options : OptionsValue) (name : List ℕ) → None ≡ position (is_named name) options.servers → without name options.servers ≡ options.servers
removed_none options name at = without_none name options.servers (find_none name options.servers (sym at))

pub found_below : (options : OptionsValue) (name : List ℕ) (found : ℕ) → Some found ≡ position (is_named name) options.servers → found < length options.servers
found_below options name found at = (IsAt-position name options.servers found no_server (sym at)).below
