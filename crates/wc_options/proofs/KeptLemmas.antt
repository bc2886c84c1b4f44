-- What holds of all options holds again after each change.
use Rattle.std.proofs.Common.{ℕ, zero, suc, ◌≡◌, ◌≢◌, ◌+◌, ◌<◌, ◌≤◌, Bool, true, false, cond, not, List, [], ◌∷◌, ◌++◌, length, map, get_or, set, Option, Some, None, refl, ap, sym, ◌∙◌, subst, arith}
use Rattle.std.specs.Prelude.{bytes_eq, option_and_then}
use Rattle.std.specs.List.{remove}
use Rattle.std.specs.Option.{option_map_or}
use Rattle.std.specs.Str.{IsUtf8}
use Rattle.std.proofs.lemmas.Bool.Decides.{same_from_decides, Decides-like}
use Rattle.std.proofs.lemmas.List.{length-set, length_push}
use Rattle.std.proofs.lemmas.Slice.Eq.{bytes_eq-Decides}
use Rattle.std.proofs.lemmas.Str.{IsUtf8-nil}
use Rattle.wc_options.specs.Kept.{Fits, FitAll, AreServers, AreOptionsKept, AreTextsStored, unset_at_first}
use Rattle.wc_options.specs.Names.{Located, located, is_server_name}
use Rattle.wc_options.specs.Options.{ServerOptions, OptionsValue, is_named, has_server, own_at_first, fresh_server, fresh, with_own, without, value_of, value_at, refusal_of, refusal_in, refusal_at, with_value, with_value_at, makes, makes_server, without_value, reset_at}
use Rattle.wc_options.specs.declared.refusal.SetRefused.{SetRefused}
use Rattle.wc_options.specs.declared.refusal.SetRefused.TheVariants.{UnknownOption, BadValue, TooManyServers}
use Rattle.wc_options.specs.Table.{OptionRow, globals, of_server, place_in, row_at, no_row}
use Rattle.wc_options.specs.Values.{value_fits, is_storable}
use Rattle.wc_options.specs.Address.{address_of}

-- ---- values against a table

pub FitAll-length : (first : OptionRow → Option (List ℕ)) (rows : List OptionRow) (values : List (Option (List ℕ))) → FitAll first rows values → length values ≡ length rows
FitAll-length first [] [] fit = refl
FitAll-length first [] (value ∷ values) fit = absurd fit
FitAll-length first (row ∷ rows) [] fit = absurd fit
FitAll-length first (row ∷ rows) (value ∷ values) fit = ap suc (FitAll-length first rows values fit.1)

pub FitAll-set : (first : OptionRow → Option (List ℕ)) (rows : List OptionRow) (values : List (Option (List ℕ))) (place : ℕ) (value : Option (List ℕ))
    → FitAll first rows values → Fits first (row_at rows place) value → FitAll first rows (set values place value)
FitAll-set first [] [] place value fit here = fit
FitAll-set first [] (old ∷ values) place value fit here = absurd fit
FitAll-set first (row ∷ rows) [] place value fit here = absurd fit
FitAll-set first (row ∷ rows) (old ∷ values) zero value fit here = (here, fit.1)
FitAll-set first (row ∷ rows) (old ∷ values) (suc place) value fit here = (fit.0, FitAll-set first rows values place value fit.1 here)

pub FitAll-unset : (rows : List OptionRow) → FitAll unset_at_first rows (map unset_at_first rows)
FitAll-unset [] = tt
FitAll-unset (row ∷ rows) = (refl, FitAll-unset rows)

pub FitAll-fresh : FitAll own_at_first of_server (map own_at_first of_server)
unfolding of_server globals place_in value_fits is_storable
FitAll-fresh = ((refl, IsUtf8-nil), (refl, (refl, (refl, (refl, (refl, (refl, (refl, (refl, (refl, (refl, (refl, tt))))))))))))

-- the first value of an option of a server fits it
fits-first : (first : OptionRow → Option (List ℕ)) (rows : List OptionRow) (place : ℕ) → place < length rows → FitAll first rows (map first rows) → Fits first (row_at rows place) (first (row_at rows place))
fits-first first [] place h fit = absurd (omega arith)
fits-first first (row ∷ rows) zero h fit = fit.0
fits-first first (row ∷ rows) (suc place) h fit = fits-first first rows place (omega arith) fit.1

-- ---- names

pub bytes_eq-sym : (a b : List ℕ) → bytes_eq a b ≡ bytes_eq b a
bytes_eq-sym a b = same_from_decides {P = a ≡ b} (bytes_eq a b) (bytes_eq b a) (bytes_eq-Decides a b) (Decides-like (bytes_eq b a) sym sym (bytes_eq-Decides b a))

abbrev name_of : ServerOptions → List ℕ
name_of server = server.name

has_server-by : (name : List ℕ) (server : ServerOptions) (servers : List ServerOptions) (b : Bool) → is_named name server ≡ b → has_server name (server ∷ servers) ≡ cond b true (has_server name servers)
has_server-by name server servers true e = rw e refl
has_server-by name server servers false e = rw e refl

pub has_server-cons : (name : List ℕ) (server : ServerOptions) (servers : List ServerOptions) → has_server name (server ∷ servers) ≡ cond (is_named name server) true (has_server name servers)
has_server-cons name server servers = has_server-by name server servers (is_named name server) refl

-- whether a name is there depends on the names alone
same_names : (name : List ℕ) (xs ys : List ServerOptions) → map name_of xs ≡ map name_of ys → has_server name xs ≡ has_server name ys
same_names name [] [] e = refl
same_names name [] (y ∷ ys) e = cc
same_names name (x ∷ xs) [] e = cc
same_names name (x ∷ xs) (y ∷ ys) e =
    let heads : x.name ≡ y.name = cc in
    let tails : map name_of xs ≡ map name_of ys = cc in
    has_server-cons name x xs
    ∙ (ap (λ n. cond (bytes_eq n name) true (has_server name xs)) heads ∙ ap (λ b. cond (is_named name y) true b) (same_names name xs ys tails))
    ∙ sym (has_server-cons name y ys)

pub names-set : (servers : List ServerOptions) (place : ℕ) (server d : ServerOptions) → server.name ≡ (get_or servers place d).name → map name_of (set servers place server) ≡ map name_of servers
names-set [] place server d e = refl
names-set (first ∷ servers) zero server d e = ap (λ n. n ∷ map name_of servers) e
names-set (first ∷ servers) (suc place) server d e = ap (λ ns. first.name ∷ ns) (names-set servers place server d e)

-- ---- servers

pub AreServers-set : (servers : List ServerOptions) (place : ℕ) (server d : ServerOptions) → AreServers servers → server.name ≡ (get_or servers place d).name → FitAll own_at_first of_server server.own → AreServers (set servers place server)
AreServers-set [] place server d are e fit = are
AreServers-set (first ∷ servers) zero server d are e fit =
    (ap is_server_name e ∙ are.0, fit, ap (λ n. has_server n servers) e ∙ are.2, are.3)
AreServers-set (first ∷ servers) (suc place) server d are e fit =
    (are.0, are.1, same_names first.name (set servers place server) servers (names-set servers place server d e) ∙ are.2, AreServers-set servers place server d are.3 e fit)

not_head-by : (b c : Bool) → cond b true c ≡ false → b ≡ false
not_head-by true c h = cc
not_head-by false c h = refl

not_tail-by : (b c : Bool) → cond b true c ≡ false → c ≡ false
not_tail-by true c h = cc
not_tail-by false c h = h

pub not_head : (name : List ℕ) (server : ServerOptions) (servers : List ServerOptions) → has_server name (server ∷ servers) ≡ false → is_named name server ≡ false
not_head name server servers h = not_head-by (is_named name server) (has_server name servers) (sym (has_server-cons name server servers) ∙ h)

pub not_tail : (name : List ℕ) (server : ServerOptions) (servers : List ServerOptions) → has_server name (server ∷ servers) ≡ false → has_server name servers ≡ false
not_tail name server servers h = not_tail-by (is_named name server) (has_server name servers) (sym (has_server-cons name server servers) ∙ h)

not_there : (name : List ℕ) (server : ServerOptions) (servers : List ServerOptions) → is_named name server ≡ false → has_server name servers ≡ false → has_server name (server ∷ servers) ≡ false
not_there name server servers e h = has_server-cons name server servers ∙ rw e h

pub has_server-push : (name : List ℕ) (servers : List ServerOptions) (server : ServerOptions) → has_server name servers ≡ false → is_named name server ≡ false → has_server name (servers ++ server ∷ []) ≡ false
has_server-push name [] server h e = has_server-cons name server [] ∙ rw e refl
has_server-push name (first ∷ servers) server h e =
    not_there name first (servers ++ server ∷ []) (not_head name first servers h) (has_server-push name servers server (not_tail name first servers h) e)

pub AreServers-push : (servers : List ServerOptions) (server : ServerOptions) → AreServers servers → is_server_name server.name ≡ true → FitAll own_at_first of_server server.own → has_server server.name servers ≡ false → AreServers (servers ++ server ∷ [])
AreServers-push [] server are named fit h = (named, fit, refl, tt)
AreServers-push (first ∷ servers) server are named fit h =
    let other : is_named server.name first ≡ false = not_head server.name first servers h in
    (are.0, are.1, has_server-push first.name servers server are.2 (bytes_eq-sym server.name first.name ∙ other), AreServers-push servers server are.3 named fit (not_tail server.name first servers h))

has_server-remove : (name : List ℕ) (servers : List ServerOptions) (place : ℕ) → has_server name servers ≡ false → has_server name (remove servers place) ≡ false
has_server-remove name [] zero h = refl
has_server-remove name [] (suc place) h = refl
has_server-remove name (server ∷ servers) zero h = not_tail name server servers h
has_server-remove name (server ∷ servers) (suc place) h =
    not_there name server (remove servers place) (not_head name server servers h) (has_server-remove name servers place (not_tail name server servers h))

pub AreServers-remove : (servers : List ServerOptions) (place : ℕ) → AreServers servers → AreServers (remove servers place)
AreServers-remove [] zero are = tt
AreServers-remove [] (suc place) are = tt
AreServers-remove (server ∷ servers) zero are = are.3
AreServers-remove (server ∷ servers) (suc place) are = (are.0, are.1, has_server-remove server.name servers place are.2, AreServers-remove servers place are.3)

length-remove : (servers : List ServerOptions) (place : ℕ) → length (remove servers place) ≤ length servers
length-remove [] zero = omega arith
length-remove [] (suc place) = omega arith
length-remove (server ∷ servers) zero = omega arith
length-remove (server ∷ servers) (suc place) = omega (arith, length-remove servers place)

-- ---- all that is stored

names-remove : (servers : List ServerOptions) (place : ℕ) → map name_of (remove servers place) ≡ remove (map name_of servers) place
names-remove [] zero = refl
names-remove [] (suc place) = refl
names-remove (server ∷ servers) zero = refl
names-remove (server ∷ servers) (suc place) = ap (λ ns. server.name ∷ ns) (names-remove servers place)

names-push : (servers : List ServerOptions) (server : ServerOptions) → map name_of (servers ++ server ∷ []) ≡ map name_of servers ++ server.name ∷ []
names-push [] server = refl
names-push (first ∷ servers) server = ap (λ ns. first.name ∷ ns) (names-push servers server)

abbrev with_set : OptionsValue → List (Option (List ℕ)) → OptionsValue
with_set options values = record { set = values; servers = options.servers }

abbrev with_servers : OptionsValue → List ServerOptions → OptionsValue
with_servers options servers = record { set = options.set; servers = servers }

pub stored-fresh : (defaults : List (List ℕ)) → defaults ≡ map (λ (row : OptionRow). row.default) globals → AreTextsStored fresh defaults [] []
unfolding fresh
stored-fresh defaults e = record {
  kept = record { set_fit = FitAll-unset globals; servers_fit = tt; few = omega arith };
  defaults_are = e;
  no_address_is = refl;
  names_are = refl;
}

pub stored-set : (options : OptionsValue) (defaults : List (List ℕ)) (no_address : List ℕ) (names : List (List ℕ)) (place : ℕ) (value : Option (List ℕ))
    → AreTextsStored options defaults no_address names → Fits unset_at_first (row_at globals place) value → AreTextsStored (with_set options (set options.set place value)) defaults no_address names
stored-set options defaults no_address names place value stored fit = record {
  kept = record { set_fit = FitAll-set unset_at_first globals options.set place value stored.kept.set_fit fit; servers_fit = stored.kept.servers_fit; few = stored.kept.few };
  defaults_are = stored.defaults_are;
  no_address_is = stored.no_address_is;
  names_are = stored.names_are;
}

FitAll-own : (servers : List ServerOptions) (place : ℕ) (d : ServerOptions) → place < length servers → AreServers servers → FitAll own_at_first of_server (get_or servers place d).own
FitAll-own [] place d h are = absurd (omega arith)
FitAll-own (server ∷ servers) zero d h are = are.1
FitAll-own (server ∷ servers) (suc place) d h are = FitAll-own servers place d (omega arith) are.3

pub stored-own : (options : OptionsValue) (defaults : List (List ℕ)) (no_address : List ℕ) (names : List (List ℕ)) (found place : ℕ) (value : Option (List ℕ)) (d : ServerOptions)
    → AreTextsStored options defaults no_address names → found < length options.servers → Fits own_at_first (row_at of_server place) value
    → AreTextsStored (with_servers options (set options.servers found (with_own place value (get_or options.servers found d)))) defaults no_address names
stored-own options defaults no_address names found place value d stored h fit =
    let server = get_or options.servers found d in
    let own = FitAll-set own_at_first of_server server.own place value (FitAll-own options.servers found d h stored.kept.servers_fit) fit in
    record {
      kept = record {
        set_fit = stored.kept.set_fit;
        servers_fit = AreServers-set options.servers found (with_own place value server) d stored.kept.servers_fit refl own;
        few = rw (length-set options.servers found (with_own place value server)) stored.kept.few;
      };
      defaults_are = stored.defaults_are;
      no_address_is = stored.no_address_is;
      names_are = stored.names_are ∙ sym (names-set options.servers found (with_own place value server) d refl);
    }

pub stored-made : (options : OptionsValue) (defaults : List (List ℕ)) (no_address : List ℕ) (names : List (List ℕ)) (name : List ℕ) (place : ℕ) (value : List ℕ)
    → AreTextsStored options defaults no_address names → is_server_name name ≡ true → has_server name options.servers ≡ false → length options.servers < 64
    → Fits own_at_first (row_at of_server place) (Some value)
    → AreTextsStored (with_servers options (options.servers ++ with_own place (Some value) (fresh_server name) ∷ [])) defaults no_address (names ++ name ∷ [])
stored-made options defaults no_address names name place value stored named absent few fit =
    let server = with_own place (Some value) (fresh_server name) in
    let own = FitAll-set own_at_first of_server (map own_at_first of_server) place (Some value) FitAll-fresh fit in
    record {
      kept = record {
        set_fit = stored.kept.set_fit;
        servers_fit = AreServers-push options.servers server stored.kept.servers_fit named own absent;
        few = rw (length_push options.servers server) (omega arith);
      };
      defaults_are = stored.defaults_are;
      no_address_is = stored.no_address_is;
      names_are = ap (λ ns. ns ++ name ∷ []) stored.names_are ∙ sym (names-push options.servers server);
    }

pub stored-remove : (options : OptionsValue) (defaults : List (List ℕ)) (no_address : List ℕ) (names : List (List ℕ)) (place : ℕ)
    → AreTextsStored options defaults no_address names → AreTextsStored (with_servers options (remove options.servers place)) defaults no_address (remove names place)
stored-remove options defaults no_address names place stored = record {
  kept = record {
    set_fit = stored.kept.set_fit;
    servers_fit = AreServers-remove options.servers place stored.kept.servers_fit;
    few = omega (arith, length-remove options.servers place, stored.kept.few);
  };
  defaults_are = stored.defaults_are;
  no_address_is = stored.no_address_is;
  names_are = ap (λ ns. remove ns place) stored.names_are ∙ sym (names-remove options.servers place);
}

-- ---- the places that are read

length-globals : length globals ≡ 19
unfolding globals
length-globals = refl

length-of_server : length of_server ≡ 12
unfolding of_server
length-of_server = refl

pub length-set_values : (options : OptionsValue) → AreOptionsKept options → length options.set ≡ 19
length-set_values options kept = FitAll-length unset_at_first globals options.set kept.set_fit ∙ length-globals

pub length-own_values : (servers : List ServerOptions) (place : ℕ) (d : ServerOptions) → place < length servers → AreServers servers → length (get_or servers place d).own ≡ 12
length-own_values servers place d h are = FitAll-length own_at_first of_server (get_or servers place d).own (FitAll-own servers place d h are) ∙ length-of_server

pub first_fits : (place : ℕ) → place < 12 → Fits own_at_first (row_at of_server place) (own_at_first (row_at of_server place))
first_fits place h = fits-first own_at_first of_server place (rw length-of_server h) FitAll-fresh

-- ---- options by their names

pub value_of_some : (options : OptionsValue) (name : List ℕ) (place : Located) → Some place ≡ located name → value_at options place ≡ value_of options name
unfolding value_of
value_of_some options name place e = ap (option_and_then (value_at options)) e

pub value_of_none : (options : OptionsValue) (name : List ℕ) → None ≡ located name → None ≡ value_of options name
unfolding value_of
value_of_none options name e = ap (option_and_then (value_at options)) e

pub refusal_of_none : (options : OptionsValue) (name value : List ℕ) → None ≡ located name → refusal_of options name value ≡ Some UnknownOption
unfolding refusal_of
refusal_of_none options name value e = ap (refusal_in options value) (sym e)

pub refusal_of_some : (options : OptionsValue) (name value : List ℕ) (place : Located) → Some place ≡ located name → refusal_of options name value ≡ refusal_at options value place
unfolding refusal_of
refusal_of_some options name value place e = ap (refusal_in options value) (sym e)

pub with_value_some : (options : OptionsValue) (name value : List ℕ) (place : Located) → Some place ≡ located name → with_value options name value ≡ with_value_at options value place
unfolding with_value
with_value_some options name value place e = ap (λ o. option_map_or (with_value_at options value) o options) (sym e)

pub makes_some : (options : OptionsValue) (name : List ℕ) (place : Located) → Some place ≡ located name → makes options name ≡ makes_server options place
unfolding makes
makes_some options name place e = ap (λ o. option_map_or (makes_server options) o false) (sym e)

pub without_value_some : (options : OptionsValue) (name : List ℕ) (place : Located) → Some place ≡ located name → without_value options name ≡ reset_at options place
unfolding without_value
without_value_some options name place e = ap (λ o. option_map_or (reset_at options) o options) (sym e)

pub bytes_eq-same : (a : List ℕ) → bytes_eq a a ≡ true
bytes_eq-same a = (bytes_eq-Decides a a).1 refl
