-- What is written of options is read back as these options.
use Rattle.std.proofs.Common.{ℕ, suc, ◌≡◌, ◌≢◌, ◌+◌, ◌<◌, ◌≤◌, Bool, true, false, not, ◌&&◌, List, [], ◌∷◌, ◌++◌, length, map, drop, get_or, set, Option, Some, None, Ok, refl, ap, sym, ◌∙◌, subst, arith, leb}
use Rattle.std.specs.Prelude.{is_some, ◌==◌, find}
use Rattle.std.specs.List.{flat_map, list_all}
use Rattle.std.specs.Str.{IsUtf8}
use Rattle.std.proofs.lemmas.Bool.Decides.{nat_tests}
use Rattle.std.proofs.lemmas.List.{append_assoc, append-nil, set_at, length_push, length-append}
use Rattle.wc_options.specs.Config.{after_line, after_lines, config_of, of_lines, set_line, set_lines, prefix_of, server_lines, config_lines, config_text}
use Rattle.wc_options.specs.File.{equals_sign}
use Rattle.wc_options.specs.Quotes.{quoted}
use Rattle.wc_options.specs.Version.{version_line}
use Rattle.wc_options.specs.declared.version.Version.TheVariants.{Two}
use Rattle.wc_options.specs.Kept.{FitAll, AreServers, AreOptionsKept, unset_at_first}
use Rattle.wc_options.specs.Names.{AtGlobal, AtServer, is_server_name}
use Rattle.wc_options.specs.Options.{ServerOptions, OptionsValue, is_named, has_server, own_at_first, fresh, put_own}
use Rattle.wc_options.specs.Table.{OptionRow, globals, of_server, place_in, no_row}
use Rattle.wc_options.specs.Values.{value_fits, is_storable, is_of_kind, is_storable_byte}
use Rattle.wc_options.proofs.KeptLemmas.{not_head, not_tail, has_server-push, bytes_eq-sym, bytes_eq-same}
use Rattle.wc_options.proofs.ByteLemmas.{no_lf, list_all-append, list_all-weaken, and-first, and-second}
use Rattle.wc_options.proofs.LawLemmas.{read-line, AreLines, AreLines-append, lines_of-ended}
use Rattle.wc_options.proofs.QuotesLemmas.{quoted-line}
use Rattle.wc_options.proofs.ServersLemmas.{put_own_none}
use Rattle.wc_options.proofs.TableLaw.{AreNamed, globals-AreNamed, ArePlain, of_server-ArePlain, server-IsNameAt}

-- ---- lines read one after another, wherever they are

pub record Reads (before : OptionsValue) (lines : List (List ℕ)) (after : OptionsValue) : Type 0 where
  pub run : (number : ℕ) (more : List (List ℕ)) → (last : ℕ) × (after_lines Two number before (lines ++ more) ≡ after_lines Two last after more)

Reads-none : (options : OptionsValue) → Reads options [] options
Reads-none options = record { run = λ number more. (number, refl) }

Reads-line : (before following after : OptionsValue) (line : List ℕ) (lines : List (List ℕ)) → after_line Two before line ≡ Some following → Reads following lines after → Reads before (line ∷ lines) after
Reads-line before following after line lines e reads = record { run = λ number more. let rest = reads.run (number + 1) more in (rest.0, rw e rest.1) }

Reads-append : (before between after : OptionsValue) (xs ys : List (List ℕ)) → Reads before xs between → Reads between ys after → Reads before (xs ++ ys) after
Reads-append before between after xs ys first second = record {
  run = λ number more.
      let front = first.run number (ys ++ more) in
      let back = second.run front.0 more in
      (back.0, ap (after_lines Two number before) (append_assoc xs ys more) ∙ front.1 ∙ back.1);
}

-- ---- a table of values

-- each row's line sets the value at its place, whatever is set already
abbrev EachLine : (List (Option (List ℕ)) → OptionsValue) → List ℕ → ℕ → List OptionRow → Type 0
EachLine state prefix place [] = Unit {0}
EachLine state prefix place (row ∷ rows) =
    ((values : List (Option (List ℕ))) (value : List ℕ) → value_fits row.kind value ≡ true → IsUtf8 value → after_line Two (state values) (set_line prefix row value) ≡ Some (state (set values place (Some value))))
    × EachLine state prefix (suc place) rows

read-table : (state : List (Option (List ℕ)) → OptionsValue) (prefix : List ℕ) (first : OptionRow → Option (List ℕ)) (rows : List OptionRow) (values front : List (Option (List ℕ))) (place : ℕ)
    → EachLine state prefix place rows → FitAll first rows values → length front ≡ place → Reads (state (front ++ map first rows)) (set_lines prefix rows values) (state (front ++ values))
read-table state prefix first [] [] front place each fit at = Reads-none (state (front ++ []))
read-table state prefix first [] (value ∷ values) front place each fit at = absurd fit
read-table state prefix first (row ∷ rows) [] front place each fit at = absurd fit
read-table state prefix first (row ∷ rows) (None ∷ values) front place each fit at =
    let next : length (front ++ None ∷ []) ≡ suc place = length-append front (None ∷ []) ∙ rw at (omega arith) in
    let rest = read-table state prefix first rows values (front ++ None ∷ []) (suc place) each.1 fit.1 next in
    let before : front ++ None ∷ [] ++ map first rows ≡ front ++ map first (row ∷ rows) = append_assoc front (None ∷ []) (map first rows) ∙ ap (λ v. front ++ v ∷ map first rows) (sym fit.0) in
    subst (λ (vs : List (Option (List ℕ))). Reads (state vs) (set_lines prefix rows values) (state (front ++ None ∷ values))) before
    (subst (λ (vs : List (Option (List ℕ))). Reads (state (front ++ None ∷ [] ++ map first rows)) (set_lines prefix rows values) (state vs)) (append_assoc front (None ∷ []) values) rest)
read-table state prefix first (row ∷ rows) (Some value ∷ values) front place each fit at =
    let next : length (front ++ Some value ∷ []) ≡ suc place = length-append front (Some value ∷ []) ∙ rw at (omega arith) in
    let rest = read-table state prefix first rows values (front ++ Some value ∷ []) (suc place) each.1 fit.1 next in
    let put : set (front ++ map first (row ∷ rows)) place (Some value) ≡ front ++ Some value ∷ [] ++ map first rows = set_at front (first row) (map first rows) (Some value) place at ∙ sym (append_assoc front (Some value ∷ []) (map first rows)) in
    let line : after_line Two (state (front ++ map first (row ∷ rows))) (set_line prefix row value) ≡ Some (state (front ++ Some value ∷ [] ++ map first rows)) =
    each.0 (front ++ map first (row ∷ rows)) value fit.0.0 fit.0.1 ∙ ap (λ vs. Some (state vs)) put in
    Reads-line _ _ _ (set_line prefix row value) (set_lines prefix rows values) line
    (subst (λ (vs : List (Option (List ℕ))). Reads (state (front ++ Some value ∷ [] ++ map first rows)) (set_lines prefix rows values) (state vs)) (append_assoc front (Some value ∷ []) values) rest)

-- ---- the options of the program

abbrev global_state : List ServerOptions → List (Option (List ℕ)) → OptionsValue
global_state servers values = record { set = values; servers = servers }

globals-each : (servers : List ServerOptions) (place : ℕ) (rows : List OptionRow) → AreNamed place rows → EachLine (global_state servers) [] place rows
globals-each servers place [] named = tt
globals-each servers place (row ∷ rows) named = (
  λ values value fit text.
      read-line (global_state servers values) row.name value (AtGlobal place) named.0
      (record { fit = ap (λ (r : OptionRow). value_fits r.kind value) named.1 ∙ fit; text = text; room = refl }),
  globals-each servers (suc place) rows named.2,
)

-- ---- the options of one server

abbrev server_state : List (Option (List ℕ)) → List ServerOptions → List ℕ → List (Option (List ℕ)) → OptionsValue
server_state values done name own = record { set = values; servers = done ++ (let server : ServerOptions = record { name = name; own = own } in server) ∷ [] }

named-self : (name : List ℕ) (own : List (Option (List ℕ))) → is_named name (let server : ServerOptions = record { name = name; own = own } in server) ≡ true
named-self name own = bytes_eq-same name

there-either : (name : List ℕ) (own : List (Option (List ℕ))) (first : ServerOptions) (done : List ServerOptions) (b : Bool) → is_named name first ≡ b
    → has_server name (done ++ (let server : ServerOptions = record { name = name; own = own } in server) ∷ []) ≡ true
    → has_server name (first ∷ done ++ (let server : ServerOptions = record { name = name; own = own } in server) ∷ []) ≡ true
there-either name own first done true e more = rw e refl
there-either name own first done false e more = rw e more

there-by : (name : List ℕ) (own : List (Option (List ℕ))) (done : List ServerOptions) → has_server name (done ++ (let server : ServerOptions = record { name = name; own = own } in server) ∷ []) ≡ true
there-by name own [] = rw (bytes_eq-same name) refl
there-by name own (first ∷ done) = there-either name own first done (is_named name first) refl (there-by name own done)

put-last : (name : List ℕ) (own : List (Option (List ℕ))) (place : ℕ) (value : List ℕ) (done : List ServerOptions) → has_server name done ≡ false
    → put_own name place value (done ++ (let server : ServerOptions = record { name = name; own = own } in server) ∷ []) ≡ done ++ (let server : ServerOptions = record { name = name; own = set own place (Some value) } in server) ∷ []
put-last name own place value [] absent = rw (bytes_eq-same name) refl
put-last name own place value (first ∷ done) absent = rw (not_head name first done absent) (ap (λ rest. first ∷ rest) (put-last name own place value done (not_tail name first done absent)))

server-each : (values : List (Option (List ℕ))) (done : List ServerOptions) (name : List ℕ) (place : ℕ) (rows : List OptionRow)
    → is_server_name name ≡ true → has_server name done ≡ false → ArePlain place rows → EachLine (server_state values done name) (prefix_of name) place rows
server-each values done name place [] named absent plain = tt
server-each values done name place (row ∷ rows) named absent plain = (
  λ own value fit text.
      read-line (server_state values done name own) (prefix_of name ++ row.name) value (AtServer name place)
      (server-IsNameAt name row.name place named plain.0 plain.1 plain.2 plain.3)
      (record { fit = ap (λ (r : OptionRow). value_fits r.kind value) plain.4 ∙ fit; text = text; room = rw (there-by name own done) refl })
      ∙ ap (λ (servers : List ServerOptions). Some (global_state servers values)) (put-last name own place value done absent),
  server-each values done name (suc place) rows named absent plain.5,
)

none_from-by : (o : Option ServerOptions) → is_some o ≡ false → o ≡ None
none_from-by None h = refl
none_from-by (Some server) h = cc

none_from : (name : List ℕ) (servers : List ServerOptions) → has_server name servers ≡ false → find (is_named name) servers ≡ None
none_from name servers h = none_from-by (find (is_named name) servers) h

-- the server's first line makes it
first-line-makes : (values : List (Option (List ℕ))) (done : List ServerOptions) (name value : List ℕ) (row : OptionRow) (rows : List OptionRow)
    → is_server_name name ≡ true → has_server name done ≡ false → length done < 64 → ArePlain 0 (row ∷ rows) → value_fits row.kind value ≡ true → IsUtf8 value
    → after_line Two (global_state done values) (set_line (prefix_of name) row value) ≡ Some (server_state values done name (set (map own_at_first of_server) 0 (Some value)))
first-line-makes values done name value row rows named absent few plain fit text =
    let room_test : leb 64 (length done) ≡ false = grind (arith, nat_tests) in
    read-line (global_state done values) (prefix_of name ++ row.name) value (AtServer name 0)
    (server-IsNameAt name row.name 0 named plain.0 plain.1 plain.2 plain.3)
    (record { fit = ap (λ (r : OptionRow). value_fits r.kind value) plain.4 ∙ fit; text = text; room = rw (absent, room_test) refl })
    ∙ ap (λ (servers : List ServerOptions). Some (global_state servers values)) (put_own_none name 0 value done (none_from name done absent))

-- `addresses` is first and is always set
read-own : (values : List (Option (List ℕ))) (done : List ServerOptions) (name : List ℕ) (row : OptionRow) (rows : List OptionRow) (own : List (Option (List ℕ)))
    → of_server ≡ row ∷ rows → own_at_first row ≢ None → ArePlain 0 (row ∷ rows) → is_server_name name ≡ true → has_server name done ≡ false → length done < 64 → FitAll own_at_first (row ∷ rows) own
    → Reads (global_state done values) (set_lines (prefix_of name) (row ∷ rows) own) (server_state values done name own)
read-own values done name row rows [] table first plain named absent few fit = absurd fit
read-own values done name row rows (None ∷ own) table first plain named absent few fit = absurd (first fit.0)
read-own values done name row rows (Some value ∷ own) table first plain named absent few fit =
    let start : set (map own_at_first of_server) 0 (Some value) ≡ Some value ∷ map own_at_first rows = ap (λ (rs : List OptionRow). set (map own_at_first rs) 0 (Some value)) table in
    let line = first-line-makes values done name value row rows named absent few plain fit.0.0 fit.0.1 ∙ ap (λ (vs : List (Option (List ℕ))). Some (server_state values done name vs)) start in
    Reads-line _ _ _ (set_line (prefix_of name) row value) (set_lines (prefix_of name) rows own) line
    (read-table (server_state values done name) (prefix_of name) own_at_first rows own (Some value ∷ []) 1 (server-each values done name 1 rows named absent plain.5) fit.1 refl)

-- ---- the servers, one after another

-- none of the servers has a name that is there already
abbrev Apart : List ServerOptions → List ServerOptions → Type 0
Apart done [] = Unit {0}
Apart done (server ∷ servers) = (has_server server.name done ≡ false) × Apart done servers

apart-push : (done : List ServerOptions) (server : ServerOptions) (servers : List ServerOptions) → Apart done servers → has_server server.name servers ≡ false → Apart (done ++ server ∷ []) servers
apart-push done server [] apart absent = tt
apart-push done server (next ∷ servers) apart absent = (
  has_server-push next.name done server apart.0 (bytes_eq-sym server.name next.name ∙ not_head server.name next servers absent),
  apart-push done server servers apart.1 (not_tail server.name next servers absent),
)

apart-none : (servers : List ServerOptions) → Apart [] servers
apart-none [] = tt
apart-none (server ∷ servers) = (refl, apart-none servers)

addresses-first : own_at_first (get_or of_server 0 no_row) ≢ None
unfolding of_server globals place_in
addresses-first e = cc

read-server : (values : List (Option (List ℕ))) (done : List ServerOptions) (server : ServerOptions) → is_server_name server.name ≡ true → FitAll own_at_first of_server server.own → has_server server.name done ≡ false → length done < 64
    → Reads (global_state done values) (server_lines server) (global_state (done ++ server ∷ []) values)
unfolding of_server
read-server values done server named fit absent few =
    read-own values done server.name (get_or of_server 0 no_row) (drop 1 of_server) server.own refl addresses-first of_server-ArePlain named absent few fit

read-servers : (values : List (Option (List ℕ))) (servers done : List ServerOptions) → AreServers servers → Apart done servers → length done + length servers ≤ 64
    → Reads (global_state done values) (flat_map server_lines servers) (global_state (done ++ servers) values)
read-servers values [] done are apart few =
    subst (λ (ss : List ServerOptions). Reads (global_state done values) [] (global_state ss values)) (sym (append-nil done)) (Reads-none (global_state done values))
read-servers values (server ∷ servers) done are apart few =
    let more : length (done ++ server ∷ []) + length servers ≤ 64 = rw (length_push done server) (omega arith) in
    let first = read-server values done server are.0 are.1 apart.0 (omega arith) in
    let rest = read-servers values servers (done ++ server ∷ []) are.3 (apart-push done server servers apart.1 are.2) more in
    Reads-append _ _ _ (server_lines server) (flat_map server_lines servers) first
    (subst (λ (ss : List ServerOptions). Reads (global_state (done ++ server ∷ []) values) (flat_map server_lines servers) (global_state ss values)) (append_assoc done (server ∷ []) servers) rest)

-- ---- no line has an LF

storable-no_lf : (byte : ℕ) → is_storable_byte byte ≡ true → no_lf byte ≡ true
storable-no_lf byte h = and-second (not (byte == 13)) (not (byte == 10)) (and-first (not (byte == 13) && not (byte == 10)) (not (byte == 0)) h)

storable-line : (value : List ℕ) (kind_fits : Bool) → (is_storable value && kind_fits) ≡ true → list_all no_lf value ≡ true
unfolding is_storable
storable-line value kind_fits h =
    list_all-weaken is_storable_byte no_lf storable-no_lf value (and-second (leb (length value) 1024) (list_all is_storable_byte value) (and-first (is_storable value) kind_fits h))

value-line : (row : OptionRow) (value : List ℕ) → value_fits row.kind value ≡ true → list_all no_lf value ≡ true
unfolding value_fits
value-line row value h = storable-line value (is_of_kind row.kind value) h

-- the names after a prefix have no LF
abbrev AreWhole : List ℕ → List OptionRow → Type 0
AreWhole prefix [] = Unit {0}
AreWhole prefix (row ∷ rows) = (list_all no_lf (prefix ++ row.name) ≡ true) × AreWhole prefix rows

set_lines-AreLines : (prefix : List ℕ) (first : OptionRow → Option (List ℕ)) (rows : List OptionRow) (values : List (Option (List ℕ))) → AreWhole prefix rows → FitAll first rows values → AreLines (set_lines prefix rows values)
set_lines-AreLines prefix first [] values whole fit = tt
set_lines-AreLines prefix first (row ∷ rows) [] whole fit = tt
set_lines-AreLines prefix first (row ∷ rows) (None ∷ values) whole fit = set_lines-AreLines prefix first rows values whole.1 fit.1
set_lines-AreLines prefix first (row ∷ rows) (Some value ∷ values) whole fit = (
  list_all-append no_lf (prefix ++ row.name ++ equals_sign) (quoted value) (list_all-append no_lf (prefix ++ row.name) equals_sign whole.0 refl) (quoted-line value (value-line row value fit.0.0)),
  set_lines-AreLines prefix first rows values whole.1 fit.1,
)

globals-AreWhole : (place : ℕ) (rows : List OptionRow) → AreNamed place rows → AreWhole [] rows
globals-AreWhole place [] named = tt
globals-AreWhole place (row ∷ rows) named = (named.0.whole, globals-AreWhole (suc place) rows named.2)

server-AreWhole : (name : List ℕ) (place : ℕ) (rows : List OptionRow) → is_server_name name ≡ true → ArePlain place rows → AreWhole (prefix_of name) rows
server-AreWhole name place [] named plain = tt
server-AreWhole name place (row ∷ rows) named plain =
    ((server-IsNameAt name row.name place named plain.0 plain.1 plain.2 plain.3).whole, server-AreWhole name (suc place) rows named plain.5)

servers-AreLines : (servers : List ServerOptions) → AreServers servers → AreLines (flat_map server_lines servers)
servers-AreLines [] are = tt
servers-AreLines (server ∷ servers) are =
    AreLines-append (server_lines server) (flat_map server_lines servers)
    (set_lines-AreLines (prefix_of server.name) own_at_first of_server server.own (server-AreWhole server.name 0 of_server are.0 of_server-ArePlain) are.1)
    (servers-AreLines servers are.3)

-- ---- the law

fresh-state : fresh ≡ global_state [] (map unset_at_first globals)
unfolding fresh
fresh-state = refl

read-all : (options : OptionsValue) → AreOptionsKept options → Reads fresh (set_lines [] globals options.set ++ flat_map server_lines options.servers) options
read-all options kept =
    subst (λ (start : OptionsValue). Reads start (set_lines [] globals options.set ++ flat_map server_lines options.servers) options) (sym fresh-state)
    (Reads-append _ _ _ (set_lines [] globals options.set) (flat_map server_lines options.servers)
    (read-table (global_state []) [] unset_at_first globals options.set [] 0 (globals-each [] 0 globals globals-AreNamed) kept.set_fit refl)
    (read-servers options.set options.servers [] kept.servers_fit (apart-none options.servers) (omega (arith, kept.few))))

lines-are : (options : OptionsValue) → AreOptionsKept options → AreLines (config_lines options)
lines-are options kept = (
  refl,
  AreLines-append (set_lines [] globals options.set) (flat_map server_lines options.servers)
      (set_lines-AreLines [] unset_at_first globals options.set (globals-AreWhole 0 globals globals-AreNamed) kept.set_fit)
      (servers-AreLines options.servers kept.servers_fit),
)

version-first : (lines : List (List ℕ)) → of_lines (version_line ∷ lines) ≡ after_lines Two 2 fresh lines
version-first lines = refl

-- what is written of options is read as these options
pub config_of-config_text : (options : OptionsValue) → AreOptionsKept options → config_of (config_text options) ≡ Ok options
unfolding config_of config_text
config_of-config_text options kept =
    let body = set_lines [] globals options.set ++ flat_map server_lines options.servers in
    let run = (read-all options kept).run 2 [] in
    ap of_lines (lines_of-ended (config_lines options) (lines-are options kept))
    ∙ version-first body
    ∙ ap (after_lines Two 2 fresh) (sym (append-nil body))
    ∙ run.1
