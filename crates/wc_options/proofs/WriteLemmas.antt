-- The text of options, piece by piece.
use Rattle.std.proofs.Common.{ℕ, ◌≡◌, ◌+◌, ◌<◌, ◌≤◌, List, [], ◌∷◌, ◌++◌, length, map, drop, get_or, Option, Some, None, refl, ap, sym, ◌∙◌, arith}
use Rattle.std.specs.List.{flat_map}
use Rattle.std.proofs.lemmas.List.{append_assoc, append-nil, drop_more, drop_all, get_or_default}
use Rattle.std.proofs.lemmas.Grind.{flat_map-append}
use Rattle.wc_options.specs.Config.{config_text, text_of_lines, lines_of_value, set_lines, server_lines}
use Rattle.wc_options.specs.File.{equals_sign}
use Rattle.wc_options.specs.Options.{OptionsValue, ServerOptions}
use Rattle.wc_options.specs.Table.{OptionRow, globals, row_of}
use Rattle.wc_options.specs.Version.{version_line}
use Rattle.wc_options.specs.declared.table.Row.{Row}

pub line_written : (text prefix name value : List ℕ) → text ++ prefix ++ name ++ equals_sign ++ value ++ 10 ∷ [] ≡ text ++ (prefix ++ name ++ equals_sign ++ value ++ 10 ∷ [] ++ [])
line_written text prefix name value = simp (append_assoc, append-nil)

pub ended-append : (xs ys : List (List ℕ)) → text_of_lines (xs ++ ys) ≡ text_of_lines xs ++ text_of_lines ys
ended-append xs ys = flat_map-append (λ line. line ++ 10 ∷ []) xs ys

set_lines-cons : (prefix : List ℕ) (row : OptionRow) (rows : List OptionRow) (value : Option (List ℕ)) (values : List (Option (List ℕ)))
    → set_lines prefix (row ∷ rows) (value ∷ values) ≡ lines_of_value prefix row value ++ set_lines prefix rows values
set_lines-cons prefix row rows None values = refl
set_lines-cons prefix row rows (Some value) values = refl

-- what is written from a place on is that place's line and what is written after it
pub set_lines-more : (prefix : List ℕ) (table : List Row) (values : List (Option (List ℕ))) (place : ℕ) (row : Row) (value : Option (List ℕ))
    → place < length table → length values ≡ length table → row ≡ get_or table place row → value ≡ get_or values place value
    → set_lines prefix (map row_of (drop place table)) (drop place values) ≡ lines_of_value prefix (row_of row) value ++ set_lines prefix (map row_of (drop (place + 1) table)) (drop (place + 1) values)
set_lines-more prefix table values place row value h same at there =
    let rows : drop place table ≡ row ∷ drop (place + 1) table = drop_more table place row h ∙ ap (λ r. r ∷ drop (place + 1) table) (sym at) in
    let vals : drop place values ≡ value ∷ drop (place + 1) values = drop_more values place value (omega arith) ∙ ap (λ v. v ∷ drop (place + 1) values) (sym there) in
    ap (λ rs. set_lines prefix (map row_of rs) (drop place values)) rows
    ∙ ap (λ vs. set_lines prefix (row_of row ∷ map row_of (drop (place + 1) table)) vs) vals
    ∙ set_lines-cons prefix (row_of row) (map row_of (drop (place + 1) table)) value (drop (place + 1) values)

-- one step of the writing of a table
pub values_step : (now more : List ℕ) (prefix : List ℕ) (table : List Row) (values : List (Option (List ℕ))) (place : ℕ) (d : Row) (value : Option (List ℕ)) (whole : List ℕ)
    → place < length table → length values ≡ length table → value ≡ get_or values place value
    → now ++ text_of_lines (set_lines prefix (map row_of (drop place table)) (drop place values)) ≡ whole
    → more ≡ now ++ text_of_lines (lines_of_value prefix (row_of (get_or table place d)) value)
    → more ++ text_of_lines (set_lines prefix (map row_of (drop (place + 1) table)) (drop (place + 1) values)) ≡ whole
values_step now more prefix table values place d value whole h same there so_far is =
    let following = set_lines prefix (map row_of (drop (place + 1) table)) (drop (place + 1) values) in
    let row = get_or table place d in
    let at : row ≡ get_or table place row = get_or_default table place d row h in
    ap (λ t. t ++ text_of_lines following) is
    ∙ append_assoc now (text_of_lines (lines_of_value prefix (row_of row) value)) (text_of_lines following)
    ∙ ap (λ rest. now ++ rest) (sym (ended-append (lines_of_value prefix (row_of row) value) following))
    ∙ ap (λ lines. now ++ text_of_lines lines) (sym (set_lines-more prefix table values place row value h same at there))
    ∙ so_far

pub values_end : (now : List ℕ) (prefix : List ℕ) (table : List Row) (values : List (Option (List ℕ))) (place : ℕ) (whole : List ℕ) → length table ≤ place
    → now ++ text_of_lines (set_lines prefix (map row_of (drop place table)) (drop place values)) ≡ whole → now ≡ whole
values_end now prefix table values place whole h so_far =
    let none : text_of_lines (set_lines prefix (map row_of (drop place table)) (drop place values)) ≡ [] = ap (λ rs. text_of_lines (set_lines prefix (map row_of rs) (drop place values))) (drop_all place table h) in
    sym (append-nil now) ∙ ap (λ rest. now ++ rest) (sym none) ∙ so_far

-- the same for servers
pub servers_step : (now more : List ℕ) (servers : List ServerOptions) (place : ℕ) (server : ServerOptions) (whole : List ℕ)
    → place < length servers → server ≡ get_or servers place server
    → now ++ text_of_lines (flat_map server_lines (drop place servers)) ≡ whole → more ≡ now ++ text_of_lines (server_lines server)
    → more ++ text_of_lines (flat_map server_lines (drop (place + 1) servers)) ≡ whole
servers_step now more servers place server whole h at so_far is =
    let following = flat_map server_lines (drop (place + 1) servers) in
    let rows : drop place servers ≡ server ∷ drop (place + 1) servers = drop_more servers place server h ∙ ap (λ s. s ∷ drop (place + 1) servers) (sym at) in
    ap (λ t. t ++ text_of_lines following) is
    ∙ append_assoc now (text_of_lines (server_lines server)) (text_of_lines following)
    ∙ ap (λ rest. now ++ rest) (sym (ended-append (server_lines server) following))
    ∙ ap (λ ss. now ++ text_of_lines (flat_map server_lines ss)) (sym rows)
    ∙ so_far

pub servers_end : (now : List ℕ) (servers : List ServerOptions) (place : ℕ) (whole : List ℕ) → length servers ≤ place → now ++ text_of_lines (flat_map server_lines (drop place servers)) ≡ whole → now ≡ whole
servers_end now servers place whole h so_far =
    let none : text_of_lines (flat_map server_lines (drop place servers)) ≡ [] = ap (λ ss. text_of_lines (flat_map server_lines ss)) (drop_all place servers h) in
    sym (append-nil now) ∙ ap (λ rest. now ++ rest) (sym none) ∙ so_far

pub config_text-is : (options : OptionsValue) → version_line ++ 10 ∷ [] ++ text_of_lines (set_lines [] globals options.set) ++ text_of_lines (flat_map server_lines options.servers) ≡ config_text options
unfolding config_text
config_text-is options =
    append_assoc (version_line ++ 10 ∷ []) (text_of_lines (set_lines [] globals options.set)) (text_of_lines (flat_map server_lines options.servers))
    ∙ ap (λ rest. version_line ++ 10 ∷ [] ++ rest) (sym (ended-append (set_lines [] globals options.set) (flat_map server_lines options.servers)))
