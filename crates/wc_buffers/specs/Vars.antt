-- The variables of a buffer: a list of names and values, each name once.
use Rattle.std.specs.Prelude.{ℕ, ◌==◌, Option, List, [], ◌∷◌, find, fold, take, option_map}
use Rattle.std.specs.Prelude.{bytes_eq, codes, if◌then◌else◌}
use Rattle.std.specs.List.{before_first, after_first}
use Rattle.std.specs.Borrow.{Bor}
use Rattle.wc_text.specs.Cut.{cut_of}
use Rattle.wc_text.specs.declared.names.Pair.{Pair}

-- a text cut to whole characters within a limit
abbrev pub cut_to : ℕ → List ℕ → List ℕ
cut_to limit text = take (cut_of text limit) text

abbrev pub pair : List ℕ → List ℕ → Pair
pair name value = record { name = name; value = value }

-- a variable, whose value is cut
abbrev pub var : List ℕ → List ℕ → Pair
var name value = pair name (cut_to 1024 value)

-- the variable of a name, and its value
abbrev pub var_of : List ℕ → List Pair → Option Pair
var_of name vars = find (λ v. bytes_eq name v.name) vars

abbrev pub value_of : List ℕ → List Pair → Option (List ℕ)
value_of name vars = option_map (λ (v : Pair). v.value) (var_of name vars)

-- a variable set: a new one goes last, a changed one keeps its place
abbrev pub set_var : Pair → List Pair → List Pair
set_var p [] = p ∷ []
set_var p (v ∷ vs) = if bytes_eq p.name v.name then p ∷ vs else v ∷ set_var p vs

-- a variable taken out, and the others closed up
abbrev pub remove_var : List ℕ → List Pair → List Pair
remove_var name [] = []
remove_var name (v ∷ vs) = if bytes_eq name v.name then vs else v ∷ remove_var name vs

-- The two variables that every buffer has first: what is before the first dot of its full name,
-- or all of it, and what comes after that dot.
abbrev pub plugin_var : List ℕ → Pair
plugin_var full_name = pair (codes "plugin") (before_first (λ b. b == 46) full_name)

abbrev pub name_var : List ℕ → Pair
name_var full_name = pair (codes "name") (after_first (λ b. b == 46) full_name)

abbrev pub set_fixed : List ℕ → List Pair → List Pair
set_fixed full_name vars = set_var (name_var full_name) (set_var (plugin_var full_name) vars)

-- those of a new buffer: a repeated name keeps its first place and takes its last value
abbrev pub set_all : List Pair → List Pair → List Pair
set_all kept vars = fold (λ vs (v : Pair). set_var (var v.name v.value) vs) kept vars

unfoldable pub vars_of : List ℕ → List Pair → List Pair
vars_of full_name vars = set_all (set_fixed full_name []) vars

-- a name and a value that are lent
abbrev pub lent_pair : Bor (List ℕ) × Bor (List ℕ) → Pair
lent_pair lent = pair lent.0.now lent.1.now
