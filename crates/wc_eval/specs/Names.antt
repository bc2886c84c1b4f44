-- What a name between `${` and `}` stands for.
use Rattle.std.specs.Prelude.{ℕ, List, [], ◌∷◌, if◌then◌else◌, bytes_eq, Option, Some, None}
use Rattle.std.specs.Prelude.{option_and_then, slice_get, All}
use Rattle.std.specs.Str.{IsUtf8, is_utf8}
use Rattle.wc_text.specs.declared.names.Pair.{Pair}
use Rattle.wc_options.specs.Options.{OptionsValue, value_of as option_of}
use Rattle.wc_eval.specs.declared.scope.Scope.{Scope}
use Rattle.wc_eval.specs.Values.{size_in}

-- What a text may name.
pub record Facts : Type 0 where
  -- the variables of a trigger
  pub vars : List Pair
  pub options : OptionsValue
  -- facts of the buffer
  pub facts : List Pair
  -- the local variables of the buffer
  pub locals : List Pair
  -- the groups of the last match, of which the first is the match
  pub groups : List (List ℕ)

abbrev pub facts_of : Scope → Facts
facts_of scope = record {
  vars = scope.vars.now;
  options = scope.options.now;
  facts = scope.facts.now;
  locals = scope.locals.now;
  groups = scope.groups.now;
}

abbrev pub HasText : Pair → Type 0
HasText p = IsUtf8 p.value

-- each value is text
pub record AreTexts (scope : Facts) : Type 0 where
  pub vars : All HasText scope.vars
  pub facts : All HasText scope.facts
  pub locals : All HasText scope.locals
  pub groups : All IsUtf8 scope.groups

-- ---- look-ups

abbrev pub or_empty : Option (List ℕ) → List ℕ
or_empty None = []
or_empty (Some text) = text

abbrev pub or_else : Option (List ℕ) → Option (List ℕ) → Option (List ℕ)
or_else None other = other
or_else (Some text) other = Some text

-- the value of the first pair with this name
abbrev pub value_of : List ℕ → List Pair → Option (List ℕ)
value_of name [] = None
value_of name (p ∷ ps) = if bytes_eq p.name name then Some p.value else value_of name ps

-- the value of a name that was defined
abbrev pub defined_in : List ℕ → List (List ℕ × List ℕ) → Option (List ℕ)
defined_in name [] = None
defined_in name (e ∷ es) = if bytes_eq name e.0 then Some e.1 else defined_in name es

-- a value that is text
abbrev pub text_in : List ℕ → Option (List ℕ)
text_in value = if is_utf8 value then Some value else None

-- the value of an option, where it is text, as each one is that was set
abbrev pub option_in : OptionsValue → List ℕ → Option (List ℕ)
option_in options name = option_and_then text_in (option_of options name)

-- a variable, an option, a fact, a local variable
abbrev pub known_in : Facts → List ℕ → Option (List ℕ)
known_in scope name = or_else (value_of name scope.vars)
    (or_else (option_in scope.options name)
    (or_else (value_of name scope.facts) (value_of name scope.locals)))

-- a defined name before the others
unfoldable pub name_value : Facts → List (List ℕ × List ℕ) → List ℕ → List ℕ
name_value scope defined name = or_empty (or_else (defined_in name defined) (known_in scope name))

-- a group of the last match
unfoldable pub group_value : Facts → List ℕ → List ℕ
group_value scope number = or_empty (option_and_then (slice_get scope.groups) (size_in number))
