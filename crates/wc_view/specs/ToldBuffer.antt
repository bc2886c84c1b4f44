-- What an item tells of a buffer.
use Rattle.std.specs.Prelude.{ℕ, Bool, false, List, [], ◌∷◌, Option, Some, None, option_map}
use Rattle.std.specs.Option.{option_and_then}
use Rattle.wc_text.specs.declared.names.Pair.{Pair}
use Rattle.wc_objects.specs.declared.object.Object.{Object}
use Rattle.wc_objects.specs.declared.object.HdaItem.{HdaItem, out-HdaItem}
use Rattle.wc_view.specs.declared.told_buffer.ToldBuffer.{ToldBuffer}
use Rattle.wc_keys.specs.declared.key.Key.{Key}
use Rattle.wc_keys.specs.declared.key.Key.TheVariants as k
use Rattle.wc_view.specs.Items.{last_pointer}
use Rattle.wc_view.specs.Values.{number_in, pointer_in, text_in, switch_in, pairs_in}

-- a buffer of which its handle alone is told
abbrev pub bare : ℕ → ToldBuffer
bare buffer = record {
  number = 0;
  prev = 0;
  buffer = record {
    handle = record { 0 = buffer };
    full_name = [];
    short_name = [];
    title = [];
    hidden = false;
    vars = [];
  };
}

abbrev pub with_number : ℕ → ToldBuffer → ToldBuffer
with_number number c = record c { number = number }

abbrev pub with_prev : ℕ → ToldBuffer → ToldBuffer
with_prev prev c = record c { prev = prev }

abbrev pub with_full_name : List ℕ → ToldBuffer → ToldBuffer
with_full_name name c = record {
  number = c.number;
  prev = c.prev;
  buffer = record c.buffer { full_name = name };
}

abbrev pub with_short_name : List ℕ → ToldBuffer → ToldBuffer
with_short_name name c = record {
  number = c.number;
  prev = c.prev;
  buffer = record c.buffer { short_name = name };
}

abbrev pub with_title : List ℕ → ToldBuffer → ToldBuffer
with_title title c = record {
  number = c.number;
  prev = c.prev;
  buffer = record c.buffer { title = title };
}

abbrev pub with_hidden : Bool → ToldBuffer → ToldBuffer
with_hidden hidden c = record {
  number = c.number;
  prev = c.prev;
  buffer = record c.buffer { hidden = hidden };
}

abbrev pub with_vars : List Pair → ToldBuffer → ToldBuffer
with_vars vars c = record {
  number = c.number;
  prev = c.prev;
  buffer = record c.buffer { vars = vars };
}

-- one more value, where it can be that of the key; of another key there is none
unfoldable pub carry : Key → Object → ToldBuffer → Option ToldBuffer
carry k.Number value c = option_map (λ n. with_number n c) (number_in value)
carry k.FullName value c = option_map (λ t. with_full_name t c) (text_in value)
carry k.ShortName value c = option_map (λ t. with_short_name t c) (text_in value)
carry k.Hidden value c = option_map (λ b. with_hidden b c) (switch_in value)
carry k.Title value c = option_map (λ t. with_title t c) (text_in value)
carry k.LocalVariables value c = option_map (λ v. with_vars v c) (pairs_in value)
carry k.PrevBuffer value c = option_map (λ p. with_prev p c) (pointer_in value)
carry k.NextBuffer value c = option_map (λ p. c) (pointer_in value)
carry _ value c = None

-- the values of these keys, each in its place and none besides
abbrev pub carry_all : List Key → List Object → ToldBuffer → Option ToldBuffer
carry_all [] [] c = Some c
carry_all (key ∷ keys) (value ∷ values) c = option_and_then (carry_all keys values)
    (carry key value c)
carry_all _ _ c = None

unfoldable pub buffer_in : List Key → HdaItem → Option ToldBuffer
buffer_in keys item = option_and_then (λ buffer. carry_all keys (out-HdaItem item).values
    (bare buffer)) (last_pointer item)
