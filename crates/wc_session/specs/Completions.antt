-- The reply to `completion`.
use Rattle.std.specs.Prelude.{ℕ, ℤ, List, [], ◌∷◌, Option, Some, None, if◌then◌else◌, codes}
use Rattle.std.specs.List.{list_all}
use Rattle.std.specs.Str.{is_utf8}
use Rattle.wc_text.specs.declared.names.Handle.{Handle}
use Rattle.wc_model.specs.World.{World}
use Rattle.wc_objects.specs.declared.kind.Kind.TheVariants as k
use Rattle.wc_objects.specs.declared.object.Object.{Object}
use Rattle.wc_objects.specs.declared.object.Object.TheVariants as o
use Rattle.wc_objects.specs.declared.object.Hda.{roll-Hda}
use Rattle.wc_objects.specs.declared.object.HdaItem.{roll-HdaItem}
use Rattle.wc_keys.specs.declared.key.KeyList.TheVariants as l
use Rattle.wc_keys.specs.Keys.{list_text}
use Rattle.wc_events.specs.BufferObjects.{text}
use Rattle.wc_events.specs.LineObjects.{count, texts}
use Rattle.wc_complete.specs.declared.completion.Completion.{Completion}
use Rattle.wc_complete.specs.Completed.{completion_at, context_name}
use Rattle.wc_session.specs.Names.{buffer_named}
use Rattle.wc_session.specs.Sending.{null_hdata}

-- the name of what it leads to
abbrev pub completion_path : List ℕ
completion_path = codes "completion"

-- in the order of the keys
abbrev pub completion_values : Completion → List Object
completion_values completion =
    text (context_name completion.context) ∷ text completion.base_word
    ∷ o.Int (count completion.pos_start) ∷ o.Int (count completion.pos_end)
    ∷ o.Arr k.Str (texts completion.list) ∷ []

-- one item, which no pointer names
abbrev pub told_completion : Completion → Object
told_completion completion =
    o.Hda (roll-Hda (record {
      path = Some completion_path;
      keys = Some (list_text l.Completion);
      items = roll-HdaItem (record {
        pointers = 0 ∷ [];
        values = completion_values completion;
      }) ∷ [];
    }))

-- The null hdata stands for none, and for one that no message can hold: names of commands that are
-- no text.
abbrev pub completion_or_null : Option Completion → List Object
completion_or_null None = null_hdata
completion_or_null (Some completion) = if list_all is_utf8 completion.list
    then told_completion completion ∷ [] else null_hdata

-- what completes a text in the buffer that was found
abbrev pub completion_in : World → List (List ℕ) → Option Handle → ℤ → List ℕ → Option Completion
completion_in world commands None position text = None
completion_in world commands (Some buffer) position text =
    completion_at world commands buffer position text

-- the reply to `completion` of a text at a position, in the buffer of that name
unfoldable pub completion_objects : World → List (List ℕ) → List ℕ → ℤ → List ℕ → List Object
completion_objects world commands buffer position text =
    completion_or_null (completion_in world commands (buffer_named world.groups buffer) position text)
