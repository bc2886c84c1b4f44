-- What holds of all buffers at every time, and of what is kept of them.
use Rattle.std.specs.Prelude.{◌≡◌, ℕ, ◌<◌, ◌≤◌, false, nat_eq, Option, Some, None, List, []}
use Rattle.std.specs.Prelude.{◌∷◌, map, length, take, is_some, option_map, unwrap_or, if◌then◌else◌}
use Rattle.std.specs.Prelude.{bytes_eq}
use Rattle.std.specs.HashMap.{HashMap, get_by}
use Rattle.std.specs.Str.{IsUtf8}
use Rattle.std.specs.declared.alloc.Global.{Global}
use Rattle.std.specs.declared.vec.Vec.{Vec}
use Rattle.wc_text.specs.declared.names.Handle.{Handle}
use Rattle.wc_text.specs.declared.names.Pair.{Pair}
use Rattle.wc_buffers.specs.declared.row.BufferRow.{BufferRow}
use Rattle.wc_buffers.specs.declared.row.BufferEntry.{BufferEntry}
use Rattle.wc_buffers.specs.Calls.{handle_of, entry_of, handle_of_name}
use Rattle.wc_buffers.specs.Groups.{rows, has, times, AllFilled}
use Rattle.wc_buffers.specs.Table.{key}
use Rattle.wc_buffers.specs.Vars.{plugin_var, name_var}

-- the texts of a variable are text
pub record IsVar (v : Pair) : Type 0 where
  pub name : IsUtf8 v.name
  pub value : IsUtf8 v.value
  pub short : length v.value ≤ 1024

abbrev pub AreVars : List Pair → Type 0
AreVars [] = Unit {0}
AreVars (v ∷ vs) = IsVar v × AreVars vs

pub record HasUtf8Row (r : BufferRow) : Type 0 where
  pub full_name : IsUtf8 r.full_name
  pub short_name : IsUtf8 r.short_name
  pub title : IsUtf8 r.title

pub record IsBuffer (e : BufferEntry) : Type 0 where
  pub text : HasUtf8Row e.row
  pub full_name : (0 < length e.row.full_name) × (length e.row.full_name ≤ 256)
  pub short_name : (0 < length e.row.short_name) × (length e.row.short_name ≤ 128)
  pub title : length e.row.title ≤ 1024
  pub vars : AreVars e.vars
  pub few : length e.vars ≤ 64
  -- the variables `plugin` and `name` are first
  pub first : take 2 e.vars ≡ plugin_var e.row.full_name ∷ name_var e.row.full_name ∷ []

-- what is under a handle, and under the bytes of a name
abbrev pub at_handle : {X S : Type 0} → HashMap ℕ X S → ℕ → Option X
at_handle m h = get_by (nat_eq h) m

abbrev pub at_name : {X S : Type 0} → HashMap (Vec ℕ Global) X S → List ℕ → Option X
at_name m name = get_by (λ k. bytes_eq name k.items) m

-- a buffer without texts, which stands for one that is not there
abbrev pub blank : Handle → BufferEntry
blank h = record {
  row = record {
    handle = h;
    own_lines = h;
    mixed_lines = h;
    full_name = [];
    short_name = [];
    title = [];
    hidden = false;
  };
  vars = [];
}

abbrev pub entry_at : {S : Type 0} → HashMap ℕ BufferEntry S → Handle → BufferEntry
entry_at entries h = unwrap_or (at_handle entries h.0) (blank h)

-- the groups of buffers that these groups of handles stand for
abbrev pub groups_of_handles : {S : Type 0} → HashMap ℕ BufferEntry S → List (List Handle) →
    List (List BufferEntry)
groups_of_handles entries gs = map (map (entry_at entries)) gs

pub record AreBuffersKept {S T : Type 0} (gs : List (List Handle))
    (entries : HashMap ℕ BufferEntry S) (names : HashMap (Vec ℕ Global) Handle T) : Type 0 where
  -- each handle of the groups has a buffer, and no other
  pub stored : (h : ℕ) → is_some (at_handle entries h) ≡ has key h gs
  pub keyed : (h : ℕ) (e : BufferEntry) → at_handle entries h ≡ Some e → e.row.handle.0 ≡ h
  pub fit : (h : ℕ) (e : BufferEntry) → at_handle entries h ≡ Some e → IsBuffer e
  pub never_null : at_handle entries 0 ≡ None
  -- the full name of each buffer leads to it, and no other name to one
  pub leads : (h : ℕ) (e : BufferEntry) → at_handle entries h ≡ Some e →
      at_name names e.row.full_name ≡ Some e.row.handle
  pub led : (name : List ℕ) (h : Handle) → at_name names name ≡ Some h → (e : BufferEntry)
      × (at_handle entries h.0 ≡ Some e) × (e.row.full_name ≡ name)

-- what callers know of all buffers
pub record AreBuffers (gs : List (List BufferEntry)) : Type 0 where
  pub once : (h : ℕ) → times handle_of h gs ≤ 1
  pub filled : AllFilled gs
  pub few : length (rows gs) ≤ 256
  pub never_null : has handle_of 0 gs ≡ false
  pub fit : (h : Handle) (e : BufferEntry) → entry_of h gs ≡ Some e → IsBuffer e
  pub names : (h : Handle) (e : BufferEntry) → entry_of h gs ≡ Some e →
      handle_of_name e.row.full_name gs ≡ Some h

-- the buffer of a handle changed by f, and the others as they were
abbrev pub IsEntryChanged : {S T : Type 0} → ℕ → (BufferEntry → BufferEntry) →
    HashMap ℕ BufferEntry S → HashMap ℕ BufferEntry T → Type 0
IsEntryChanged h f old new = (q : ℕ) →
    at_handle new q ≡ (if nat_eq h q then option_map f (at_handle old q) else at_handle old q)

-- the handles of the buffers
abbrev pub handles : List (List BufferEntry) → List (List Handle)
handles gs = map (map (λ (e : BufferEntry). e.row.handle)) gs
