-- Acts that are told of buffers, and lines that can be written.
use Rattle.std.proofs.Common.{◌≡◌, ℕ, true, List, [], ◌∷◌, ◌++◌, map, flat_map, Option, Some, None, refl, sym, subst, ◌∙◌, arith}
use Rattle.std.specs.Prelude.{option_map, IsTrue}
use Rattle.std.specs.List.{AllByRecursion}
use Rattle.std.proofs.lemmas.Bool.{and_from}
use Rattle.std.proofs.lemmas.List.Concat.{flat_map-append}
use Rattle.wc_text.specs.declared.names.Pair.{Pair}
use Rattle.wc_buffers.specs.declared.row.BufferEntry.{BufferEntry}
use Rattle.wc_buffers.specs.declared.row.BufferRow.{BufferRow}
use Rattle.wc_buffers.specs.Calls.{EntryGroups, entry_of}
use Rattle.wc_buffers.specs.Groups.{rows}
use Rattle.wc_buffers.specs.Kept.{AreBuffers, handles}
use Rattle.wc_ircmsg.specs.Commands.{is_command}
use Rattle.wc_ircmsg.specs.Written.{IsWritable, is_one_line}
use Rattle.wc_irc.specs.declared.act.Act.{Act}
use Rattle.wc_irc.specs.Autojoin.{message}
use Rattle.wc_irc.specs.TargetsSeen.{acts_in, acts_at, all_acts_at}
use Rattle.wc_irc_texts.specs.Texts.{in_one_line}
use Rattle.wc_irc_texts.proofs.PieceLemmas.{one_line_made}
use Rattle.wc_irc.proofs.TargetLemmas.{rows_once, all_parts}

-- ---- a buffer, by what is lent of it

pub entry_there : (acts : BufferEntry → List Act) (o : Option BufferEntry) (row : BufferRow) (vars : List Pair)
    → option_map (λ (e : BufferEntry). e.row) o ≡ Some row → option_map (λ (e : BufferEntry). e.vars) o ≡ Some vars → acts_in acts o ≡ acts (record { row = row; vars = vars })
entry_there acts None row vars here there = absurd (cc)
entry_there acts (Some e) row vars here there =
    let same : e.row ≡ row = cc in
    let kept : e.vars ≡ vars = cc in
    λ i. acts (record { row = same i; vars = kept i })

pub entry_absent : (acts : BufferEntry → List Act) (o : Option BufferEntry) → option_map (λ (e : BufferEntry). e.row) o ≡ None → acts_in acts o ≡ []
entry_absent acts None none = refl
entry_absent acts (Some e) none = absurd (cc)

pub entry_bare : (acts : BufferEntry → List Act) (o : Option BufferEntry) → option_map (λ (e : BufferEntry). e.vars) o ≡ None → acts_in acts o ≡ []
entry_bare acts None none = refl
entry_bare acts (Some e) none = absurd (cc)

pub ruleset entry_facts = (entry_there, entry_absent, entry_bare)

-- ---- all buffers

group_acts : (acts : BufferEntry → List Act) (gs : EntryGroups) (es : List BufferEntry) → AllByRecursion (λ e. entry_of e.row.handle gs ≡ Some e) es
    → acts_at acts gs (map (λ (e : BufferEntry). e.row.handle) es) ≡ flat_map acts es
group_acts acts gs [] all = refl
group_acts acts gs (e ∷ es) all = λ i. acts_in acts (all.0 i) ++ group_acts acts gs es all.1 i

acts_from : (acts : BufferEntry → List Act) (all gs : EntryGroups) → AllByRecursion (λ e. entry_of e.row.handle all ≡ Some e) (rows gs)
    → all_acts_at acts all (handles gs) ≡ flat_map acts (rows gs)
acts_from acts all [] found = refl
acts_from acts all (g ∷ gs) found =
    let parts = all_parts _ g (rows gs) found in
    (λ i. group_acts acts all g parts.0 i ++ acts_from acts all gs parts.1 i) ∙ sym (flat_map-append acts g (rows gs))

pub all_acts : (acts : BufferEntry → List Act) (gs : EntryGroups) → AreBuffers gs → all_acts_at acts gs (handles gs) ≡ flat_map acts (rows gs)
all_acts acts gs are = acts_from acts gs gs (rows_once gs are.once)

-- ---- a line of one text

pub one_writable : (command text word : List ℕ) (params : List (List ℕ)) → IsTrue (is_command command) → word ≡ command → params ≡ in_one_line text ∷ [] → IsWritable (message word params)
one_writable command text word params known same one =
    subst (λ (w : List ℕ). IsWritable (message w params)) (sym same) (
    subst (λ (p : List (List ℕ)). IsWritable (message command p)) (sym one) (record {
      command = known;
      few = omega arith;
      words = refl;
      one_line = and_from (is_one_line (in_one_line text)) true (one_line_made text) refl;
    }))
