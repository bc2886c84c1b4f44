-- What holds of the groups that are shown.
use Rattle.std.proofs.Common.{◌≡◌, ℕ, List, Some, is_some, sym, ap, ◌∙◌, arith}
use Rattle.std.specs.HashMap.{HashMap}
use Rattle.std.specs.declared.alloc.Global.{Global}
use Rattle.std.specs.declared.vec.Vec.{Vec}
use Rattle.wc_text.specs.declared.names.Handle.{Handle}
use Rattle.wc_buffers.specs.declared.row.BufferEntry.{BufferEntry}
use Rattle.wc_buffers.specs.Calls.{handle_of}
use Rattle.wc_buffers.specs.Kept.{at_handle, entry_at, groups_of_handles, AreBuffersKept, AreBuffers}
use Rattle.wc_buffers.specs.Table.{key, AreGroups}
use Rattle.wc_buffers.proofs.GroupLaws.{times-map, AllFilled-map}
use Rattle.wc_buffers.proofs.Named.{named-shown}
use Rattle.wc_buffers.proofs.Shown.{key_at, there-shown, entry-shown, rows-shown}

pub are_buffers : {S T : Type 0} (gs : List (List Handle)) (entries : HashMap ℕ BufferEntry S) (names : HashMap (Vec ℕ Global) Handle T) → AreBuffersKept gs entries names → AreGroups gs → AreBuffers (groups_of_handles entries gs)
are_buffers gs entries names kept are = record {
  once = λ h. omega (arith, times-map (entry_at entries) key handle_of (key_at entries kept.keyed) h gs, are.once h);
  filled = AllFilled-map (entry_at entries) key handle_of (key_at entries kept.keyed) gs are.filled;
  few = (let few = are.few in omega (arith, rows-shown gs entries names kept));
  never_null = sym (there-shown gs entries names kept 0) ∙ ap is_some kept.never_null;
  fit = λ h e i. kept.fit h.0 e (entry-shown gs entries names kept h.0 ∙ i);
  names = λ h e i.
      let j : at_handle entries h.0 ≡ Some e = entry-shown gs entries names kept h.0 ∙ i in
      let number : e.row.handle.0 ≡ h.0 = kept.keyed h.0 e j in
      let same : e.row.handle ≡ h = λ k. record { 0 = number k } in
      sym (named-shown gs entries names kept e.row.full_name (Some e.row.handle) (kept.leads h.0 e j)) ∙ ap Some same;
}
