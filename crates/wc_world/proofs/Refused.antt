-- From a refusal of the buffers to the clause on the world.
use Rattle.std.proofs.Common.{◌≡◌, ◌≢◌, ℕ, ◌+◌, ◌≤◌, ◌^◌, Bool, true, false, cond, ltb, List, Option, Some, None, option_map, refl, ap, sym, subst, ◌∙◌, arith, lt-ltb}
use Rattle.std.specs.Prelude.{Result, Err, IsErrAnd}
use Rattle.std.specs.FinMap.{FinMap}
use Rattle.std.specs.HashMap.{HashMap}
use Rattle.std.specs.Ordering.{nat_cmp}
use Rattle.std.proofs.lemmas.Bool.{false≢true}
use Rattle.std.proofs.lemmas.Result.{err_from_is_err_and}
use Rattle.wc_text.specs.declared.names.Handle.{Handle}
use Rattle.wc_lines.specs.Held.{RingView}
use Rattle.wc_nicklist.specs.declared.item.Row.{Row}
use Rattle.wc_buffers.specs.declared.refused.BufferRefused.{BufferRefused}
use Rattle.wc_buffers.specs.declared.refused.BufferRefused.TheVariants.{NoBuffer, IsCore, BadName, FixedVar, NameTaken, NoVar, SameGroup, NotMerged, BadNumber, TooMany, NoMemory}
use Rattle.wc_buffers.specs.Calls.{EntryGroups, is_there, no_buffer, add_refusal}
use Rattle.wc_buffers.specs.declared.row.BufferSpec.{BufferSpec}
use Rattle.wc_model.specs.declared.change.Change.{Change}
use Rattle.wc_model.specs.declared.change.LineSpec.{LineSpec}
use Rattle.wc_model.specs.declared.change.What.{What}
use Rattle.wc_model.specs.declared.change.What.TheVariants.{Add, Print}
use Rattle.wc_model.specs.declared.notice.Notice.{Notice}
use Rattle.wc_model.specs.declared.refused.ChangeRefused.{ChangeRefused}
use Rattle.wc_model.specs.World.{World, last_handle}
use Rattle.wc_model.specs.Apply.{refusal, refusal_of, or_else, of_buffers, row_of as new_row}
use Rattle.wc_model.specs.Notices.{Outcome}
use Rattle.wc_model.specs.Refusals.{refused_by}
use Rattle.wc_world.specs.declared.line_limit.LineLimit.{LineLimit}
use Rattle.wc_world.specs.Kept.{held_at, lines_map, printed_map, world_of}
use Rattle.wc_world.proofs.HeldLemmas.{lines_of, count_of, same_field}

abbrev is_memory : BufferRefused → Bool
is_memory NoMemory = true
is_memory (NoBuffer h) = false
is_memory IsCore = false
is_memory (BadName n) = false
is_memory (FixedVar name) = false
is_memory (NameTaken name) = false
is_memory (NoVar name) = false
is_memory (SameGroup n) = false
is_memory NotMerged = false
is_memory (BadNumber n) = false
is_memory (TooMany n) = false

not_memory : (e : BufferRefused) → is_memory e ≡ false → e ≢ NoMemory
not_memory e t p = false≢true (sym t ∙ ap is_memory p)

-- a refusal that may be for want of memory
pub refusing : (v b : World) (c : Change) (e : BufferRefused) (r : ChangeRefused) → r ≡ refused_by e → b ≡ v → (e ≢ NoMemory → refusal v c ≡ Some (ChangeRefused.Buffer e)) → Outcome v c b (Err r)
refusing v b c e r is same f = subst (λ r. Outcome v c b (Err r)) (sym is) (by e f)
  where
    by : (e : BufferRefused) → (e ≢ NoMemory → refusal v c ≡ Some (ChangeRefused.Buffer e)) → Outcome v c b (Err (refused_by e))
    by NoMemory f = same
    by (NoBuffer h) f = (same, f (not_memory (NoBuffer h) refl))
    by IsCore f = (same, f (not_memory IsCore refl))
    by (BadName n) f = (same, f (not_memory (BadName n) refl))
    by (FixedVar name) f = (same, f (not_memory (FixedVar name) refl))
    by (NameTaken name) f = (same, f (not_memory (NameTaken name) refl))
    by (NoVar name) f = (same, f (not_memory (NoVar name) refl))
    by (SameGroup n) f = (same, f (not_memory (SameGroup n) refl))
    by NotMerged f = (same, f (not_memory NotMerged refl))
    by (BadNumber n) f = (same, f (not_memory (BadNumber n) refl))
    by (TooMany n) f = (same, f (not_memory (TooMany n) refl))

pub same_groups : {S : Type 0} (gs hs : EntryGroups) (m : HashMap ℕ RingView S) (ns : FinMap nat_cmp (List Row)) (limit : LineLimit) (next : ℕ) (v : World) → hs ≡ gs → world_of gs m ns limit next ≡ v → world_of hs m ns limit next ≡ v
same_groups gs hs m ns limit next v e is = ap (λ g. world_of g m ns limit next) e ∙ is

pub same_stored : {S T : Type 0} (gs hs : EntryGroups) (m : HashMap ℕ RingView S) (n : HashMap ℕ RingView T) (ns ms : FinMap nat_cmp (List Row)) (limit : LineLimit) (next : ℕ) (v : World) → hs ≡ gs → ((q : ℕ) → held_at n q ≡ held_at m q) → ms ≡ ns → world_of gs m ns limit next ≡ v → world_of hs n ms limit next ≡ v
same_stored gs hs m n ns ms limit next v e s k is =
    let lines : lines_map n ≡ lines_map m = same_field lines_of m n (λ q. ap (option_map lines_of) (s q)) in
    let printed : printed_map n ≡ printed_map m = same_field count_of m n (λ q. ap (option_map count_of) (s q)) in
    let same : world_of hs n ms limit next ≡ world_of gs m ns limit next = λ i. record { groups = e i; lines = lines i; printed = printed i; nicks = k i; limit = limit.most; limit_changes = limit.changes; next = next } in
    same ∙ is

pub out_of_memory : (v b : World) (c : Change) (r : Result Notice ChangeRefused) → r ≡ Err ChangeRefused.NoMemory → b ≡ v → Outcome v c b r
out_of_memory v b c r e same = subst (λ r. Outcome v c b r) (sym e) same

pub by_world : (w v : World) (h : Handle) (what : What) (o : Option ChangeRefused) → w ≡ v → refusal_of w h what ≡ o → refusal_of v h what ≡ o
by_world w v h what o is e = subst (λ v. refusal_of v h what ≡ o) is e

-- the same of a `?` on what the buffers answered, who are then as they were
pub groups_refused : {S : Type 0} (gs hs : EntryGroups) (m : HashMap ℕ RingView S) (ns : FinMap nat_cmp (List Row)) (limit : LineLimit) (next : ℕ) (v : World) (h : Handle) (what : What) (e : BufferRefused) (r : Result Notice ChangeRefused) → IsErrAnd r (λ x. x ≡ refused_by e) → hs ≡ gs → world_of gs m ns limit next ≡ v → (e ≢ NoMemory → refusal_of (world_of gs m ns limit next) h what ≡ Some (ChangeRefused.Buffer e)) → Outcome v (record { buffer = h; what = what }) (world_of hs m ns limit next) r
groups_refused gs hs m ns limit next v h what e r is same view f =
    let p = err_from_is_err_and r is in
    let old = world_of gs m ns limit next in
    let new = world_of hs m ns limit next in
    let change : Change = record { buffer = h; what = what } in
    subst (λ r. Outcome v change new r) (sym p.1) (refusing v new change e p.0 p.2 (same_groups gs hs m ns limit next v same view) (λ n. by_world old v h what _ view (f n)))

pub print_spent : (w : World) (h : Handle) (line : LineSpec) → is_there h w.groups ≡ true → 2 ^ 62 ≤ w.next → refusal_of w h (Print line) ≡ Some ChangeRefused.Spent
unfolding refusal_of
print_spent w h line t l = let room : ltb (2 ^ 62 + 1) (w.next + 2) ≡ true = lt-ltb (2 ^ 62 + 1) (w.next + 2) (omega arith) in rw (t, room) refl

pub print_nowhere : (w : World) (h : Handle) (line : LineSpec) (e : BufferRefused) → no_buffer h w.groups ≡ Some e → refusal_of w h (Print line) ≡ Some (ChangeRefused.Buffer e)
unfolding refusal_of
print_nowhere w h line e r = rw r refl

pub add_refused : (w v : World) (h : Handle) (spec : BufferSpec) (e : ChangeRefused) → w ≡ v → or_else (of_buffers (add_refusal (new_row w.next spec) spec.vars w.groups)) (cond (ltb (last_handle + 1) (w.next + 4)) (Some ChangeRefused.Spent) None) ≡ Some e → refusal_of v h (Add spec) ≡ Some e
unfolding refusal_of
add_refused w v h spec e is r = by_world w v h (Add spec) (Some e) is r
