-- From another limit of all buffers to the clause on the world.
use Rattle.std.proofs.Common.{◌≡◌, ℕ, zero, suc, ◌-◌, ◌≤◌, true, false, cond, List, [], ◌∷◌, map, drop, length, flat_map, Option, Some, None, option_map, unwrap_or, is_some, refl, ap, sym, subst, ◌∙◌, arith}
use Rattle.std.specs.FinMap.{FinMap, get, entries, get-entries, get-from_entries, same_map, nat_cmp-IsAntisymmetric}
use Rattle.std.specs.HashMap.{HashMap}
use Rattle.std.specs.Ordering.{nat_cmp}
use Rattle.std.specs.Cmp.{nat_cmp_total}
use Rattle.wc_text.specs.declared.names.Handle.{Handle}
use Rattle.wc_lines.specs.declared.line.Line.{Line}
use Rattle.wc_lines.specs.Held.{RingView}
use Rattle.wc_lines.specs.Ring.{counted, last_of, with_limit as ring_with, with_room}
use Rattle.wc_nicklist.specs.declared.item.Row.{Row}
use Rattle.wc_buffers.specs.Calls.{EntryGroups, handle_of, buffer_of}
use Rattle.wc_buffers.specs.Groups.{has}
use Rattle.wc_buffers.proofs.GroupLaws.{by_bool}
use Rattle.wc_model.specs.declared.change.What.TheVariants.{Limit}
use Rattle.wc_model.specs.declared.notice.EventKind.TheVariants as kinds
use Rattle.wc_model.specs.declared.notice.Notice.{Notice}
use Rattle.wc_model.specs.declared.notice.Trim.{Trim}
use Rattle.wc_model.specs.World.{World, lines_at}
use Rattle.wc_model.specs.Order.{order}
use Rattle.wc_model.specs.Apply.{refusal_of, after_of, with_limit}
use Rattle.wc_model.specs.Notices.{Accepted, flips_in, flips_between, name_in, notice_with, trim_of, trim_to}
use Rattle.wc_world.specs.declared.line_limit.LineLimit.{LineLimit}
use Rattle.wc_world.specs.Flips.{lies_in}
use Rattle.wc_world.specs.Kept.{held_at, lines_map, printed_map, world_of, IsWorld, IsHeldBuffer}
use Rattle.wc_world.specs.Limits.{stored_trim, AreRoomier, HasRoom}
use Rattle.wc_world.specs.Told.{told_with}
use Rattle.wc_world.proofs.Done.{are_apart, no_flips_between, same_some}
use Rattle.wc_world.proofs.FlipLemmas.{no_flips, flips_drop, apart_drop}
use Rattle.wc_world.proofs.FlipsDone.{stored_shown, stands, no_held, find_mapped}
use Rattle.wc_world.proofs.HeldLemmas.{lines_of, count_of, get_field, same_field, field_left_all}
use Rattle.wc_world.proofs.LimitLemmas.{room_made}

-- ---- what is done at each buffer that is there is done at all that is held
pub at_all : {S T : Type 0} (gs : EntryGroups) (m : HashMap ℕ RingView S) (n : HashMap ℕ RingView T) (limit : LineLimit) (next : ℕ) (g : RingView → RingView) (ns : List ℕ) → IsWorld gs m limit next → ns ≡ order gs
    → ((q : ℕ) → held_at n q ≡ cond (lies_in q ns) (option_map g (held_at m q)) (held_at m q)) → (q : ℕ) → held_at n q ≡ option_map g (held_at m q)
at_all gs m n limit next g ns w ordered each q =
    let test : lies_in q ns ≡ has handle_of q gs = ap (lies_in q) ordered ∙ stands q gs in
    each q
    ∙ (λ i. cond (test i) (option_map g (held_at m q)) (held_at m q))
    ∙ by_bool (has handle_of q gs) _
    (λ t. rw t refl)
    (λ t. let none : held_at m q ≡ None = no_held (held_at m q) (w.stored q ∙ t) in rw (t, none) refl)

-- ---- more room

module _ {S T : Type 0} (gs : EntryGroups) (m : HashMap ℕ RingView S) (n : HashMap ℕ RingView T) (limit : LineLimit) (next : ℕ) (more : AreRoomier m n) where
  room_field : {Y : Type 0} (f : RingView → Y) → ((x : RingView) (room : ℕ) → f (with_room room x) ≡ f x) → (q : ℕ) → option_map f (held_at n q) ≡ option_map f (held_at m q)
  room_field f stays q = ap (option_map f) (more q).1 ∙ by (held_at m q)
    where
      by : (o : Option RingView) → option_map f (option_map (with_room (more q).0) o) ≡ option_map f o
      by None = refl
      by (Some x) = ap (λ y. Some y) (stays x (more q).0)

  pub roomier_view : (ns : FinMap nat_cmp (List Row)) (v : World) → world_of gs m ns limit next ≡ v → world_of gs n ns limit next ≡ v
  roomier_view ns v is =
      let lines : lines_map n ≡ lines_map m = same_field lines_of m n (room_field lines_of (λ x room. refl)) in
      let printed : printed_map n ≡ printed_map m = same_field count_of m n (room_field count_of (λ x room. refl)) in
      let same : world_of gs n ns limit next ≡ world_of gs m ns limit next = λ i. record { groups = gs; lines = lines i; printed = printed i; nicks = ns; limit = limit.most; limit_changes = limit.changes; next = next } in
      same ∙ is

  pub kept_roomier : IsWorld gs m limit next → IsWorld gs n limit next
  kept_roomier w = record {
    stored = λ q. ap is_some (more q).1 ∙ still (more q).0 (held_at m q) ∙ w.stored q;
    fit = λ q y e. here (more q).0 (held_at m q) y (w.fit q) (sym (more q).1 ∙ e);
    below = w.below;
    some = w.some;
    most = w.most;
    started = w.started;
    ended = w.ended;
  }
    where
      still : (room : ℕ) (o : Option RingView) → is_some (option_map (with_room room) o) ≡ is_some o
      still room None = refl
      still room (Some x) = refl

      here : (room : ℕ) (o : Option RingView) (y : RingView) → ((x : RingView) → o ≡ Some x → IsHeldBuffer limit next x) → option_map (with_room room) o ≡ Some y → IsHeldBuffer limit next y
      here room None y fit e = absurd cc
      here room (Some x) y fit e = let i = fit x refl in subst (IsHeldBuffer limit next) (same_some (with_room room x) y e) (record { limited = i.limited; roomy = (let r = i.roomy in omega arith); apart = i.apart; counted = i.counted })

-- where room was made in all buffers, all that is held has it
pub made_roomier : {S T : Type 0} (m : HashMap ℕ RingView S) (n : HashMap ℕ RingView T) (room : ℕ) → ((q : ℕ) → held_at n q ≡ option_map (with_room room) (held_at m q)) → AreRoomier m n
made_roomier m n room made q = (room, made q)

pub all_have_room : {S T : Type 0} (m : HashMap ℕ RingView S) (n : HashMap ℕ RingView T) (room : ℕ) → ((q : ℕ) → held_at n q ≡ option_map (with_room room) (held_at m q)) → (q : ℕ) → HasRoom room (held_at n q)
all_have_room m n room made q = subst (HasRoom room) (sym (made q)) (room_made room (held_at m q))

-- ---- the lines that go

pub found_trims : {S : Type 0} (gs : EntryGroups) (m : HashMap ℕ RingView S) (nk : FinMap nat_cmp (List Row)) (limit : LineLimit) (next : ℕ) (v : World) → world_of gs m nk limit next ≡ v → (most : ℕ) (ns : List ℕ) → ns ≡ order gs
    → flat_map (stored_trim most m) ns ≡ flat_map (trim_to most v) (order v.groups)
found_trims gs m nk limit next v is most ns ordered =
    (λ i. flat_map (λ (buffer : ℕ). trim_of (record { 0 = buffer }) (length (stored_shown gs m nk limit next buffer i) - most)) (ordered i))
    ∙ ap (λ (w : World). flat_map (trim_to most w) (order w.groups)) is

-- ---- another limit

drop_none : (n : ℕ) → drop {A = Line} n [] ≡ []
drop_none zero = refl
drop_none (suc n) = refl

module _ {S T : Type 0} (gs : EntryGroups) (m : HashMap ℕ RingView S) (n : HashMap ℕ RingView T) (nk : FinMap nat_cmp (List Row)) (limit : LineLimit) (next : ℕ) (w : IsWorld gs m limit next) (to : LineLimit) (set : (q : ℕ) → held_at n q ≡ option_map (ring_with to.most) (held_at m q)) where
  lines_limited : lines_map n ≡ (with_limit to.most (world_of gs m nk limit next)).lines
  lines_limited = same_map nat_cmp_total nat_cmp-IsAntisymmetric (lines_map n) (with_limit to.most (world_of gs m nk limit next)).lines each
    where
      by : (o : Option RingView) → option_map lines_of (option_map (ring_with to.most) o) ≡ option_map (last_of to.most) (option_map lines_of o)
      by None = refl
      by (Some x) = refl

      found : (q : ℕ) → get (with_limit to.most (world_of gs m nk limit next)).lines q ≡ option_map (last_of to.most) (get (lines_map m) q)
      found q =
          get-from_entries nat_cmp_total (map (λ e. (e.0, last_of to.most e.1)) (entries (lines_map m))) q
          ∙ find_mapped (last_of to.most) q (entries (lines_map m))
          ∙ ap (option_map (last_of to.most)) (sym (get-entries (lines_map m) q))

      each : (q : ℕ) → get (lines_map n) q ≡ get (with_limit to.most (world_of gs m nk limit next)).lines q
      each q =
          get_field lines_of n q
          ∙ ap (option_map lines_of) (set q)
          ∙ by (held_at m q)
          ∙ ap (option_map (last_of to.most)) (sym (get_field lines_of m q))
          ∙ sym (found q)

  printed_left : printed_map n ≡ printed_map m
  printed_left = field_left_all count_of m n (ring_with to.most) (λ x. refl) set

  at_limited : (b : ℕ) → lines_at (world_of gs n nk to next) b ≡ last_of to.most (lines_at (world_of gs m nk limit next) b)
  at_limited b =
      ap (λ o. unwrap_or o []) (get_field lines_of n b ∙ ap (option_map lines_of) (set b))
      ∙ by (held_at m b)
      ∙ ap (λ o. last_of to.most (unwrap_or o [])) (sym (get_field lines_of m b))
    where
      by : (o : Option RingView) → unwrap_or (option_map lines_of (option_map (ring_with to.most) o)) [] ≡ last_of to.most (unwrap_or (option_map lines_of o) [])
      by None = sym (drop_none (0 - to.most))
      by (Some x) = refl

  no_flags : flips_between (world_of gs m nk limit next) (world_of gs n nk to next) ≡ []
  no_flags =
      let old = world_of gs m nk limit next in
      let new = world_of gs n nk to next in
      let apart = are_apart gs m nk limit next w in
      no_flips_between old new apart (λ q. ap (flips_in (lines_at old q)) (at_limited q) ∙ flips_drop (lines_at old q) (length (lines_at old q) - to.most) (lines_at old q) (no_flips next (lines_at old q) (apart q)))

  pub kept_limited : 1 ≤ to.most → to.most ≤ 4096 → ((q : ℕ) → HasRoom to.most (held_at m q)) → IsWorld gs n to next
  kept_limited some most room = record {
    stored = λ q. ap is_some (set q) ∙ still (held_at m q) ∙ w.stored q;
    fit = λ q y e. here (held_at m q) y (w.fit q) (room q) (sym (set q) ∙ e);
    below = w.below;
    some = some;
    most = most;
    started = w.started;
    ended = w.ended;
  }
    where
      still : (o : Option RingView) → is_some (option_map (ring_with to.most) o) ≡ is_some o
      still None = refl
      still (Some x) = refl

      here : (o : Option RingView) (y : RingView) → ((x : RingView) → o ≡ Some x → IsHeldBuffer limit next x) → HasRoom to.most o → option_map (ring_with to.most) o ≡ Some y → IsHeldBuffer to next y
      here None y fit r e = absurd cc
      here (Some x) y fit r e =
          let i = fit x refl in
          subst (IsHeldBuffer to next) (same_some (ring_with to.most x) y e) (record { limited = refl; roomy = r; apart = apart_drop next (length x.lines - to.most) x.lines i.apart; counted = i.counted })

  pub limit_done : (v : World) (h : Handle) (name : List ℕ) (ts : List Trim) (told : Notice) → to.changes ≡ counted limit.changes → world_of gs m nk limit next ≡ v
      → name ≡ name_in (buffer_of (record { 0 = 0 }) v.groups) → ts ≡ flat_map (trim_to to.most v) (order v.groups) → told ≡ told_with kinds.LimitSet (record { 0 = 0 }) gs name [] [] ts
      → Accepted v (record { buffer = h; what = Limit to.most }) (world_of gs n nk to next) told
  unfolding refusal_of after_of
  limit_done v h name ts told counts is e g t =
      let old = world_of gs m nk limit next in
      let new = world_of gs n nk to next in
      let own : Handle = record { 0 = 0 } in
      let after : new ≡ with_limit to.most old = λ i. record { groups = gs; lines = lines_limited i; printed = printed_left i; nicks = nk; limit = to.most; limit_changes = counts i; next = next } in
      let named : name ≡ name_in (buffer_of own gs) = e ∙ sym (ap (λ (u : World). name_in (buffer_of own u.groups)) is) in
      let gone : ts ≡ flat_map (trim_to to.most old) (order gs) = g ∙ sym (ap (λ (u : World). flat_map (trim_to to.most u) (order u.groups)) is) in
      let read : told_with kinds.LimitSet own gs name [] [] ts ≡ notice_with kinds.LimitSet own gs [] (flips_between old new) (flat_map (trim_to to.most old) (order gs)) = λ i. told_with kinds.LimitSet own gs (named i) [] (sym no_flags i) (gone i) in
      subst (λ v. Accepted v (record { buffer = h; what = Limit to.most }) new told) is (record {
        accepted = refl;
        after = after;
        notice = t ∙ read ∙ ap (λ (u : World). notice_with kinds.LimitSet own u.groups [] (flips_between old u) (flat_map (trim_to to.most old) (order gs))) after;
      })

-- ---- room in all buffers, and then the limit

module _ {S T : Type 0} (gs : EntryGroups) (m : HashMap ℕ RingView S) (k : HashMap ℕ RingView T) (limit : LineLimit) (next : ℕ) (w : IsWorld gs m limit next) (most : ℕ) (ns : List ℕ) (ordered : ns ≡ order gs) (made : (q : ℕ) → held_at k q ≡ cond (lies_in q ns) (option_map (with_room most) (held_at m q)) (held_at m q)) where
  made_all : (q : ℕ) → held_at k q ≡ option_map (with_room most) (held_at m q)
  made_all = at_all gs m k limit next (with_room most) ns w ordered made

  pub room_in_all : (q : ℕ) → HasRoom most (held_at k q)
  room_in_all = all_have_room m k most made_all

  roomy : IsWorld gs k limit next
  roomy = kept_roomier gs m k limit next (made_roomier m k most made_all) w

  module _ {U : Type 0} (n : HashMap ℕ RingView U) (ms : List ℕ) (again : ms ≡ order gs) (set : (q : ℕ) → held_at n q ≡ cond (lies_in q ms) (option_map (ring_with most) (held_at k q)) (held_at k q)) (to : LineLimit) (changed : to ≡ record { most = most; changes = counted limit.changes }) where
    set_all : (q : ℕ) → held_at n q ≡ option_map (ring_with most) (held_at k q)
    set_all = at_all gs k n limit next (ring_with most) ms roomy again set

    pub world_kept : FinMap nat_cmp (List Row) → 1 ≤ most → most ≤ 4096 → IsWorld gs n to next
    world_kept nk some few = subst (λ (to : LineLimit). IsWorld gs n to next) (sym changed) (kept_limited gs k n nk limit next roomy (record { most = most; changes = counted limit.changes }) set_all some few room_in_all)

    pub world_done : (nk : FinMap nat_cmp (List Row)) (v : World) (h : Handle) (name : List ℕ) (ts : List Trim) (told : Notice) → world_of gs m nk limit next ≡ v
        → name ≡ name_in (buffer_of (record { 0 = 0 }) v.groups) → ts ≡ flat_map (trim_to most v) (order v.groups) → told ≡ told_with kinds.LimitSet (record { 0 = 0 }) gs name [] [] ts
        → Accepted v (record { buffer = h; what = Limit most }) (world_of gs n nk to next) told
    world_done nk v h name ts told is e g t =
        let new : LineLimit = record { most = most; changes = counted limit.changes } in
        let view = roomier_view gs m k limit next (made_roomier m k most made_all) nk v is in
        subst (λ (to : LineLimit). Accepted v (record { buffer = h; what = Limit most }) (world_of gs n nk to next) told) (sym changed)
        (limit_done gs k n nk limit next roomy new set_all v h name ts told refl view e g t)
