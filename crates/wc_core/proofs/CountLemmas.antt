-- How many clients are dropped for want of memory, and what is counted of it.
use Rattle.std.proofs.Common.{◌≡◌, ℕ, zero, suc, ◌+◌, ◌-◌, ◌^◌, ◌<◌, ◌≤◌, min, Bool, true, false, cond, eqb, ◌&&◌, ◌||◌, List, [], ◌∷◌, ◌++◌, ◌≢◌, inl, inr, ◌⊎◌, Option, Some, None, refl, ap, sym, ◌∙◌, arith}
use Rattle.std.specs.Prelude.{map}
use Rattle.std.specs.Option.{is_none}
use Rattle.std.proofs.lemmas.Bool.{false≢true}
use Rattle.wc_text.specs.declared.names.Cause.{Cause}
use Rattle.wc_text.specs.declared.names.Cause.TheVariants.{Ended, Failed, LoginFailed, Surplus}
use Rattle.wc_text.specs.declared.names.Cause.TheVariants.{Quit, NoMemory, Disconnected, NickTaken, BadSocket}
use Rattle.wc_outside.specs.Keyed.{at_key, put_at}
use Rattle.wc_model.specs.declared.notice.Notice.{Notice}
use Rattle.wc_model.specs.Parts.{parts_of}
use Rattle.wc_model.specs.World.{World}
use Rattle.std.specs.List.{flat_map}
use Rattle.wc_session.specs.Event.{part_told}
use Rattle.wc_session.specs.Sending.{spelling}
use Rattle.wc_session.specs.Sync.{follows, after_event}
use Rattle.wc_board.specs.declared.connection.Connection.{Connection}
use Rattle.wc_board.specs.Connections.{connection_link, is_open, is_open_at}
use Rattle.wc_board.specs.Served.{StaysOrStarves, listens, noted_connection, part_connection, told_connection, ConnectionServed, ConnectionsServed, PartsServed, NoticeServed, ConnectionKept, ConnectionsKept}
use Rattle.wc_board.proofs.EventLemmas.{all_deaf, served_kept}
use Rattle.wc_board.proofs.PartLemmas.{parts_connection, parts_first, parts_kept}
use Rattle.wc_board.proofs.PushConnections.{map_none}
use Rattle.wc_board.proofs.PushEach.{open_number, number_more}
use Rattle.wc_core.specs.CoreView.{CoreView}
use Rattle.wc_core.specs.Contained.{is_no_memory, starving_number, starved_by, want_number, raised, Counts}

-- ---- counts

pub raised-by : (n m : ℕ) → n ≤ min (n + m) (2 ^ 64 - 1) → min (n + m) (2 ^ 64 - 1) ≡ raised n m
raised-by n zero less = omega (arith, less)
raised-by n (suc m) less = refl

min-both : (n a b : ℕ) → min (min (n + suc a) (2 ^ 64 - 1) + suc b) (2 ^ 64 - 1) ≡ min (n + suc (a + suc b)) (2 ^ 64 - 1)
min-both n a b = omega arith

pub raised-both : (n a b : ℕ) → raised (raised n a) b ≡ raised n (a + b)
raised-both n zero b = (let e : b ≡ 0 + b = omega arith in ap (raised n) e)
raised-both n (suc a) zero = (let e : suc a ≡ suc a + 0 = omega arith in ap (raised n) e)
raised-both n (suc a) (suc b) = (let e : suc (a + suc b) ≡ suc a + suc b = omega arith in min-both n a b ∙ ap (raised n) e)

-- a count below its end that stays counts nothing
pub raised-none : (n m : ℕ) → n < 2 ^ 64 - 1 → raised n m ≡ n → m ≡ 0
raised-none n zero below e = refl
raised-none n (suc m) below e = absurd (omega (arith, below, e))

-- none was dropped, and nothing counted
pub counts-none : (a b : CoreView) → starving_number b.connections ≡ starving_number a.connections → b.starved ≡ a.starved → b.cuts ≡ a.cuts → Counts 0 a b
counts-none a b leaving starved cuts = record { dropped = 0; short = 0; own = 0; lost = omega arith; leaving = omega (arith, leaving); counted = starved; cuts = cuts }

pub Counts-refl : (a : CoreView) → Counts 0 a a
Counts-refl a = counts-none a a refl refl refl

pub Counts-trans : (a b c : CoreView) → Counts 0 a b → Counts 0 b c → Counts 0 a c
Counts-trans a b c f g = record {
  dropped = f.dropped + g.dropped;
  short = f.short + g.short;
  own = f.own + g.own;
  lost = (let p = f.lost in let q = g.lost in omega (arith, p, q));
  leaving = (let p = f.leaving in let q = g.leaving in omega (arith, p, q));
  counted =
      g.counted ∙ ap (λ n. raised n (g.dropped + (g.short + 0))) f.counted ∙ raised-both a.starved (f.dropped + (f.short + 0)) (g.dropped + (g.short + 0))
      ∙ ap (raised a.starved) (omega arith);
  cuts = g.cuts ∙ ap (λ n. raised n (g.short + g.own)) f.cuts ∙ raised-both a.cuts (f.short + f.own) (g.short + g.own) ∙ ap (raised a.cuts) (omega arith);
}

-- so many were dropped, each of whom is counted
pub counts-dropped : (a b : CoreView) (n : ℕ) → starving_number b.connections ≡ starving_number a.connections + n → b.starved ≡ raised a.starved n → b.cuts ≡ a.cuts → Counts 0 a b
counts-dropped a b n leaving starved cuts = record { dropped = n; short = 0; own = 0; lost = omega arith; leaving = leaving; counted = starved ∙ ap (raised a.starved) (omega arith); cuts = cuts }

-- an input was cut short
pub counts-short : (a b : CoreView) → starving_number b.connections ≡ starving_number a.connections → b.starved ≡ min (a.starved + 1) (2 ^ 64 - 1) → b.cuts ≡ min (a.cuts + 1) (2 ^ 64 - 1) → Counts 0 a b
counts-short a b leaving starved cuts = record { dropped = 0; short = 1; own = 0; lost = omega arith; leaving = omega (arith, leaving); counted = starved; cuts = cuts }

-- so many were dropped, one of whom asked what then was cut short
pub counts-after-drops : (a b c : CoreView) (n : ℕ) → 0 < n → starving_number b.connections ≡ starving_number a.connections + n → b.starved ≡ raised a.starved n → b.cuts ≡ a.cuts → c ≡ record b { cuts = min (b.cuts + 1) (2 ^ 64 - 1) } → Counts 0 a c
counts-after-drops a b c n some leaving starved uncut e = record {
  dropped = n;
  short = 0;
  own = 1;
  lost = some;
  leaving = ap (λ (v : CoreView). starving_number v.connections) e ∙ leaving;
  counted = ap (λ (v : CoreView). v.starved) e ∙ starved ∙ ap (raised a.starved) (omega arith);
  cuts = ap (λ (v : CoreView). v.cuts) e ∙ ap (λ n. raised n 1) uncut;
}

-- where nothing more is counted nothing was cut short
pub counts-stay : (a b : CoreView) → Counts 0 a b → a.starved < 2 ^ 64 - 1 → b.starved ≡ a.starved → b.cuts ≡ a.cuts
counts-stay a b f below same =
    let none = raised-none a.starved (f.dropped + (f.short + 0)) below (sym f.counted ∙ same) in
    let lost = f.lost in
    let short : f.short + f.own ≡ 0 = omega (arith, none, lost) in
    f.cuts ∙ ap (raised a.cuts) short

-- ---- who is dropped

-- a connection stays as open as it was, or its client began to leave for want of memory
abbrev MayDrop : Connection → Connection → Type 0
MayDrop a b = (b.leaving ≡ a.leaving) ⊎ ((is_open a ≡ true) × (b.leaving ≡ Some NoMemory))

abbrev AllMayDrop : List Connection → List Connection → Type 0
AllMayDrop [] [] = Unit {0}
AllMayDrop [] (b ∷ new) = ⊥
AllMayDrop (a ∷ old) [] = ⊥
AllMayDrop (a ∷ old) (b ∷ new) = MayDrop a b × AllMayDrop old new

none_open : (o : Option Cause) → is_none o ≡ true → is_no_memory o ≡ false
none_open None e = refl
none_open (Some why) e = absurd (false≢true e)

-- as many are dropped as are open no more
pub record AreDropped (old new : List Connection) : Type 0 where
  pub sum : starving_number new + open_number new ≡ starving_number old + open_number old
  pub less : open_number new ≤ open_number old

drop_one : (a b : Connection) (old new : List Connection) → MayDrop a b → AreDropped old new → AreDropped (a ∷ old) (b ∷ new)
drop_one a b old new (inl e) all = by (is_open a) refl where
  starves : want_number b.leaving ≡ want_number a.leaving
  starves = ap (λ o. want_number o) e

  by : (t : Bool) → is_open a ≡ t → AreDropped (a ∷ old) (b ∷ new)
  by true q =
      let x = number_more a old true q in
      let y = number_more b new true (ap is_none e ∙ q) in
      let s = all.sum in
      let l = all.less in
      record { sum = omega (arith, x, y, s, starves); less = omega (arith, x, y, l) }
  by false q =
      let x = number_more a old false q in
      let y = number_more b new false (ap is_none e ∙ q) in
      let s = all.sum in
      let l = all.less in
      record { sum = omega (arith, x, y, s, starves); less = omega (arith, x, y, l) }
drop_one a b old new (inr (q, e)) all =
    let x = number_more a old true q in
    let y = number_more b new false (ap is_none e) in
    let now : want_number b.leaving ≡ 1 = ap (λ o. want_number o) e in
    let before : want_number a.leaving ≡ 0 = ap (λ t. cond t 1 0) (none_open a.leaving q) in
    let s = all.sum in
    let l = all.less in
    record { sum = omega (arith, x, y, s, now, before); less = omega (arith, x, y, l) }

drop_all : (old new : List Connection) → AllMayDrop old new → AreDropped old new
drop_all [] [] all = record { sum = refl; less = omega arith }
drop_all [] (b ∷ new) all = absurd all
drop_all (a ∷ old) [] all = absurd all
drop_all (a ∷ old) (b ∷ new) all = drop_one a b old new all.0 (drop_all old new all.1)

-- a client that is leaving stays so, and another one leaves for want of memory at most
kept_one : (a b : Connection) → ConnectionKept a b → MayDrop a b
kept_one a b kept = by (is_open a) refl kept.cause where
  by : (t : Bool) → is_open a ≡ t → StaysOrStarves a.leaving b.leaving → MayDrop a b
  by false e cause = inl (ap (λ (c : Connection). c.leaving) (kept.kept e))
  by true e (inl same) = inl same
  by true e (inr starves) = inr (e, starves)

kept_all : (old new : List Connection) → ConnectionsKept old new → AllMayDrop old new
kept_all [] [] kept = tt
kept_all [] (b ∷ new) kept = absurd kept
kept_all (a ∷ old) [] kept = absurd kept
kept_all (a ∷ old) (b ∷ new) kept = (kept_one a b kept.0, kept_all old new kept.1)

pub kept_dropped : (old new : List Connection) → ConnectionsKept old new → AreDropped old new
kept_dropped old new kept = drop_all old new (kept_all old new kept)

one_less : (a b : Connection) (old new : List Connection) → ConnectionKept a b → open_number new < open_number old → open_number (b ∷ new) < open_number (a ∷ old)
one_less a b old new kept less = by (is_open a) refl (is_open b) refl where
  by : (t : Bool) → is_open a ≡ t → (u : Bool) → is_open b ≡ u → open_number (b ∷ new) < open_number (a ∷ old)
  by true p true q = (let x = number_more a old true p in let y = number_more b new true q in omega (arith, x, y, less))
  by true p false q = (let x = number_more a old true p in let y = number_more b new false q in omega (arith, x, y, less))
  by false p u q =
      let x = number_more a old false p in
      let y = number_more b new false (ap is_open (kept.kept p) ∙ p) in
      omega (arith, x, y, less)

-- fewer are open where one that was open is not
pub kept_less : (k : ℕ) (old new : List Connection) → ConnectionsKept old new → is_open_at (at_key connection_link k old) ≡ true → is_open_at (at_key connection_link k new) ≡ false → open_number new < open_number old
kept_less k [] [] kept opened shut = absurd (false≢true opened)
kept_less k [] (b ∷ new) kept opened shut = absurd kept
kept_less k (a ∷ old) [] kept opened shut = absurd kept
kept_less k (a ∷ old) (b ∷ new) kept opened shut =
    by (eqb (connection_link a) k) opened (ap (λ n. is_open_at (cond (eqb n k) (Some b) (at_key connection_link k new))) (sym kept.0.link) ∙ shut) (λ o s. kept_less k old new kept.1 o s)
  where
    by : (t : Bool) → is_open_at (cond t (Some a) (at_key connection_link k old)) ≡ true → is_open_at (cond t (Some b) (at_key connection_link k new)) ≡ false
        → (is_open_at (at_key connection_link k old) ≡ true → is_open_at (at_key connection_link k new) ≡ false → open_number new < open_number old) → open_number (b ∷ new) < open_number (a ∷ old)
    by true o s more =
        let x = number_more a old true o in
        let y = number_more b new false s in
        let l = (kept_dropped old new kept.1).less in
        omega (arith, x, y, l)
    by false o s more = one_less a b old new kept.0 (more o s)

-- ---- a part of a notice that is told

part_leaving : (w : World) (n : Notice) (connection : Connection) → (part_connection w n connection).leaving ≡ connection.leaving
part_leaving w n connection = by (is_open connection) where
  heard : Connection
  heard = record connection { session = record { client = after_event n.kind n.buffer.0 connection.session.client; unsent = connection.session.unsent ++ flat_map (λ m. spelling m) (part_told w n connection.session.client) } }

  by : (b : Bool) → (cond b heard connection).leaving ≡ connection.leaving
  by true = refl
  by false = refl

-- who is not told an event is as after it
deaf_one : (w : World) (n : Notice) (a : Connection) → listens n.kind n.buffer.0 a ≡ false → noted_connection n.kind n.buffer.0 a ≡ part_connection w n a
deaf_one w n a deaf =
    let head : List Connection → Connection = λ cs. first_or a cs in
    ap head (all_deaf w n (a ∷ []) (ap (λ b. b || false) deaf))
  where
    first_or : Connection → List Connection → Connection
    first_or c [] = c
    first_or c (x ∷ xs) = x

-- each was told it, where as many are open as before
part_none : (w : World) (n : Notice) (old new : List Connection) → ConnectionsServed n.kind n.buffer.0 (part_connection w n) old new → open_number new ≡ open_number old → new ≡ map (part_connection w n) old
part_none w n [] [] served e = refl
part_none w n [] (b ∷ new) served e = absurd served
part_none w n (a ∷ old) [] served e = absurd served
part_none w n (a ∷ old) (b ∷ new) served e = by served.0 (part_none w n old new served.1) where
  less : open_number new ≤ open_number old
  less = (kept_dropped old new (served_kept w n old new served.1)).less

  -- as many are open after the first one, which is so
  rest_open : b.leaving ≡ a.leaving → open_number new ≡ open_number old
  rest_open same = rest_by (is_open a) refl where
    rest_by : (t : Bool) → is_open a ≡ t → open_number new ≡ open_number old
    rest_by true q = (let x = number_more a old true q in let y = number_more b new true (ap is_none same ∙ q) in omega (arith, x, y, e))
    rest_by false q = (let x = number_more a old false q in let y = number_more b new false (ap is_none same ∙ q) in omega (arith, x, y, e))

  told : b ≡ part_connection w n a → (open_number new ≡ open_number old → new ≡ map (part_connection w n) old) → b ∷ new ≡ part_connection w n a ∷ map (part_connection w n) old
  told q more = ap (λ s. s ∷ new) q ∙ ap (λ ss. part_connection w n a ∷ ss) (more (rest_open (ap (λ (c : Connection). c.leaving) q ∙ part_leaving w n a)))

  by : ConnectionServed n.kind n.buffer.0 (part_connection w n) a b → (open_number new ≡ open_number old → new ≡ map (part_connection w n) old) → b ∷ new ≡ part_connection w n a ∷ map (part_connection w n) old
  by (inl q) more = told q more
  by (inr q) more = starves (is_open a) refl (follows n.kind n.buffer.0 a.session.client) refl where
    starves : (t : Bool) → is_open a ≡ t → (f : Bool) → follows n.kind n.buffer.0 a.session.client ≡ f → b ∷ new ≡ part_connection w n a ∷ map (part_connection w n) old
    starves true o true heard =
        let both : listens n.kind n.buffer.0 a ≡ true = ap (λ t. t && follows n.kind n.buffer.0 a.session.client) o ∙ heard in
        let left : b ≡ record a { leaving = Some NoMemory } = q ∙ ap (λ t. cond t (record a { leaving = Some NoMemory }) (noted_connection n.kind n.buffer.0 a)) both in
        let x = number_more a old true o in
        let y = number_more b new false (ap is_open left) in
        absurd (omega (arith, x, y, e, less))
    starves true o false heard =
        let deaf : listens n.kind n.buffer.0 a ≡ false = ap (λ t. t && follows n.kind n.buffer.0 a.session.client) o ∙ heard in
        told (q ∙ ap (λ t. cond t (record a { leaving = Some NoMemory }) (noted_connection n.kind n.buffer.0 a)) deaf ∙ deaf_one w n a deaf) more
    starves false o f heard =
        let deaf : listens n.kind n.buffer.0 a ≡ false = ap (λ t. t && follows n.kind n.buffer.0 a.session.client) o in
        told (q ∙ ap (λ t. cond t (record a { leaving = Some NoMemory }) (noted_connection n.kind n.buffer.0 a)) deaf ∙ deaf_one w n a deaf) more

-- ---- a notice that is told

parts_leaving : (w : World) (parts : List Notice) (connection : Connection) → (parts_connection w parts connection).leaving ≡ connection.leaving
parts_leaving w [] connection = refl
parts_leaving w (part ∷ parts) connection = parts_leaving w parts (part_connection w part connection) ∙ part_leaving w part connection

told_leaving : (w : World) (n : Notice) (connection : Connection) → (told_connection w n connection).leaving ≡ connection.leaving
told_leaving w n connection = parts_leaving w (parts_of w n) connection

-- as many are starving after a notice that each client found memory for
pub told_starving : (w : World) (n : Notice) (connections : List Connection) → starving_number (map (told_connection w n) connections) ≡ starving_number connections
told_starving w n [] = refl
told_starving w n (connection ∷ connections) =
    let one : want_number (told_connection w n connection).leaving ≡ want_number connection.leaving = ap (λ o. want_number o) (told_leaving w n connection) in
    let more = told_starving w n connections in
    omega (arith, one, more)

parts_none : (w : World) (parts : List Notice) (old new : List Connection) → PartsServed w parts old new → open_number new ≡ open_number old → new ≡ map (parts_connection w parts) old
parts_none w [] old new served e = served ∙ sym (map_none (parts_connection w []) (λ s. refl) old)
parts_none w (part ∷ parts) old new served e =
    let mid = served.between in
    let first = (kept_dropped old mid (served_kept w part old mid served.served)).less in
    let more = (kept_dropped mid new (parts_kept w parts mid new served.others)).less in
    let one : mid ≡ map (part_connection w part) old = part_none w part old mid served.served (omega (arith, first, more, e)) in
    let all : new ≡ map (parts_connection w parts) mid = parts_none w parts mid new served.others (omega (arith, first, more, e)) in
    all ∙ ap (map (parts_connection w parts)) one ∙ sym (parts_first w part parts old)

-- each was told all of it, where as many are open as before
pub served_none : (w : World) (n : Notice) (old new : List Connection) → NoticeServed w n old new → open_number new ≡ open_number old → new ≡ map (told_connection w n) old
served_none w n old new served e = parts_none w (parts_of w n) old new served e

-- ---- one connection

-- a client that came is not starving
pub starving_more : (connections : List Connection) (connection : Connection) → connection.leaving ≡ None → starving_number (connections ++ connection ∷ []) ≡ starving_number connections
starving_more [] connection opened = (let none : want_number connection.leaving ≡ 0 = ap (λ o. want_number o) opened in omega (arith, none))
starving_more (x ∷ connections) connection opened = (let more = starving_more connections connection opened in omega (arith, more))

-- the count after a loss
pub starved_by-raised : (why : Cause) (n : ℕ) → starved_by why n ≡ raised n (want_number (Some why))
starved_by-raised NoMemory n = refl
starved_by-raised LoginFailed n = refl
starved_by-raised Quit n = refl
starved_by-raised Ended n = refl
starved_by-raised Failed n = refl
starved_by-raised Surplus n = refl
starved_by-raised Disconnected n = refl
starved_by-raised NickTaken n = refl
starved_by-raised BadSocket n = refl

pub starved_by-other : (why : Cause) (n : ℕ) → why ≢ NoMemory → starved_by why n ≡ n
starved_by-other NoMemory n other = absurd (other refl)
starved_by-other LoginFailed n other = refl
starved_by-other Quit n other = refl
starved_by-other Ended n other = refl
starved_by-other Failed n other = refl
starved_by-other Surplus n other = refl
starved_by-other Disconnected n other = refl
starved_by-other NickTaken n other = refl
starved_by-other BadSocket n other = refl

-- how many are starving where one that is open has another connection
pub starving_put : (k : ℕ) (s y : Connection) (connections : List Connection) → at_key connection_link k connections ≡ Some s → is_open s ≡ true
    → starving_number (put_at connection_link k y connections) ≡ starving_number connections + want_number y.leaving
starving_put k s y [] at sits = absurd (cc)
starving_put k s y (x ∷ connections) at sits = by (eqb (connection_link x) k) at (λ more. starving_put k s y connections more sits) where
  open_first : Some x ≡ Some s → is_no_memory x.leaving ≡ false
  open_first e =
      let same : x ≡ s = ap (λ (o : Option Connection). or x o) e in
      none_open x.leaving (ap is_open same ∙ sits)
    where
      or : Connection → Option Connection → Connection
      or c None = c
      or c (Some d) = d

  by : (t : Bool) → cond t (Some x) (at_key connection_link k connections) ≡ Some s → (at_key connection_link k connections ≡ Some s → starving_number (put_at connection_link k y connections) ≡ starving_number connections + want_number y.leaving)
      → starving_number (cond t (y ∷ connections) (x ∷ put_at connection_link k y connections)) ≡ starving_number (x ∷ connections) + want_number y.leaving
  by true e more = (let none : want_number x.leaving ≡ 0 = ap (λ t. cond t 1 0) (open_first e) in omega (arith, none))
  by false e more = (let m = more e in omega (arith, m))
