-- Parts that are told after others, and those of lines whose flags differ, buffer by buffer.
use Rattle.std.proofs.Common.{◌≡◌, ℕ, suc, ◌+◌, ◌≤◌, Bool, true, false, cond, eqb, ◌&&◌, List, [], ◌∷◌, ◌++◌, length, map, eqb-true, refl, ap, sym, subst, ◌∙◌, arith}
use Rattle.std.specs.Prelude.{filter}
use Rattle.std.specs.List.{list_any}
use Rattle.std.proofs.lemmas.List.{map-append}
use Rattle.std.proofs.lemmas.List.Elements.{filter-append}
use Rattle.wc_text.specs.declared.names.Handle.{Handle}
use Rattle.wc_lines.specs.declared.line.Line.{Line}
use Rattle.wc_model.specs.declared.notice.Notice.{Notice}
use Rattle.wc_model.specs.Order.{order}
use Rattle.wc_model.specs.Parts.{is_flipped, has_flips, flag_part, flag_parts, trim_part, parts_of}
use Rattle.wc_model.specs.World.{World, lines_at}
use Rattle.wc_board.specs.declared.connection.Connection.{Connection}
use Rattle.wc_board.specs.Served.{part_connection, is_heard, heard_number, ConnectionsServed, PartsServed, PartsTold, flags_of}
use Rattle.wc_board.proofs.ConnectionLemmas.{and_left, and_right}
use Rattle.wc_board.proofs.EventLemmas.{served_map}
use Rattle.wc_board.proofs.HeardCounts.{heard_one, heard_more, heard_fewer}
use Rattle.wc_board.proofs.PartLemmas.{parts_connection, flag_deaf}
use Rattle.wc_board.proofs.PushConnections.{map_more, map_none}

-- ---- parts after others

parts_join : (w : World) (parts others : List Notice) (connection : Connection) → parts_connection w (parts ++ others) connection ≡ parts_connection w others (parts_connection w parts connection)
parts_join w [] others connection = refl
parts_join w (part ∷ parts) others connection = parts_join w parts others (part_connection w part connection)

served_join : (w : World) (parts others : List Notice) (old mid new : List Connection) → PartsServed w parts old mid → PartsServed w others mid new → PartsServed w (parts ++ others) old new
served_join w [] others old mid new first rest = subst (λ connections. PartsServed w others connections new) first rest
served_join w (part ∷ parts) others old mid new first rest = record { between = first.between; served = first.served; others = served_join w parts others first.between mid new first.others rest }

heard_join : (connections : List Connection) (parts others : List Notice) → heard_number connections (parts ++ others) ≡ heard_number connections parts + heard_number connections others
heard_join connections [] others = omega arith
heard_join connections (part ∷ parts) others =
    let all = heard_more connections part (parts ++ others) in
    let first = heard_more connections part parts in
    let more = heard_join connections parts others in
    omega (arith, all, first, more)

-- no more are heard once some were told
heard_less : (w : World) (parts others : List Notice) (old new : List Connection) → PartsServed w parts old new → heard_number new others ≤ heard_number old others
heard_less w [] others old new served = (let same = ap (λ connections. heard_number connections others) served in omega (arith, same))
heard_less w (part ∷ parts) others old new served =
    let first = heard_fewer w part others old served.between served.served in
    let more = heard_less w parts others served.between new served.others in
    omega (arith, first, more)

told_none : (w : World) (connections : List Connection) (n : ℕ) → PartsTold w [] true connections connections n n
told_none w connections n = record { told = λ t. sym (map_none (parts_connection w []) (λ s. refl) connections); each = refl; least = omega arith; once = omega arith }

told_one : (w : World) (part : Notice) (t : Bool) (old new : List Connection) (n m : ℕ)
    → (t ≡ true → new ≡ map (part_connection w part) old) → ConnectionsServed part.kind part.buffer.0 (part_connection w part) old new → m ≡ n + heard_number old (part ∷ []) → PartsTold w (part ∷ []) t old new n m
told_one w part t old new n m told each count = record {
  told = told;
  each = record { between = new; served = each; others = refl };
  least = omega (arith, count);
  once = omega (arith, count);
}

told_more : (w : World) (parts others : List Notice) (t u : Bool) (old mid new : List Connection) (n k m : ℕ) → PartsTold w parts t old mid n k → PartsTold w others u mid new k m → PartsTold w (parts ++ others) (t && u) old new n m
told_more w parts others t u old mid new n k m first rest = record {
  told = λ both.
      rest.told (and_right t u both)
      ∙ ap (map (parts_connection w others)) (first.told (and_left t u both))
      ∙ sym (map_more (parts_connection w (parts ++ others)) (parts_connection w others) (parts_connection w parts) (parts_join w parts others) old);
  each = served_join w parts others old mid new first.each rest.each;
  least = (let a = first.least in let b = rest.least in omega (arith, a, b));
  once =
      let all = heard_join old parts others in
      let fewer = heard_less w parts others old mid first.each in
      let a = first.once in
      let b = rest.once in
      omega (arith, all, fewer, a, b);
}

and_assoc : (a b c : Bool) → ((a && b) && c) ≡ (a && (b && c))
and_assoc true b c = refl
and_assoc false b c = refl

-- ---- the parts of a notice

-- its own event, the lines whose flags differ, and the lines that went
pub whole_told : (w : World) (n : Notice) {own flags trims : Bool} {old a b new : List Connection} {p q r s : ℕ}
    → (own ≡ true → a ≡ map (part_connection w n) old) → ConnectionsServed n.kind n.buffer.0 (part_connection w n) old a → q ≡ p + heard_number old (n ∷ [])
    → (flags ≡ true → b ≡ map (parts_connection w (flag_parts w n.flips)) a) → PartsServed w (flag_parts w n.flips) a b → q ≤ r → r ≤ q + heard_number a (flag_parts w n.flips)
    → (trims ≡ true → new ≡ map (parts_connection w (map trim_part n.trims)) b) → PartsServed w (map trim_part n.trims) b new → r ≤ s → s ≤ r + heard_number b (map trim_part n.trims)
    → PartsTold w (parts_of w n) ((own && flags) && trims) old new p s
whole_told w n {own} {flags} {trims} {old} {a} {b} {new} {p} {q} {r} {s} told_own each_own count told_flags each_flags least_flags once_flags told_trims each_trims least_trims once_trims =
    subst (λ t. PartsTold w (parts_of w n) t old new p s) (sym (and_assoc own flags trims))
    (told_more w (n ∷ []) (flag_parts w n.flips ++ map trim_part n.trims) own (flags && trims) old a new p q s
    (told_one w n own old a p q told_own each_own count)
    (told_more w (flag_parts w n.flips) (map trim_part n.trims) flags trims a b new q r s
    (record { told = told_flags; each = each_flags; least = least_flags; once = once_flags })
    (record { told = told_trims; each = each_trims; least = least_trims; once = once_trims })))

-- ---- parts that are told in turn

-- what is left is still to be told to the clients so far
abbrev pub IsTelling : World → List Notice → List Notice → Bool → List Connection → List Connection → ℕ → ℕ → Type 0
IsTelling w parts left t first now n k = (u : Bool) (final : List Connection) (m : ℕ) → PartsTold w left u now final k m → PartsTold w parts (t && u) first final n m

and_true : (a : Bool) → (a && true) ≡ a
and_true true = refl
and_true false = refl

pub telling_more : (w : World) (parts before some left : List Notice) (t u : Bool) (first now new : List Connection) (n k m : ℕ) → before ≡ some ++ left
    → IsTelling w parts before t first now n k → PartsTold w some u now new k m → IsTelling w parts left (t && u) first new n m
telling_more w parts before some left t u first now new n k m split telling one = λ v final l rest.
    subst (λ b. PartsTold w parts b first final n l) (sym (and_assoc t u v))
    (telling (u && v) final l (subst (λ ps. PartsTold w ps (u && v) now final k l) (sym split) (told_more w some left u v now new final k m l one rest)))

pub telling_last : (w : World) (parts left : List Notice) (t : Bool) (first now : List Connection) (n k : ℕ) → left ≡ [] → IsTelling w parts left t first now n k → PartsTold w parts t first now n k
telling_last w parts left t first now n k end telling =
    subst (λ b. PartsTold w parts b first now n k) (and_true t) (telling true now k (subst (λ ps. PartsTold w ps true now now k k) (sym end) (told_none w now k)))

-- ---- lines whose flags differ

pub flags_more : (w : World) (flips : List Handle) (ms ns : List ℕ) → flags_of w flips (ms ++ ns) ≡ flags_of w flips ms ++ flags_of w flips ns
flags_more w flips ms ns =
    ap (map (flag_part flips)) (filter-append (has_flips w flips) ms ns) ∙ map-append (flag_part flips) (filter (has_flips w flips) ms) (filter (has_flips w flips) ns)

none_flipped : (lines : List Line) → list_any (is_flipped []) lines ≡ false
none_flipped [] = refl
none_flipped (line ∷ lines) = none_flipped lines

pub flags_are : (w : World) (flips : List Handle) → flag_parts w flips ≡ flags_of w flips (order w.groups)
flags_are w [] = of (order w.groups) where
  of : (buffers : List ℕ) → [] ≡ flags_of w [] buffers
  of [] = refl
  of (buffer ∷ buffers) = of buffers ∙ ap (λ b. map (flag_part []) (cond b (buffer ∷ filter (has_flips w []) buffers) (filter (has_flips w []) buffers))) (sym (none_flipped (lines_at w buffer)))
flags_are w (flip ∷ flips) = refl

-- where no flag differs there are none
pub flags_none : (w : World) (flips : List Handle) → eqb (length flips) 0 ≡ true → flag_parts w flips ≡ []
flags_none w [] e = refl
flags_none w (flip ∷ flips) e = (let none : suc (length flips) ≡ 0 = eqb-true (suc (length flips)) 0 e in absurd (omega (arith, none)))

-- ---- the lines of one buffer

abbrev of_one : List Handle → ℕ → Bool → List Notice
of_one flips buffer b = map (flag_part flips) (cond b (buffer ∷ []) [])

-- where no client listens nothing is to be told
pub flags_unheard : (w : World) (flips : List Handle) (buffer n : ℕ) (connections : List Connection) → is_heard connections (flag_part flips buffer) ≡ false → PartsTold w (flags_of w flips (buffer ∷ [])) true connections connections n n
flags_unheard w flips buffer n connections deaf = by (has_flips w flips buffer) where
  same : connections ≡ map (part_connection w (flag_part flips buffer)) connections
  same = flag_deaf w flips buffer connections deaf

  by : (b : Bool) → PartsTold w (of_one flips buffer b) true connections connections n n
  by true =
      let part : Notice = flag_part flips buffer in
      let none = heard_one connections part false deaf in
      told_one w part true connections connections n n
      (λ t. same)
      (subst (λ new. ConnectionsServed part.kind part.buffer.0 (part_connection w part) connections new) (sym same) (served_map part.kind part.buffer.0 (part_connection w part) connections))
      (omega (arith, none))
  by false = told_none w connections n

pub flags_absent : (w : World) (flips : List Handle) (buffer n : ℕ) (connections : List Connection) → has_flips w flips buffer ≡ false → PartsTold w (flags_of w flips (buffer ∷ [])) true connections connections n n
flags_absent w flips buffer n connections none = subst (λ b. PartsTold w (of_one flips buffer b) true connections connections n n) (sym none) (told_none w connections n)

pub flags_told : (w : World) (flips : List Handle) (buffer : ℕ) (t : Bool) (old new : List Connection) (n m : ℕ) → has_flips w flips buffer ≡ true → is_heard old (flag_part flips buffer) ≡ true
    → (t ≡ true → new ≡ map (part_connection w (flag_part flips buffer)) old) → ConnectionsServed (flag_part flips buffer).kind buffer (part_connection w (flag_part flips buffer)) old new → m ≡ n + 1
    → PartsTold w (flags_of w flips (buffer ∷ [])) t old new n m
flags_told w flips buffer t old new n m some heard told each count =
    let part : Notice = flag_part flips buffer in
    let one = heard_one old part true heard in
    subst (λ b. PartsTold w (of_one flips buffer b) t old new n m) (sym some) (told_one w part t old new n m told each (omega (arith, one, count)))
