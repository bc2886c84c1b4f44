-- The first byte outside groups, as it is found in one pass.
use Rattle.std.proofs.Common.{◌≡◌, ◌≢◌, ℕ, zero, suc, ◌+◌, ◌-◌, true, false, ◌==◌, List, []}
use Rattle.std.proofs.Common.{◌∷◌, length, take, Option, Some, None, option_map, refl, ap, sym, subst, ◌∙◌, arith}
use Rattle.std.proofs.lemmas.Option.{none-some}
use Rattle.std.proofs.lemmas.Bool.{ne_eqb, le-leb, lt-leb}
use Rattle.wc_eval.specs.Pieces.{Piece, Byte, Group, text_of, is_byte, split_at, group_or_byte}
use Rattle.wc_eval.specs.Pieces.{with_groups, open_after, or_all, pieces_of, blocks_of}
use Rattle.wc_eval.specs.declared.pieces.Walk.{Walk}
use Rattle.wc_eval.specs.Walks.{after_group, left_of, texts_of}
use Rattle.wc_eval.specs.Reading.{blocks_left}
use Rattle.wc_eval.specs.Branches.{Place, place_at_end, branch, branches_of}
use Rattle.wc_eval.proofs.RunLemmas.{by_bool}
use Rattle.wc_eval.proofs.PieceLemmas.{past, split_none, split_found}
use Rattle.wc_eval.proofs.GroupPieces.{byte_is, after_groups}
use Rattle.wc_eval.proofs.PartLemmas.{blocks_text, blocks_written}

abbrev Parts : Type 0
Parts = List Piece × List Piece

-- blocks with a parenthesis before them
abbrev opened : List Piece → List Piece
opened g = group_or_byte g (split_at 41 g)

-- what is after the first such byte outside groups, with so many parentheses before the blocks
abbrev pub found : ℕ → ℕ → List Piece → Option (List Piece)
found c zero g = past c 0 g
found c (suc n) g = found c n (opened g)

-- a piece that is one byte is no other
other_byte : (c d : ℕ) (p : Piece) → (d == c) ≡ false → is_byte d p ≡ true → is_byte c p ≡ false
other_byte c d p f t = subst (λ q. is_byte c q ≡ false) (sym (byte_is d p t)) f

module _ (c : ℕ) (not_open : (40 == c) ≡ false) (not_close : (41 == c) ≡ false) where
  -- a piece that is neither the byte nor a `)` changes nothing
  passed : (n : ℕ) (p : Piece) (g : List Piece) → is_byte c p ≡ false → is_byte 41 p ≡ false →
      found c n (p ∷ g) ≡ found c n g
  passed zero p g f h = rw f refl
  passed (suc n) p g f h = rw h (by (passed n) (split_at 41 g))
    where
      by : ((q : Piece) (l : List Piece) → is_byte c q ≡ false → is_byte 41 q ≡ false →
          found c n (q ∷ l) ≡ found c n l) → (o : Option Parts) → found c n (group_or_byte (p ∷ g)
          (option_map (λ (parts : Parts). (p ∷ parts.0, parts.1)) o))
          ≡ found c n (group_or_byte g o)
      by ih None = ih (Byte 40) (p ∷ g) not_open refl ∙ ih p g f h
          ∙ sym (ih (Byte 40) g not_open refl)
      by ih (Some parts) = ih (Group (text_of (p ∷ parts.0))) parts.1 refl refl
          ∙ sym (ih (Group (text_of parts.0)) parts.1 refl refl)

  -- where no `)` is left nothing is in a group
  all_outside : (n : ℕ) (g : List Piece) → split_at 41 g ≡ None → found c n g ≡ past c 0 g
  all_outside zero g e = refl
  all_outside (suc n) g e = rw e (all_outside n (Byte 40 ∷ g) (rw e refl) ∙ rw not_open refl)

  abbrev blocks_at : Option Place → Option (List Piece)
  blocks_at place = option_map (λ (place : Place). with_groups place.1) place

  -- what a place comes to, inside so many parentheses and one more
  abbrev kept_by : ℕ → List Piece → Option (List Piece) → Option (List Piece)
  kept_by k r None = Some (with_groups r)
  kept_by k r (Some qs) = found c k (with_groups qs)

  record Scans (ps : List Piece) : Type 0 where
    pub alone : (n : ℕ) → blocks_at (place_at_end c n None ps) ≡ found c n (with_groups ps)
    pub kept : (k d : ℕ) (r : List Piece) →
        blocks_at (place_at_end c (suc k + d) (Some (suc k, r)) ps) ≡ kept_by k r (after_group d ps)

  stays_first : (ps : List Piece) (n : ℕ) (r : List Piece) →
      place_at_end c n (Some (0, r)) ps ≡ Some (0, r)
  stays_first [] n r = refl
  stays_first (p ∷ ps) n r = rw (le-leb 0 (open_after p n) (omega arith)) (stays_first ps (open_after p n) r)

  -- the byte inside parentheses
  inside : (m : ℕ) (p : Piece) (ps : List Piece) → is_byte c p ≡ true → is_byte 41 p ≡ false →
      kept_by m ps (after_group 0 ps) ≡ found c (suc m) (p ∷ with_groups ps)
  inside m p ps t h = rw h (by (after_group 0 ps) refl)
    where
      by : (o : Option (List Piece)) → after_group 0 ps ≡ o → kept_by m ps o
          ≡ found c m (group_or_byte (p ∷ with_groups ps)
          (option_map (λ (parts : Parts). (p ∷ parts.0, parts.1)) (split_at 41 (with_groups ps))))
      by None e =
          let none : split_at 41 (with_groups ps) ≡ None = split_none 41 (with_groups ps)
          (sym (after_groups ps 0) ∙ ap (option_map with_groups) e) in
          rw none (sym (all_outside m (Byte 40 ∷ p ∷ with_groups ps) (rw (h, none) refl)
          ∙ rw (not_open, t) refl))
      by (Some qs) e =
          let left : past 41 0 (with_groups ps) ≡ Some (with_groups qs) =
          sym (after_groups ps 0) ∙ ap (option_map with_groups) e in
          let split = split_found 41 (with_groups ps) (with_groups qs) left in
          rw split.split (sym (passed m (Group (text_of (p ∷ split.before))) (with_groups qs) refl refl))

  opens : (p : Piece) (ps : List Piece) → is_byte 40 p ≡ true → Scans ps → Scans (p ∷ ps)
  opens p ps t ih = record {
    alone = λ n. let other = other_byte c 40 p not_open t in
        let more : n + 1 ≡ suc n = omega arith in
        rw (t, other, more) (ih.alone (suc n));
    kept = λ k d r.
        let le = le-leb (suc k) (suc k + d + 1) (omega arith) in
        let more : suc k + d + 1 ≡ suc k + (d + 1) = omega arith in
        rw (t, le, more) (ih.kept k (d + 1) r);
  }

  closes : (p : Piece) (ps : List Piece) → is_byte 40 p ≡ false → is_byte 41 p ≡ true → Scans ps →
      Scans (p ∷ ps)
  closes p ps f t ih = record { alone = one; kept = two }
    where
      other : is_byte c p ≡ false
      other = other_byte c 41 p not_close t

      one : (n : ℕ) → blocks_at (place_at_end c n None (p ∷ ps)) ≡ found c n (with_groups (p ∷ ps))
      one zero = rw (f, t, other) (ih.alone 0)
      one (suc n) = let less : suc n - 1 ≡ n = omega arith in
          rw (f, t, other, less) (ih.alone n
          ∙ sym (passed n (Group []) (with_groups ps) refl refl))

      two : (k d : ℕ) (r : List Piece) →
          blocks_at (place_at_end c (suc k + d) (Some (suc k, r)) (p ∷ ps))
          ≡ kept_by k r (after_group d (p ∷ ps))
      two k zero r =
          let less : suc k + 0 - 1 ≡ k = omega arith in
          let lost = lt-leb (suc k) k (omega arith) in
          rw (f, t, less, lost, other) (ih.alone k)
      two k (suc d) r =
          let less : suc k + suc d - 1 ≡ suc k + d = omega arith in
          let le = le-leb (suc k) (suc k + d) (omega arith) in
          let more : (suc d == 0) ≡ false = ne_eqb (suc d) 0 (λ e. omega (arith, e)) in
          let down : suc d - 1 ≡ d = omega arith in
          rw (f, t, less, le, more, down) (ih.kept k d r)

  goes_by : (p : Piece) (ps : List Piece) → is_byte 40 p ≡ false → is_byte 41 p ≡ false → Scans ps →
      Scans (p ∷ ps)
  goes_by p ps f g ih = record { alone = one; kept = two }
    where
      here : (n : ℕ) → is_byte c p ≡ true → blocks_at (place_at_end c n (Some (n, ps)) ps)
          ≡ found c n (p ∷ with_groups ps)
      here zero t = rw (stays_first ps 0 ps, t) refl
      here (suc m) t = let same : suc m + 0 ≡ suc m = omega arith in
          (rw same at (ih.kept m 0 ps)) ∙ inside m p ps t g

      one : (n : ℕ) → blocks_at (place_at_end c n None (p ∷ ps)) ≡ found c n (with_groups (p ∷ ps))
      one n = by_bool (is_byte c p) _
          (λ t. rw (f, g, t) (here n t))
          (λ h. rw (f, g, h) (ih.alone n ∙ sym (passed n p (with_groups ps) h g)))

      two : (k d : ℕ) (r : List Piece) →
          blocks_at (place_at_end c (suc k + d) (Some (suc k, r)) (p ∷ ps))
          ≡ kept_by k r (after_group d (p ∷ ps))
      two k d r = let le = le-leb (suc k) (suc k + d) (omega arith) in
          rw (f, g, le) (ih.kept k d r)

  scans : (ps : List Piece) → Scans ps
  scans [] = record {
    alone = λ n. sym (all_outside n [] refl);
    kept = λ k d r. refl;
  }
  scans (p ∷ ps) = by_bool (is_byte 40 p) _
      (λ t. opens p ps t (scans ps))
      (λ f. by_bool (is_byte 41 p) _
      (λ t. closes p ps f t (scans ps))
      (λ g. goes_by p ps f g (scans ps)))

-- ---- what is cut

second_blocks : (o : Option Place) → option_map with_groups (option_map (λ (place : Place). place.1) o)
    ≡ option_map (λ (place : Place). with_groups place.1) o
second_blocks None = refl
second_blocks (Some place) = refl

module _ (c : ℕ) (text : List ℕ) (start : Walk) (is : left_of start ≡ pieces_of text)
    (opening : c ≢ 40) (closing : c ≢ 41) where
  past_blocks : (o : Option (List Piece)) →
      o ≡ option_map (λ (place : Place). place.1) (place_at_end c 0 None (left_of start)) →
      past c 0 (blocks_of text) ≡ option_map with_groups o
  unfolding blocks_of
  past_blocks o e =
      let not_open = ne_eqb 40 c (λ e. opening (sym e)) in
      let not_close = ne_eqb 41 c (λ e. closing (sym e)) in
      let all = scans c not_open not_close (left_of start) in
      sym (ap (option_map with_groups) e ∙ second_blocks (place_at_end c 0 None (left_of start))
      ∙ all.alone 0 ∙ ap (λ ps. past c 0 (with_groups ps)) is)

  pub block_none : None ≡ option_map (λ (place : Place). place.1) (place_at_end c 0 None (left_of start)) →
      option_map texts_of (split_at c (blocks_of text)) ≡ None
  block_none e = ap (option_map texts_of) (split_none c (blocks_of text) (past_blocks None e))

  pub block_some : (end : Walk) (left : List ℕ) → left ≡ end.rest.now →
      Some (left_of end) ≡ option_map (λ (place : Place). place.1) (place_at_end c 0 None (left_of start)) →
      option_map texts_of (split_at c (blocks_of text))
      ≡ Some (take (length text - length left - 1) text, left)
  block_some end left here e =
      let split = split_found c (blocks_of text) (blocks_left end) (past_blocks (Some (left_of end)) e) in
      let rest : text_of (blocks_left end) ≡ left = blocks_text end ∙ sym here in
      ap (option_map texts_of) split.split
      ∙ both (split.written ∙ same (blocks_written text) rest) rest
    where
      same : {a b : List ℕ} → a ≡ text → b ≡ left →
          take (length a - length b - 1) a ≡ take (length text - length left - 1) text
      same p q = rw (p, q) refl

      both : {a b x y : List ℕ} → a ≡ b → x ≡ y →
          ◌≡◌ {A = Option (List ℕ × List ℕ)} (Some (a, x)) (Some (b, y))
      both p q = rw (p, q) refl

-- ---- two branches

pub first_branch : (text : List ℕ) → None ≡ option_map texts_of (split_at 58 (blocks_of text)) →
    branch true (branches_of text) ≡ text
first_branch text e = by (split_at 58 (blocks_of text)) e
  where
    by : (o : Option Parts) → None ≡ option_map texts_of o → text_of (or_all (blocks_of text) o).0 ≡ text
    by None e = blocks_written text
    by (Some parts) e = absurd (none-some _ e)
