-- Filters one after another: which concern a buffer, and which are fine.
use Rattle.std.proofs.Common.{◌≡◌, ℕ, Bool, true, false, ◌&&◌, ◌||◌, List, [], ◌∷◌, ◌++◌, filter, map, take, drop, length, get_or, ◌-◌, ◌≤◌, append_assoc, append-nil, arith, cond, Option, Some, None, IfSome, refl, ap, ap₂, sym, subst, ◌∙◌, IsTrue}
use Rattle.std.specs.Prelude.{All}
use Rattle.std.specs.List.{list_any}
use Rattle.std.proofs.lemmas.Option.{same_Some}
use Rattle.std.proofs.lemmas.List.Elements.{All-filter, All-push, All-map}
use Rattle.std.proofs.Math.Seq.{take-length}
use Rattle.std.proofs.lemmas.List.{drop_all, take_all}
use Rattle.std.proofs.lemmas.Bool.{and_parts, and_from}
use Rattle.wc_eval.specs.Verdicts.{VerdictsView, Stay, verdict_on, is_known_fine, is_fine_by}
use Rattle.wc_eval.specs.declared.verdict.Verdict.{Verdict}
use Rattle.wc_filters.specs.Finders.{concerning, Ready}
use Rattle.wc_filters.specs.Hides.{concerns, sifts, sifted, hides}
use Rattle.wc_filters.specs.Kept.{AreFine, without, with_switch, is_meant, switched}
use Rattle.wc_filters.specs.Patterns.{half_is_known, is_known, search_of}
use Rattle.wc_filters.specs.declared.filter.Filter.{Filter}
use Rattle.wc_filters.specs.declared.switch.Switch.{Switch}
use Rattle.wc_filters.specs.declared.search.Search.{Search}

-- ---- those that concern a buffer

module _ (name : List ℕ) where
  concerning_by : (test : Bool) (f : Filter) (fs : List Filter) →
      cond test (f ∷ []) [] ++ fs ≡ cond test (f ∷ fs) fs
  concerning_by true f fs = refl
  concerning_by false f fs = refl

  pub concerning_next : (f : Filter) (fs : List Filter) →
      concerning name (f ∷ []) ++ concerning name fs ≡ concerning name (f ∷ fs)
  concerning_next f fs = concerning_by (concerns name f) f (concerning name fs)

  module _ (tags : List (List ℕ)) (prefix message : List ℕ) where
    sifted_by : (test : Bool) (f : Filter) (fs : List Filter) (rest : Bool) →
        list_any (λ g. sifts tags prefix message g) fs ≡ rest →
        list_any (λ g. sifts tags prefix message g) (cond test (f ∷ fs) fs) ≡ ((test && sifts tags prefix message f) || rest)
    sifted_by true f fs rest e = ap (λ b. sifts tags prefix message f || b) e
    sifted_by false f fs rest e = e

    -- of those that concern it, some one hides a line, where some one of all does
    pub sifted_is : (fs : List Filter) →
        sifted (concerning name fs) tags prefix message ≡ hides fs name tags prefix message
    sifted_is [] = refl
    sifted_is (f ∷ fs) = sifted_by (concerns name f) f (concerning name fs) (hides fs name tags prefix message) (sifted_is fs)

    -- what a seeker finds
    pub hidden_by : (ready : Ready) (filters sieves : List Filter) (found : Bool) →
        ◌≡◌ {A = Ready} (record { filters = filters; name = name }) ready → sieves ≡ concerning name filters →
        found ≡ sifted sieves tags prefix message → found ≡ hides ready.filters ready.name tags prefix message
    hidden_by ready filters sieves found is kept by =
        by ∙ ap (λ fs. sifted fs tags prefix message) kept ∙ sifted_is filters
        ∙ ap (λ (r : Ready). hides r.filters r.name tags prefix message) is

  -- one more is looked at
  pub ready_next : (rows rest others ready more : List Filter) (row : Filter) → rest ≡ row ∷ others →
      more ≡ ready ++ concerning name (row ∷ []) → ready ++ concerning name rest ≡ concerning name rows →
      more ++ concerning name others ≡ concerning name rows
  ready_next rows rest others ready more row is put whole =
      ap (λ l. l ++ concerning name others) put
      ∙ append_assoc ready (concerning name (row ∷ [])) (concerning name others)
      ∙ ap (λ l. ready ++ l) (concerning_next row others ∙ ap (λ l. concerning name l) (sym is))
      ∙ whole

-- the first of filters, and the others
pub first_and_others : (rest : List Filter) (row : Filter) → 1 ≤ length rest → row ≡ get_or rest 0 row →
    rest ≡ row ∷ take (length rest - 1) (drop 1 rest)
first_and_others [] row some is = absurd (omega (arith, some))
first_and_others (f ∷ fs) row some is =
    let n : length (f ∷ fs) - 1 ≡ length fs = omega arith in
    let others : take (length (f ∷ fs) - 1) fs ≡ fs = ap (λ k. take k fs) n ∙ take-length fs in
    ap₂ (λ g gs. g ∷ gs) (sym is) (sym others)

-- filters that are written over as many
pub written : (n : ℕ) (new old : List Filter) → length old ≡ n → length new ≡ n →
    take n (new ++ drop (length new) old) ≡ new
written n new old olds news =
    ap (λ l. take n (new ++ l)) (drop_all (length new) old (omega (arith, olds, news)))
    ∙ ap (λ l. take n l) (append-nil new) ∙ take_all n new (omega (arith, news))

-- ---- those whose patterns are fine

known_by : (text : List ℕ) (o p : Option Verdict) → IfSome o (λ v. p ≡ Some v) → is_fine_by o ≡ true → is_fine_by p ≡ true
known_by text None p stays fine = absurd (cc)
known_by text (Some v) p stays fine = ap is_fine_by stays ∙ fine

module _ (old new : VerdictsView) (stay : Stay old new) where
  pub half_later : (pattern : List ℕ) → half_is_known old pattern ≡ true → half_is_known new pattern ≡ true
  half_later [] known = refl
  half_later (b ∷ pattern) known = known_by (b ∷ pattern) (verdict_on (b ∷ pattern) old) (verdict_on (b ∷ pattern) new) (stay.rows (b ∷ pattern)) known

  pub search_later : (s : Search) → is_known old s ≡ true → is_known new s ≡ true
  search_later s known =
      let parts = and_parts (half_is_known old s.prefix) (half_is_known old s.message) known in
      and_from _ _ (half_later s.prefix parts.0) (half_later s.message parts.1)

  -- as more verdicts are given
  pub fine_later : (filters : List Filter) → AreFine old filters → AreFine new filters
  fine_later filters fine k d inside = search_later (search_of (get_or filters k d).pattern) (fine k d inside)

module _ (verdicts : VerdictsView) where
  abbrev IsFine : Filter → Type 0
  IsFine f = IsTrue (is_known verdicts (search_of f.pattern))

  -- as a filter is taken out
  pub fine_without : (name : List ℕ) (filters : List Filter) → AreFine verdicts filters → AreFine verdicts (without name filters)
  fine_without name filters fine = All-filter _ IsFine filters fine

  flag_same : (on : Bool) (f : Filter) (test : Bool) → IsFine f → IsFine (cond test (record f { enabled = on }) f)
  flag_same on f true fine = fine
  flag_same on f false fine = fine

  -- as filters are switched
  pub fine_switched : (name : Option (List ℕ)) (switch : Switch) (filters : List Filter) → AreFine verdicts filters → AreFine verdicts (map (with_switch name switch) filters)
  fine_switched name switch filters fine = All-map IsFine (with_switch name switch) filters (λ k d inside.
      let f = get_or filters k d in flag_same (switched switch f.enabled) f (is_meant name f) (fine k d inside))

  -- as one is added
  pub fine_added : (filters : List Filter) (f : Filter) → AreFine verdicts filters → is_known verdicts (search_of f.pattern) ≡ true →
      AreFine verdicts (filters ++ f ∷ [])
  fine_added filters f fine known = All-push IsFine filters f fine known
