-- Triggers one after another: their numbers, and which are fine.
use Rattle.std.proofs.Common.{◌≡◌, ℕ, ◌+◌, ◌≤◌, Bool, true, false, List, [], ◌∷◌, ◌++◌, length, take, drop, get_or, append-nil, arith, cond, ap, ◌∙◌}
use Rattle.std.proofs.lemmas.List.Elements.{All-filter, All-push, All-map}
use Rattle.std.proofs.lemmas.List.{drop_all, take_all}
use Rattle.wc_eval.specs.Verdicts.{VerdictsView, Stay}
use Rattle.wc_triggers.specs.Triggers.{IsFine}
use Rattle.wc_triggers.specs.Kept.{UpTo, AreFine, without, with_flag, with_flags, is_named, new_row}
use Rattle.wc_triggers.specs.declared.numbered.NumberedTrigger.{NumberedTrigger}
use Rattle.wc_triggers.specs.declared.trigger.TriggerParts.{TriggerParts}
use Rattle.wc_triggers.proofs.PartLemmas.{known_later}

-- ---- numbers

abbrev IsUpTo : ℕ → NumberedTrigger → Type 0
IsUpTo most row = row.number ≤ most

pub up_to_added : (most : ℕ) (rows : List NumberedTrigger) (row : NumberedTrigger) → row.number ≡ most + 1 → UpTo most rows → UpTo (most + 1) (rows ++ row ∷ [])
up_to_added most rows row next numbers =
    All-push (IsUpTo (most + 1)) rows row (λ k d inside. omega (arith, numbers k d inside)) (omega (arith, next))

pub up_to_without : (most : ℕ) (name : List ℕ) (rows : List NumberedTrigger) → UpTo most rows → UpTo most (without name rows)
up_to_without most name rows numbers = All-filter _ (IsUpTo most) rows numbers

number_same : (most : ℕ) (on : Bool) (row : NumberedTrigger) (test : Bool) → IsUpTo most row → IsUpTo most (cond test (record row { trigger = record row.trigger { enabled = on } }) row)
number_same most on row true number = number
number_same most on row false number = number

pub up_to_switched : (most : ℕ) (name : List ℕ) (on : Bool) (rows : List NumberedTrigger) → UpTo most rows → UpTo most (with_flags name on rows)
up_to_switched most name on rows numbers =
    All-map (IsUpTo most) (with_flag name on) rows
    (λ k d inside. number_same most on (get_or rows k d) (is_named name (get_or rows k d)) (numbers k d inside))

-- triggers that are written over as many
pub written : (n : ℕ) (new old : List NumberedTrigger) → length old ≡ n → length new ≡ n →
    take n (new ++ drop (length new) old) ≡ new
written n new old olds news =
    ap (λ l. take n (new ++ l)) (drop_all (length new) old (omega (arith, olds, news)))
    ∙ ap (λ l. take n l) (append-nil new) ∙ take_all n new (omega (arith, news))

-- ---- those whose patterns are fine

abbrev IsFineRow : VerdictsView → NumberedTrigger → Type 0
IsFineRow verdicts row = IsFine verdicts row.trigger

-- as more verdicts are given
pub fine_later : (old new : VerdictsView) (rows : List NumberedTrigger) → Stay old new → AreFine old rows → AreFine new rows
fine_later old new rows stay fine k d inside = known_later old new (get_or rows k d).trigger.replacements stay (fine k d inside)

module _ (verdicts : VerdictsView) where
  -- as a trigger is added
  pub fine_added : (rows : List NumberedTrigger) (number : ℕ) (trigger : TriggerParts) → AreFine verdicts rows → IsFine verdicts trigger →
      AreFine verdicts (rows ++ new_row number trigger ∷ [])
  fine_added rows number trigger fine one = All-push (IsFineRow verdicts) rows (new_row number trigger) fine one

  -- as one is taken out
  pub fine_without : (name : List ℕ) (rows : List NumberedTrigger) → AreFine verdicts rows → AreFine verdicts (without name rows)
  fine_without name rows fine = All-filter _ (IsFineRow verdicts) rows fine

  flag_same : (on : Bool) (row : NumberedTrigger) (test : Bool) → IsFineRow verdicts row → IsFineRow verdicts (cond test (record row { trigger = record row.trigger { enabled = on } }) row)
  flag_same on row true fine = fine
  flag_same on row false fine = fine

  -- as triggers are enabled or disabled
  pub fine_switched : (name : List ℕ) (on : Bool) (rows : List NumberedTrigger) → AreFine verdicts rows → AreFine verdicts (with_flags name on rows)
  fine_switched name on rows fine =
      All-map (IsFineRow verdicts) (with_flag name on) rows
      (λ k d inside. flag_same on (get_or rows k d) (is_named name (get_or rows k d)) (fine k d inside))
