-- Verdicts as they are kept, each under the bytes of its text.
use Rattle.std.proofs.Common.{◌^◌, ◌<◌, length, Result, Ok, Err, IsOk, OnOk, IsUtf8, ◌≡◌, ◌≤◌, ◌+◌, ℕ, suc, Bool, true, false, List, [], ◌∷◌, ◌++◌, Option, Some, None, refl, ap, sym, subst, ◌∙◌, bytes_eq, IfSome, arith}
use Rattle.std.proofs.lemmas.Option.{none-some, same_Some}
use Rattle.std.proofs.lemmas.Bool.{false≢true}
use Rattle.std.proofs.lemmas.List.{length-map, length-append}
use Rattle.std.specs.Map.{lookup}
use Rattle.std.specs.Cmp.Lexicographic.{bytes_decides}
use Rattle.std.specs.declared.alloc.Global.{Global}
use Rattle.std.specs.declared.vec.Vec.{Vec}
use Rattle.indexmap.specs.IndexMap.{insert_entry}
use Rattle.wc_eval.specs.declared.verdict.Verdict.{Verdict}
use Rattle.wc_eval.specs.declared.verdict.Verdict.TheVariants.{Fine, Syntax, Other}
use Rattle.wc_eval.specs.declared.verdict.Judgement.{Judgement}
use Rattle.wc_eval.specs.declared.verdict.Judgement.TheVariants as judged
use Rattle.wc_eval.specs.Verdicts.{VerdictsView, Judges, Stay, OnlyOn, IsCaused, verdict_on, verdict_in, others_in, one_if_other, AreOnce, is_fine, is_fine_by}
use Rattle.regex.specs.Failures.{IsPattern}
use Rattle.regex.specs.Strings.{regex_config}
use Rattle.regex.specs.Patterns.{Reads}
use Rattle.regex.specs.Names.{names_of}
use Rattle.regex.specs.declared.string.regex.Regex.{Regex}
use Rattle.wc_eval.specs.Built.{IsBuiltOf}
use Rattle.wc_eval.specs.Matching.{folding_config}
use Rattle.wc_eval.specs.Judged.{Kept, AreRight, IsRight, IsJudgementOf, rows_of, verdict_of}

abbrev pub Rows : Type 0
Rows = List (List ℕ × Verdict)

by_bool : (b : Bool) (P : Type 0) → (b ≡ true → P) → (b ≡ false → P) → P
by_bool true P t f = t refl
by_bool false P t f = f refl

-- ---- looking up

pub found_verdict : (text : List ℕ) (es : Kept) →
    lookup (λ k. bytes_eq text k.items) es ≡ verdict_in text (rows_of es)
found_verdict text [] = refl
found_verdict text (e ∷ es) = by_bool (bytes_eq text e.0.items) _
    (λ t. rw t refl)
    (λ t. rw t (found_verdict text es))

-- what holds of the text of a verdict that is kept
pub found_right : (text : List ℕ) (es : Kept) (v : Verdict) → AreRight es → verdict_in text (rows_of es) ≡ Some v → IsRight text v
found_right text [] v right e = absurd (none-some v e)
found_right text (e ∷ es) v right found = by_bool (bytes_eq text e.0.items) _
    (λ t. let is : e.1 ≡ v = same_Some _ _ (rw t at found) in
    subst (λ x. IsRight text x) is (subst (λ x. IsRight x e.1) (sym ((bytes_decides text e.0.items).0 t)) right.0))
    (λ t. found_right text es v right.1 (rw t at found))

-- what was built is a pattern
pub built_is_pattern : (text : List ℕ) (r : Regex) → IsBuiltOf text r → IsPattern folding_config text
built_is_pattern text r built =
    let hir = r.pattern.program.hir in
    let names = names_of r.pattern.names.items in (
      hir,
      names,
      subst (λ k. Reads k text hir names) built.config
          (subst (λ t. Reads (regex_config r) t hir names) built.source built.read),
    )

-- the verdict of a judgement
pub judged_right : (text : List ℕ) (j : Judgement) → IsUtf8 text → IsJudgementOf text j → IsRight text (verdict_of j)
judged_right text (judged.Built pattern) utf8 is = (utf8, is.1)
judged_right text judged.Syntax utf8 none = none
judged_right text judged.Other utf8 is = tt

-- ---- one more at the end

pub entry_new : (key : Vec ℕ Global) (j : Verdict) (es : Kept) → verdict_in key.items (rows_of es) ≡ None →
    insert_entry (λ a b. bytes_eq a.items b.items) es key j ≡ es ++ (key, j) ∷ []
entry_new key j [] new = refl
entry_new key j (e ∷ es) new = by_bool (bytes_eq key.items e.0.items) _
    (λ t. absurd (none-some _ (sym (rw t at new))))
    (λ t. rw t (ap (λ l. e ∷ l) (entry_new key j es (rw t at new))))

pub rows_push : (es : Kept) (key : Vec ℕ Global) (v : Verdict) →
    rows_of (es ++ (key, v) ∷ []) ≡ rows_of es ++ (key.items, v) ∷ []
rows_push [] key v = refl
rows_push (e ∷ es) key v = ap (λ l. (e.0.items, e.1) ∷ l) (rows_push es key v)

pub right_push : (es : Kept) (key : Vec ℕ Global) (v : Verdict) → AreRight es → IsRight key.items v →
    AreRight (es ++ (key, v) ∷ [])
right_push [] key v right one = (one, tt)
right_push (e ∷ es) key v right one = (right.0, right_push es key v right.1 one)

pub others_push : (rows : Rows) (text : List ℕ) (v : Verdict) →
    others_in (rows ++ (text, v) ∷ []) ≡ others_in rows + one_if_other v
others_push [] text v = omega arith
others_push (r ∷ rows) text v = let e = others_push rows text v in omega (arith, e)

-- the verdict on a text, after another text got one
pub verdict_new : (rows : Rows) (text : List ℕ) (v : Verdict) → verdict_in text rows ≡ None →
    verdict_in text (rows ++ (text, v) ∷ []) ≡ Some v
verdict_new [] text v none = rw ((bytes_decides text text).1 refl) refl
verdict_new (r ∷ rows) text v none = by_bool (bytes_eq text r.0) _
    (λ t. absurd (none-some _ (sym (rw t at none))))
    (λ t. rw t (verdict_new rows text v (rw t at none)))

pub verdict_stays : (rows : Rows) (row : List ℕ × Verdict) (text : List ℕ) →
    IfSome (verdict_in text rows) (λ v. verdict_in text (rows ++ row ∷ []) ≡ Some v)
verdict_stays [] row text = tt
verdict_stays (r ∷ rows) row text = by_bool (bytes_eq text r.0) _
    (λ t. rw t refl)
    (λ t. rw t (verdict_stays rows row text))

-- the verdict on another text than the new one
verdict_other : (rows : Rows) (row : List ℕ × Verdict) (text : List ℕ) → bytes_eq text row.0 ≡ false →
    verdict_in text (rows ++ row ∷ []) ≡ verdict_in text rows
verdict_other [] row text other = rw other refl
verdict_other (r ∷ rows) row text other = by_bool (bytes_eq text r.0) _
    (λ t. rw t refl)
    (λ t. rw t (verdict_other rows row text other))

other_text : (rows : Rows) (r : List ℕ × Verdict) (text : List ℕ) → verdict_in text (r ∷ rows) ≡ None → bytes_eq r.0 text ≡ false
other_text rows r text none = by_bool (bytes_eq r.0 text) _
    (λ t. let back : bytes_eq text r.0 ≡ true = (bytes_decides text r.0).1 (sym ((bytes_decides r.0 text).0 t)) in
    absurd (none-some _ (sym (rw back at none))))
    (λ t. t)

none_after : (rows : Rows) (r : List ℕ × Verdict) (text : List ℕ) → verdict_in text (r ∷ rows) ≡ None → verdict_in text rows ≡ None
none_after rows r text none = by_bool (bytes_eq text r.0) _
    (λ t. absurd (none-some _ (sym (rw t at none))))
    (λ t. rw t at none)

pub once_push : (rows : Rows) (text : List ℕ) (v : Verdict) → AreOnce rows → verdict_in text rows ≡ None →
    AreOnce (rows ++ (text, v) ∷ [])
once_push [] text v once none = (refl, tt)
once_push (r ∷ rows) text v once none =
    (verdict_other rows (text, v) r.0 (other_text rows r text none) ∙ once.0, once_push rows text v once.1 (none_after rows r text none))

-- ---- what the look-ups answer

pub got_verdict : (text key : List ℕ) (es : Kept) (o found : Option Verdict) →
    o ≡ lookup (λ k. bytes_eq key k.items) es → key ≡ text → found ≡ o → found ≡ verdict_in text (rows_of es)
got_verdict text key es o found is same e =
    e ∙ is ∙ ap (λ t. lookup (λ k. bytes_eq t k.items) es) same ∙ found_verdict text es

pub ok_holds : {A E X : Type 0} (r : Result A E) → IsOk r → OnOk r X → X
ok_holds (Ok x) ok holds = holds
ok_holds (Err x) ok holds = absurd (false≢true ok)

-- ---- a text is judged

others_few : (rows : Rows) → others_in rows ≤ length rows
others_few [] = omega arith
others_few (r ∷ rows) = by r.1 (others_few rows)
  where
    by : (v : Verdict) → others_in rows ≤ length rows → one_if_other v + others_in rows ≤ suc (length rows)
    by Fine few = omega (arith, few)
    by Syntax few = omega (arith, few)
    by Other few = omega (arith, few)

counted : (rows : Rows) (v : Verdict) (text : List ℕ) (before now : ℕ) → others_in rows ≤ before → length rows + 1 < 2 ^ 64 →
    before ≤ now → IsCaused before now text v → others_in rows + one_if_other v ≤ now
counted rows Fine text before now most few later caused = omega (arith, most, later)
counted rows Syntax text before now most few later caused = omega (arith, most, later)
counted rows Other text before now most few later caused = let all = others_few rows in omega (arith, most, few, caused, all)

pub others_kept : (es : Kept) (key : Vec ℕ Global) (v : Verdict) (text : List ℕ) (before now : ℕ) →
    others_in (rows_of es) ≤ before → length (es ++ (key, v) ∷ []) < 2 ^ 64 → before ≤ now →
    IsCaused before now text v → others_in (rows_of (es ++ (key, v) ∷ [])) ≤ now
others_kept es key v text before now most few later caused =
    let long : length (rows_of es) ≡ length es = length-map _ _ in
    let more : length (es ++ (key, v) ∷ []) ≡ length es + 1 = length-append es _ in
    rw (rows_push es key v, others_push (rows_of es) key.items v)
    (counted (rows_of es) v text before now most (omega (arith, few, long, more)) later caused)

-- where no verdict comes, each stays
pub stay_rows : (old new : VerdictsView) → new.rows ≡ old.rows → old.others ≤ new.others → Stay old new
stay_rows old new same later = record {
  rows = λ text. subst (λ rows. IfSome (verdict_in text old.rows) (λ v. verdict_in text rows ≡ Some v)) (sym same) (own (verdict_in text old.rows));
  others = later;
}
  where
    own : (o : Option Verdict) → IfSome o (λ v. o ≡ Some v)
    own None = tt
    own (Some v) = refl

stay_push : (old new : VerdictsView) (row : List ℕ × Verdict) → new.rows ≡ old.rows ++ row ∷ [] → old.others ≤ new.others → Stay old new
stay_push old new row is later = record {
  rows = λ text. subst (λ rows. IfSome (verdict_in text old.rows) (λ v. verdict_in text rows ≡ Some v)) (sym is) (verdict_stays old.rows row text);
  others = later;
}

pub only_push : (old new : VerdictsView) (key text : List ℕ) (v : Verdict) → key ≡ text →
    new.rows ≡ old.rows ++ (key, v) ∷ [] → OnlyOn text old new
only_push old new key text v is pushed other differs =
    let apart : bytes_eq other key ≡ false = by_bool (bytes_eq other key) _
    (λ t. absurd (differs ((bytes_decides other key).0 t ∙ is)))
    (λ t. t) in
    ap (verdict_in other) pushed ∙ verdict_other old.rows (key, v) other apart

pub judges_new : (old new : VerdictsView) (key text : List ℕ) (v : Verdict) → key ≡ text → verdict_on text old ≡ None →
    new.rows ≡ old.rows ++ (key, v) ∷ [] → old.others ≤ new.others → IsCaused old.others new.others text v →
    Judges text old new v
judges_new old new key text v is none pushed later caused =
    let grown : new.rows ≡ old.rows ++ (text, v) ∷ [] = pushed ∙ ap (λ t. old.rows ++ (t, v) ∷ []) is in
    record {
      answer = ap (verdict_in text) grown ∙ verdict_new old.rows text v none;
      known = subst (λ o. IfSome o (λ _. new ≡ old)) (sym none) tt;
      caused = λ _. caused;
      stay = stay_push old new (text, v) grown later;
    }
