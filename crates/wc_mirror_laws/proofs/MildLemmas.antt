-- Changes whose lines have a level of 8 bits, and that set no flags.
use Rattle.std.proofs.Common.{◌≡◌, ℕ, Bool, true, false, cond, ◌&&◌, List, [], ◌∷◌, ◌++◌, map, Option, Some, None, refl, arith, nat_le, IsUtf8}
use Rattle.std.specs.List.{AllByRecursion, flat_map, list_all}
use Rattle.std.specs.Int.{w8}
use Rattle.std.specs.Int.RustNames.{FitsSigned}
use Rattle.std.specs.Str.{is_utf8}
use Rattle.std.proofs.lemmas.Bool.{false≢true}
use Rattle.std.proofs.lemmas.Bool.Decides.{nat_tests}
use Rattle.std.proofs.lemmas.List.Elements.{All-from_recursion}
use Rattle.std.proofs.lemmas.Str.{IsUtf8-from_is_utf8}
use Rattle.wc_text.specs.declared.names.Pair.{Pair}
use Rattle.wc_nicklist.specs.declared.item.Item.{Item}
use Rattle.wc_buffers.specs.Entries.{IsText}
use Rattle.wc_model.specs.declared.change.What.{What}
use Rattle.wc_model.specs.declared.change.What.TheVariants as what
use Rattle.wc_irc.specs.declared.act.Act.{Act}
use Rattle.wc_irc.specs.declared.act.Act.TheVariants as act
use Rattle.wc_irc.specs.Lines.{line, said}
use Rattle.wc_irc.specs.TalkActs.{on_found}
use Rattle.wc_servers.specs.Texts.{is_pair_text, is_item_text, is_change_text}
use Rattle.wc_core.specs.ServerSteps.{dated}
use Rattle.wc_mirror_laws.specs.Changes.{IsAsked}
use Rattle.wc_mirror_laws.proofs.PrintLemmas.{level_fits}

abbrev pub IsMild : What → Type 0
IsMild (what.Print line) = FitsSigned w8 line.notify
IsMild (what.Flips flips) = ⊥
IsMild _ = Unit {0}

-- ---- texts

both : (a b : Bool) → a && b ≡ true → (a ≡ true) × (b ≡ true)
both true b e = (refl, e)
both false b e = absurd (false≢true e)

texts_utf8 : (texts : List (List ℕ)) → list_all is_utf8 texts ≡ true → AllByRecursion IsUtf8 texts
texts_utf8 [] e = tt
texts_utf8 (text ∷ texts) e =
    let parts = both (is_utf8 text) (list_all is_utf8 texts) e in
    (IsUtf8-from_is_utf8 text parts.0, texts_utf8 texts parts.1)

pairs_text : (pairs : List Pair) → list_all is_pair_text pairs ≡ true → AllByRecursion IsText pairs
pairs_text [] e = tt
pairs_text (pair ∷ pairs) e =
    let parts = both (is_pair_text pair) (list_all is_pair_text pairs) e in
    let texts = both (is_utf8 pair.name) (is_utf8 pair.value) parts.0 in
    ((IsUtf8-from_is_utf8 pair.name texts.0, IsUtf8-from_is_utf8 pair.value texts.1), pairs_text pairs parts.1)

item_name : (item : Item) → is_item_text item ≡ true → IsUtf8 item.name
item_name item e = IsUtf8-from_is_utf8 item.name (both (is_utf8 item.name) (is_utf8 item.color && (is_utf8 item.prefix && is_utf8 item.prefix_color)) e).0

-- a mild change whose texts are UTF-8 may be asked
pub mild_told : (w : What) → is_change_text w ≡ true → IsMild w → IsAsked w
unfolding is_change_text
mild_told (what.Add spec) e mild =
    let vars = list_all is_pair_text spec.vars in
    let a = both (is_utf8 spec.full_name) (is_utf8 spec.short_name && (is_utf8 spec.title && vars)) e in
    let b = both (is_utf8 spec.short_name) (is_utf8 spec.title && vars) a.1 in
    let c = both (is_utf8 spec.title) vars b.1 in (
      IsUtf8-from_is_utf8 spec.full_name a.0,
      IsUtf8-from_is_utf8 spec.short_name b.0,
      IsUtf8-from_is_utf8 spec.title c.0,
      All-from_recursion IsText spec.vars (pairs_text spec.vars c.1),
    )
mild_told what.Close e mild = tt
mild_told (what.MoveTo number) e mild = tt
mild_told (what.MergeInto into) e mild = tt
mild_told what.Unmerge e mild = tt
mild_told what.Hide e mild = tt
mild_told what.Unhide e mild = tt
mild_told (what.Rename name flips) e mild = IsUtf8-from_is_utf8 name e
mild_told (what.ShortName name) e mild = IsUtf8-from_is_utf8 name e
mild_told (what.Title title) e mild = tt
mild_told (what.SetVar var) e mild = IsUtf8-from_is_utf8 var.name (both (is_utf8 var.name) (is_utf8 var.value) e).0
mild_told (what.RemoveVar name) e mild = tt
mild_told (what.Print line) e mild =
    let tags = (both (list_all is_utf8 line.tags) (is_utf8 line.prefix && is_utf8 line.message) e).0 in
    (All-from_recursion IsUtf8 line.tags (texts_utf8 line.tags tags), mild)
mild_told what.Clear e mild = tt
mild_told (what.Flips flips) e mild = absurd mild
mild_told (what.AddGroup parent item) e mild = item_name item (both (is_utf8 parent) (is_item_text item) e).1
mild_told (what.AddNick group item) e mild = item_name item (both (is_utf8 group) (is_item_text item) e).1
mild_told (what.RemoveGroup name) e mild = tt
mild_told (what.RemoveNick name) e mild = tt
mild_told (what.ChangeGroup item) e mild = item_name item e
mild_told (what.ChangeNick item) e mild = item_name item e
mild_told (what.Limit limit) e mild =
    let parts = both (nat_le 1 limit) (nat_le limit 4096) e in
    let low = parts.0 in
    let high = parts.1 in
    (grind (arith, nat_tests), grind (arith, nat_tests))

-- dates change nothing of that
pub mild_dated : (moment : ℕ) (w : What) → IsMild w → IsMild (dated moment w)
mild_dated moment (what.Print line) mild = mild
mild_dated moment (what.Add spec) mild = mild
mild_dated moment w mild = mild

-- ---- acts

abbrev pub IsMildAct : Act → Type 0
IsMildAct (act.On full_name w) = IsMild w
IsMildAct _ = Unit {0}

abbrev pub AreMild : List Act → Type 0
AreMild acts = AllByRecursion IsMildAct acts

pub mild_said : (buffer : List ℕ) (tags : List (List ℕ)) (prefix text : List ℕ) (calls_user : Bool) → IsMildAct (said buffer tags prefix text calls_user)
unfolding line
mild_said buffer tags prefix text calls_user = level_fits tags calls_user

pub mild_both : (a b : List Act) → AreMild a → AreMild b → AreMild (a ++ b)
mild_both [] b p q = q
mild_both (x ∷ a) b p q = (p.0, mild_both a b p.1 q)

pub mild_if : (b : Bool) (x y : List Act) → AreMild x → AreMild y → AreMild (cond b x y)
mild_if true x y p q = p
mild_if false x y p q = q

pub mild_map : {X : Type 0} (f : X → Act) (xs : List X) → ((x : X) → IsMildAct (f x)) → AreMild (map f xs)
mild_map f [] each = tt
mild_map f (x ∷ xs) each = (each x, mild_map f xs each)

pub mild_each : {X : Type 0} (f : X → List Act) (xs : List X) → ((x : X) → AreMild (f x)) → AreMild (flat_map f xs)
mild_each f [] each = tt
mild_each f (x ∷ xs) each = mild_both (f x) (flat_map f xs) (each x) (mild_each f xs each)

pub mild_found : (there : Option (List ℕ)) (acts : List ℕ → List Act) → ((buffer : List ℕ) → AreMild (acts buffer)) → AreMild (on_found there acts)
mild_found None acts each = tt
mild_found (Some buffer) acts each = each buffer
