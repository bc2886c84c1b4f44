-- Variables as they are stored, each under the bytes of its name.
use Rattle.std.proofs.Common.{◌≡◌, ℕ, Bool, true, false, cond, List, [], ◌∷◌, Option, Some, None, option_map, length, refl, ap, sym, subst, ◌∙◌, bytes_eq, is_none, is_some, not, get_or, ◌<◌, All}
use Rattle.std.specs.Str.{IsUtf8}
use Rattle.std.proofs.lemmas.List.Elements.{All-get_or}
use Rattle.std.proofs.lemmas.Bool.{false≢true}
use Rattle.std.specs.Map.{lookup, values_of, remove_entry}
use Rattle.std.specs.Cmp.Lexicographic.{bytes_decides}
use Rattle.std.specs.declared.alloc.Global.{Global}
use Rattle.std.specs.declared.vec.Vec.{Vec}
use Rattle.indexmap.specs.IndexMap.{insert_entry}
use Rattle.wc_text.specs.declared.names.Pair.{Pair}
use Rattle.wc_buffers.specs.Entries.{AreNamed, IsText}
use Rattle.wc_buffers.specs.Vars.{var_of, value_of, set_var, remove_var}
use Rattle.wc_buffers.proofs.GroupLaws.{by_bool}

abbrev Stored : Type 0
Stored = List (Vec ℕ Global × Pair)

pub found_var : (name : List ℕ) (es : Stored) → AreNamed es → lookup (λ k. bytes_eq name k.items) es ≡ var_of name (values_of es)
found_var name [] named = refl
found_var name (e ∷ es) named = rw (named.0, found_var name es named.1) refl

pub removed_var : (name : List ℕ) (es : Stored) → AreNamed es → values_of (remove_entry (λ k. bytes_eq name k.items) es) ≡ remove_var name (values_of es)
removed_var name [] named = refl
removed_var name (e ∷ es) named =
    let same : bytes_eq name e.0.items ≡ bytes_eq name e.1.name = ap (bytes_eq name) named.0 in
    by_bool (bytes_eq name e.0.items) _
    (λ t. let u = sym same ∙ t in rw (t, u) refl)
    (λ t. let u = sym same ∙ t in rw (t, u) (ap (λ l. e.1 ∷ l) (removed_var name es named.1)))

pub named_removed : (name : List ℕ) (es : Stored) → AreNamed es → AreNamed (remove_entry (λ k. bytes_eq name k.items) es)
named_removed name [] named = tt
named_removed name (e ∷ es) named = elim (bytes_eq name e.0.items) as (λ b. AreNamed (cond b es (e ∷ remove_entry (λ k. bytes_eq name k.items) es))) [
  | true ↦ named.1
  | false ↦ (named.0, named_removed name es named.1)
]

abbrev same_name : Vec ℕ Global → Vec ℕ Global → Bool
same_name a b = bytes_eq a.items b.items

pub put_var : (k : Vec ℕ Global) (p : Pair) (es : Stored) → k.items ≡ p.name → AreNamed es → values_of (insert_entry same_name es k p) ≡ set_var p (values_of es)
put_var k p [] is named = refl
put_var k p (e ∷ es) is named =
    let same : same_name k e.0 ≡ bytes_eq p.name e.1.name = ap (λ n. bytes_eq n e.0.items) is ∙ ap (bytes_eq p.name) named.0 in
    by_bool (same_name k e.0) _
    (λ t. let u = sym same ∙ t in rw (t, u) refl)
    (λ t. let u = sym same ∙ t in rw (t, u) (ap (λ l. e.1 ∷ l) (put_var k p es is named.1)))

pub named_put : (k : Vec ℕ Global) (p : Pair) (es : Stored) → k.items ≡ p.name → AreNamed es → AreNamed (insert_entry same_name es k p)
named_put k p [] is named = (is, tt)
named_put k p (e ∷ es) is named = by_bool (same_name k e.0) _
    (λ t. rw t (sym_name t, named.1))
    (λ t. rw t (named.0, named_put k p es is named.1))
  where
    sym_name : bytes_eq k.items e.0.items ≡ true → e.0.items ≡ p.name
    sym_name t = sym ((bytes_decides k.items e.0.items).0 t) ∙ is

pub put_new : (k : Vec ℕ Global) (name : List ℕ) (es : Stored) → k.items ≡ name → AreNamed es → lookup (same_name k) es ≡ var_of name (values_of es)
put_new k name es is named = ap (λ n. lookup (λ x. bytes_eq n x.items) es) is ∙ found_var name es named

pub none_new : {X : Type 0} (old found : Option X) (none : Bool) → is_some old ≡ not none → old ≡ found → none ≡ is_none found
none_new None found none e is = by none e ∙ ap is_none is
  where
    by : (b : Bool) → false ≡ not b → b ≡ true
    by true n = refl
    by false n = absurd (false≢true n)
none_new (Some x) found none e is = by none e ∙ ap is_none is
  where
    by : (b : Bool) → true ≡ not b → b ≡ false
    by true n = absurd (false≢true (sym n))
    by false n = refl

pub got_value : (o : Option Pair) (name : List ℕ) (es : Stored) (found : Option (List ℕ)) → o ≡ lookup (λ k. bytes_eq name k.items) es → AreNamed es → found ≡ option_map (λ (v : Pair). v.value) o → found ≡ value_of name (values_of es)
got_value o name es found is named e = e ∙ ap (option_map (λ (v : Pair). v.value)) (is ∙ found_var name es named)

pub text_at : (vars : List Pair) (i : ℕ) (v : Pair) → i < length vars → v ≡ get_or vars i v → All IsText vars → IsUtf8 v.value
text_at vars i v l is all = subst (λ (x : Pair). IsUtf8 x.value) (sym is) (All-get_or IsText vars i v l all).1
