-- An update of the index under a key is one of the groups or one of the nicks.
use Rattle.std.proofs.Common.{◌≡◌, ℕ, Bool, true, false, cond, not, Option, List, refl, sym}
use Rattle.std.proofs.lemmas.Bool.{true≢false}
use Rattle.std.specs.Prelude.{bytes_eq, ◌&&◌}
use Rattle.wc_nicklist.specs.declared.store.RowId.{RowId}
use Rattle.wc_nicklist.specs.declared.index.Index.{Index}
use Rattle.wc_nicklist.specs.declared.item.Key.{Key}
use Rattle.wc_nicklist.specs.Index.{at_name, id_in}
use Rattle.wc_nicklist.specs.Order.{key_at}
use Rattle.wc_nicklist.specs.Rows.{key_eq}

pub in_groups : (g : Bool) → g ≡ true → (name : List ℕ) (w : Option RowId) (i : Index) (groups : _) → ((q : List ℕ) → at_name groups q ≡ cond (bytes_eq name q) w (at_name i.groups q)) → (k : Key) → id_in (record { groups = groups; nicks = i.nicks }) k ≡ cond (key_eq (key_at g name) k) w (id_in i k)
unfolding key_eq
in_groups false e name w i groups h k = absurd (true≢false (sym e))
in_groups true e name w i groups h k =
    let n = k.name in
    elim k.is_group as (λ b. cond b (at_name groups n) (at_name i.nicks n) ≡ cond (b && bytes_eq name n) w (cond b (at_name i.groups n) (at_name i.nicks n))) [ true ↦ h n | false ↦ refl ]

pub in_nicks : (g : Bool) → g ≡ false → (name : List ℕ) (w : Option RowId) (i : Index) (nicks : _) → ((q : List ℕ) → at_name nicks q ≡ cond (bytes_eq name q) w (at_name i.nicks q)) → (k : Key) → id_in (record { groups = i.groups; nicks = nicks }) k ≡ cond (key_eq (key_at g name) k) w (id_in i k)
unfolding key_eq
in_nicks true e name w i nicks h k = absurd (true≢false e)
in_nicks false e name w i nicks h k =
    let n = k.name in
    elim k.is_group as (λ b. cond b (at_name i.groups n) (at_name nicks n) ≡ cond (not b && bytes_eq name n) w (cond b (at_name i.groups n) (at_name i.nicks n))) [ true ↦ refl | false ↦ h n ]
