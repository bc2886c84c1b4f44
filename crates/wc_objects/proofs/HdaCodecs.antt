-- A list of items on a path, read as it is spelt.
use Rattle.std.proofs.Common.{◌≡◌, ℕ, ◌<◌, ◌^◌, Bool, true, cond, eqb, List, [], ◌++◌, length, Option, Some, None, Ok, refl, sym, ap, subst, ◌∙◌, inl, inr, arith}
use Rattle.std.specs.Prelude.{is_some}
use Rattle.std.specs.List.{AllByRecursion}
use Rattle.std.proofs.lemmas.Bool.{eqb-true}
use Rattle.wc_objects.specs.declared.kind.Kind.{Kind}
use Rattle.wc_objects.specs.declared.object.Hda.{Hda as HdaValue, out-Hda}
use Rattle.wc_objects.specs.declared.object.HdaItem.{HdaItem}
use Rattle.wc_objects.specs.declared.object.Object.TheViews.{out-roll-Hda}
use Rattle.wc_objects.specs.Spelling.{be32, text_bytes, with_count, item_bytes}
use Rattle.wc_objects.specs.Reading.{Read, ◌>>=◌, broken_at, number_at, null_at, count_at, counted_at, item_at, items_by, hda_of, hda_after}
use Rattle.wc_objects.proofs.Codecs.{IsBytes, Codec, done, bind_ok, value_is, rest_is, refit, chain_tied}
use Rattle.wc_objects.proofs.FieldCodecs.{guard_ok, IsNumber, IsCount, number_codec, count_codec}
use Rattle.wc_objects.proofs.CountCodecs.{counted_codec}
use Rattle.wc_objects.proofs.ItemCodecs.{IsItem, item_codec, item_some}

-- a value that is read where a test of another holds, which tells it
pub guarded_made : {A B : Type 0} (read : List ℕ → Read A) (spell : A → List ℕ) (F : A → Type 0) (test : A → Bool) (f : A → B) (sb : B → List ℕ) → Codec read spell F → ((a : A) → F a → test a ≡ true → sb (f a) ≡ spell a)
    → Codec (λ bytes. read bytes >>= λ x. cond (test x.0) (Ok (f x.0, x.1)) (broken_at bytes)) sb (λ b. (a : A) × (b ≡ f a) × F a × (test a ≡ true))
guarded_made {A} {B} read spell F test f sb c same = record { takes = takes_made; again = made_again }
  where
    takes_made : (bytes : List ℕ) (y : B) (rest : List ℕ) → IsBytes bytes → (read bytes >>= λ x. cond (test x.0) (Ok (f x.0, x.1)) (broken_at bytes)) ≡ done y rest → (bytes ≡ sb y ++ rest) × IsBytes rest × ((a : A) × (y ≡ f a) × F a × (test a ≡ true))
    takes_made bytes y rest fits e =
        let p = bind_ok (read bytes) (λ x. cond (test x.0) (Ok (f x.0, x.1)) (broken_at bytes)) (y, rest) e in
        elim (guard_ok (test p.0.0) (Ok (f p.0.0, p.0.1)) (broken_at bytes) (done y rest) p.2) [
          | inl yes' ↦
              let v : f p.0.0 ≡ y = value_is (f p.0.0) y p.0.1 rest yes'.1 in
              let r : p.0.1 ≡ rest = rest_is (f p.0.0) y p.0.1 rest yes'.1 in
              let t = c.takes bytes p.0.0 p.0.1 fits p.1 in
              (t.0 ∙ ap (λ (x : List ℕ). x ++ p.0.1) (sym (same p.0.0 t.2 yes'.0)) ∙ ap (λ (b : B). sb b ++ p.0.1) v ∙ ap (λ (x : List ℕ). sb y ++ x) r, subst IsBytes r t.1, (p.0.0, sym v, t.2, yes'.0))
          | inr no' ↦ absurd (let k = no'.1 in cc)
        ]

    made_again : (y : B) (rest : List ℕ) → ((a : A) × (y ≡ f a) × F a × (test a ≡ true)) → length (sb y) < 2 ^ 31 → (read (sb y ++ rest) >>= λ x. cond (test x.0) (Ok (f x.0, x.1)) (broken_at (sb y ++ rest))) ≡ done y rest
    made_again y rest g short =
        let spelling : sb y ≡ spell g.0 = ap sb g.1 ∙ same g.0 g.2 g.3 in
        let whole = sb y ++ rest in
        let one : read whole ≡ done g.0 rest = ap (λ (x : List ℕ). read (x ++ rest)) spelling ∙ c.again g.0 rest g.2 (omega (arith, ap length spelling, short)) in
        ap (λ (r : Read A). r >>= λ x. cond (test x.0) (Ok (f x.0, x.1)) (broken_at whole)) one ∙ ap (λ (b : Bool). cond b (done (f g.0) rest) (broken_at whole)) g.3 ∙ ap (λ (b : B). done b rest) (sym g.1)

-- ---- the null hdata

abbrev pub null_hda : HdaValue
null_hda = hda_of None None []

abbrev pub path_of : HdaValue → Option (List ℕ)
path_of h = (out-Hda h).path

abbrev pub keys_of : HdaValue → Option (List ℕ)
keys_of h = (out-Hda h).keys

abbrev pub spelt_items : HdaValue → List ℕ
spelt_items h = with_count item_bytes (out-Hda h).items

abbrev pub spelt_after : HdaValue → List ℕ
spelt_after h = text_bytes (keys_of h) ++ spelt_items h

pub out_hda : (path keys : Option (List ℕ)) (items : List HdaItem) → out-Hda (hda_of path keys items) ≡ record { path = path; keys = keys; items = items }
out_hda path keys items = out-roll-Hda (record { path = path; keys = keys; items = items })

IsNull : Option (List ℕ) → Type 0
IsNull t = t ≡ None

null_codec : Codec null_at text_bytes IsNull
unfolding null_at text_bytes be32 IsNull
null_codec =
    refit null_at text_bytes (λ t. (n : ℕ) × (t ≡ None) × IsNumber n × (eqb n 4294967295 ≡ true)) IsNull
    (λ t f. f.1)
    (λ t f. (4294967295, f, omega arith, refl))
    (guarded_made number_at be32 IsNumber (λ n. eqb n 4294967295) (λ n. None) text_bytes number_codec (λ n f t. ap be32 (sym (eqb-true n 4294967295 t))))

abbrev NullOf : Option (List ℕ) → HdaValue → Type 0
NullOf keys h = (keys ≡ None) × (h ≡ null_hda)

no_items : (n : ℕ) → eqb n 0 ≡ true → spelt_items null_hda ≡ be32 n
unfolding be32
no_items n t = ap (λ x. with_count item_bytes x.items) (out_hda None None []) ∙ ap be32 (sym (eqb-true n 0 t))

null_items_codec : (keys : Option (List ℕ)) → keys ≡ None → Codec (λ bytes. count_at bytes >>= λ n. cond (eqb n.0 0) (Ok (null_hda, n.1)) (broken_at bytes)) spelt_items (NullOf keys)
null_items_codec keys none =
    refit (λ bytes. count_at bytes >>= λ n. cond (eqb n.0 0) (Ok (null_hda, n.1)) (broken_at bytes)) spelt_items (λ h. (n : ℕ) × (h ≡ null_hda) × IsCount n × (eqb n 0 ≡ true)) (NullOf keys)
    (λ h f. (none, f.1))
    (λ h f. (0, f.1, omega arith, refl))
    (guarded_made count_at be32 IsCount (λ n. eqb n 0) (λ n. null_hda) spelt_items count_codec (λ n f t. no_items n t))

pub null_hda_codec : Codec (hda_after None) spelt_after (λ h. h ≡ null_hda)
unfolding IsNull
null_hda_codec =
    refit (hda_after None) spelt_after (λ h. IsNull (keys_of h) × NullOf (keys_of h) h) (λ h. h ≡ null_hda)
    (λ h f. f.1.1)
    (λ h f. let none : keys_of h ≡ None = ap keys_of f ∙ ap (λ x. x.keys) (out_hda None None []) in (none, (none, f)))
    (chain_tied null_at text_bytes IsNull (λ whole keys rest. count_at rest >>= λ n. cond (eqb n.0 0) (Ok (null_hda, n.1)) (broken_at rest)) spelt_items NullOf keys_of
    (λ keys h g. ap keys_of g.1 ∙ ap (λ x. x.keys) (out_hda None None []) ∙ sym g.0) null_codec (λ whole keys none. null_items_codec keys none))

-- ---- items on a path

abbrev pub ItemsOf : Option ℕ → Option (List Kind) → List HdaItem → Type 0
ItemsOf depth kinds items = (d : ℕ) × (depth ≡ Some d) × (is_some kinds ≡ true) × AllByRecursion (IsItem d kinds) items

no_items_codec : (depth : Option ℕ) (kinds : Option (List Kind)) → ((items : List HdaItem) → ItemsOf depth kinds items → ⊥) → ((bytes : List ℕ) → items_by depth kinds bytes ≡ broken_at bytes) → Codec (items_by depth kinds) (with_count item_bytes) (ItemsOf depth kinds)
no_items_codec depth kinds never is_broken = record {
  takes = λ bytes x rest fits e. absurd (let k : broken_at bytes ≡ done x rest = sym (is_broken bytes) ∙ e in cc);
  again = λ x rest fits short. absurd (never x fits);
}

pub items_codec : (depth : Option ℕ) (kinds : Option (List Kind)) → ((d : ℕ) → depth ≡ Some d → 0 < d) → Codec (items_by depth kinds) (with_count item_bytes) (ItemsOf depth kinds)
items_codec None kinds some = no_items_codec None kinds (λ items f. let k = f.1 in cc) (λ bytes. refl)
items_codec (Some depth) None some = no_items_codec (Some depth) None (λ items f. let k = f.2 in cc) (λ bytes. refl)
items_codec (Some depth) (Some kinds) some =
    refit (counted_at (item_at depth kinds)) (with_count item_bytes) (AllByRecursion (IsItem depth (Some kinds))) (ItemsOf (Some depth) (Some kinds))
    (λ items f. (depth, refl, refl, f))
    (λ items f. let same : f.0 ≡ depth = (let k = f.1 in cc) in subst (λ (d : ℕ). AllByRecursion (IsItem d (Some kinds)) items) same f.3)
    (counted_codec (item_at depth kinds) item_bytes (IsItem depth (Some kinds)) (λ item f. item_some depth kinds item (some depth refl) f) (item_codec depth kinds))
