-- A list of items on a path that is not null, and both together.
use Rattle.std.proofs.Common.{◌≡◌, ℕ, ◌<◌, Bool, true, false, cond, eqb, ◌&&◌, List, [], ◌∷◌, ◌++◌, length, Option, Some, None, refl, sym, ap, subst, ◌∙◌, arith}
use Rattle.std.specs.Prelude.{is_some}
use Rattle.std.specs.List.{AllByRecursion, list_all}
use Rattle.std.specs.Str.{is_utf8}
use Rattle.std.proofs.lemmas.Bool.{and_parts, and_from, eqb-true}
use Rattle.wc_objects.specs.declared.object.Hda.{Hda as HdaValue, out-Hda}
use Rattle.wc_objects.specs.declared.object.HdaItem.{HdaItem}
use Rattle.wc_objects.specs.declared.object.Object.TheViews.{roll-out-Hda}
use Rattle.wc_objects.specs.declared.fault.Rule.TheVariants.{Path, Keys}
use Rattle.wc_objects.specs.Forms.{is_path, names_of, kinds_of, item_of, hda_parts_are, hda_is}
use Rattle.wc_objects.specs.Within.{ItemWithin, HdaWithin}
use Rattle.wc_objects.specs.Spelling.{text_bytes, with_count, item_bytes, hda_bytes}
use Rattle.wc_objects.specs.Reading.{◌>>=◌, made_of, keeps, name_by, text_by, items_by, depth_of, hda_of, hda_after, hda_at}
use Rattle.wc_objects.proofs.Pieces.{begins}
use Rattle.wc_objects.proofs.Codecs.{Codec, mapped, refit, respell, chain_tied}
use Rattle.wc_objects.proofs.FieldCodecs.{Passes, spelt_name, name_codec, IsText, text_codec}
use Rattle.wc_objects.proofs.CountCodecs.{each_both, both_tests, both_facts}
use Rattle.wc_objects.proofs.ItemCodecs.{IsItem}
use Rattle.wc_objects.proofs.HdaCodecs.{null_hda, path_of, keys_of, spelt_items, spelt_after, out_hda, null_hda_codec, ItemsOf, items_codec}

-- a path has a name
path_positive : (path : List ℕ) (d : ℕ) → depth_of path ≡ Some d → 0 < d
path_positive path d e = by_test (is_path path) e
  where
    by_test : (b : Bool) → cond b (Some (length (names_of path))) None ≡ Some d → 0 < d
    by_test true t = let n : length (names_of path) ≡ d = cc in let b = begins 47 path in omega (arith, n, ap length b.are)
    by_test false t = absurd cc

abbrev text_of : Option (List ℕ) → List ℕ
text_of None = []
text_of (Some text) = text

abbrev keys_text : HdaValue → List ℕ
keys_text h = text_of (keys_of h)

abbrev KeyedOf : List ℕ → List ℕ → HdaValue → Type 0
KeyedOf path keys h = (items : List HdaItem) × (h ≡ hda_of (Some path) (Some keys) items) × ItemsOf (depth_of path) (kinds_of keys) items

abbrev OnPath : List ℕ → HdaValue → Type 0
OnPath path h = Passes (keeps Keys) (keys_text h) × KeyedOf path (keys_text h) h

keys_are : (path keys : List ℕ) (h : HdaValue) → KeyedOf path keys h → keys_of h ≡ Some keys
keys_are path keys h f = ap keys_of f.1 ∙ ap (λ x. x.keys) (out_hda (Some path) (Some keys) f.0)

path_codec : (path : List ℕ) → Codec (hda_after (Some path)) spelt_after (OnPath path)
unfolding text_bytes
path_codec path =
    respell (hda_after (Some path)) (λ h. spelt_name (keys_text h) ++ spelt_items h) spelt_after (OnPath path)
    (λ h f. ap (λ (t : Option (List ℕ)). text_bytes t ++ spelt_items h) (sym (keys_are path (keys_text h) h f.1)))
    (chain_tied (name_by (keeps Keys)) spelt_name (Passes (keeps Keys)) (λ whole keys rest. items_by (depth_of path) (kinds_of keys) rest >>= made_of (hda_of (Some path) (Some keys))) spelt_items (KeyedOf path) keys_text
    (λ keys h f. ap text_of (keys_are path keys h f)) (name_codec (keeps Keys))
    (λ whole keys k. mapped (items_by (depth_of path) (kinds_of keys)) (with_count item_bytes) (ItemsOf (depth_of path) (kinds_of keys)) (hda_of (Some path) (Some keys)) spelt_items
    (items_codec (depth_of path) (kinds_of keys) (path_positive path))
    (λ items f. ap (λ x. with_count item_bytes x.items) (out_hda (Some path) (Some keys) items))))

-- ---- with or without a path

abbrev HdaOf : Option (List ℕ) → HdaValue → Type 0
HdaOf None h = h ≡ null_hda
HdaOf (Some path) h = OnPath path h

after_codec : (path : Option (List ℕ)) → Codec (hda_after path) spelt_after (HdaOf path)
after_codec None = null_hda_codec
after_codec (Some path) = path_codec path

tells_path : (path : Option (List ℕ)) (h : HdaValue) → HdaOf path h → path_of h ≡ path
tells_path None h f = ap path_of f ∙ ap (λ x. x.path) (out_hda None None [])
tells_path (Some path) h f = ap path_of f.1.1 ∙ ap (λ x. x.path) (out_hda (Some path) (Some (keys_text h)) f.1.0)

abbrev MadeHda : HdaValue → Option (List ℕ) → Type 0
MadeHda h path = IsText (keeps Path) path × HdaOf path h

abbrev pub IsHda : HdaValue → Type 0
IsHda h = (hda_is h ≡ true) × HdaWithin h

abbrev PartsAre : Option (List ℕ) → Option (List ℕ) → List HdaItem → Type 0
PartsAre path keys items = (hda_parts_are path keys items ≡ true) × AllByRecursion ItemWithin items

depth_is : (path : List ℕ) (d : ℕ) → is_path path ≡ true → depth_of path ≡ Some d → d ≡ length (names_of path)
depth_is path d t e = let k : Some (length (names_of path)) ≡ Some d = (let y = rw t at e in y) in cc

parts_on_path : (path keys : List ℕ) (items : List HdaItem) → Passes (keeps Path) path → Passes (keeps Keys) keys → ItemsOf (depth_of path) (kinds_of keys) items → PartsAre (Some path) (Some keys) items
parts_on_path path keys items p k f =
    let a = and_parts (is_utf8 path) (is_path path) p in
    let b = and_parts (is_utf8 keys) (is_some (kinds_of keys)) k in
    let depth = length (names_of path) in
    let each : AllByRecursion (IsItem depth (kinds_of keys)) items = subst (λ (d : ℕ). AllByRecursion (IsItem d (kinds_of keys)) items) (depth_is path f.0 a.1 f.1) f.3 in
    let tests = both_tests (item_of depth (kinds_of keys)) ItemWithin items each in (
      and_from (is_utf8 path && is_path path && is_utf8 keys && is_some (kinds_of keys)) (list_all (λ item. item_of depth (kinds_of keys) item) items)
          (and_from (is_utf8 path && is_path path && is_utf8 keys) (is_some (kinds_of keys)) (and_from (is_utf8 path && is_path path) (is_utf8 keys) p b.0) b.1) tests,
      both_facts (item_of depth (kinds_of keys)) ItemWithin items each,
    )

to_parts : (h : HdaValue) (path : Option (List ℕ)) → MadeHda h path → PartsAre (out-Hda h).path (out-Hda h).keys (out-Hda h).items
to_parts h None f = subst (λ x. PartsAre x.path x.keys x.items) (sym (ap out-Hda f.1 ∙ out_hda None None [])) (refl, tt)
to_parts h (Some path) f =
    subst (λ x. PartsAre x.path x.keys x.items) (sym (ap out-Hda f.1.1.1 ∙ out_hda (Some path) (Some (keys_text h)) f.1.1.0)) (parts_on_path path (keys_text h) f.1.1.0 f.0 f.1.0 f.1.1.2)

no_item : (items : List HdaItem) → eqb (length items) 0 ≡ true → items ≡ []
no_item [] t = refl
no_item (item ∷ items) t = absurd (omega (arith, eqb-true (length (item ∷ items)) 0 t))

from_parts : (h : HdaValue) (path keys : Option (List ℕ)) (items : List HdaItem) → h ≡ hda_of path keys items → keys_of h ≡ keys → PartsAre path keys items → MadeHda h path
from_parts h None None items e k f = (tt, e ∙ ap (hda_of None None) (no_item items f.0))
from_parts h None (Some keys) items e k f = absurd (let y = f.0 in cc)
from_parts h (Some path) None items e k f = absurd (let y = f.0 in cc)
from_parts h (Some path) (Some keys) items e k f =
    let depth = length (names_of path) in
    let a = and_parts (is_utf8 path && is_path path && is_utf8 keys && is_some (kinds_of keys)) (list_all (λ item. item_of depth (kinds_of keys) item) items) f.0 in
    let b = and_parts (is_utf8 path && is_path path && is_utf8 keys) (is_some (kinds_of keys)) a.0 in
    let c = and_parts (is_utf8 path && is_path path) (is_utf8 keys) b.0 in
    let d = and_parts (is_utf8 path) (is_path path) c.0 in
    let deep : depth_of path ≡ Some depth = rw d.1 refl in
    let own : keys ≡ keys_text h = sym (ap text_of k) in
    let on : Passes (keeps Keys) keys × KeyedOf path keys h = (and_from (is_utf8 keys) (is_some (kinds_of keys)) c.1 b.1, (items, e, (depth, deep, b.1, each_both (item_of depth (kinds_of keys)) ItemWithin items a.1 f.1))) in
    (c.0, subst (λ (t : List ℕ). Passes (keeps Keys) t × KeyedOf path t h) own on)

to_hda : (h : HdaValue) → MadeHda h (path_of h) → IsHda h
unfolding hda_is HdaWithin
to_hda h f = to_parts h (path_of h) f

from_hda : (h : HdaValue) → IsHda h → MadeHda h (path_of h)
unfolding hda_is HdaWithin
from_hda h f = from_parts h (path_of h) (keys_of h) (out-Hda h).items (sym (roll-out-Hda h)) refl f

pub hda_codec : Codec hda_at hda_bytes IsHda
unfolding hda_at hda_bytes
hda_codec =
    refit hda_at hda_bytes (λ h. MadeHda h (path_of h)) IsHda to_hda from_hda
    (chain_tied (text_by (keeps Path)) text_bytes (IsText (keeps Path)) (λ whole path rest. hda_after path rest) spelt_after HdaOf path_of tells_path (text_codec (keeps Path)) (λ whole path h. after_codec path))
