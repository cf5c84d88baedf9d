-- Values at their places, and the rows that have them.
use Rattle.std.proofs.Common.{refl, ap, sym, subst, ◌∙◌, ◌≡◌, ℕ, ◌^◌, ◌<◌, false, List, [], ◌∷◌, ◌++◌, length, map, get_or, Option, Some, Result, Ok, Err, Vec, vec_len, arith}
use Rattle.std.specs.Prelude.{OnOk, OnErr, IfSome}
use Rattle.std.specs.declared.alloc.Global.{Global}
use Rattle.std.specs.List.{All, AllByRecursion}
use Rattle.std.specs.Map.{lookup, values_of}
use Rattle.std.specs.Ordering.{nat_cmp}
use Rattle.std.specs.BTreeMap.{insert_entry, is_at}
use Rattle.std.proofs.lemmas.Map.Views.{IfSome-lookup_from_All, All-values-insert_entry}
use Rattle.std.proofs.lemmas.List.{get_or-map, get_or_append_left, length-append, length-map, map-append}
use Rattle.std.proofs.lemmas.List.Elements.{All-head, All-tail}
use Rattle.std.proofs.Math.Seq.{get_or-append_seam}
use Rattle.tp_value.specs.declared.value.Value.{Value}
use Rattle.tp_value.specs.Tree.{truth}
use Rattle.tp_value.specs.Read.{tree}
use Rattle.tp_inputs.specs.declared.ranges.Row.{Row}
use Rattle.tp_inputs.specs.Places.{IsPlaced, tree_at, HasPlace}
use Rattle.tp_inputs.specs.Model.{row_of}
use Rattle.tp_inputs.proofs.EntryLemmas.{Entries}

pub tree_found : (vs : List Value) (k : ℕ) (v : Value) → k < length vs → v ≡ get_or vs k v → tree_at vs k ≡ tree v
tree_found vs k v low is = get_or-map tree vs k v (truth false) low ∙ ap tree (sym is)

-- one value more leaves the others where they are
tree_stays : (vs : List Value) (v : Value) (k : ℕ) → k < length vs → tree_at (vs ++ v ∷ []) k ≡ tree_at vs k
tree_stays vs v k low =
    let fits : k < length (map tree vs) = let same = length-map vs tree in omega arith in
    ap (λ ts. get_or ts k (truth false)) (map-append tree vs (v ∷ [])) ∙ get_or_append_left (map tree vs) (tree v ∷ []) (truth false) k fits

pub last_placed : (vs : List Value) (v : Value) → HasPlace (vs ++ v ∷ []) (tree v) (length vs)
last_placed vs v = (
  grind (arith, length-append),
  ap (λ ts. get_or ts (length vs) (truth false)) (map-append tree vs (v ∷ [])) ∙ (ap (λ n. get_or (map tree vs ++ tree v ∷ []) n (truth false)) (sym (length-map vs tree)) ∙ get_or-append_seam (map tree vs) (tree v) [] (truth false)),
)

pub rows_stay : (vs : List Value) (v : Value) (es : Entries) → All (IsPlaced (length vs)) (values_of es) → map (row_of (vs ++ v ∷ [])) es ≡ map (row_of vs) es
rows_stay vs v [] h = refl
rows_stay vs v (e ∷ es) h =
    let first = All-head (IsPlaced (length vs)) e.1 (values_of es) h in
    ap (λ t. record { first = e.0; last = e.1.last; value = t } ∷ map (row_of (vs ++ v ∷ [])) es) (tree_stays vs v e.1.value first.1)
    ∙ ap (λ rs. row_of vs e ∷ rs) (rows_stay vs v es (All-tail (IsPlaced (length vs)) e.1 (values_of es) h))

pub ends_low : (vs : List Value) (es : Entries) → All (IsPlaced (length vs)) (values_of es) → AllByRecursion (λ r. r.last < 2 ^ 32) (map (row_of vs) es)
ends_low vs [] h = tt
ends_low vs (e ∷ es) h = ((All-head (IsPlaced (length vs)) e.1 (values_of es) h).0, ends_low vs es (All-tail (IsPlaced (length vs)) e.1 (values_of es) h))

-- ---- of a row that a map has, and of one that is put in

pub found_placed : (es : Entries) (count k : ℕ) (x : Row) → All (IsPlaced count) (values_of es) → lookup (is_at (nat_cmp k)) es ≡ Some x → IsPlaced count x
found_placed es count k x h f = subst (λ (o : Option Row). IfSome o (IsPlaced count)) f (IfSome-lookup_from_All (IsPlaced count) (is_at (nat_cmp k)) es h)

pub index_low : (values : Vec Value Global) (k : ℕ) → k < length values.items → k < vec_len values
index_low values k low = subst (λ (n : ℕ). k < n) (sym values.ok.0) low

pub insert_placed : {A B : Type 0} (r : Result A B) (count : ℕ) (es fs : Entries) (k : ℕ) (x : Row) → OnOk r (fs ≡ insert_entry nat_cmp es k x) → OnErr r (fs ≡ es) → All (IsPlaced count) (values_of es) → IsPlaced count x → All (IsPlaced count) (values_of fs)
insert_placed (Ok a) count es fs k x new same h p = subst (λ (z : Entries). All (IsPlaced count) (values_of z)) (sym new) (All-values-insert_entry nat_cmp k x (IsPlaced count) es h p)
insert_placed (Err b) count es fs k x new same h p = subst (λ (z : Entries). All (IsPlaced count) (values_of z)) (sym same) h
