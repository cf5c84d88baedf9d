-- The definitions of a source by their names.
use Rattle.std.proofs.Common.{refl, ap, ap₂, sym, ◌∙◌, ◌≡◌, ℕ, suc, ◌+◌, Bool, true, false, ◌||◌, cond, List, [], ◌∷◌, ◌++◌, map, Option, None, Some, slice_get, append_assoc, ◌⊎◌, inl, inr, arith}
use Rattle.std.specs.List.{list_any, position, position_from}
use Rattle.std.specs.Map.{keys_of}
use Rattle.std.specs.Option.{option_map}
use Rattle.std.specs.Str.{bytes_eq}
use Rattle.std.proofs.lemmas.Iterator.Adapters.{position_from-zero}
use Rattle.std.proofs.lemmas.List.{map-append}
use Rattle.indexmap.specs.IndexMap.{insert_entry}
use Rattle.tp_tree.specs.declared.phrase.Definition.{Definition}
use Rattle.tp_tree.specs.Read.{definition_tree}
use Rattle.tp_scope.specs.Scope as plain
use Rattle.tp_scope.specs.Scope.{Names, Called, called_from, called_of}
use Rattle.tp_scope.specs.declared.directory.Signature.{Signature}
use Rattle.tp_scope.specs.Names.{signatures_of}
use Rattle.tp_scope.specs.Seen.{signature_seen}
use Rattle.tp_scope.proofs.Apart.{one_later}

abbrev pub Entries : Type 0
Entries = List (List ℕ × Signature)

abbrev pub entry_seen : List ℕ × Signature → plain.Signature
entry_seen e = signature_seen e.0 e.1

abbrev pub called_by : (n : ℕ) → List ℕ × Signature → Called
called_by n e = record { number = n; signature = entry_seen e }

abbrev pub called_at : (n : ℕ) → Entries → (place : Option ℕ) → Option Called
called_at n es None = None
called_at n es (Some i) = option_map (called_by (n + i)) (slice_get es i)

called_behind : (n : ℕ) (d : List ℕ × Signature) (es : Entries) (o : Option ℕ) → called_at (suc n) es o ≡ called_at n (d ∷ es) (option_map suc o)
called_behind n d es None = refl
called_behind n d es (Some i) = ap (λ (k : ℕ). option_map (called_by k) (slice_get es i)) (omega arith)

called_is_from : (n : ℕ) (es : Entries) (x : List ℕ) → called_from n (map entry_seen es) x ≡ called_at n es (position_from (bytes_eq x) 0 (keys_of es))
called_is_from n [] x = refl
called_is_from n (d ∷ es) x = by (bytes_eq x d.0) (called_is_from (suc n) es x)
  where
    by : (b : Bool) → called_from (suc n) (map entry_seen es) x ≡ called_at (suc n) es (position_from (bytes_eq x) 0 (keys_of es))
        → cond b (Some (called_by n d)) (called_from (suc n) (map entry_seen es) x) ≡ called_at n (d ∷ es) (cond b (Some 0) (position_from (bytes_eq x) (0 + 1) (keys_of es)))
    by true later = ap (λ (k : ℕ). Some (called_by k d)) (omega arith)
    by false later = later ∙ (called_behind n d es (position_from (bytes_eq x) 0 (keys_of es)) ∙ ap (called_at n (d ∷ es)) (sym (one_later (bytes_eq x) 0 (keys_of es))))

-- what a call of a name calls is the entry at its place
pub called_is : (es : Entries) (x : List ℕ) → called_of (map entry_seen es) x ≡ called_at 0 es (position (bytes_eq x) (keys_of es))
called_is es x = called_is_from 0 es x ∙ ap (called_at 0 es) (sym (position_from-zero (bytes_eq x) (keys_of es)))

-- an entry of another name goes last
added_last : (es : Entries) (k : List ℕ) (s : Signature) → list_any (bytes_eq k) (keys_of es) ≡ false → insert_entry bytes_eq es k s ≡ es ++ (k, s) ∷ []
added_last [] k s none = refl
added_last (e ∷ es) k s none = by (bytes_eq k e.0) (added_last es k s) none
  where
    by : (b : Bool) → (list_any (bytes_eq k) (keys_of es) ≡ false → insert_entry bytes_eq es k s ≡ es ++ (k, s) ∷ []) → (b || list_any (bytes_eq k) (keys_of es)) ≡ false
        → cond b ((e.0, s) ∷ es) (e ∷ insert_entry bytes_eq es k s) ≡ e ∷ (es ++ (k, s) ∷ [])
    by true later none = absurd cc
    by false later none = ap (λ (fs : Entries). e ∷ fs) (later none)

module _ (es added : Entries) (k : List ℕ) (s : Signature) (d : Definition) (b : Bool) (ds : List Definition) (bs : List Bool)
    (is_added : added ≡ insert_entry bytes_eq es k s) (name : k ≡ d.name) (other : list_any (bytes_eq d.name) (keys_of es) ≡ false) where
  behind : added ≡ es ++ (d.name, s) ∷ []
  behind = is_added ∙ (ap (λ (x : List ℕ). insert_entry bytes_eq es x s) name ∙ added_last es d.name s other)

  pub names_more : keys_of added ++ map (λ e. e.name) ds ≡ keys_of es ++ d.name ∷ map (λ e. e.name) ds
  names_more =
      ap (λ (fs : Entries). keys_of fs ++ map (λ e. e.name) ds) behind
      ∙ (ap (λ (xs : Names). xs ++ map (λ e. e.name) ds) (map-append (λ e. e.0) es ((d.name, s) ∷ [])) ∙ append_assoc (keys_of es) (d.name ∷ []) (map (λ e. e.name) ds))

  pub known_more : s.parameters.now ≡ d.parameters → s.is_state ≡ b
      → map entry_seen added ++ signatures_of (map definition_tree ds) bs ≡ map entry_seen es ++ signatures_of (map definition_tree (d ∷ ds)) (b ∷ bs)
  known_more parameters is_state =
      ap (λ (fs : Entries). map entry_seen fs ++ signatures_of (map definition_tree ds) bs) behind
      ∙ (ap (λ (xs : List plain.Signature). xs ++ signatures_of (map definition_tree ds) bs) (map-append entry_seen es ((d.name, s) ∷ []))
      ∙ (append_assoc (map entry_seen es) (entry_seen (d.name, s) ∷ []) (signatures_of (map definition_tree ds) bs)
      ∙ ap₂ (λ (ps : Names) (c : Bool). map entry_seen es ++ record { name = d.name; parameters = ps; is_state = c } ∷ signatures_of (map definition_tree ds) bs) parameters is_state))

-- and none more
pub none_known : (ds : List Definition) (bs : List Bool) → (ds ≡ []) ⊎ (bs ≡ []) → signatures_of (map definition_tree ds) bs ≡ []
none_known [] bs e = refl
none_known (d ∷ ds) [] e = refl
none_known (d ∷ ds) (b ∷ bs) (inl e) = absurd cc
none_known (d ∷ ds) (b ∷ bs) (inr e) = absurd cc
