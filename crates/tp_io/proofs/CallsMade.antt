-- Calls of the system, one after the other.
use Rattle.std.proofs.Common.{◌≡◌, ◌≤◌, ◌<◌, ◌+◌, ◌⊎◌, inl, inr, ℕ, zero, suc, List, [], ◌∷◌, ◌++◌, length, take, drop, Option, None, Some, IfSome, Result, Ok, Err, IfOk, true, false, Bool, refl, ap, sym, ◌∙◌, subst, append_assoc, arith}
use Rattle.std.proofs.lemmas.List.{append-nil, length-append, take_all}
use Rattle.std.proofs.Math.Seq.{take-append_seam}
use Rattle.std.specs.Io.KnownBytes.{Consumes, IsAtEnd}
use Rattle.tp_io.specs.Devices.{and_one_more}
use Rattle.tp_io.specs.declared.refusal.FileRefusal.{FileRefusal}
use Rattle.tp_io.specs.declared.refusal.WriteRefusal.{WriteRefusal}
use Rattle.tp_io.specs.declared.refusal.FileRefusal.TheVariants as file
use Rattle.tp_io.specs.declared.refusal.WriteRefusal.TheVariants as sink
use Rattle.tp_io.specs.declared.system.CallFault.{CallFault}
use Rattle.tp_io.specs.declared.system.CallFault.TheVariants as fault
use Rattle.tp_io.specs.SystemCalls.{FileCall, WriteCall, open_call, fault_in, read_call, write_call, and_these, most_calls, HaveRead, gave, OneMoreRead, ReadsOpen, HaveWritten, OneMoreWrite, WritesPiece, OneRead, OneWrite}
use Rattle.tp_io.specs.SystemCalls as S

-- one call more, by what it was
pub one_read_call : (old new : Option (List FileCall)) (k asked : ℕ) (r o : Result ℕ CallFault) → new ≡ and_one_more old (read_call k r) → k ≡ asked → r ≡ o
    → new ≡ and_these old (read_call asked o ∷ [])
one_read_call old new k asked r o h e f = h ∙ (ap (λ x. and_one_more old (read_call x r)) e ∙ ap (λ y. and_one_more old (read_call asked y)) f)

pub one_write_call : (old new : Option (List WriteCall)) (bytes : List ℕ) (r o : Result ℕ CallFault) → new ≡ and_one_more old (write_call bytes r) → r ≡ o
    → new ≡ and_these old (write_call bytes o ∷ [])
one_write_call old new bytes r o h f = h ∙ ap (λ y. and_one_more old (write_call bytes y)) f

pub one_open_call : {T : Type 0} (old new : Option (List FileCall)) (name : List ℕ) (r o : Result T CallFault) → new ≡ and_one_more old (open_call name (fault_in r)) → r ≡ o
    → new ≡ and_these old (open_call name (fault_in o) ∷ [])
one_open_call old new name r o h f = h ∙ ap (λ y. and_one_more old (open_call name (fault_in y))) f

-- no call, and calls after calls
pub no_calls : {X : Type 0} (told : Option (List X)) → told ≡ and_these told []
no_calls None = refl
no_calls (Some xs) = ap Some (sym (append-nil xs))

pub more_calls : {X : Type 0} (old mid new : Option (List X)) (xs ys : List X) → mid ≡ and_these old xs → new ≡ and_these mid ys → new ≡ and_these old (xs ++ ys)
more_calls None mid new xs ys h k = rw h at k
more_calls (Some zs) mid new xs ys h k = (rw h at k) ∙ ap Some (append_assoc zs xs ys)

more_than : {X : Type 0} (k : ℕ) (xs : List X) (x : X) → k ≤ length xs → k + 1 ≤ length (xs ++ x ∷ [])
more_than k xs x h = rw (length-append xs (x ∷ [])) (omega (arith, h))

-- a read that goes on
pub read_goes_on : (most asked k : ℕ) (before calls : List FileCall) (old new : List ℕ) → HaveRead most before (length old) → length old + asked ≤ most
    → OneRead asked calls old new (Ok true) → k ≤ length before
    → (length new ≤ most) × HaveRead most (before ++ calls) (length new) × (k + 1 ≤ length (before ++ calls))
read_goes_on most asked k before calls old new h w (inl (count, pos, le, e, is)) k-le =
    rw (is, e) (omega (arith, w, le), gave asked count h w pos le, more_than k before _ k-le)
read_goes_on most asked k before calls old new h w (inr (e, is)) k-le =
    rw (is, e) (omega (arith, w), S.again asked h w, more_than k before _ k-le)

-- and one that is the last
pub read_ends : (most asked : ℕ) (before calls : List FileCall) (old new : List ℕ) → HaveRead most before (length old) → 0 < asked → length old + asked ≤ most
    → OneRead asked calls old new (Ok false) → ReadsOpen most (before ++ calls) (Ok new)
read_ends most asked before calls old new h some w (e, is) =
    inr (rw e (record { before = before; asked = asked; read = h; some = some; within = w; last = ap (λ xs. before ++ xs) is }))

pub read_fails : (most asked : ℕ) (before calls : List FileCall) (old new : List ℕ) (r : FileRefusal) → HaveRead most before (length old) → 0 < asked → length old + asked ≤ most
    → OneRead asked calls old new (Err r) → ReadsOpen most (before ++ calls) (Err r)
read_fails most asked before calls old new file.Failed h some w is =
    (length old, inl (record { before = before; asked = asked; read = h; some = some; within = w; last = ap (λ xs. before ++ xs) is }))
read_fails most asked before calls old new file.NoMemory h some w (inl is) = (length old, inr (rw (is, append-nil before) h))
read_fails most asked before calls old new file.NoMemory h some w (inr (inl is)) =
    (length old, inl (record { before = before; asked = asked; read = h; some = some; within = w; last = ap (λ xs. before ++ xs) is }))
read_fails most asked before calls old new file.NoMemory h some w (inr (inr (count, pos, le, is))) =
    (length old + count, inr (rw is (gave asked count h w pos le)))

-- bytes that are consumed in parts, to the end or to as many as are wanted
pub Consumes_more : (old mid new : Option (List ℕ)) (xs ys : List ℕ) → Consumes old mid xs → Consumes mid new ys → Consumes old new (xs ++ ys)
Consumes_more None mid new xs ys h k = tt
Consumes_more (Some a) None new xs ys h k = absurd h
Consumes_more (Some a) (Some b) None xs ys h k = absurd k
Consumes_more (Some a) (Some b) (Some c) xs ys h k = h ∙ (ap (λ l. xs ++ l) k ∙ sym (append_assoc xs ys c))

pub first_of_all : (all rest : Option (List ℕ)) (items : List ℕ) (most : ℕ) → Consumes all rest items → length items ≡ most → IfSome all (λ xs. items ≡ take most xs)
first_of_all None rest items most h e = tt
first_of_all (Some a) None items most h e = absurd h
first_of_all (Some a) (Some b) items most h e =
    sym (ap (λ k. take k a) (sym e) ∙ (ap (λ l. take (length items) l) h ∙ take-append_seam items b))

pub all_of_it : (all rest : Option (List ℕ)) (items : List ℕ) (most : ℕ) → Consumes all rest items → IsAtEnd rest → length items ≤ most → IfSome all (λ xs. items ≡ take most xs)
all_of_it None rest items most h end le = tt
all_of_it (Some a) None items most h end le = absurd h
all_of_it (Some a) (Some b) items most h end le =
    let whole : a ≡ items = h ∙ (ap (λ l. items ++ l) end ∙ append-nil items) in
    sym (ap (λ l. take most l) whole ∙ take_all most items le)

-- a write that goes on
pub write_goes_on : (piece : List ℕ) (k n count : ℕ) (before calls : List WriteCall) → HaveWritten piece before n → n < length piece → count + n ≤ length piece
    → OneWrite (drop n piece) calls (Ok count) → k ≤ length before
    → HaveWritten piece (before ++ calls) (n + count) × (k + 1 ≤ length (before ++ calls))
write_goes_on piece k n count before calls h lt le (inl (pos, is)) k-le =
    rw is (S.took count h pos (omega (arith, le)), more_than k before _ k-le)
write_goes_on piece k n count before calls h lt le (inr (e, is)) k-le =
    let stays : n ≡ n + count = omega (arith, e) in
    rw is (subst (λ m. HaveWritten piece (before ++ write_call (drop n piece) (Err fault.Interrupted) ∷ []) m) stays (S.again h lt), more_than k before _ k-le)

-- and one that fails
pub write_fails : (T : Type 0) (piece : List ℕ) (n : ℕ) (before calls : List WriteCall) (r : WriteRefusal) → HaveWritten piece before n → n < length piece
    → OneWrite (drop n piece) calls (Err r) → WritesPiece {T = T} piece (before ++ calls) (Err r)
write_fails T piece n before calls sink.Failed h lt (inl is) =
    inl (record { before = before; count = n; written = h; some = lt; last = ap (λ xs. before ++ xs) is })
write_fails T piece n before calls sink.Failed h lt (inr is) =
    inr (inl (record { before = before; count = n; written = h; some = lt; last = ap (λ xs. before ++ xs) is }))
write_fails T piece n before calls sink.NoMemory h lt is =
    record { before = before; count = n; written = h; some = lt; last = ap (λ xs. before ++ xs) is }

pub Consumes_none : (told : Option (List ℕ)) → Consumes told told []
Consumes_none None = tt
Consumes_none (Some a) = refl

-- what holds of one holds of some
pub of_some : {T E X : Type 0} (r : Result T E) (P : T → X → Type 0) (x : X) → IfOk r (λ b. P b x) → IfOk r (λ b. (y : X) × P b y)
of_some (Ok b) P x h = (x, h)
of_some (Err e) P x h = tt
