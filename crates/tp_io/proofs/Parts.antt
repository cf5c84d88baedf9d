-- Bytes that are appended in parts.
use Rattle.std.proofs.Common.{◌≡◌, ◌+◌, ◌-◌, ℕ, List, [], ◌++◌, length, take, drop, Option, None, Some, ap, sym, ◌∙◌, append_assoc, arith, length-drop}
use Rattle.std.proofs.lemmas.List.{take_all, append-nil}
use Rattle.std.proofs.Math.Seq.{take-add}
use Rattle.std.specs.Io.KnownBytes.{Appends, Keeps}

pub Appends_more : (old mid new : Option (List ℕ)) (piece : List ℕ) (a n : ℕ) → Appends old mid (take a piece) → Appends mid new (take n (drop a piece)) → Appends old new (take (a + n) piece)
Appends_more None mid new piece a n h k = tt
Appends_more (Some x) None new piece a n h k = absurd h
Appends_more (Some x) (Some y) None piece a n h k = absurd k
Appends_more (Some x) (Some y) (Some z) piece a n h k =
    k ∙ (ap (λ l. l ++ take n (drop a piece)) h ∙ (append_assoc x (take a piece) (take n (drop a piece)) ∙ ap (λ l. x ++ l) (sym (take-add a n piece))))

pub Appends_kept : (old mid new : Option (List ℕ)) (piece : List ℕ) → Appends old mid piece → Keeps mid new → Appends old new piece
Appends_kept None mid new piece h k = tt
Appends_kept (Some x) None new piece h k = absurd h
Appends_kept (Some x) (Some y) None piece h k = absurd k
Appends_kept (Some x) (Some y) (Some z) piece h k = k ∙ h

-- the rest of a list from n on
pub rest_is : (n : ℕ) (l : List ℕ) → take (length l - n) (drop n l) ≡ drop n l
rest_is n l = take_all (length l - n) (drop n l) (omega (arith, length-drop n l))

-- no bytes
pub Appends_none : (told : Option (List ℕ)) → Appends told told []
Appends_none None = tt
Appends_none (Some x) = sym (append-nil x)
