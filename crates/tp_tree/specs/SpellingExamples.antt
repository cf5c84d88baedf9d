-- Phrases and sources whose spelling tells where parentheses and spaces stand.
use Rattle.std.specs.Prelude.{◌≡◌, ℕ, pos, List, [], ◌∷◌, codes}
use Rattle.tp_tree.specs.declared.operator.Op.{Op}
use Rattle.tp_tree.specs.declared.operator.Op.TheVariants as op
use Rattle.tp_tree.specs.declared.operator.Bare.TheVariants as b
use Rattle.tp_tree.specs.declared.operator.Form.TheVariants as f
use Rattle.tp_tree.specs.Tree.{PhraseTree, phrase, KindTree, number, name, list, size, index, minus, next, negation, binary, conjunction, choice, choice_else, while, repeat, for, forall, exists, bare, form, call, phrases_of}
use Rattle.tp_tree.specs.Spelling.{phrase_spelling, source_spelling}

abbrev it : KindTree → PhraseTree
it k = phrase 0 k

abbrev number_at : ℕ → PhraseTree
number_at n = it (number (pos n))

abbrev minus_one : PhraseTree
minus_one = it (minus (number_at 1))

abbrev A : PhraseTree
A = it (name (codes "A"))

abbrev B : PhraseTree
B = it (name (codes "B"))

abbrev C : PhraseTree
C = it (name (codes "C"))

abbrev skip : PhraseTree
skip = it (bare b.Skip)

abbrev items : List PhraseTree → PhraseTree
items ps = it (list (phrases_of ps))

abbrev both : PhraseTree → PhraseTree → PhraseTree
both p q = it (conjunction (phrases_of (p ∷ q ∷ [])))

abbrev joined : Op → PhraseTree → PhraseTree → PhraseTree
joined o p q = it (binary o p q)

abbrev if_then : PhraseTree → PhraseTree → PhraseTree
if_then p q = it (choice p q)

abbrev len_one : PhraseTree
len_one = it (form f.Len (phrases_of (number_at 1 ∷ [])))

abbrev reads : PhraseTree → List ℕ → Type 0
reads p text = phrase_spelling p ≡ text

pub record SpellingExamples : Type 0 where
  pub source : source_spelling
      (record {
        definitions = [];
        main = both (joined op.Chop len_one skip)
            (joined op.Equal A (items (minus_one ∷ number_at 2 ∷ [])));
      })
      ≡ codes "run (len(1) ; skip) and A = <-1, 2>.\n"
  pub definition : source_spelling
      (record {
        definitions = record {
          name = codes "p";
          at = 0;
          parameters = codes "X" ∷ codes "n" ∷ [];
          body = joined op.Equal (it (name (codes "X"))) (it (name (codes "n")));
        } ∷ [];
        main = it (call (codes "p") (phrases_of (A ∷ number_at 1 ∷ [])));
      })
      ≡ codes "define p(X, n) = X = n.\nrun p(A, 1).\n"
  pub arrow : reads (joined op.Arrow A (number_at 1)) (codes "A <- 1")
  pub less : reads (joined op.Less A minus_one) (codes "A < -1")
  pub empty_list : reads (joined op.Differs A (items [])) (codes "A <> <>")
  pub list_left : reads (joined op.Equal (items (number_at 1 ∷ [])) B) (codes "<1> = B")
  pub for_bound : reads (it (for (codes "i") minus_one skip)) (codes "for i < -1 do skip")
  pub forall_bound : reads (it (forall (codes "i") A (joined op.Chop skip skip)))
      (codes "forall i < A : skip ; skip")
  pub chop_right : reads (joined op.Chop skip (if_then A skip)) (codes "skip ; (if A then skip)")
  pub then_part : reads (it (choice_else A (if_then B skip) (it (bare b.Empty))))
      (codes "if A then (if B then skip) else empty")
  pub else_part : reads (it (choice_else A skip (if_then B skip)))
      (codes "if A then skip else if B then skip")
  pub chain : reads (both (both A B) C) (codes "(A and B) and C")
  pub differences : reads (joined op.Minus (joined op.Minus A B) C) (codes "A - B - C")
  pub difference_right : reads (joined op.Minus A (joined op.Minus B C)) (codes "A - (B - C)")
  pub chops : reads (joined op.Chop A (joined op.Chop B C)) (codes "A ; B ; C")
  pub chop_left : reads (joined op.Chop (joined op.Chop A B) C) (codes "(A ; B) ; C")
  pub relation_left : reads (joined op.Equal (joined op.Equal A B) C) (codes "(A = B) = C")
  pub sum_of_product : reads (joined op.Plus A (joined op.Times B C)) (codes "A + B * C")
  pub product_of_sum : reads (joined op.Times (joined op.Plus A B) C) (codes "(A + B) * C")
  pub minus_twice : reads (it (minus minus_one)) (codes "--1")
  pub minus_of_sum : reads (it (minus (joined op.Plus A B))) (codes "-(A + B)")
  pub minus_of_index : reads (it (minus (it (index A (number_at 1))))) (codes "-A[1]")
  pub index_of_minus : reads (it (index (it (minus A)) (joined op.Plus B C))) (codes "(-A)[B + C]")
  pub next_of_next : reads (it (next (it (next A)))) (codes "next next A")
  pub not_of_chain : reads (it (negation (both A B))) (codes "not (A and B)")
  pub not_of_relation : reads (it (negation (joined op.Less A B))) (codes "not A < B")
  pub size_of_sum : reads (it (size (joined op.Plus A B))) (codes "|A + B|")
  pub list_item : reads (items (if_then A B ∷ joined op.Equal A B ∷ []))
      (codes "<(if A then B), (A = B)>")
  pub operands : reads (it (form f.Display (phrases_of (if_then A B ∷ joined op.Equal A B ∷ []))))
      (codes "display(if A then B, A = B)")
  pub no_operands : reads (it (call (codes "p") (phrases_of []))) (codes "p()")
  pub quantified : reads (both (it (exists (codes "X" ∷ codes "y" ∷ []) A)) B)
      (codes "(exists X, y : A) and B")
  pub loops : reads (it (while A (it (repeat skip B)))) (codes "while A do repeat skip until B")
  pub projection : reads (joined op.Proj (joined op.Or A B) (joined op.Proj B (joined op.Chop A C)))
      (codes "A or B proj B proj (A ; C)")
