-- Trees are equal exactly where they are found the same.
use Rattle.std.proofs.Common.{◌≡◌, Bool, true, false, refl, ap, ap₂}
use Rattle.std.specs.Bool.{Decides}
use Rattle.std.proofs.lemmas.Bool.Decides.{Decides-int_eq, Decides-and, Decides-like}
use Rattle.tp_value.specs.Tree.{Tree, Trees, num, truth, list, nil, cons, same_truth, same_tree, same_trees, SameTreeIsEquality}

same_truth_decides : (a b : Bool) → Decides (same_truth a b) (a ≡ b)
same_truth_decides true true = (λ e. refl, λ e. refl)
same_truth_decides true false = (λ e. absurd (cc), λ e. absurd (cc))
same_truth_decides false true = (λ e. absurd (cc), λ e. absurd (cc))
same_truth_decides false false = (λ e. refl, λ e. refl)

mutual
  tree_decides : (s t : Tree) → Decides (same_tree s t) (s ≡ t)
  tree_decides (num a) (num b) = Decides-like (same_tree (num a) (num b)) (λ e. ap num e) (λ e. cc) (Decides-int_eq a b)
  tree_decides (truth a) (truth b) = Decides-like (same_tree (truth a) (truth b)) (λ e. ap truth e) (λ e. cc) (same_truth_decides a b)
  tree_decides (list a) (list b) = Decides-like (same_tree (list a) (list b)) (λ e. ap list e) (λ e. cc) (trees_decide a b)
  tree_decides (num a) (truth b) = (λ e. absurd (cc), λ e. absurd (cc))
  tree_decides (num a) (list b) = (λ e. absurd (cc), λ e. absurd (cc))
  tree_decides (truth a) (num b) = (λ e. absurd (cc), λ e. absurd (cc))
  tree_decides (truth a) (list b) = (λ e. absurd (cc), λ e. absurd (cc))
  tree_decides (list a) (num b) = (λ e. absurd (cc), λ e. absurd (cc))
  tree_decides (list a) (truth b) = (λ e. absurd (cc), λ e. absurd (cc))

  trees_decide : (s t : Trees) → Decides (same_trees s t) (s ≡ t)
  trees_decide nil nil = (λ e. refl, λ e. refl)
  trees_decide nil (cons t ts) = (λ e. absurd (cc), λ e. absurd (cc))
  trees_decide (cons s ss) nil = (λ e. absurd (cc), λ e. absurd (cc))
  trees_decide (cons s ss) (cons t ts) = Decides-like (same_trees (cons s ss) (cons t ts)) (λ e. ap₂ cons e.0 e.1) (λ e. (cc, cc)) (Decides-and _ _ (tree_decides s t) (trees_decide ss ts))

pub same_tree_is_equality : SameTreeIsEquality
same_tree_is_equality s t = tree_decides s t
