use Rattle.std.proofs.Common.{ℕ, false, subst, arith}
use Rattle.tp_value.specs.declared.path.Path.{Path}
use Rattle.tp_store.specs.FactMap.{outer_path}
use Rattle.tp_agenda.specs.declared.index.Index.{Index}
use Rattle.tp_agenda.specs.Index.{HasFiled, IsChained, IsPushed, equal_paths}
use Rattle.tp_agenda.proofs.Outer.{IsFiledBelow, none_filed, one_filed, all_filed}
use Rattle.tp_agenda.proofs.index.file_path.Goals as goal

-- the variable whole was filed
whole_filed : (old new : Index) (place : ℕ) (p : Path) → IsChained old → HasFiled old new place (equal_paths (outer_path p 0)) (λ r. false) → IsPushed old new place
    → IsFiledBelow old new place p 1
whole_filed old new place p chained filed pushed = one_filed old old new place p 0 (omega arith) (none_filed old place p chained) filed pushed

pub loop-count-init : goal.loop-count-init
loop-count-init c =
    let old = c.args.index.now in
    let mid = c.file_whole.new.index in
    let e = c.depth-most.ensures.value in
    let more = c.if-most-eq0.false in
    one_filed old mid c.file_item.new.index c.args.place c.args.path.now 1 (omega (arith, more, e))
    (whole_filed old mid c.args.place c.args.path.now c.requires.chained c.in_ok-file_whole.ensures.ok c.in_ok-file_whole.ensures.links)
    c.in_ok-file_item.ensures.ok c.in_ok-file_item.ensures.links

pub loop-count-preserved : goal.loop-count-preserved
loop-count-preserved c =
    let n = c.loop-count.count in
    let mid = c.loop-count.index in
    let new = c.file_part.new.index in
    let less = c.loop-count-test.true in
    let e = c.depth-most.ensures.value in
    one_filed c.args.index.now mid new c.args.place c.args.path.now n (omega (arith, less, e)) c.loop-count.invariant
    (subst (λ (q : Path). HasFiled mid new c.args.place (equal_paths q) (λ r. false)) c.in_ok-outer.ensures c.in_ok-file_part.ensures.ok) c.in_ok-file_part.ensures.links

pub returns-clause-ok : goal.returns-clause-ok
returns-clause-ok c =
    let past = c.loop-count-test.false in
    let e = c.depth-most.ensures.value in
    all_filed c.args.index.now c.loop-count.index c.args.place c.args.path.now c.loop-count.count (omega (arith, past, e)) c.loop-count.invariant
