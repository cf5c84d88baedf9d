use Rattle.std.proofs.Common.{◌≡◌, ◌<◌, ◌+◌, ◌++◌, ◌∷◌, [], ℕ, true, List, length, take, drop, ◌∙◌, refl, sym, ap, subst, arith}
use Rattle.tp_value.specs.declared.path.Fact.{Fact}
use Rattle.tp_store.specs.Known.{Variable, IsVariableOf, addition, refuses}
use Rattle.tp_store.specs.Answers.{IsRefusal}
use Rattle.tp_verdict.specs.Trace.{clash_somewhere}
use Rattle.tp_monitor.specs.Standing.{StandFor}
use Rattle.tp_monitor.proofs.StandLemmas.{stand_start, stand_more, stand_clash}
use Rattle.tp_monitor.proofs.FillLemmas.{seen_more, seen_split, variable_at}
use Rattle.tp_monitor.proofs.filling.add_all.Goals as goal

pub add_fact-requires : goal.add_fact-requires
add_fact-requires c =
    let facts : List Fact = c.args.facts.now in
    let i : ℕ = c.loop-fact.fact-index in
    let inside : i < length facts = omega arith in
    subst (λ (vs : List Variable). IsVariableOf vs c.fact-item.result.path.var) (sym c.loop-fact.invariant.variables) (variable_at c.args.store.now.variables facts c.requires.variables i c.fact-item.result inside c.fact-item.is)

pub loop-fact-init : goal.loop-fact-init
loop-fact-init c = record {
  variables = refl;
  sound = c.requires.sound;
  stand = stand_start c.args.store.now.facts c.requires.sound.no_clash;
}

pub returns-in-Err-Clash-clause-clash : goal.returns-in-Err-Clash-clause-clash
returns-in-Err-Clash-clause-clash c =
    let old : List Fact = c.args.store.now.facts in
    let facts : List Fact = c.args.facts.now in
    let i : ℕ = c.loop-fact.fact-index in
    let f : Fact = c.fact-item.result in
    let inside : i < length facts = omega arith in
    let kept : List Fact = c.loop-fact.store.facts in
    let refused : addition kept (f ∷ []) ≡ refuses c.in-Err-Clash.field-0-0 c.in-Err-Clash.field-0-1 = subst (IsRefusal (addition kept (f ∷ []))) c.in-Err-Clash.field-0-is c.in-Err-Clash.ensures.refused in
    let torn : clash_somewhere ((old ++ take i facts) ++ f ∷ drop (i + 1) facts) ≡ true =
    stand_clash kept (old ++ take i facts) c.loop-fact.invariant.stand f c.in-Err-Clash.field-0-0 c.in-Err-Clash.field-0-1 (drop (i + 1) facts) refused in
    λ e. sym (ap clash_somewhere (seen_split old facts i f inside c.fact-item.is)) ∙ torn

pub loop-fact-preserved : goal.loop-fact-preserved
loop-fact-preserved c =
    let old : List Fact = c.args.store.now.facts in
    let facts : List Fact = c.args.facts.now in
    let i : ℕ = c.loop-fact.fact-index in
    let f : Fact = c.fact-item.result in
    let inside : i < length facts = omega arith in
    let more : StandFor c.add_fact.new.store.facts ((old ++ take i facts) ++ f ∷ []) =
    stand_more c.loop-fact.store.facts (old ++ take i facts) c.loop-fact.invariant.stand f c.in-Ok.field-0 c.add_fact.new.store.facts c.in-Ok.ensures.news c.in-Ok.ensures.sound.no_clash c.in-Ok.ensures.added.shapes in
    record {
      variables = c.in-Ok.ensures.added.variables ∙ c.loop-fact.invariant.variables;
      sound = c.in-Ok.ensures.sound;
      stand = subst (λ (fs : List Fact). StandFor c.add_fact.new.store.facts fs) (seen_more old facts i f inside c.fact-item.is) more;
    }
