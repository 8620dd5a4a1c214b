-- A tree that doesn't name the fresh event is worth the same with and without one.
use Rattle.std.proofs.Common.{◌≡◌, Bool, true, false, Some, None, Ok, refl, ap, ◌∙◌}
use Rattle.std.specs.Prelude.{Result, ◌||◌}
use Rattle.expr.specs.Tree as tree
use Rattle.expr.specs.Tree.{Tree, Trees}
use Rattle.expr.specs.declared.term.Source.TheVariants as source
use Rattle.json_text.specs.Grammar.{Json}
use Rattle.cel_eval.specs.Data as datum
use Rattle.cel_eval.specs.Data.{Data, Outcome, over}
use Rattle.cel_eval.specs.Operations.{member, index, has, call, text_method, signed, truth}
use Rattle.cel_eval.specs.Table.{worth, all_worth, append, binary, both, choose, then, then_all}
use Rattle.cel_eval.specs.declared.fault.EvalFault.{EvalFault}
use Rattle.event_keys.specs.Buckets.{name_fresh, names_fresh}

neither : (a b : Bool) → (a || b) ≡ false → (a ≡ false) × (b ≡ false)
neither false b h = (refl, h)
neither true b h = cc

mutual
  pub alone : (t : Tree) (j k : Json) → names_fresh t ≡ false → worth t (over j (Some k)) ≡ worth t (over j None)
  alone tree.null j k h = refl
  alone (tree.boolean b) j k h = refl
  alone (tree.number n) j k h = refl
  alone (tree.text t) j k h = refl
  alone (tree.source source.Event) j k h = refl
  alone (tree.source source.Async) j k h = cc
  alone (tree.group a) j k h = alone a j k h
  alone (tree.list items) j k h = ap (λ (r : Result Data EvalFault). then_all r (λ ds. Ok (datum.written ds))) (all_alone items j k h)
  alone (tree.member a name) j k h = ap (λ (o : Outcome). then o (λ d. member d name)) (alone a j k h)
  alone (tree.index a b) j k h =
      let p = neither (names_fresh a) (names_fresh b) h in
      ap (λ (o : Outcome). both o (worth b (over j (Some k))) index) (alone a j k p.0)
      ∙ ap (λ (o : Outcome). both (worth a (over j None)) o index) (alone b j k p.1)
  alone (tree.has a name) j k h = ap (λ (o : Outcome). then o (λ d. has d name)) (alone a j k h)
  alone (tree.call f a) j k h = ap (λ (o : Outcome). then o (call f)) (alone a j k h)
  alone (tree.method m a b) j k h =
      let p = neither (names_fresh a) (names_fresh b) h in
      ap (λ (o : Outcome). both o (worth b (over j (Some k))) (text_method m)) (alone a j k p.0)
      ∙ ap (λ (o : Outcome). both (worth a (over j None)) o (text_method m)) (alone b j k p.1)
  alone (tree.signed s a) j k h = ap (λ (o : Outcome). then o (signed s)) (alone a j k h)
  alone (tree.binary o a b) j k h =
      let p = neither (names_fresh a) (names_fresh b) h in
      ap (λ (l : Outcome). binary o l (worth b (over j (Some k)))) (alone a j k p.0)
      ∙ ap (λ (r : Outcome). binary o (worth a (over j None)) r) (alone b j k p.1)
  alone (tree.choice c a b) j k h =
      let p = neither (names_fresh c || names_fresh a) (names_fresh b) h in
      let q = neither (names_fresh c) (names_fresh a) p.0 in
      ap (λ (o : Outcome). choose (truth o) (worth a (over j (Some k))) (worth b (over j (Some k)))) (alone c j k q.0)
      ∙ ap (λ (o : Outcome). choose (truth (worth c (over j None))) o (worth b (over j (Some k)))) (alone a j k q.1)
      ∙ ap (λ (o : Outcome). choose (truth (worth c (over j None))) (worth a (over j None)) o) (alone b j k p.1)

  all_alone : (ts : Trees) (j k : Json) → name_fresh ts ≡ false → all_worth ts (over j (Some k)) ≡ all_worth ts (over j None)
  all_alone tree.none j k h = refl
  all_alone (tree.more items last) j k h =
      let p = neither (name_fresh items) (names_fresh last) h in
      ap (λ (r : Result Data EvalFault). append r (worth last (over j (Some k)))) (all_alone items j k p.0)
      ∙ ap (λ (o : Outcome). append (all_worth items (over j None)) o) (alone last j k p.1)
