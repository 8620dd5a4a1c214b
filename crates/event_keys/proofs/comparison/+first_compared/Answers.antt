use Rattle.std.proofs.Common.{◌≡◌, rules, subst, sym, Some, None}
use Rattle.std.specs.Prelude.{IfOk}
use Rattle.std.specs.Option.{option_map}
use Rattle.expr.specs.Tree as form
use Rattle.expr.specs.Tree.{Tree}
use Rattle.expr.specs.Trees.{tree_of}
use Rattle.expr.specs.declared.term.Operator.TheVariants as operator
use Rattle.expr.specs.declared.term.Term.{the_lemmas as term_lemmas}
use Rattle.event_keys.specs.Buckets.{first_compared, conjuncts}
use Rattle.event_keys.specs.Reading.{compared_of}
use Rattle.event_keys.proofs.ConjunctLemmas.{compares_before, compares_last}
use Rattle.event_keys.proofs.comparison.+first_compared.Goals as goal

pub returns-in-Some : goal.returns-in-Some
returns-in-Some t c =
    let before = c.in-Binary-And-default-default.before.value in
    let last = c.in-Binary-And-default-default.last.value in
    let e : tree_of c.args.term.now ≡ form.binary operator.And (tree_of before) (tree_of last) = search (rules, term_lemmas) in
    let h : Some (compared_of c.in-Some.found) ≡ first_compared (conjuncts (tree_of before)) = search rules in
    subst (λ (x : Tree). Some (compared_of c.in-Some.found) ≡ first_compared (conjuncts x)) (sym e) (compares_before (tree_of before) (tree_of last) (compared_of c.in-Some.found) h)

pub returns-in-None : goal.returns-in-None
returns-in-None t c =
    let before = c.in-Binary-And-default-default.before.value in
    let last = c.in-Binary-And-default-default.last.value in
    let e : tree_of c.args.term.now ≡ form.binary operator.And (tree_of before) (tree_of last) = search (rules, term_lemmas) in
    let h : None ≡ first_compared (conjuncts (tree_of before)) = search rules in
    subst (λ (x : Tree). IfOk c.compared.result (λ r. option_map compared_of r ≡ first_compared (conjuncts x))) (sym e)
    (search (rules, compares_last, h))
