-- Each form's rule over the exact values of its parts.
use Rattle.std.proofs.Common.{◌≡◌, rules, subst, sym}
use Rattle.expr.specs.Tree as form
use Rattle.expr.specs.Tree.{Tree}
use Rattle.expr.specs.Trees.{tree_of}
use Rattle.expr.specs.declared.term.Term.{the_lemmas as term_lemmas}
use Rattle.cel_eval.specs.Operands.{Gives}
use Rattle.cel_eval.specs.Table.{worth}
use Rattle.cel_eval.proofs.JoinLemmas.{over_both}
use Rattle.cel_eval.proofs.worth.+worth.Goals as goal

pub worth-returns-in-Member : goal.worth-returns-in-Member
worth-returns-in-Member t c =
    let given = c.member.ensures (worth (tree_of c.deref-in-Member.result.now) c.args.scope.now) c.worth-in-Member.ensures in
    let h = rw (c.as_slice-in-Member.ensures, c.deref-in-Member.ensures) at given in
    let e : tree_of c.args.term.now ≡ form.member (tree_of c.in-Member.of.value) c.in-Member.name = search (rules, term_lemmas) in
    subst (λ (x : Tree). Gives (worth x c.args.scope.now) c.member.result) (sym e) h

pub worth-returns-in-Has : goal.worth-returns-in-Has
worth-returns-in-Has t c =
    let given = c.has.ensures (worth (tree_of c.deref-in-Has.result.now) c.args.scope.now) c.worth-in-Has.ensures in
    let h = rw (c.as_slice-in-Has.ensures, c.deref-in-Has.ensures) at given in
    let e : tree_of c.args.term.now ≡ form.has (tree_of c.in-Has.of.value) c.in-Has.name = search (rules, term_lemmas) in
    subst (λ (x : Tree). Gives (worth x c.args.scope.now) c.has.result) (sym e) h

pub worth-returns-in-Call : goal.worth-returns-in-Call
worth-returns-in-Call t c =
    let given = c.call.ensures (worth (tree_of c.deref-in-Call.result.now) c.args.scope.now) c.worth-in-Call.ensures in
    let h = rw (c.deref-in-Call.ensures) at given in
    let e : tree_of c.args.term.now ≡ form.call c.in-Call.function (tree_of c.in-Call.argument.value) = search (rules, term_lemmas) in
    subst (λ (x : Tree). Gives (worth x c.args.scope.now) c.call.result) (sym e) h

pub worth-returns-in-Unary : goal.worth-returns-in-Unary
worth-returns-in-Unary t c =
    let given = c.signed.ensures (worth (tree_of c.deref-in-Unary.result.now) c.args.scope.now) c.worth-in-Unary.ensures in
    let h = rw (c.deref-in-Unary.ensures) at given in
    let e : tree_of c.args.term.now ≡ form.signed c.in-Unary.sign (tree_of c.in-Unary.operand.value) = search (rules, term_lemmas) in
    subst (λ (x : Tree). Gives (worth x c.args.scope.now) c.signed.result) (sym e) h

pub worth-returns-in-Index : goal.worth-returns-in-Index
worth-returns-in-Index t c =
    let given = c.index.ensures (worth (tree_of c.deref-in-Index.result.now) c.args.scope.now) (worth (tree_of c.deref-in-Index-2.result.now) c.args.scope.now) c.worth-in-Index.ensures c.worth-in-Index-2.ensures in
    let h = rw (c.deref-in-Index.ensures, c.deref-in-Index-2.ensures) at given in
    let e : tree_of c.args.term.now ≡ form.index (tree_of c.in-Index.of.value) (tree_of c.in-Index.place.value) = search (rules, term_lemmas) in
    subst (λ (x : Tree). Gives (worth x c.args.scope.now) c.index.result) (sym e) h

pub worth-returns-in-Method : goal.worth-returns-in-Method
worth-returns-in-Method t c =
    let given = c.method.ensures (worth (tree_of c.deref-in-Method.result.now) c.args.scope.now) (worth (tree_of c.deref-in-Method-2.result.now) c.args.scope.now) c.worth-in-Method.ensures c.worth-in-Method-2.ensures in
    let h = rw (c.deref-in-Method.ensures, c.deref-in-Method-2.ensures) at given in
    let e : tree_of c.args.term.now ≡ form.method c.in-Method.kind (tree_of c.in-Method.of.value) (tree_of c.in-Method.argument.value) = search (rules, term_lemmas) in
    subst (λ (x : Tree). Gives (worth x c.args.scope.now) c.method.result) (sym e) h

pub worth-returns-in_default : goal.worth-returns-in_default
worth-returns-in_default t c =
    let given = c.binary.ensures (worth (tree_of c.deref-in_default.result.now) c.args.scope.now) (worth (tree_of c.deref-in_default-4.result.now) c.args.scope.now) c.worth-in_default.ensures c.worth-in_default-4.ensures in
    let h = rw (c.deref-in_default.ensures, c.deref-in_default-4.ensures) at given in
    let e : tree_of c.args.term.now ≡ form.binary c.in-Binary.operator (tree_of c.in-Binary.left.value) (tree_of c.in-Binary.right.value) = search (rules, term_lemmas) in
    let k = over_both c.in-Binary.operator (worth (tree_of c.in-Binary.left.value) c.args.scope.now) (worth (tree_of c.in-Binary.right.value) c.args.scope.now) c.in_default.not-Or c.in_default.not-And in
    subst (λ (x : Tree). Gives (worth x c.args.scope.now) c.binary.result) (sym e) (subst (λ x. Gives x c.binary.result) k h)
