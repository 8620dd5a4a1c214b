-- Each step is the automaton's, and so is the end.
use Rattle.std.proofs.Common.{◌≡◌, sym, refl, subst, length, arith}
use Rattle.std.proofs.lemmas.Result.{err_from_is_err_and}
use Rattle.json_text.proofs.Deciding.{step-decides, end-decides}
use Rattle.json_text.proofs.Whole.{reads-start, reads-hold, reads-on, faults, reads-end, reads-result}
use Rattle.json_text.specs.Reading.{Ends}
use Rattle.json_text.proofs.tree.Tree.read.Goals as goal

pub loop-at-init : goal.loop-at-init
loop-at-init c = reads-start c.args.bytes.now c.new-reader.result c.new-reader.ensures

pub loop-at-preserved : goal.loop-at-preserved
loop-at-preserved c = let i = c.loop-at.invariant in
    reads-on c.args.bytes.now c.loop-at.reader c.step.new.self c.loop-at.at _ _ i c.loop-at-test.true refl
    (c.in_ok-step.ensures c.args.bytes.now i.here (reads-hold c.args.bytes.now c.loop-at.reader c.loop-at.at _ i c.loop-at-test.true refl))

pub returns-in_err-step-clause-grammar : goal.returns-in_err-step-clause-grammar
returns-in_err-step-clause-grammar c = let i = c.loop-at.invariant in let p = err_from_is_err_and c.from_residual.result c.from_residual.ensures.1 in
    rw (p.1, p.2) (faults c.args.bytes.now c.loop-at.reader c.step.new.self c.loop-at.at _ _ i c.loop-at-test.true refl
    (c.in_err-step.ensures c.args.bytes.now i.here (reads-hold c.args.bytes.now c.loop-at.reader c.loop-at.at _ i c.loop-at-test.true refl)))

pub returns-in_err-step-clause-decided : goal.returns-in_err-step-clause-decided
returns-in_err-step-clause-decided c = let i = c.loop-at.invariant in let p = err_from_is_err_and c.from_residual.result c.from_residual.ensures.1 in
    rw (p.1, p.2) (step-decides c.args.bytes.now c.loop-at.reader c.step.new.self c.loop-at.at _ _ i c.loop-at-test.true refl
    (c.in_err-step.ensures c.args.bytes.now i.here (reads-hold c.args.bytes.now c.loop-at.reader c.loop-at.at _ i c.loop-at-test.true refl)))

pub finish-requires : goal.finish-requires
finish-requires c = let i = c.loop-at.invariant in
    let e : c.loop-at.at ≡ length c.args.bytes.now = (let t = c.loop-at-test.false in let b = c.loop-at.auto.at-end in omega (arith, t, b)) in
    (i.here, subst (λ w. Ends w c.loop-at.reader i.here) (sym i.shows.source) (reads-end c.args.bytes.now c.loop-at.reader c.loop-at.at i e))

pub returns-clause-grammar : goal.returns-clause-grammar
returns-clause-grammar c = let i = c.loop-at.invariant in
    let e : c.loop-at.at ≡ length c.args.bytes.now = (let t = c.loop-at-test.false in let b = c.loop-at.auto.at-end in omega (arith, t, b)) in
    reads-result c.args.bytes.now c.loop-at.reader c.loop-at.at i e c.finish.result
    (subst (λ w. Ends w c.loop-at.reader i.here) (sym i.shows.source) (reads-end c.args.bytes.now c.loop-at.reader c.loop-at.at i e)) (c.finish.ensures.value i.here)

pub returns-clause-decided : goal.returns-clause-decided
returns-clause-decided c = let i = c.loop-at.invariant in
    let e : c.loop-at.at ≡ length c.args.bytes.now = (let t = c.loop-at-test.false in let b = c.loop-at.auto.at-end in omega (arith, t, b)) in
    end-decides c.args.bytes.now c.loop-at.reader c.loop-at.at i e c.finish.result
    (c.finish.ensures.value i.here (subst (λ w. Ends w c.loop-at.reader i.here) (sym i.shows.source) (reads-end c.args.bytes.now c.loop-at.reader c.loop-at.at i e)))
