use Rattle.std.proofs.Common.{◌≡◌, ◌⊎◌, sym, subst, Ok, Err, ℕ, List}
use Rattle.std.proofs.lemmas.Result.{err_from_is_err_and}
use Rattle.json_text.specs.Nodes.{items_of, value_at}
use Rattle.intake.specs.Events.{event_of}
use Rattle.intake.specs.declared.fault.IntakeFault.TheVariants.{Memory}
use Rattle.intake.proofs.EventLists.{IsReading, reading-more, reading-fault, reading-end}
use Rattle.intake.proofs.events.events_from.Goals as goal

pub returns-in_err-event_of : goal.returns-in_err-event_of
returns-in_err-event_of c =
    let root = c.args.tree.now in
    let js = items_of (value_at root c.args.list) in
    let events = c.loop-node.events in
    let p = err_from_is_err_and c.from_residual.result c.from_residual.ensures.1 in
    let here = subst (λ (left : List ℕ). IsReading root js left events) c.in-Some.ensures.steps c.loop-node.invariant.2 in
    let failed = subst (λ (n : ℕ). (event_of n (value_at root c.in-Some.node) ≡ Err c.in_err-event_of.field-0.0) ⊎ (c.in_err-event_of.field-0.0 ≡ Memory)) c.len-index.ensures c.in_err-event_of.ensures in
    rw (p.1, p.2) (reading-fault root js c.in-Some.node c.next.new.self events c.in_err-event_of.field-0.0 here failed)

pub loop-node-preserved : goal.loop-node-preserved
loop-node-preserved c =
    let root = c.args.tree.now in
    let js = items_of (value_at root c.args.list) in
    let events = c.loop-node.events in
    let here = subst (λ (left : List ℕ). IsReading root js left events) c.in-Some.ensures.steps c.loop-node.invariant.2 in
    let event = c.in_ok-event_of.field-0 in
    let is = subst (λ (n : ℕ). event_of n (value_at root c.in-Some.node) ≡ Ok event) c.len-index.ensures c.in_ok-event_of.ensures in (
      tt,
      tt,
      subst (λ events. IsReading root js c.next.new.self events) (sym c.in_ok-push.ensures.ok) (reading-more root js c.in-Some.node c.next.new.self events event here is),
    )

pub returns : goal.returns
returns c =
    let root = c.args.tree.now in
    let js = items_of (value_at root c.args.list) in
    reading-end root js c.loop-node.events (subst (λ (left : List ℕ). IsReading root js left c.loop-node.events) c.in-None.ensures.steps.0 c.loop-node.invariant.2)
