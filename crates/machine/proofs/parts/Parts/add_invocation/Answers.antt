use Rattle.std.proofs.Common.{◌∙◌, ◌+◌, ◌++◌, ◌∷◌, [], ap}
use Rattle.machine.proofs.HeldInvocations.{held-awaited, invocations-below}
use Rattle.machine.proofs.parts.Parts.add_invocation.Goals as goal

pub add-requires : goal.add-requires
add-requires c = record {
  below = invocations-below c.args.self.now c.in_ok-number.number c.in_ok-number.ensures.number c.requires.held;
}

pub returns : goal.returns
returns c =
    let m = c.args.self.now in
    held-awaited m c.args.run c.args.hash c.args.child c.args.timeout c.next_entry.new.self c.add.new.self
    c.in_ok-number.ensures.counted
    (c.in_ok-add.ensures.ok
    ∙ ap (λ n. m.invocations ++ (record {
      number = n;
      run = c.args.run;
      hash = c.args.hash;
      child = c.args.child;
      due = c.in_ok-due.due;
    }) ∷ []) c.in_ok-number.ensures.number
    ∙ ap (λ d. m.invocations ++ (record {
      number = m.counts.entries + 1;
      run = c.args.run;
      hash = c.args.hash;
      child = c.args.child;
      due = d;
    }) ∷ []) c.in_ok-due.ensures) c.requires.held
