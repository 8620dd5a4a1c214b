use Rattle.std.proofs.Common.{◌∙◌}
use Rattle.machine.specs.View.{state_of}
use Rattle.machine.proofs.Next.{next-kinds, sooner-all}
use Rattle.machine.proofs.parts.Parts.next.Goals as goal

pub returns-clause-least : goal.returns-clause-least
returns-clause-least c =
    sooner-all c.next_of-sleep.result c.next_of-wait.result c.next_of-invocation.result c.next_of-window.result
    c.next_of-rule.result c.limit_of-limit.result c.earlier.result c.earlier-awaited.result c.earlier-2.result
    c.earlier-3.result c.earlier-4.result c.earlier.ensures c.earlier-awaited.ensures c.earlier-2.ensures
    c.earlier-3.ensures c.earlier-4.ensures
    ∙ next-kinds (state_of c.args.self.now) c.first.result c.first-2.result c.first-3.result c.first-4.result
    c.first-5.result c.first_limit.result c.next_of-sleep.result c.next_of-wait.result c.next_of-invocation.result
    c.next_of-window.result c.next_of-rule.result c.limit_of-limit.result c.next_of-sleep.ensures
    c.next_of-wait.ensures c.next_of-invocation.ensures c.next_of-window.ensures c.next_of-rule.ensures
    c.limit_of-limit.ensures c.first.ensures.least c.first-2.ensures.least c.first-3.ensures.least
    c.first-4.ensures.least c.first-5.ensures c.first_limit.ensures

pub returns-clause-numbers : goal.returns-clause-numbers
returns-clause-numbers c = record {
  sleeps = c.first.ensures.apart;
  waits = c.first-2.ensures.apart;
  invocations = c.first-3.ensures.apart;
  windows = c.first-4.ensures.apart;
}
