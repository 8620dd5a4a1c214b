use Rattle.std.proofs.Common.{sym, ◌∙◌, ap, List}
use Rattle.expr.specs.Reading.{is_asked}
use Rattle.cel_parse.specs.declared.frame.Frame.{Frame}
use Rattle.cel_parse.specs.Frames.{frames_of}
use Rattle.cel_parse.proofs.Stacks.{top-asks, none-asks}
use Rattle.cel_parse.proofs.frame.Stack.is_asked.Goals as goal

pub returns-in-Some : goal.returns-in-Some
returns-in-Some c = c.is_asked.ensures ∙ sym (top-asks c.deref.result.now c.in-Some.frame.now (sym c.in-Some.ensures.value)) ∙ ap (λ (xs : List Frame). is_asked (frames_of xs)) c.deref.ensures.value

pub returns-in-None : goal.returns-in-None
returns-in-None c = sym (none-asks c.deref.result.now (sym c.in-None.ensures.value)) ∙ ap (λ (xs : List Frame). is_asked (frames_of xs)) c.deref.ensures.value
