use Rattle.std.proofs.Common.{◌∙◌, ap, sym}
use Rattle.event_texts.specs.Texts.{text_at, text_or_none}
use Rattle.run_model.specs.State.{live_run}
use Rattle.machine.specs.View.{state_of}
use Rattle.machine.proofs.EndWords.{content-none, content-some}
use Rattle.machine.proofs.Told.{live-dated}
use Rattle.machine.proofs.parts.Parts.failed_content.Goals as goal

pub returns-then-is_of_failure : goal.returns-then-is_of_failure
returns-then-is_of_failure c =
    let s = state_of c.args.self.now in
    content-none (live_run c.args.run s) c.in-Some.run'.now c.args.error.now c.text_or_none-first.result.now s
    (sym c.in-Some.ensures)
    (c.text_or_none-first.ensures
    ∙ ap (λ n. text_or_none (text_at n c.args.self.now.texts.texts)) c.first.ensures)
    (sym c.is_of_failure.ensures ∙ c.if-is_of_failure.true)

pub content_of-requires : goal.content_of-requires
content_of-requires c = record {
  dated = live-dated c.args.self.now c.args.run c.in-Some.run'.now (sym c.in-Some.ensures) c.requires.held;
}

pub returns : goal.returns
returns c =
    let s = state_of c.args.self.now in
    content-some (live_run c.args.run s) c.in-Some.run'.now c.args.error.now c.text_or_none-first.result.now s
    (sym c.in-Some.ensures)
    (c.text_or_none-first.ensures
    ∙ ap (λ n. text_or_none (text_at n c.args.self.now.texts.texts)) c.first.ensures)
    c.in_ok-content_of.field-0 (sym c.is_of_failure.ensures ∙ c.if-is_of_failure.false) c.in_ok-content_of.ensures
