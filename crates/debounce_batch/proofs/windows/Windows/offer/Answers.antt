use Rattle.std.proofs.Common.{◌≡◌, Some, sym, ◌∙◌, ap, subst}
use Rattle.std.specs.List.{find}
use Rattle.std.specs.Option.{option_map}
use Rattle.kinds.specs.Windows.{is_of, is_full, others, place_of, version_of, value_of, insert_window}
use Rattle.debounce_batch.proofs.Offers.{opened_full, opened_open, joined_full, joined_place}
use Rattle.debounce_batch.proofs.windows.Windows.offer.Goals as goal

pub returns-then-is_full-clause-ok : goal.returns-then-is_full-clause-ok
returns-then-is_full-clause-ok c = opened_full c.args.rule.now c.args.version c.args.value.now c.args.event c.args.t c.args.number c.args.self.now (ap (λ v. find (is_of c.args.version v) c.args.self.now) (sym c.in_ok-clone.ensures.cases) ∙ sym c.in-None.ensures.value) (ap (is_full c.args.rule.now) (sym c.in_ok-window-in-None.ensures.window) ∙ sym c.is_full.ensures ∙ c.if-is_full.true)

pub returns-then-is_full-2-clause-ok : goal.returns-then-is_full-2-clause-ok
returns-then-is_full-2-clause-ok c =
    c.close.ensures ∙ ap (λ v. others c.args.version v c.args.self.now) c.in_ok-clone.ensures.cases
    ∙ joined_full c.args.rule.now c.args.version c.args.value.now c.args.event c.args.t c.args.number c.args.self.now c.in-Some.window.now (ap (λ v. find (is_of c.args.version v) c.args.self.now) (sym c.in_ok-clone.ensures.cases) ∙ sym c.in-Some.ensures.value) (ap (is_full c.args.rule.now) (sym c.in_ok-window-in-Some.ensures.window) ∙ sym c.is_full-in-Some.ensures ∙ c.if-is_full-2.true)

pub replace-requires-clause-place : goal.replace-requires-clause-place
replace-requires-clause-place c =
    subst (λ w. option_map place_of (find (is_of (version_of w) (value_of w)) c.args.self.now) ≡ Some (place_of w)) (sym c.in_ok-window-in-Some.ensures.window)
    (joined_place c.args.rule.now c.args.version c.args.value.now c.args.event c.args.t c.args.number c.args.self.now c.in-Some.window.now (ap (λ v. find (is_of c.args.version v) c.args.self.now) (sym c.in_ok-clone.ensures.cases) ∙ sym c.in-Some.ensures.value))

pub returns-in_ok-add-in-None-clause-ok : goal.returns-in_ok-add-in-None-clause-ok
returns-in_ok-add-in-None-clause-ok c =
    c.in_ok-add-in-None.ensures.ok ∙ ap (λ w. insert_window w c.args.self.now) c.in_ok-window-in-None.ensures.window
    ∙ opened_open c.args.rule.now c.args.version c.args.value.now c.args.event c.args.t c.args.number c.args.self.now (ap (λ v. find (is_of c.args.version v) c.args.self.now) (sym c.in_ok-clone.ensures.cases) ∙ sym c.in-None.ensures.value) (ap (is_full c.args.rule.now) (sym c.in_ok-window-in-None.ensures.window) ∙ sym c.is_full.ensures ∙ c.if-is_full.false)
