-- The function of each window has a rule for windows of its kind: at each change, and so through each step.
use Rattle.std.proofs.Common.{◌≡◌, ℕ, ◌⊎◌, inl, inr, ◌+◌, ◌==◌, Bool, true, not, List, [], ◌∷◌, ◌++◌, filter, find, length, Option, Some, None, IfSome, is_some, option_map, refl, sym, ap, ◌∙◌, subst, arith, eqb-true}
use Rattle.std.specs.List.{AllByRecursion}
use Rattle.kinds.specs.Inputs.{reading}
use Rattle.kinds.specs.Moments.{last_moment}
use Rattle.kinds.specs.Windows as windows
use Rattle.kinds.specs.Windows.{after_event, is_of}
use Rattle.kinds.specs.declared.event.EventIn.{EventIn}
use Rattle.kinds.specs.declared.function.App.{App}
use Rattle.kinds.specs.declared.function.Batch.{Batch}
use Rattle.kinds.specs.declared.function.Debounce.{Debounce}
use Rattle.kinds.specs.declared.function.Function.{Function}
use Rattle.kinds.specs.declared.input.Input.{Input}
use Rattle.kinds.specs.declared.limits.Limits.{Limits}
use Rattle.kinds.specs.declared.store.Item.{Item}
use Rattle.kinds.specs.declared.window.Window.{Window}
use Rattle.kinds.specs.declared.window.Window.TheVariants as window
use Rattle.kinds.specs.declared.window.WindowRule.{WindowRule}
use Rattle.kinds.specs.declared.window.WindowRule.TheVariants as rule
use Rattle.functions.specs.Functions.{new_in}
use Rattle.functions.specs.declared.entry.FunctionEntry.{FunctionEntry}
use Rattle.lists.proofs.Elements.{all-filter, all-weaker}
use Rattle.run_model.specs.Events.{add_event, event_with, window_of, window_rule, window_rule_of}
use Rattle.run_model.specs.Fit.{HasRoom, IsFit, IsInRange, IsWindowFit}
use Rattle.run_model.specs.Laws.{IsIn}
use Rattle.run_model.specs.Machine.{fold, state_after, step, with_functions}
use Rattle.run_model.specs.Requests.{remember}
use Rattle.run_model.specs.Sound.{HasRule, HasWindows, Suits, rule_for}
use Rattle.run_model.specs.State.{State, empty, function_at, is_version_named, tidied, without_closed}
use Rattle.run_model.proofs.Dated.{all-standing}
use Rattle.run_model.proofs.FitFunctions.{IsNew, IsOldOrNew, is-new, old-or-new}
use Rattle.run_model.proofs.FitRuns.{fit-invocations, fit-record_result, fit-rules, fit-sleeps, fit-waits}
use Rattle.run_model.proofs.FitSteps.{FitBeside, fit-changes, fit-drops, fit-empty, keeps-calls, keeps-steps, moment-within}
use Rattle.run_model.proofs.FitWindows.{and-first, joined-version, opened-version}
use Rattle.run_model.proofs.Kept.{Keeps, MayJoin, freely, keeps-both, window_after, with_offer}
use Rattle.run_model.proofs.KeptReplies.{dropping}
use Rattle.run_model.proofs.KeptSteps.{KeepsSteps, kept-step}
use Rattle.run_model.proofs.Members.{all-in, in-all, in-back, in-either, in-filter, in-found, in-front}
use Rattle.run_model.proofs.SettlingLists.{found-passes}

-- ## What holds

abbrev HasRuleOf : FunctionEntry → Window → Type 0
HasRuleOf f w = f.version ≡ windows.version_of w → is_some (window_rule_of f.function) ≡ true

abbrev HaveRules : List FunctionEntry → List Window → Type 0
HaveRules fs ws = (f : FunctionEntry) → IsIn f fs → AllByRecursion (HasRuleOf f) ws

abbrev Ruled : State → Type 0
Ruled s = HaveRules (s.functions ++ s.retired) s.windows

abbrev FitAndRuled : State → Type 0
FitAndRuled s = IsFit s × Ruled s

-- ## An event is offered

after-version : (r : WindowRule) (version : ℕ) (value : List ℕ) (event m number : ℕ) (before : Option Window)
    → IfSome before (λ v. version ≡ windows.version_of v)
    → windows.version_of (after_event r version value event m number before) ≡ version
after-version r version value event m number None h = opened-version r version value event m number
after-version r version value event m number (Some v) h = joined-version r event m v ∙ sym h

found-version : (version : ℕ) (value : List ℕ) (ws : List Window)
    → IfSome (find (is_of version value) ws) (λ v. version ≡ windows.version_of v)
found-version version value ws = by_found (find (is_of version value) ws) refl
  where
    by_found : (o : Option Window) → find (is_of version value) ws ≡ o
        → IfSome o (λ v. version ≡ windows.version_of v)
    by_found None e = tt
    by_found (Some v) e =
        eqb-true version (windows.version_of v)
        (and-first (version == windows.version_of v) _ (found-passes (is_of version value) ws v e))

ruled-offered : (f : FunctionEntry) (r : WindowRule) (value : List ℕ) (event : ℕ) (s : State) → MayJoin f r event s
    → FitAndRuled s → Ruled (with_offer f r value event s)
ruled-offered f r value event s may h g there =
    all-standing (HasRuleOf g) r (window_after f r value event s) s.windows
    (λ same.
    let version : g.version ≡ f.version = same
    ∙ after-version r f.version value event s.moment (s.entries + 1) (window_of f.version value s)
    (found-version f.version value s.windows) in
    let one : f ≡ g = sym (h.0.functions_fit.one g f there may.there version) in
    subst (λ (k : FunctionEntry). is_some (window_rule_of k.function) ≡ true) one (ap is_some may.rule))
    (h.1 g there)

ruled-windows : (test : Window → Bool) (s : State) → Ruled s → Ruled (record s { windows = filter test s.windows })
ruled-windows test s h f there = all-filter (HasRuleOf f) test s.windows (h f there)

ruled-accepted : (event : EventIn) (id : Option (List ℕ)) (s : State) → Ruled s
    → Ruled (add_event (event_with event s) (remember id s))
ruled-accepted event None s h = h
ruled-accepted event (Some id) s h = h

-- ## The changes

keeps-ruled : Keeps FitAndRuled
keeps-ruled = freely FitAndRuled (record {
  accepts = λ event id s new h. (fit-changes.accepts event id s new h.0, ruled-accepted event id s h.1);
  starts = λ f event parent s there given h. (fit-changes.starts f event parent s there given h.0, h.1);
  fills = λ f r value event s may full h.
      (fit-changes.fills f r value event s may full h.0, ruled-offered f r value event s may h);
  fires = λ f w s there stands h. (
    fit-changes.fires f w s there stands h.0,
    ruled-windows (λ v. not (windows.has_number (windows.number_of w) v)) s h.1,
  );
  joins = λ f r value event s may full h.
      (fit-changes.joins f r value event s may full h.0, ruled-offered f r value event s may h);
  windows_go = λ number s h. (
    fit-changes.windows_go number s h.0,
    ruled-windows (λ v. not (windows.has_number number v)) s h.1,
  );
  rules = λ r event c s there e h. (fit-changes.rules r event c s there e h.0, h.1);
  finds_out = λ r s there h. (fit-changes.finds_out r s there h.0, h.1);
  wants = λ r s live h. (fit-changes.wants r s live h.0, h.1);
  plans = λ r name s live new h. (fit-changes.plans r name s live new h.0, h.1);
  sleeps = λ r name t s live new h. (fit-changes.sleeps r name t s live new h.0, h.1);
  waits = λ r name event t given s live new h. (fit-changes.waits r name event t given s live new h.0, h.1);
  pends = λ r name s live new h. (fit-changes.pends r name s live new h.0, h.1);
  invokes = λ r name child t s there h. (fit-changes.invokes r name child t s there h.0, h.1);
  ends = λ r status s live h. (fit-changes.ends r status s live h.0, h.1);
}) (record {
  records = λ run name result s h. (fit-record_result run name result s h.0, h.1);
  sleeps_go = λ test s h. (fit-sleeps test s h.0, h.1);
  waits_go = λ test s h. (fit-waits test s h.0, h.1);
  invocations_go = λ test s h. (fit-invocations test s h.0, h.1);
  rules_go = λ test s h. (fit-rules test s h.0, h.1);
})

ruled-registered : (app : App) (s : State) → FitAndRuled s → Ruled (with_functions app s)
ruled-registered app s h f there = of_either (old-or-new app s f there)
  where
    of_either : IsOldOrNew app s f → AllByRecursion (HasRuleOf f) s.windows
    of_either (inl old) = h.1 f old
    of_either (inr new) =
        let k : IsNew s.versions (s.versions + length (new_in app s.functions)) (new_in app s.functions) f =
        is-new app.name s.versions (new_in app s.functions) f new in
        all-weaker (IsWindowFit s.events s.entries s.versions) (HasRuleOf f) s.windows
        (λ w (low : IsWindowFit s.events s.entries s.versions w) same.
        absurd (omega (arith, same, low.version, k.over)))
        h.0.windows_fit.each

ruled-tidied : (s : State) → Ruled s → Ruled (tidied s)
unfolding tidied
ruled-tidied s h f there =
    of_either (in-either f s.functions (filter (is_version_named (without_closed s)) s.retired) there)
  where
    of_either : IsIn f s.functions ⊎ IsIn f (filter (is_version_named (without_closed s)) s.retired)
        → AllByRecursion (HasRuleOf f) s.windows
    of_either (inl current) = h f (in-front f s.functions s.retired current)
    of_either (inr retired) = h f (in-back f s.functions s.retired
        (in-filter (is_version_named (without_closed s)) f s.retired retired))

-- ## Steps

abbrev RuledBeside : List Item → State → Type 0
RuledBeside is s = FitBeside is s × FitAndRuled s

ruled-steps : KeepsSteps last_moment IsInRange RuledBeside
ruled-steps = record {
  calls = dropping RuledBeside (record {
    runs = λ is. keeps-both (FitBeside is) FitAndRuled (keeps-calls.runs is) keeps-ruled;
    closes = λ i s there h. let k = fit-drops.closes i s there h.0 in (k, (k.0, h.1.1));
    reopens = λ s h. let k = fit-drops.reopens s h.0 in (k, (k.0, h.1.1));
    drops = λ i is s h. (fit-drops.drops i is s h.0, h.1);
    retries = λ i is a r s live new h. let k = fit-drops.retries i is a r s live new h.0 in (k, (k.0, h.1.1));
    requeues = λ i is r s live new h. let k = fit-drops.requeues i is r s live new h.0 in (k, (k.0, h.1.1));
  });
  counts = λ s h. let k = keeps-steps.counts s h.0 in (k, (k.0, h.1.1));
  moves = λ t next s low e h. let k = keeps-steps.moves t next s low e h.0 in (k, (k.0, h.1.1));
  arrives = λ t s low on before h.
      let k = keeps-steps.arrives t s low on before.0 h.0 in (k, (k.0, h.1.1));
  issues = λ number i s next there h. let k = keeps-steps.issues number i s next there h.0 in (k, (k.0, h.1.1));
  registers = λ at app s ranges h.
      let k = keeps-steps.registers at app s ranges h.0 in (k, (k.0, ruled-registered app s h.1));
  tidies = λ s h. let k = keeps-steps.tidies s h.0 in (k, (k.0, ruled-tidied s h.1.1));
}

ruled-after : (inputs : List Input) (s : State) → AllByRecursion IsInRange inputs → RuledBeside [] s
    → RuledBeside [] (state_after s inputs)
ruled-after [] s ranges h = h
ruled-after (input ∷ inputs) s ranges h =
    ruled-after inputs (step s input).state ranges.1
    (kept-step last_moment IsInRange RuledBeside ruled-steps s input (moment-within (reading input) s h.0.0) ranges.0 h)

-- ## What follows

has-rule : (w : Window) (debounce : Option Debounce) (batch : Option Batch)
    → is_some (window_rule debounce batch) ≡ true → IfSome (window_rule debounce batch) (Suits w)
    → (f : Function) → f.debounce ≡ debounce → f.batch ≡ batch → HasRule w (rule_for w f)
has-rule (window.Debounce number version value event first due) (Some d) batch some h f e g =
    subst (λ o. HasRule (window.Debounce number version value event first due) (option_map (λ x. rule.Debounce x) o))
    (sym e) h
has-rule (window.Debounce number version value event first due) None (Some b) some h f e g = absurd (cc)
has-rule (window.Debounce number version value event first due) None None some h f e g = absurd (cc)
has-rule (window.Batch number version value events due) (Some d) batch some h f e g = absurd (cc)
has-rule (window.Batch number version value events due) None (Some b) some h f e g =
    subst (λ o. HasRule (window.Batch number version value events due) (option_map (λ x. rule.Batch x) o)) (sym g) h
has-rule (window.Batch number version value events due) None None some h f e g = absurd (cc)

window-ruled : (s : State) (w : Window) → IsIn w s.windows → FitAndRuled s → (o : Option FunctionEntry)
    → function_at (windows.version_of w) s ≡ o → IfSome o (λ f. HasRule w (rule_for w f.function))
window-ruled s w stands h None e = tt
window-ruled s w stands h (Some f) e =
    let there : IsIn f (s.functions ++ s.retired) =
    in-found (λ (g : FunctionEntry). windows.version_of w == g.version) (s.functions ++ s.retired) f e in
    let same : f.version ≡ windows.version_of w =
    sym (eqb-true (windows.version_of w) f.version
    (found-passes (λ (g : FunctionEntry). windows.version_of w == g.version) (s.functions ++ s.retired) f e)) in
    has-rule w f.function.debounce f.function.batch
    (in-all (HasRuleOf f) w s.windows stands (h.1 f there) same)
    (in-all (HasRoom f) w s.windows stands (h.0.windows_fit.room f there) same) f.function refl refl

pub windows-fold : (limits : Limits) (inputs : List Input) → AllByRecursion IsInRange inputs
    → HasWindows (fold limits inputs)
windows-fold limits inputs ranges =
    let s : State = fold limits inputs in
    let h : FitAndRuled s =
    (ruled-after inputs (empty limits) ranges
    ((fit-empty limits, tt), (fit-empty limits, λ f there. absurd there))).1 in
    record {
      apart = h.0.windows_fit.apart;
      rules = all-in (λ w. IfSome (function_at (windows.version_of w) s) (λ f. HasRule w (rule_for w f.function)))
          s.windows (λ w stands. window-ruled s w stands h (function_at (windows.version_of w) s) refl);
    }
