-- What a fit state has ready for the stores: the next numbers are new to each of them, a function's window rule is in
-- its range, and its window has room.
use Rattle.std.proofs.Common.{◌≡◌, ℕ, ◌+◌, ◌≤◌, ◌==◌, true, false, List, find, Option, Some, None, IfSome, refl, subst, arith}
use Rattle.std.specs.List.{AllByRecursion}
use Rattle.kinds.specs.Cells.{has_issue}
use Rattle.kinds.specs.Queue.{has_number}
use Rattle.kinds.specs.Windows as windows
use Rattle.kinds.specs.Windows.{IsRule, has_room}
use Rattle.kinds.specs.declared.cell.IssueEntry.{IssueEntry}
use Rattle.kinds.specs.declared.seen.SeenEntry.{SeenEntry}
use Rattle.kinds.specs.declared.store.Rule.{Rule}
use Rattle.kinds.specs.declared.window.Window.{Window}
use Rattle.kinds.specs.declared.window.Window.TheVariants as window
use Rattle.kinds.specs.declared.window.WindowRule.{WindowRule}
use Rattle.kinds.specs.declared.window.WindowRule.TheVariants as rule
use Rattle.functions.specs.declared.entry.FunctionEntry.{FunctionEntry}
use Rattle.lists.proofs.Elements.{all-weaker}
use Rattle.run_model.specs.Events.{window_of, window_rule_of}
use Rattle.run_model.specs.Fit.{IsFit, IsIssueFit, IsItemFit, IsRuleFit, IsWaitFit, IsWindowFit}
use Rattle.run_model.specs.Sound.{Suits}
use Rattle.run_model.specs.State.{State, Issue, Invocation, Sleep, Waiting, in_cells, issue_entries}
use Rattle.run_model.proofs.Apart.{all-none, not-same}
use Rattle.run_model.proofs.FitWindows.{is-before}
use Rattle.run_model.proofs.Kept.{IsFunction, MayJoin}
use Rattle.run_model.proofs.Members.{all-map}

-- a window that is as its rule says has room for it
suits-room : (w : Window) (r : WindowRule) → Suits w r → has_room r (Some w) ≡ true
suits-room (window.Debounce number version value event first due) (rule.Debounce d) h = refl
suits-room (window.Debounce number version value event first due) (rule.Batch b) h = h
suits-room (window.Batch number version value events due) (rule.Debounce d) h = h
suits-room (window.Batch number version value events due) (rule.Batch b) h = h

-- ## New numbers

-- where no entry's number is over a count, none has the next one
pub none-next : {X : Type 0} (part : X → ℕ) (count : ℕ) (xs : List X) → AllByRecursion (λ x. part x ≤ count) xs
    → find (λ x. (count + 1) == part x) xs ≡ None
none-next part count xs h =
    all-none (λ x. (count + 1) == part x) xs
    (all-weaker (λ x. part x ≤ count) (λ x. ((count + 1) == part x) ≡ false) xs
    (λ x (low : part x ≤ count). not-same (count + 1) (part x) (λ same. omega (arith, low, same))) h)

module _ (s : State) (h : IsFit s) where
  pub new-item : find (has_number (s.entries + 1)) s.items ≡ None
  new-item = none-next (λ i. i.number) s.entries s.items
      (all-weaker (IsItemFit s.entries) (λ i. i.number ≤ s.entries) s.items (λ i (k : IsItemFit s.entries i). k.number)
      h.calls_fit.queued)

  pub new-call : find (has_issue (s.calls + 1)) (issue_entries s) ≡ None
  new-call = none-next (λ (e : IssueEntry). e.issue) s.calls (issue_entries s)
      (all-map (λ (e : IssueEntry). e.issue ≤ s.calls) in_cells s.issues
      (all-weaker (IsIssueFit s.calls s.entries) (λ (i : Issue). i.call ≤ s.calls) s.issues
      (λ i (k : IsIssueFit s.calls s.entries i). k.call) h.calls_fit.open_calls))

  pub new-sleep : find (λ (e : Sleep). (s.entries + 1) == e.number) s.sleeps ≡ None
  new-sleep = none-next (λ (e : Sleep). e.number) s.entries s.sleeps h.times_fit.sleep_numbers

  pub new-invocation : find (λ (e : Invocation). (s.entries + 1) == e.number) s.invocations ≡ None
  new-invocation =
      none-next (λ (e : Invocation). e.number) s.entries s.invocations h.times_fit.invocation_numbers

  pub new-wait : find (λ (w : Waiting). (s.entries + 1) == w.wait.number) s.waits ≡ None
  new-wait = none-next (λ (w : Waiting). w.wait.number) s.entries s.waits
      (all-weaker (IsWaitFit s.events s.entries s.texts) (λ (w : Waiting). w.wait.number ≤ s.entries) s.waits
      (λ w (k : IsWaitFit s.events s.entries s.texts w). k.number) h.conditions_fit.each_wait)

  pub new-rule : find (λ (r : Rule). (s.entries + 1) == r.number) s.rules ≡ None
  new-rule = none-next (λ (r : Rule). r.number) s.entries s.rules
      (all-weaker (IsRuleFit s.events s.entries s.texts) (λ (r : Rule). r.number ≤ s.entries) s.rules
      (λ r (k : IsRuleFit s.events s.entries s.texts r). k.number) h.conditions_fit.each_rule)

  pub new-window : find (windows.has_number (s.entries + 1)) s.windows ≡ None
  new-window = none-next windows.number_of s.entries s.windows
      (all-weaker (IsWindowFit s.events s.entries s.versions) (λ w. windows.number_of w ≤ s.entries) s.windows
      (λ w (k : IsWindowFit s.events s.entries s.versions w). k.number) h.windows_fit.each)

  pub new-seen : find (λ (e : SeenEntry). (s.events + 1) == e.number) s.seen ≡ None
  new-seen = none-next (λ (e : SeenEntry). e.number) s.events s.seen h.events_fit.seen_numbers

  -- ## A function's windows

  pub rule-in-range : (f : FunctionEntry) (r : WindowRule) → IsFunction f s → window_rule_of f.function ≡ Some r
      → IsRule r
  rule-in-range f r there e =
      subst (λ found. IfSome found IsRule) e (h.functions_fit.each f there).range.window

  pub window-has-room : (f : FunctionEntry) (r : WindowRule) (value : List ℕ) (event : ℕ) → MayJoin f r event s
      → has_room r (window_of f.version value s) ≡ true
  window-has-room f r value event may = by_window (window_of f.version value s) refl
    where
      by_window : (found : Option Window) → window_of f.version value s ≡ found → has_room r found ≡ true
      by_window None e = refl
      by_window (Some w) e = suits-room w r (is-before f r value event s may h w e).room
