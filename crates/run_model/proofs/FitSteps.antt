-- A fit state stays so at each change, and so through each step.
use Rattle.std.proofs.Common.{◌≡◌, ℕ, ◌⊎◌, inl, inr, ◌+◌, ◌≤◌, ◌==◌, Bool, true, false, not, cond, List, [], ◌∷◌, ◌++◌, map, filter, min, max, Option, Some, None, refl, sym, ap, subst, arith, eqb-true}
use Rattle.std.specs.List.{AllByRecursion}
use Rattle.kinds.specs.Cells.{IsStart, later_starts}
use Rattle.kinds.specs.Inputs.{reading}
use Rattle.kinds.specs.Moments.{last_moment}
use Rattle.kinds.specs.Queue.{has_number, without_number}
use Rattle.kinds.specs.Seen.{is_remembered, remembered}
use Rattle.kinds.specs.Windows as windows
use Rattle.kinds.specs.declared.event.EventIn.{EventIn}
use Rattle.kinds.specs.declared.input.Input.{Input}
use Rattle.kinds.specs.declared.limits.Limits.{Limits}
use Rattle.kinds.specs.declared.seen.SeenEntry.{SeenEntry}
use Rattle.kinds.specs.declared.store.Bucket.{Bucket}
use Rattle.kinds.specs.declared.store.Item.{Item}
use Rattle.kinds.specs.declared.store.Pending.TheVariants as pending
use Rattle.kinds.specs.declared.window.WindowRule.{WindowRule}
use Rattle.functions.specs.declared.entry.FunctionEntry.{FunctionEntry}
use Rattle.lists.proofs.Elements.{all-filter, all-last, all-weaker}
use Rattle.event_keys.specs.Buckets.{bucket_of}
use Rattle.run_model.specs.Events.{add_event, event_with, takes_number, window_of}
use Rattle.run_model.specs.Fit.{AreCallsFit, AreConditionsFit, IsBucketOf, IsCalledFit, IsFit, IsInRange, IsIssueFit, IsItemFit, IsRuleFit, IsRunFit, IsWaitFit, item_of}
use Rattle.run_model.specs.Laws.{IsIn}
use Rattle.run_model.specs.Machine.{step}
use Rattle.run_model.specs.Replies.{again}
use Rattle.run_model.specs.Requests.{remember}
use Rattle.run_model.specs.Settle.{issue, issued, item_at, started_at}
use Rattle.run_model.specs.State.{State, Run, Issue, EndedRun, EventText, at_moment, empty, has_open_call, is_named, is_version_named, last_or, moment_at, tidied, without_closed, without_unnamed}
use Rattle.run_model.proofs.FitCounts.{fit-calls, fit-closing, fit-entries, fit-functions, fit-moment, fit-rest, fit-seen, fit-texts, more-called, more-calls}
use Rattle.run_model.proofs.FitEvents.{fit-accepted, found-left}
use Rattle.run_model.proofs.FitFunctions.{fit-registered}
use Rattle.run_model.proofs.FitRuns.{fit-add_invocation, fit-add_rule, fit-add_sleep, fit-add_wait, fit-called, fit-end_run, fit-finds_out, fit-invocations, fit-pend, fit-plan_named, fit-queue, fit-record_result, fit-rules, fit-sleeps, fit-waits, fit-want}
use Rattle.run_model.proofs.FitWindows.{fit-filled, fit-fired, fit-joined, fit-started, fit-windows_left}
use Rattle.run_model.proofs.Kept.{Changes, Keeps, freely, keeps-both, window_after, with_offer}
use Rattle.run_model.proofs.KeptReplies.{Drops, KeepsCalls, dropping}
use Rattle.run_model.proofs.KeptSteps.{KeepsSteps, all_fired, is-due, kept-step}
use Rattle.run_model.proofs.Members.{all-map, in-all, in-back, in-either, in-filter, in-found, in-front}

-- ## What is tidied

abbrev is_named_at : State → ℕ → Bool
is_named_at s number = is_named s (record { number = number; text = [] })

bucket-left : (s : State) (first : ℕ) (cond : Option (List ℕ)) (bucket : Option Bucket)
    → IsBucketOf s.texts first cond bucket → IsBucketOf (filter (is_named s) s.texts) first cond bucket
bucket-left s first cond bucket h =
    found-left (λ (e : EventText). bucket ≡ bucket_of cond e.text) (λ (e : EventText). first == e.number)
    (is_named s) (is_named_at s first) s.texts
    (λ (e : EventText) same. ap (is_named_at s) (sym (eqb-true first e.number same))) h

conditions-left : (s : State) → IsFit s
    → AreConditionsFit s.events s.entries (filter (is_named s) s.texts) s.waits s.rules
conditions-left s h =
    let left : List EventText = filter (is_named s) s.texts in
    record {
      each_wait = all-weaker (IsWaitFit s.events s.entries s.texts) (IsWaitFit s.events s.entries left) s.waits
          (λ w (k : IsWaitFit s.events s.entries s.texts w). record {
            number = k.number;
            first = k.first;
            bucket = bucket-left s w.wait.first w.wait.cond w.wait.bucket k.bucket;
          }) h.conditions_fit.each_wait;
      each_rule = all-weaker (IsRuleFit s.events s.entries s.texts) (IsRuleFit s.events s.entries left) s.rules
          (λ r (k : IsRuleFit s.events s.entries s.texts r). record {
            number = k.number;
            first = k.first;
            bucket = bucket-left s r.first r.cond r.bucket k.bucket;
          }) h.conditions_fit.each_rule;
    }

pub still-function : (f : FunctionEntry) (fs retired : List FunctionEntry) (test : FunctionEntry → Bool)
    → IsIn f (fs ++ filter test retired) → IsIn f (fs ++ retired)
still-function f fs retired test there = by_list (in-either f fs (filter test retired) there)
  where
    by_list : IsIn f fs ⊎ IsIn f (filter test retired) → IsIn f (fs ++ retired)
    by_list (inl here) = in-front f fs retired here
    by_list (inr here) = in-back f fs retired (in-filter test f retired here)

fit-closed : (s : State) → IsFit s → IsFit (without_closed s)
fit-closed s h =
    let closing : List Run = filter (λ (r : Run). has_open_call s.issues r.number) s.closing in
    fit-rest s.inputs s.starts (last_or (λ (e : EndedRun). has_open_call s.issues e.run) 1000 s.ended)
    (record s { closing = closing })
    (fit-closing closing s
    (all-filter (IsRunFit s.runs s.events s.versions) (λ (r : Run). has_open_call s.issues r.number) s.closing
    h.closing_fit) h)

fit-unnamed : (s : State) → IsFit s → IsFit (without_unnamed s)
fit-unnamed s h =
    let texts : List EventText = filter (is_named s) s.texts in
    let test : FunctionEntry → Bool = is_version_named s in
    let t : State = record s { texts = texts } in
    fit-functions s.versions s.functions (filter test s.retired) t (omega arith)
    (record {
      each = λ f there. h.functions_fit.each f (still-function f s.functions s.retired test there);
      one = λ f g a b same. h.functions_fit.one f g (still-function f s.functions s.retired test a)
          (still-function g s.functions s.retired test b) same;
    }) (λ f there. h.windows_fit.room f (still-function f s.functions s.retired test there))
    (fit-texts texts s
    (all-filter (λ (e : EventText). e.number ≤ s.events) (is_named s) s.texts h.events_fit.text_numbers)
    (conditions-left s h) h)

pub fit-tidied : (s : State) → IsFit s → IsFit (tidied s)
unfolding tidied
fit-tidied s h = fit-unnamed (without_closed s) (fit-closed s h)

-- ## Time, and calls

pub fit-arrived : (t : ℕ) (s : State) → t ≤ last_moment → IsFit s → IsFit (at_moment t s)
fit-arrived t s low h =
    let a : State = record s { moment = t } in
    let b : State = record a { seen = remembered t s.seen } in
    fit-rest s.inputs (later_starts t s.starts) s.ended b
    (fit-seen (remembered t s.seen) a
    (all-filter (λ (e : SeenEntry). e.number ≤ s.events) (is_remembered t) s.seen h.events_fit.seen_numbers)
    (fit-moment t s low h))

pub fit-issue : (number : ℕ) (i : Item) (s : State) → item_at number s ≡ Some i → IsFit s → IsFit (issue i s)
fit-issue number i s found h =
    let a : State = record s { entries = s.entries + 1 } in
    let items : List Item = without_number i.number s.items in
    let issues : List Issue = s.issues ++ issued i s ∷ [] in
    let b : State = record a { calls = s.calls + 1; items = items; issues = issues } in
    let counted : IsFit a = fit-entries s h in
    let more : AreCallsFit (s.calls + 1) (s.entries + 1) s.items s.issues =
    more-calls s.calls (s.entries + 1) (s.calls + 1) (s.entries + 1) s.items s.issues (omega arith) (omega arith)
    counted.calls_fit in
    let own : IsItemFit s.entries i =
    in-all (IsItemFit s.entries) i s.items (in-found (has_number number) s.items i found) h.calls_fit.queued in
    let c : State = record b { starts = started_at i.start s.moment s.starts } in
    fit-called i c
    (fit-rest s.inputs (started_at i.start s.moment s.starts) s.ended b
    (fit-calls (s.calls + 1) items issues a
    (record {
      queued = all-filter (IsItemFit (s.entries + 1)) (λ j. not (has_number i.number j)) s.items more.queued;
      open_calls = all-last (IsIssueFit (s.calls + 1) (s.entries + 1)) s.issues (issued i s) more.open_calls
          (record {
            call = omega arith;
            limit = omega arith;
            item = record { number = omega (arith, own.number); start = refl };
          });
    }) counted))

-- ## The changes

pub fit-changes : Changes IsFit
fit-changes = record {
  accepts = λ event id s new h. fit-accepted event id s h;
  starts = λ f event parent s there given h. fit-started f (event ∷ []) parent s there (given, tt) h;
  fills = λ f r value event s may full h. fit-filled f r value event s may full h;
  fires = λ f w s there stands h. fit-fired f w s there stands h;
  joins = λ f r value event s may full h. fit-joined f r value event s may full h;
  windows_go = λ number s h. fit-windows_left (λ w. not (windows.has_number number w)) s h;
  rules = λ r event c s there e h. fit-add_rule r event c s there e h;
  finds_out = λ r s there h. fit-finds_out r s there h;
  wants = λ r s live h. fit-want r s h;
  plans = λ r name s live new h. fit-plan_named r name s live h;
  sleeps = λ r name t s live new h. fit-add_sleep r name t s h;
  waits = λ r name event t cond s live new h. fit-add_wait r name event t cond s live h;
  pends = λ r name s live new h. fit-pend pending.Invocation name r s h;
  invokes = λ r name child t s there h. fit-add_invocation r name child t s h;
  ends = λ r status s live h. fit-end_run r status s live h;
}

pub keeps-fit : Keeps IsFit
keeps-fit = freely IsFit fit-changes (record {
  records = λ run name result s h. fit-record_result run name result s h;
  sleeps_go = λ test s h. fit-sleeps test s h;
  waits_go = λ test s h. fit-waits test s h;
  invocations_go = λ test s h. fit-invocations test s h;
  rules_go = λ test s h. fit-rules test s h;
})

-- ## Items that are aside

abbrev AreCalledFit : List Item → State → Type 0
AreCalledFit is s = AllByRecursion (IsCalledFit s.entries) is

called-more : (entries : ℕ) (is : List Item) → AllByRecursion (IsCalledFit entries) is
    → AllByRecursion (IsCalledFit (entries + 1)) is
called-more entries is h = all-weaker (IsCalledFit entries) (IsCalledFit (entries + 1)) is
    (λ i k. more-called entries (entries + 1) i (omega arith) k) h

called-choice : (b : Bool) (entries : ℕ) (is : List Item) → AllByRecursion (IsCalledFit entries) is
    → AllByRecursion (IsCalledFit (cond b (entries + 1) entries)) is
called-choice true entries is h = called-more entries is h
called-choice false entries is h = h

called-accepted : (is : List Item) (event : EventIn) (id : Option (List ℕ)) (s : State) → AreCalledFit is s
    → AreCalledFit is (add_event (event_with event s) (remember id s))
called-accepted is event None s h = h
called-accepted is event (Some id) s h = h

called-offered : (is : List Item) (f : FunctionEntry) (r : WindowRule) (value : List ℕ) (event : ℕ) (s : State)
    → AreCalledFit is s → AreCalledFit is (with_offer f r value event s)
called-offered is f r value event s h =
    called-choice (takes_number r (window_of f.version value s) (window_after f r value event s)) s.entries is h

keeps-called : (is : List Item) → Keeps (AreCalledFit is)
keeps-called is = freely (AreCalledFit is) (record {
  accepts = λ event id s new h. called-accepted is event id s h;
  starts = λ f event parent s there given h. h;
  fills = λ f r value event s may full h. called-offered is f r value event s h;
  fires = λ f w s there stands h. h;
  joins = λ f r value event s may full h. called-offered is f r value event s h;
  windows_go = λ number s h. h;
  rules = λ r event c s there e h. called-more s.entries is h;
  finds_out = λ r s there h. called-more s.entries is h;
  wants = λ r s live h. h;
  plans = λ r name s live new h. called-more s.entries is h;
  sleeps = λ r name t s live new h. called-more s.entries is h;
  waits = λ r name event t cond s live new h. called-more s.entries is h;
  pends = λ r name s live new h. h;
  invokes = λ r name child t s there h. called-more s.entries is h;
  ends = λ r status s live h. h;
}) (record {
  records = λ run name result s h. h;
  sleeps_go = λ test s h. h;
  waits_go = λ test s h. h;
  invocations_go = λ test s h. h;
  rules_go = λ test s h. h;
})

abbrev pub FitBeside : List Item → State → Type 0
FitBeside is s = IsFit s × AreCalledFit is s

fit-issues : (issues : List Issue) (s : State) → AllByRecursion (IsIssueFit s.calls s.entries) issues → IsFit s
    → IsFit (record s { issues = issues })
fit-issues issues s fits h =
    fit-calls s.calls s.items issues s (record { queued = h.calls_fit.queued; open_calls = fits }) h

called-item : (s : State) → IsFit s → AreCalledFit (map item_of s.issues) s
called-item s h = all-map (IsCalledFit s.entries) item_of s.issues
    (all-weaker (IsIssueFit s.calls s.entries) (λ (i : Issue). IsCalledFit s.entries i.item) s.issues
    (λ i (k : IsIssueFit s.calls s.entries i). k.item) h.calls_fit.open_calls)

fit-again : (i : Item) (s : State) → IsCalledFit s.entries i → IsItemFit s.entries i
fit-again i s h = record {
  number = h.number;
  start = subst (λ start. IsStart start) (sym h.start) tt;
}

pub fit-drops : Drops FitBeside
fit-drops = record {
  runs = λ is. keeps-both IsFit (AreCalledFit is) keeps-fit (keeps-called is);
  closes = λ i s there h. (
    fit-issues (filter (λ (other : Issue). not (i.call == other.call)) s.issues) s
        (all-filter (IsIssueFit s.calls s.entries) (λ (other : Issue). not (i.call == other.call)) s.issues
        h.0.calls_fit.open_calls) h.0,
    ((in-all (IsIssueFit s.calls s.entries) i s.issues there h.0.calls_fit.open_calls).item, tt),
  );
  reopens = λ s h. (fit-issues [] s tt h.0, called-item s h.0);
  drops = λ i is s h. (h.0, h.1.1);
  retries = λ i is a r s live new h. (
    fit-queue (again i a s) s (record { number = h.1.0.number; start = tt }) h.0,
    h.1.1,
  );
  requeues = λ i is r s live new h. (
    fit-queue (record i { due = s.moment }) s
        (record { number = h.1.0.number; start = (fit-again i s h.1.0).start }) h.0,
    h.1.1,
  );
}

pub keeps-calls : KeepsCalls FitBeside
keeps-calls = dropping FitBeside fit-drops

pub keeps-steps : KeepsSteps last_moment IsInRange FitBeside
keeps-steps = record {
  calls = keeps-calls;
  counts = λ s h. (fit-rest (s.inputs + 1) s.starts s.ended s h.0, tt);
  moves = λ t next s low e h.
      (fit-moment next.due s (omega (arith, low, (is-due t s next e).0)) h.0, tt);
  arrives = λ t s low on before h. (fit-arrived t (all_fired t s) low h.0, tt);
  issues = λ number i s next there h. (fit-issue number i s there h.0, tt);
  registers = λ at app s ranges h. (fit-registered app s ranges h.0, tt);
  tidies = λ s h. (fit-tidied s h.0, tt);
}

-- ## Steps

pub moment-within : (at : ℕ) (s : State) → IsFit s → moment_at at s ≤ last_moment
moment-within at s h = lower s.moment (min at last_moment) last_moment h.dated (grind arith)
  where
    lower : (a b most : ℕ) → a ≤ most → b ≤ most → max a b ≤ most
    lower a b most c d = grind (arith, c, d)

pub fit-step : (s : State) (input : Input) → IsInRange input → IsFit s → IsFit (step s input).state
fit-step s input ranges h =
    (kept-step last_moment IsInRange FitBeside keeps-steps s input (moment-within (reading input) s h) ranges
    (h, tt)).0

pub fit-empty : (limits : Limits) → IsFit (empty limits)
fit-empty limits = record {
  dated = omega arith;
  functions_fit = record { each = λ f there. absurd there; one = λ f g a b same. absurd a };
  events_fit = record { seen_numbers = tt; text_numbers = tt };
  live_fit = tt;
  closing_fit = tt;
  calls_fit = record { queued = tt; open_calls = tt };
  times_fit = record { sleep_numbers = tt; invocation_numbers = tt };
  conditions_fit = record { each_wait = tt; each_rule = tt };
  windows_fit = record { each = tt; room = λ f there. absurd there; apart = tt };
}
