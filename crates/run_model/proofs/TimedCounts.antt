-- How much is due: each thing that falls due took an entry number, so that all happens before the numbers end.
use Rattle.std.proofs.Common.{◌≡◌, ℕ, zero, suc, ◌⊎◌, inl, inr, ◌+◌, ◌<◌, ◌≤◌, ◌==◌, Bool, true, false, not, cond, List, [], ◌∷◌, ◌++◌, filter, find, length, codes, Option, Some, None, is_some, refl, sym, subst, eq-eqb, arith}
use Rattle.std.specs.Option.{option_map}
use Rattle.std.specs.Ordering.{is_lt}
use Rattle.kinds.specs.ErrorObject.{error_object}
use Rattle.kinds.specs.Windows as windows
use Rattle.kinds.specs.Windows.{after_event, insert_window, is_full, is_of, joined, others}
use Rattle.kinds.specs.declared.event.EventIn.{EventIn}
use Rattle.kinds.specs.declared.function.CancelEntry.{CancelEntry}
use Rattle.kinds.specs.declared.reply.After.TheVariants as after
use Rattle.kinds.specs.declared.reply.Time.{Time}
use Rattle.kinds.specs.declared.store.Rule.{Rule}
use Rattle.kinds.specs.declared.store.RunStatus.{RunStatus}
use Rattle.kinds.specs.declared.window.Window.{Window}
use Rattle.kinds.specs.declared.window.WindowRule.{WindowRule}
use Rattle.functions.specs.declared.entry.FunctionEntry.{FunctionEntry}
use Rattle.lists.proofs.Texts.{bytes_self}
use Rattle.lists.specs.Entries.{key_of, pair_cmp}
use Rattle.run_model.specs.Advance.{Advanced, Timed, sleep_end, wait_end, invocation_end, window_end, rule_end, call_limit, due_by, fire, fire_by, fired, make_found, most, timed_out, without_invocation, without_rule, without_sleep, without_window}
use Rattle.run_model.specs.Ends.{end_run}
use Rattle.run_model.specs.Events.{add_event, event_with, window_of, without_wait}
use Rattle.run_model.specs.Laws.{IsIn}
use Rattle.run_model.specs.Making.{add_rule, first_of, new_rule}
use Rattle.run_model.specs.Recording.{is_pending_in, record_result, wake_step}
use Rattle.run_model.specs.Replies.{add_invocation, add_sleep, add_wait, close, due_at, new_sleep, retry, wait_with}
use Rattle.run_model.specs.Requests.{remember}
use Rattle.run_model.specs.State.{State, Run, Issue, Invocation, Sleep, Waiting, function_at, live_run}
use Rattle.run_model.proofs.FitWindows.{joined-value, joined-version, with_after}
use Rattle.run_model.proofs.Kept.{Changes, Keeps, kept-discover, kept-make_run, makes-of, window_after, with_offer, freely, kept-woken}
use Rattle.run_model.proofs.KeptReplies.{Drops, KeepsCalls, dropping, kept-retry}
use Rattle.run_model.proofs.KeptSteps.{IsThere, all_fired, is-due}
use Rattle.run_model.proofs.Members.{any-in}
use Rattle.run_model.proofs.SettlingLists.{fewer-left, found-any, length-left}

-- ## Counts

abbrev timed_count : State → ℕ
timed_count s =
    length s.sleeps + length s.waits + length s.invocations + length s.windows + length s.rules + length s.issues

-- so many fewer than the numbers that were given
abbrev pub AreFew : ℕ → State → Type 0
AreFew c s = timed_count s + c ≤ s.entries

pub length-last : {X : Type 0} (xs : List X) (x : X) → length (xs ++ x ∷ []) ≡ length xs + 1
length-last [] x = omega arith
length-last (y ∷ ys) x = let more = length-last ys x in omega (arith, more)

length-inserted : (w : Window) (ws : List Window) → length (insert_window w ws) ≡ length ws + 1
length-inserted w [] = omega arith
length-inserted w (v ∷ ws) =
    let more = length-inserted w ws in
    elim (is_lt (pair_cmp (key_of windows.kind_of windows.number_of w)
    (key_of windows.kind_of windows.number_of v)))
    as (λ b. length (cond b (w ∷ v ∷ ws) (v ∷ insert_window w ws)) ≡ length (v ∷ ws) + 1)
    [ true ↦ omega arith | false ↦ omega (arith, more) ]

-- ## Windows

others-left : (w : Window) (ws : List Window)
    → length (others (windows.version_of w) (windows.value_of w) ws) ≤ length ws
others-left w ws = length-left (λ v. not (is_of (windows.version_of w) (windows.value_of w) v)) ws

-- the window that is there before is none of the others
others-fewer : (f : FunctionEntry) (r : WindowRule) (value : List ℕ) (event t : ℕ) (w : Window)
    (ws : List Window) → find (is_of f.version value) ws ≡ Some w
    → length (others (windows.version_of (joined r event t w)) (windows.value_of (joined r event t w)) ws) < length ws
others-fewer f r value event t w ws e =
    let own : is_of (windows.version_of w) (windows.value_of w) w ≡ true =
    rw (eq-eqb (windows.version_of w) (windows.version_of w) refl, bytes_self (windows.value_of w)) refl in
    subst (λ version. length (others version (windows.value_of (joined r event t w)) ws) < length ws)
    (sym (joined-version r event t w))
    (subst (λ value. length (others (windows.version_of w) value ws) < length ws) (sym (joined-value r event t w))
    (fewer-left (is_of (windows.version_of w) (windows.value_of w)) ws
    (found-any (is_of f.version value) (is_of (windows.version_of w) (windows.value_of w)) ws w e own)))

few-full : (c : ℕ) (there : Bool) (w : Window) (s : State) → AreFew c s → AreFew c (with_after true there w s)
few-full c true w s h = let less = others-left w s.windows in omega (arith, h, less)
few-full c false w s h = let less = others-left w s.windows in omega (arith, h, less)

few-stays : (c : ℕ) (f : FunctionEntry) (r : WindowRule) (value : List ℕ) (event : ℕ) (s : State)
    (before : Option Window) → window_of f.version value s ≡ before → AreFew c s
    → AreFew c (with_after false (is_some before)
    (after_event r f.version value event s.moment (s.entries + 1) before) s)
few-stays c f r value event s None e h =
    let w : Window = after_event r f.version value event s.moment (s.entries + 1) None in
    let less = others-left w s.windows in
    let one = length-inserted w (others (windows.version_of w) (windows.value_of w) s.windows) in
    omega (arith, h, less, one)
few-stays c f r value event s (Some v) e h =
    let w : Window = joined r event s.moment v in
    let less = others-fewer f r value event s.moment v s.windows e in
    let one = length-inserted w (others (windows.version_of w) (windows.value_of w) s.windows) in
    omega (arith, h, less, one)

few-offered : (c : ℕ) (f : FunctionEntry) (r : WindowRule) (value : List ℕ) (event : ℕ) (s : State)
    → AreFew c s → AreFew c (with_offer f r value event s)
few-offered c f r value event s h =
    let w : Window = window_after f r value event s in
    let before : Option Window = window_of f.version value s in
    elim (is_full r w) as (λ b. AreFew c (with_after b (is_some before) w s)) [
      | true ↦ few-full c (is_some before) w s h
      | false ↦ few-stays c f r value event s before refl h
    ]

-- ## The changes

few-accepted : (c : ℕ) (event : EventIn) (id : Option (List ℕ)) (s : State) → AreFew c s
    → AreFew c (add_event (event_with event s) (remember id s))
few-accepted c event None s h = h
few-accepted c event (Some id) s h = h

few-windows : (c : ℕ) (test : Window → Bool) (s : State) → AreFew c s
    → AreFew c (record s { windows = filter test s.windows })
few-windows c test s h = let less = length-left test s.windows in omega (arith, h, less)

few-ended : (c : ℕ) (r : Run) (status : RunStatus) (s : State) → AreFew c s → AreFew c (end_run r status s)
few-ended c r status s h =
    let sleeps = length-left (λ (e : Sleep). not (r.number == e.run)) s.sleeps in
    let waits = length-left (λ (e : Waiting). not (r.number == e.wait.run)) s.waits in
    let invocations = length-left (λ (e : Invocation). not (r.number == e.run)) s.invocations in
    let rules = length-left (λ (e : Rule). not (r.number == e.run)) s.rules in
    omega (arith, h, sleeps, waits, invocations, rules)

few-rule : (c : ℕ) (r : Run) (event : List ℕ) (e : CancelEntry) (s : State) → AreFew c s
    → AreFew c (add_rule r (first_of r.events) event e s)
few-rule c r event e s h =
    let more = length-last s.rules (new_rule r (first_of r.events) event s e) in omega (arith, h, more)

few-sleep : (c : ℕ) (r : Run) (name : List ℕ) (t : Time) (s : State) → AreFew c s
    → AreFew c (add_sleep r name t s)
few-sleep c r name t s h = let more = length-last s.sleeps (new_sleep r name t s) in omega (arith, h, more)

few-wait : (c : ℕ) (r : Run) (name event : List ℕ) (t : Time) (cond : Option (List ℕ)) (s : State)
    → AreFew c s → AreFew c (add_wait r name event t cond s)
few-wait c r name event t cond s h =
    let more = length-last s.waits (wait_with r name event t cond s) in omega (arith, h, more)

few-invocation : (c : ℕ) (r : Run) (name : List ℕ) (child : ℕ) (t : Option Time) (s : State) → AreFew c s
    → AreFew c (add_invocation r name child t s)
few-invocation c r name child t s h =
    let added : Invocation = record {
      number = s.entries + 1;
      run = r.number;
      hash = name;
      child = child;
      due = option_map (λ t. due_at t s.moment) t;
    } in
    let more = length-last s.invocations added in omega (arith, h, more)

few-next : (n entries : ℕ) → n ≤ entries → n ≤ entries + 1
few-next n entries h = omega (arith, h)

few-changes : (c : ℕ) → Changes (AreFew c)
few-changes c = record {
  accepts = λ event id s new h. few-accepted c event id s h;
  starts = λ f event parent s there given h. h;
  fills = λ f r value event s may full h. few-offered c f r value event s h;
  fires = λ f w s there stands h.
      few-windows c (λ v. not (windows.has_number (windows.number_of w) v)) s h;
  joins = λ f r value event s may full h. few-offered c f r value event s h;
  windows_go = λ number s h. few-windows c (λ v. not (windows.has_number number v)) s h;
  rules = λ r event e s there same h. few-rule c r event e s h;
  finds_out = λ r s there h. few-next (timed_count s + c) s.entries h;
  wants = λ r s live h. h;
  plans = λ r name s live new h. few-next (timed_count s + c) s.entries h;
  sleeps = λ r name t s live new h. few-sleep c r name t s h;
  waits = λ r name event t cond s live new h. few-wait c r name event t cond s h;
  pends = λ r name s live new h. h;
  invokes = λ r name child t s there h. few-invocation c r name child t s h;
  ends = λ r status s live h. few-ended c r status s h;
}

pub keeps-few : (c : ℕ) → Keeps (AreFew c)
keeps-few c = freely (AreFew c) (few-changes c) (record {
  records = λ run name result s h. h;
  sleeps_go = λ test s h. let less = length-left test s.sleeps in omega (arith, h, less);
  waits_go = λ test s h. let less = length-left test s.waits in omega (arith, h, less);
  invocations_go = λ test s h. let less = length-left test s.invocations in omega (arith, h, less);
  rules_go = λ test s h. let less = length-left test s.rules in omega (arith, h, less);
})

few-issues : (c : ℕ) (test : Issue → Bool) (s : State) → AreFew c s
    → AreFew c (record s { issues = filter test s.issues })
few-issues c test s h = let less = length-left test s.issues in omega (arith, h, less)

pub few-drops : (c : ℕ) → Drops (λ is s. AreFew c s)
few-drops c = record {
  runs = λ is. keeps-few c;
  closes = λ i s there h. few-issues c (λ (other : Issue). not (i.call == other.call)) s h;
  reopens = λ s h. omega (arith, h);
  drops = λ i is s h. h;
  retries = λ i is a r s live new h. h;
  requeues = λ i is r s live new h. h;
}

few-calls : (c : ℕ) → KeepsCalls (λ is s. AreFew c s)
few-calls c = dropping (λ is s. AreFew c s) (few-drops c)

-- ## What is due goes

-- one that is there goes with those of its number
one-goes : {X : Type 0} (part : X → ℕ) (x : X) (xs : List X) → IsIn x xs
    → length (filter (λ y. not (part x == part y)) xs) < length xs
one-goes part x xs there =
    fewer-left (λ y. part x == part y) xs (any-in (λ y. part x == part y) x xs there (eq-eqb (part x) (part x) refl))

few-found : (c : ℕ) (found : Option FunctionEntry) (w : Window) (s : State) → AreFew c s
    → AreFew c (make_found found w s)
few-found c None w s h = h
few-found c (Some f) w s h =
    kept-make_run (AreFew c) (makes-of (AreFew c) (few-changes c)) f (windows.events_of w) None s h

few-woken : (c run : ℕ) (name result : List ℕ) (s : State) → AreFew c s → AreFew c (wake_step run name result s)
few-woken c run name result s h = kept-woken (AreFew c) (is_pending_in name (live_run run s)) s
    (record_result run name result s) h h

few-fire : (c : ℕ) (e : Timed) (s : State) → IsThere s e → AreFew c s → AreFew (c + 1) (fire e s)
few-fire c (sleep_end e) s there h =
    let less = one-goes (λ (o : Sleep). o.number) e s.sleeps there in
    let left : AreFew (c + 1) (without_sleep e.number s) = omega (arith, h, less) in
    kept-discover (AreFew (c + 1)) (keeps-few (c + 1))
    (wake_step e.run e.hash (codes "null") (without_sleep e.number s))
    (few-woken (c + 1) e.run e.hash (codes "null") (without_sleep e.number s) left)
few-fire c (wait_end e) s there h =
    let less = one-goes (λ (o : Waiting). o.wait.number) e s.waits there in
    let left : AreFew (c + 1) (without_wait e.wait.number s) = omega (arith, h, less) in
    kept-discover (AreFew (c + 1)) (keeps-few (c + 1))
    (wake_step e.wait.run e.hash (codes "{\"data\":null}") (without_wait e.wait.number s))
    (few-woken (c + 1) e.wait.run e.hash (codes "{\"data\":null}") (without_wait e.wait.number s) left)
few-fire c (invocation_end e) s there h =
    let less = one-goes (λ (o : Invocation). o.number) e s.invocations there in
    let left : AreFew (c + 1) (without_invocation e.number s) = omega (arith, h, less) in
    kept-discover (AreFew (c + 1)) (keeps-few (c + 1))
    (wake_step e.run e.hash timed_out (without_invocation e.number s))
    (few-woken (c + 1) e.run e.hash timed_out (without_invocation e.number s) left)
few-fire c (window_end w) s there h =
    let less = one-goes windows.number_of w s.windows there in
    let left : AreFew (c + 1) (without_window (windows.number_of w) s) = omega (arith, h, less) in
    few-found (c + 1) (function_at (windows.version_of w) s) w (without_window (windows.number_of w) s) left
few-fire c (rule_end e) s there h =
    let less = one-goes (λ (o : Rule). o.number) e s.rules there in
    let left : AreFew (c + 1) (without_rule e.number s) = omega (arith, h, less) in left
few-fire c (call_limit i) s there h =
    let less = one-goes (λ (o : Issue). o.call) i s.issues there in
    let left : AreFew (c + 1) (close i.call s) = omega (arith, h, less) in
    kept-discover (AreFew (c + 1)) (keeps-few (c + 1))
    (retry i.item after.None (error_object (codes "call limit")) (close i.call s))
    (kept-retry (λ is s. AreFew (c + 1) s) (few-calls (c + 1)) i.item after.None (error_object (codes "call limit"))
    (close i.call s) left)

-- nothing more is due, or so many numbers were given
abbrev IsThrough : ℕ → ℕ → State → Type 0
IsThrough n t s = (due_by t s ≡ None) ⊎ (n ≤ s.entries)

through-by : (n t c : ℕ) (a : Advanced) → AreFew c a.state → IsThrough (c + n) t (fire_by n t a).state
unfolding fire_by
through-by zero t c a h = inr (omega (arith, h))
through-by (suc n) t c a h =
    (elim (due_by t a.state) as (λ o. due_by t a.state ≡ o → IsThrough (c + suc n) t (elim o as (λ _. Advanced)
    [ None ↦ a | Some next ↦ fire_by n t (fired next a) ]).state) [
      | None ↦ λ e. inl e
      | Some next ↦ λ e. more (fire_by n t (fired next a)).state
          (through-by n t (c + 1) (fired next a)
          (few-fire c next.entry (record a.state { moment = next.due }) (is-due t a.state next e).1 h))
    ]) refl
  where
    more : (u : State) → IsThrough (c + 1 + n) t u → IsThrough (c + suc n) t u
    more u (inl e) = inl e
    more u (inr many) = inr (omega (arith, many))

pub is-through : (t : ℕ) (s : State) → AreFew 0 s → IsThrough most t (all_fired t s)
is-through t s h = moved (through-by most t 0 (record { state = s; hangs = [] }) h)
  where
    moved : IsThrough (0 + most) t (all_fired t s) → IsThrough most t (all_fired t s)
    moved (inl e) = inl e
    moved (inr many) = inr (omega (arith, many))
