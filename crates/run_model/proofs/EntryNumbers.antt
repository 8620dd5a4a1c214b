-- No two of items, sleeps, waits, invocations, rules, windows and limits of calls have one number: at each change, and
-- so through each step.
use Rattle.std.proofs.Common.{◌≡◌, ◌≢◌, ℕ, inl, inr, ◌+◌, ◌<◌, ◌≤◌, ◌==◌, Bool, true, false, not, cond, List, [], ◌∷◌, ◌++◌, map, filter, find, length, Option, Some, None, is_some, refl, sym, ap, subst, nat_lt, arith, eq-eqb, eqb-true}
use Rattle.std.specs.List.{AllByRecursion}
use Rattle.std.specs.Ordering.{is_lt}
use Rattle.kinds.specs.Inputs.{reading}
use Rattle.kinds.specs.Queue.{has_number, has_run, insert_item}
use Rattle.kinds.specs.Windows as windows
use Rattle.kinds.specs.Windows.{after_event, insert_window, is_full, is_of, joined, opened, others}
use Rattle.kinds.specs.declared.event.EventIn.{EventIn}
use Rattle.kinds.specs.declared.function.CancelEntry.{CancelEntry}
use Rattle.kinds.specs.declared.input.Input.{Input}
use Rattle.kinds.specs.declared.limits.Limits.{Limits}
use Rattle.kinds.specs.declared.reply.Time.{Time}
use Rattle.kinds.specs.declared.store.Item.{Item}
use Rattle.kinds.specs.declared.store.Rule.{Rule}
use Rattle.kinds.specs.declared.store.RunStatus.{RunStatus}
use Rattle.kinds.specs.declared.window.Window.{Window}
use Rattle.kinds.specs.declared.window.WindowRule.{WindowRule}
use Rattle.kinds.specs.declared.window.WindowRule.TheVariants as rule
use Rattle.functions.specs.declared.entry.FunctionEntry.{FunctionEntry}
use Rattle.lists.proofs.Texts.{bytes_self}
use Rattle.lists.specs.Entries.{key_of, pair_cmp}
use Rattle.run_model.specs.Ends.{end_run}
use Rattle.run_model.specs.Events.{add_event, event_with, window_of}
use Rattle.run_model.specs.Fit.{item_of}
use Rattle.run_model.specs.Laws.{IsIn}
use Rattle.run_model.specs.Machine.{fold, state_after, step}
use Rattle.run_model.specs.Making.{add_rule, first_of, is_item_of, new_item, new_rule, queue, step_target}
use Rattle.run_model.specs.Replies.{add_invocation, add_sleep, add_wait, again, close, new_sleep, wait_with}
use Rattle.run_model.specs.Requests.{remember}
use Rattle.run_model.specs.Settle.{issue, issued, item_at}
use Rattle.run_model.specs.Sound.{ArePairwise, entry_numbers}
use Rattle.run_model.specs.State.{State, Run, Issue, Sleep, Waiting, Invocation, empty, moment_at, tidied}
use Rattle.run_model.proofs.FitWindows.{joined-number, joined-value, joined-version, with_after}
use Rattle.run_model.proofs.Kept.{Keeps, freely, with_offer}
use Rattle.run_model.proofs.KeptReplies.{Drops, dropping}
use Rattle.run_model.proofs.KeptSteps.{KeepsSteps, kept-step}
use Rattle.run_model.proofs.Members.{in-found}
use Rattle.run_model.proofs.Rising.{invocation_number, invoked, rule_number, sleep_number, wait_number}
use Rattle.run_model.proofs.WaitingCounts.{one_if}

-- ## How many have a number

pub counts : {X : Type 0} → (X → ℕ) → ℕ → List X → ℕ
counts part n xs = length (filter (λ x. n == part x) xs)

one-most : (b : Bool) → one_if b ≤ 1
one-most true = omega arith
one-most false = omega arith

module _ {X : Type 0} (part : X → ℕ) (n : ℕ) where
  pub counts-none : counts part n [] ≡ 0
  unfolding counts
  counts-none = refl

  pub counts-first : (x : X) (xs : List X) → counts part n (x ∷ xs) ≡ counts part n xs + one_if (n == part x)
  unfolding counts
  counts-first x xs = by_test (n == part x)
    where
      by_test : (b : Bool) → length (cond b (x ∷ filter (λ y. n == part y) xs) (filter (λ y. n == part y) xs))
          ≡ length (filter (λ y. n == part y) xs) + cond b 1 0
      by_test true = omega arith
      by_test false = omega arith

  counts-last : (xs : List X) (x : X) → counts part n (xs ++ x ∷ []) ≡ counts part n xs + one_if (n == part x)
  counts-last [] x = counts-first x []
  counts-last (y ∷ ys) x =
      let a = counts-first y (ys ++ x ∷ []) in
      let b = counts-first y ys in
      let c = counts-last ys x in
      omega (arith, a, b, c)

  pub counts-filter : (test : X → Bool) (xs : List X) → counts part n (filter test xs) ≤ counts part n xs
  counts-filter test [] = omega (arith, counts-none)
  counts-filter test (x ∷ xs) = by_test (test x) (counts-filter test xs)
    where
      by_test : (b : Bool) → counts part n (filter test xs) ≤ counts part n xs
          → counts part n (cond b (x ∷ filter test xs) (filter test xs)) ≤ counts part n (x ∷ xs)
      by_test true more =
          let a = counts-first x (filter test xs) in let b = counts-first x xs in omega (arith, a, b, more)
      by_test false more = let b = counts-first x xs in omega (arith, b, more)

  -- one of them is left out
  counts-gone : (test : X → Bool) (x : X) (xs : List X) → IsIn x xs → test x ≡ false
      → counts part n (filter test xs) + one_if (n == part x) ≤ counts part n xs
  counts-gone test x [] there e = absurd there
  counts-gone test x (y ∷ ys) (inl same) e =
      subst (λ z. counts part n (filter test (z ∷ ys)) + one_if (n == part x) ≤ counts part n (z ∷ ys)) (sym same)
      (rw e (let a = counts-first x ys in let b = counts-filter test ys in omega (arith, a, b)))
  counts-gone test x (y ∷ ys) (inr there) e = by_test (test y) (counts-gone test x ys there e)
    where
      by_test : (b : Bool) → counts part n (filter test ys) + one_if (n == part x) ≤ counts part n ys
          → counts part n (cond b (y ∷ filter test ys) (filter test ys)) + one_if (n == part x)
          ≤ counts part n (y ∷ ys)
      by_test true more =
          let a = counts-first y (filter test ys) in let b = counts-first y ys in omega (arith, a, b, more)
      by_test false more = let b = counts-first y ys in omega (arith, b, more)

  pub counts-both : (xs ys : List X) → counts part n (xs ++ ys) ≡ counts part n xs + counts part n ys
  counts-both [] ys = omega (arith, counts-none)
  counts-both (x ∷ xs) ys =
      let a = counts-first x (xs ++ ys) in
      let b = counts-first x xs in
      let c = counts-both xs ys in
      omega (arith, a, b, c)

abbrev pub own : ℕ → ℕ
own n = n

pub counts-map : {X : Type 0} (part : X → ℕ) (n : ℕ) (xs : List X) → counts own n (map part xs) ≡ counts part n xs
counts-map part n [] = omega (arith, counts-none own n, counts-none part n)
counts-map part n (x ∷ xs) =
    let a = counts-first own n (part x) (map part xs) in
    let b = counts-first part n x xs in
    let c = counts-map part n xs in
    omega (arith, a, b, c)

abbrev pub item_number : Item → ℕ
item_number i = i.number

abbrev pub open_item : Issue → ℕ
open_item i = i.item.number

abbrev pub limit_number : Issue → ℕ
limit_number i = i.limit

counts-open : (n : ℕ) (is : List Issue) → counts item_number n (map item_of is) ≡ counts open_item n is
counts-open n [] = omega (arith, counts-none item_number n, counts-none open_item n)
counts-open n (i ∷ is) =
    let a = counts-first item_number n i.item (map item_of is) in
    let b = counts-first open_item n i is in
    let c = counts-open n is in
    omega (arith, a, b, c)

counts-queued : (n : ℕ) (x : Item) (items : List Item)
    → counts item_number n (insert_item x items) ≡ counts item_number n items + one_if (n == x.number)
counts-queued n x [] = counts-first item_number n x []
counts-queued n x (i ∷ items) = by_test (nat_lt x.number i.number) (counts-queued n x items)
  where
    by_test : (b : Bool)
        → counts item_number n (insert_item x items) ≡ counts item_number n items + one_if (n == x.number)
        → counts item_number n (cond b (x ∷ i ∷ items) (i ∷ insert_item x items))
        ≡ counts item_number n (i ∷ items) + one_if (n == x.number)
    by_test true more = counts-first item_number n x (i ∷ items)
    by_test false more =
        let a = counts-first item_number n i (insert_item x items) in
        let b = counts-first item_number n i items in
        omega (arith, a, b, more)

counts-window : (n : ℕ) (w : Window) (ws : List Window)
    → counts windows.number_of n (insert_window w ws)
    ≡ counts windows.number_of n ws + one_if (n == windows.number_of w)
counts-window n w [] = counts-first windows.number_of n w []
counts-window n w (v ∷ ws) =
    by_test (is_lt (pair_cmp (key_of windows.kind_of windows.number_of w)
    (key_of windows.kind_of windows.number_of v))) (counts-window n w ws)
  where
    by_test : (b : Bool) → counts windows.number_of n (insert_window w ws)
        ≡ counts windows.number_of n ws + one_if (n == windows.number_of w)
        → counts windows.number_of n (cond b (w ∷ v ∷ ws) (v ∷ insert_window w ws))
        ≡ counts windows.number_of n (v ∷ ws) + one_if (n == windows.number_of w)
    by_test true more = counts-first windows.number_of n w (v ∷ ws)
    by_test false more =
        let a = counts-first windows.number_of n v (insert_window w ws) in
        let b = counts-first windows.number_of n v ws in
        omega (arith, a, b, more)

-- ## Each number once

-- one has the number at most, and none where it wasn't given
abbrev pub Bound : ℕ → ℕ → ℕ → Type 0
Bound entries n t = (t ≤ 1) × (entries < n → t ≡ 0)

pub bound-less : (entries n t u : ℕ) → u ≤ t → Bound entries n t → Bound entries n u
bound-less entries n t u less h = (omega (arith, less, h.0), λ over. let none = h.1 over in omega (arith, less, none))

bound-more : (entries n t : ℕ) → Bound entries n t → Bound (entries + 1) n t
bound-more entries n t h = (h.0, λ (over : entries + 1 < n). h.1 (omega (arith, over)))

-- the next number is given
bound-new : (entries n t u : ℕ) → u ≤ t + one_if (n == entries + 1) → Bound entries n t → Bound (entries + 1) n u
bound-new entries n t u most h = by_test (n == entries + 1) refl most
  where
    by_test : (b : Bool) → (n == entries + 1) ≡ b → u ≤ t + cond b 1 0 → Bound (entries + 1) n u
    by_test true e less =
        let same : n ≡ entries + 1 = eqb-true n (entries + 1) e in
        let none : t ≡ 0 = h.1 (omega (arith, same)) in
        (omega (arith, less, none), λ (over : entries + 1 < n). absurd (omega (arith, over, same)))
    by_test false e less = (
      omega (arith, less, h.0),
      λ (over : entries + 1 < n). let none : t ≡ 0 = h.1 (omega (arith, over)) in omega (arith, less, none),
    )

-- those of the state, and the items that are aside
abbrev pub total : ℕ → List Item → State → ℕ
total n is s =
    counts item_number n s.items + counts open_item n s.issues + counts sleep_number n s.sleeps
    + counts wait_number n s.waits + counts invocation_number n s.invocations + counts rule_number n s.rules
    + counts windows.number_of n s.windows + counts limit_number n s.issues + counts item_number n is

abbrev pub OnceEach : List Item → State → Type 0
OnceEach is s = (n : ℕ) → Bound s.entries n (total n is s)

-- ## Windows

opened-number : (r : WindowRule) (version : ℕ) (value : List ℕ) (event m number : ℕ)
    → windows.number_of (opened r version value event m number) ≡ number
opened-number (rule.Debounce d) version value event m number = refl
opened-number (rule.Batch b) version value event m number = refl

module _ (is : List Item) (f : FunctionEntry) (r : WindowRule) (value : List ℕ) (event : ℕ) (s : State)
    (h : OnceEach is s) where
  abbrev after : Option Window → Window
  after before = after_event r f.version value event s.moment (s.entries + 1) before

  left-most : (n : ℕ) (w : Window)
      → counts windows.number_of n (others (windows.version_of w) (windows.value_of w) s.windows)
      ≤ counts windows.number_of n s.windows
  left-most n w = counts-filter windows.number_of n
      (λ v. not (is_of (windows.version_of w) (windows.value_of w) v)) s.windows

  once-full : (there : Bool) (w : Window) → OnceEach is (with_after true there w s)
  once-full true w n = bound-less s.entries n (total n is s) _
      (let less = left-most n w in omega (arith, less)) (h n)
  once-full false w n = bound-less s.entries n (total n is s) _
      (let less = left-most n w in omega (arith, less)) (h n)

  -- the window that was there goes, and comes with its number
  came-back : (n : ℕ) (v : Window) → find (is_of f.version value) s.windows ≡ Some v
      → counts windows.number_of n (insert_window (joined r event s.moment v)
      (others (windows.version_of (joined r event s.moment v)) (windows.value_of (joined r event s.moment v))
      s.windows))
      ≤ counts windows.number_of n s.windows
  came-back n v e =
      let w : Window = joined r event s.moment v in
      let left : List Window = others (windows.version_of w) (windows.value_of w) s.windows in
      let itself : is_of (windows.version_of w) (windows.value_of w) v ≡ true =
      subst (λ version. is_of version (windows.value_of w) v ≡ true) (sym (joined-version r event s.moment v))
      (subst (λ text. is_of (windows.version_of v) text v ≡ true) (sym (joined-value r event s.moment v))
      (rw (eq-eqb (windows.version_of v) (windows.version_of v) refl) (bytes_self (windows.value_of v)))) in
      let a : counts windows.number_of n (insert_window w left)
      ≡ counts windows.number_of n left + one_if (n == windows.number_of v) =
      subst (λ m. counts windows.number_of n (insert_window w left)
      ≡ counts windows.number_of n left + one_if (n == m)) (joined-number r event s.moment v)
      (counts-window n w left) in
      let b = counts-gone windows.number_of n (λ x. not (is_of (windows.version_of w) (windows.value_of w) x)) v
      s.windows (in-found (is_of f.version value) s.windows v e) (ap not itself) in
      omega (arith, a, b)

  opens : (n : ℕ) (w : Window) → windows.number_of w ≡ s.entries + 1
      → counts windows.number_of n (insert_window w
      (others (windows.version_of w) (windows.value_of w) s.windows))
      ≤ counts windows.number_of n s.windows + one_if (n == s.entries + 1)
  opens n w e =
      let left : List Window = others (windows.version_of w) (windows.value_of w) s.windows in
      let a : counts windows.number_of n (insert_window w left)
      ≡ counts windows.number_of n left + one_if (n == s.entries + 1) =
      subst (λ m. counts windows.number_of n (insert_window w left)
      ≡ counts windows.number_of n left + one_if (n == m)) e (counts-window n w left) in
      let b = left-most n w in
      omega (arith, a, b)

  once-stays : (before : Option Window) → window_of f.version value s ≡ before
      → OnceEach is (with_after false (is_some before) (after before) s)
  once-stays None e n =
      bound-new s.entries n (total n is s) _
      (let most = opens n (opened r f.version value event s.moment (s.entries + 1))
      (opened-number r f.version value event s.moment (s.entries + 1)) in omega (arith, most)) (h n)
  once-stays (Some v) e n = bound-less s.entries n (total n is s) _
      (let most = came-back n v e in omega (arith, most)) (h n)

  once-offered : OnceEach is (with_offer f r value event s)
  once-offered =
      elim (is_full r (after (window_of f.version value s)))
      as (λ b. OnceEach is
      (with_after b (is_some (window_of f.version value s)) (after (window_of f.version value s)) s)) [
        | true ↦ once-full (is_some (window_of f.version value s)) (after (window_of f.version value s))
        | false ↦ once-stays (window_of f.version value s) refl
      ]

-- ## The changes

-- no entry comes
once-less : (is now : List Item) (s t : State) → t.entries ≡ s.entries
    → ((n : ℕ) → total n now t ≤ total n is s) → OnceEach is s → OnceEach now t
once-less is now s t same less h n =
    subst (λ e. Bound e n (total n now t)) (sym same)
    (bound-less s.entries n (total n is s) (total n now t) (less n) (h n))

-- an entry takes the next number
once-new : (is now : List Item) (s t : State) → t.entries ≡ s.entries + 1
    → ((n : ℕ) → total n now t ≤ total n is s + one_if (n == s.entries + 1)) → OnceEach is s → OnceEach now t
once-new is now s t next most h n =
    subst (λ e. Bound e n (total n now t)) (sym next)
    (bound-new s.entries n (total n is s) (total n now t) (most n) (h n))

module _ (is : List Item) where
  once-accepted : (event : EventIn) (id : Option (List ℕ)) (s : State) → OnceEach is s
      → OnceEach is (add_event (event_with event s) (remember id s))
  once-accepted event None s h = h
  once-accepted event (Some id) s h = h

  once-windows : (test : Window → Bool) (s : State) → OnceEach is s
      → OnceEach is (record s { windows = filter test s.windows })
  once-windows test s h = once-less is is s (record s { windows = filter test s.windows }) refl
      (λ n. let less = counts-filter windows.number_of n test s.windows in omega (arith, less)) h

  once-rule : (r : Run) (event : List ℕ) (c : CancelEntry) (s : State) → OnceEach is s
      → OnceEach is (add_rule r (first_of r.events) event c s)
  once-rule r event c s h = once-new is is s (add_rule r (first_of r.events) event c s) refl
      (λ n. let more : counts rule_number n (s.rules ++ new_rule r (first_of r.events) event s c ∷ [])
      ≡ counts rule_number n s.rules + one_if (n == s.entries + 1) =
      counts-last rule_number n s.rules (new_rule r (first_of r.events) event s c) in omega (arith, more)) h

  once-queued : (r : Run) (target : List ℕ) (s : State) → OnceEach is s
      → OnceEach is (queue (new_item r target s) (record s { entries = s.entries + 1 }))
  once-queued r target s h =
      once-new is is s (queue (new_item r target s) (record s { entries = s.entries + 1 })) refl
      (λ n. let more : counts item_number n (insert_item (new_item r target s) s.items)
      ≡ counts item_number n s.items + one_if (n == s.entries + 1) =
      counts-queued n (new_item r target s) s.items in omega (arith, more)) h

  once-sleep : (r : Run) (name : List ℕ) (t : Time) (s : State) → OnceEach is s
      → OnceEach is (add_sleep r name t s)
  once-sleep r name t s h = once-new is is s (add_sleep r name t s) refl
      (λ n. let more : counts sleep_number n (s.sleeps ++ new_sleep r name t s ∷ [])
      ≡ counts sleep_number n s.sleeps + one_if (n == s.entries + 1) =
      counts-last sleep_number n s.sleeps (new_sleep r name t s) in omega (arith, more)) h

  once-wait : (r : Run) (name event : List ℕ) (t : Time) (given : Option (List ℕ)) (s : State) → OnceEach is s
      → OnceEach is (add_wait r name event t given s)
  once-wait r name event t given s h = once-new is is s (add_wait r name event t given s) refl
      (λ n. let more : counts wait_number n (s.waits ++ wait_with r name event t given s ∷ [])
      ≡ counts wait_number n s.waits + one_if (n == s.entries + 1) =
      counts-last wait_number n s.waits (wait_with r name event t given s) in omega (arith, more)) h

  once-invocation : (r : Run) (name : List ℕ) (child : ℕ) (t : Option Time) (s : State) → OnceEach is s
      → OnceEach is (add_invocation r name child t s)
  once-invocation r name child t s h = once-new is is s (add_invocation r name child t s) refl
      (λ n. let more : counts invocation_number n (s.invocations ++ invoked r name child t s ∷ [])
      ≡ counts invocation_number n s.invocations + one_if (n == s.entries + 1) =
      counts-last invocation_number n s.invocations (invoked r name child t s) in omega (arith, more)) h

  once-ended : (r : Run) (status : RunStatus) (s : State) → OnceEach is s → OnceEach is (end_run r status s)
  once-ended r status s h = once-less is is s (end_run r status s) refl
      (λ n.
      let a = counts-filter item_number n (λ i. not (has_run r.number i)) s.items in
      let b = counts-filter sleep_number n (λ (e : Sleep). not (r.number == e.run)) s.sleeps in
      let c = counts-filter wait_number n (λ (e : Waiting). not (r.number == e.wait.run)) s.waits in
      let d = counts-filter invocation_number n (λ (e : Invocation). not (r.number == e.run)) s.invocations in
      let e = counts-filter rule_number n (λ (e : Rule). not (r.number == e.run)) s.rules in
      omega (arith, a, b, c, d, e)) h

  once-items : (test : Item → Bool) (s : State) → OnceEach is s
      → OnceEach is (record s { items = filter test s.items })
  once-items test s h = once-less is is s (record s { items = filter test s.items }) refl
      (λ n. let less = counts-filter item_number n test s.items in omega (arith, less)) h

keeps-once : (is : List Item) → Keeps (OnceEach is)
keeps-once is = freely (OnceEach is) (record {
  accepts = λ event id s new h. once-accepted is event id s h;
  starts = λ f event parent s there given h. h;
  fills = λ f r value event s may full h. once-offered is f r value event s h;
  fires = λ f w s there stands h. once-windows is (λ v. not (windows.has_number (windows.number_of w) v)) s h;
  joins = λ f r value event s may full h. once-offered is f r value event s h;
  windows_go = λ number s h. once-windows is (λ v. not (windows.has_number number v)) s h;
  rules = λ r event c s there e h. once-rule is r event c s h;
  finds_out = λ r s there h. once-queued is r step_target s h;
  wants = λ r s live h. h;
  plans = λ r name s live new h. once-queued is r name s h;
  sleeps = λ r name t s live new h. once-sleep is r name t s h;
  waits = λ r name event t given s live new h. once-wait is r name event t given s h;
  pends = λ r name s live new h. h;
  invokes = λ r name child t s there h. once-invocation is r name child t s h;
  ends = λ r status s live h. once-ended is r status s h;
}) (record {
  records = λ run name result s h. once-items is (λ i. not (is_item_of run name i)) s h;
  sleeps_go = λ test s h. once-less is is s (record s { sleeps = filter test s.sleeps }) refl
      (λ n. let less = counts-filter sleep_number n test s.sleeps in omega (arith, less)) h;
  waits_go = λ test s h. once-less is is s (record s { waits = filter test s.waits }) refl
      (λ n. let less = counts-filter wait_number n test s.waits in omega (arith, less)) h;
  invocations_go = λ test s h. once-less is is s (record s { invocations = filter test s.invocations }) refl
      (λ n. let less = counts-filter invocation_number n test s.invocations in omega (arith, less)) h;
  rules_go = λ test s h. once-less is is s (record s { rules = filter test s.rules }) refl
      (λ n. let less = counts-filter rule_number n test s.rules in omega (arith, less)) h;
})

-- ## Calls

once-closed : (i : Issue) (s : State) → IsIn i s.issues → OnceEach [] s → OnceEach (i.item ∷ []) (close i.call s)
once-closed i s there h = once-less [] (i.item ∷ []) s (close i.call s) refl
    (λ n.
    let test : Issue → Bool = λ (other : Issue). not (i.call == other.call) in
    let a = counts-gone open_item n test i s.issues there (ap not (eq-eqb i.call i.call refl)) in
    let b = counts-filter limit_number n test s.issues in
    let c = counts-first item_number n i.item [] in
    omega (arith, a, b, c)) h

once-reopened : (s : State) → OnceEach [] s → OnceEach (map item_of s.issues) (record s { issues = [] })
once-reopened s h = once-less [] (map item_of s.issues) s (record s { issues = [] }) refl
    (λ n.
    let a = counts-open n s.issues in
    let b = counts-none open_item n in
    let c = counts-none limit_number n in
    let d = counts-none item_number n in
    omega (arith, a, b, c, d)) h

once-dropped : (i : Item) (is : List Item) (s : State) → OnceEach (i ∷ is) s → OnceEach is s
once-dropped i is s h = once-less (i ∷ is) is s s refl
    (λ n. let a = counts-first item_number n i is in omega (arith, a)) h

once-again : (i j : Item) (is : List Item) (s : State) → j.number ≡ i.number → OnceEach (i ∷ is) s
    → OnceEach is (queue j s)
once-again i j is s same h = once-less (i ∷ is) is s (queue j s) refl
    (λ n.
    let a = counts-first item_number n i is in
    let b : counts item_number n (insert_item j s.items) ≡ counts item_number n s.items + one_if (n == i.number) =
    subst (λ m. counts item_number n (insert_item j s.items) ≡ counts item_number n s.items + one_if (n == m)) same
    (counts-queued n j s.items) in
    omega (arith, a, b)) h

once-drops : Drops OnceEach
once-drops = record {
  runs = keeps-once;
  closes = once-closed;
  reopens = once-reopened;
  drops = once-dropped;
  retries = λ i is a r s live new h. once-again i (again i a s) is s refl h;
  requeues = λ i is r s live new h. once-again i (record i { due = s.moment }) is s refl h;
}

once-issue : (number : ℕ) (i : Item) (s : State) → item_at number s ≡ Some i → OnceEach [] s
    → OnceEach [] (issue i s)
once-issue number i s found h = once-new [] [] s (issue i s) refl
    (λ n.
    let a = counts-gone item_number n (λ j. not (has_number i.number j)) i s.items
    (in-found (has_number number) s.items i found) (ap not (eq-eqb i.number i.number refl)) in
    let b : counts open_item n (s.issues ++ issued i s ∷ [])
    ≡ counts open_item n s.issues + one_if (n == i.number) = counts-last open_item n s.issues (issued i s) in
    let c : counts limit_number n (s.issues ++ issued i s ∷ [])
    ≡ counts limit_number n s.issues + one_if (n == s.entries + 1) =
    counts-last limit_number n s.issues (issued i s) in
    omega (arith, a, b, c)) h

once-tidied : (s : State) → OnceEach [] s → OnceEach [] (tidied s)
unfolding tidied
once-tidied s h = h

once-steps : (bound : ℕ) → KeepsSteps bound (λ input. Unit {0}) OnceEach
once-steps bound = record {
  calls = dropping OnceEach once-drops;
  counts = λ s h. h;
  moves = λ t next s low e h. h;
  arrives = λ t s low on before h. h;
  issues = λ number i s next there h. once-issue number i s there h;
  registers = λ at app s asked h. h;
  tidies = once-tidied;
}

once-step : (s : State) (input : Input) → OnceEach [] s → OnceEach [] (step s input).state
once-step s input h =
    let bound : ℕ = moment_at (reading input) s in
    kept-step bound (λ input. Unit {0}) OnceEach (once-steps bound) s input (omega arith) tt h

once-after : (inputs : List Input) (s : State) → OnceEach [] s → OnceEach [] (state_after s inputs)
once-after [] s h = h
once-after (input ∷ inputs) s h = once-after inputs (step s input).state (once-step s input h)

once-empty : (limits : Limits) → OnceEach [] (empty limits)
once-empty limits n =
    let a = counts-none item_number n in
    let b = counts-none open_item n in
    let c = counts-none sleep_number n in
    let d = counts-none wait_number n in
    let e = counts-none invocation_number n in
    let f = counts-none rule_number n in
    let g = counts-none windows.number_of n in
    let k = counts-none limit_number n in
    (omega (arith, a, b, c, d, e, f, g, k), λ over. omega (arith, a, b, c, d, e, f, g, k))

-- ## Two by two

none-counted : (n : ℕ) (ns : List ℕ) → counts own n ns ≡ 0 → AllByRecursion (λ m. n ≢ m) ns
none-counted n [] h = tt
none-counted n (m ∷ ms) h =
    let a : counts own n (m ∷ ms) ≡ counts own n ms + one_if (n == m) = counts-first own n m ms in (
      λ same. let b : one_if (n == m) ≡ 1 = ap one_if (eq-eqb n m same) in omega (arith, a, b, h),
      none-counted n ms (omega (arith, a, h)),
    )

pub apart-counted : (ns : List ℕ) → ((n : ℕ) → counts own n ns ≤ 1) → ArePairwise (λ n later. n ≢ later) ns
apart-counted [] h = tt
apart-counted (m ∷ ms) h =
    let a : counts own m (m ∷ ms) ≡ counts own m ms + one_if (m == m) = counts-first own m m ms in
    let b : one_if (m == m) ≡ 1 = ap one_if (eq-eqb m m refl) in
    let c = h m in (
      none-counted m ms (omega (arith, a, b, c)),
      apart-counted ms (λ n. let d = counts-first own n m ms in let e = h n in omega (arith, d, e)),
    )

all-counted : (s : State) (n : ℕ) → counts own n (entry_numbers s) ≡ total n [] s
all-counted s n =
    let a : List ℕ = map item_number s.items in
    let b : List ℕ = map open_item s.issues in
    let c : List ℕ = map sleep_number s.sleeps in
    let d : List ℕ = map wait_number s.waits in
    let e : List ℕ = map invocation_number s.invocations in
    let f : List ℕ = map rule_number s.rules in
    let g : List ℕ = map windows.number_of s.windows in
    let k : List ℕ = map limit_number s.issues in
    let x0 = counts-both own n (a ++ b ++ c ++ d ++ e ++ f ++ g) k in
    let x1 = counts-both own n (a ++ b ++ c ++ d ++ e ++ f) g in
    let x2 = counts-both own n (a ++ b ++ c ++ d ++ e) f in
    let x3 = counts-both own n (a ++ b ++ c ++ d) e in
    let x4 = counts-both own n (a ++ b ++ c) d in
    let x5 = counts-both own n (a ++ b) c in
    let x6 = counts-both own n a b in
    let y0 = counts-map item_number n s.items in
    let y1 = counts-map open_item n s.issues in
    let y2 = counts-map sleep_number n s.sleeps in
    let y3 = counts-map wait_number n s.waits in
    let y4 = counts-map invocation_number n s.invocations in
    let y5 = counts-map rule_number n s.rules in
    let y6 = counts-map windows.number_of n s.windows in
    let y7 = counts-map limit_number n s.issues in
    let z = counts-none item_number n in
    omega (arith, x0, x1, x2, x3, x4, x5, x6, y0, y1, y2, y3, y4, y5, y6, y7, z)

pub once-fold : (limits : Limits) (inputs : List Input) → OnceEach [] (fold limits inputs)
once-fold limits inputs = once-after inputs (empty limits) (once-empty limits)

pub apart-fold : (limits : Limits) (inputs : List Input)
    → ArePairwise (λ n later. n ≢ later) (entry_numbers (fold limits inputs))
apart-fold limits inputs =
    let s : State = fold limits inputs in
    apart-counted (entry_numbers s)
    (λ n. let a = all-counted s n in let b = (once-fold limits inputs n).0 in
    omega (arith, a, b))
