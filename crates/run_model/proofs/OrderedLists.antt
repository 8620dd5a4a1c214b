-- Lists stand in order, and each version in one place: at each change, and so through each step. So all numbers rise.
use Rattle.std.proofs.Common.{◌≡◌, ◌≢◌, ℕ, inl, inr, ◌+◌, ◌<◌, ◌≤◌, ◌==◌, Bool, true, false, not, cond, List, [], ◌∷◌, ◌++◌, map, filter, length, Option, Some, None, refl, sym, ap, ◌∙◌, nat_lt, nat_le, arith, eq-eqb, eqb-true}
use Rattle.std.specs.Cmp.{IsTotalOrder}
use Rattle.std.specs.List.{AllByRecursion}
use Rattle.std.specs.Ordering.{is_eq, is_lt, nat_cmp, ordering_reverse, ordering_then}
use Rattle.std.specs.declared.cmp.Ordering.{Ordering}
use Rattle.std.specs.declared.cmp.Ordering.TheVariants.{Less, Equal, Greater}
use Rattle.std.proofs.lemmas.Bool.Decides.{nat_tests}
use Rattle.std.proofs.lemmas.Cmp.{nat_cmp_total, on_total, then_total}
use Rattle.kinds.specs.Inputs.{reading}
use Rattle.kinds.specs.Queue.{has_number, has_run, insert_item}
use Rattle.kinds.specs.Windows as windows
use Rattle.kinds.specs.Windows.{insert_window, is_full, is_of, others, standing}
use Rattle.kinds.specs.declared.event.EventIn.{EventIn}
use Rattle.kinds.specs.declared.function.App.{App}
use Rattle.kinds.specs.declared.function.Function.{Function}
use Rattle.kinds.specs.declared.input.Input.{Input}
use Rattle.kinds.specs.declared.limits.Limits.{Limits}
use Rattle.kinds.specs.declared.seen.SeenEntry.{SeenEntry}
use Rattle.kinds.specs.declared.store.Item.{Item}
use Rattle.kinds.specs.declared.store.RunStatus.{RunStatus}
use Rattle.kinds.specs.declared.window.Window.{Window}
use Rattle.kinds.specs.declared.window.WindowRule.{WindowRule}
use Rattle.functions.specs.Functions.{new_in, numbered, registered, stays, version_of}
use Rattle.functions.specs.declared.entry.FunctionEntry.{FunctionEntry}
use Rattle.lists.proofs.Elements.{all-both, all-weaker}
use Rattle.lists.specs.Entries.{insert_by, key_of, pair_cmp}
use Rattle.run_model.specs.Ends.{end_run, run_number}
use Rattle.run_model.specs.Events.{add_event, event_with}
use Rattle.run_model.specs.Fit.{RunsStandOnce}
use Rattle.run_model.specs.Laws.{IsIn}
use Rattle.run_model.specs.Machine.{fold, insert_all, state_after, step, with_functions}
use Rattle.run_model.specs.Making.{is_item_of, new_item, queue, step_target}
use Rattle.run_model.specs.Replies.{again}
use Rattle.run_model.specs.Requests.{remember}
use Rattle.run_model.specs.Sound.{ArePairwise, IsNumbered, IsSeen, RemembersOnce, RiseTo, StandsApart, numbers_of, stands_before}
use Rattle.run_model.specs.State.{State, Run, EndedRun, empty, has_open_call, is_version_named, moment_at, tidied, without_closed}
use Rattle.run_model.proofs.Apart.{all-unmap, pairs-map, pairs-unmap}
use Rattle.run_model.proofs.Awaiting.{Awaits, awaits-fold}
use Rattle.run_model.proofs.EntryNumbers.{Bound, OnceEach, apart-counted, bound-less, counts, counts-both, counts-filter, counts-first, counts-map, counts-none, item_number, limit_number, once-fold, open_item}
use Rattle.run_model.proofs.FitRuns.{all-inserted, all-queued}
use Rattle.run_model.proofs.FitWindows.{all-inserted_in, pairs-filter}
use Rattle.run_model.proofs.Kept.{Keeps, freely, window_after, with_offer}
use Rattle.run_model.proofs.KeptReplies.{dropping}
use Rattle.run_model.proofs.KeptSteps.{KeepsSteps, kept-step}
use Rattle.run_model.proofs.Members.{all-in, all-map}
use Rattle.run_model.proofs.Registered.{versions-fold}
use Rattle.run_model.proofs.RunsOnce.{once-fold as runs-once}
use Rattle.run_model.proofs.SeenOnce.{seen-fold}
use Rattle.run_model.proofs.WaitingCounts.{one_if}

-- ## Insertion

before-later : (a b : ℕ) → is_lt (nat_cmp a b) ≡ true → a ≤ b
before-later a b e =
    let same : nat_lt a b ≡ is_lt (nat_cmp a b) = grind (arith, nat_tests) in
    let less : nat_lt a b ≡ true = same ∙ e in
    grind (arith, less)

not-before : (a b : ℕ) → is_lt (nat_cmp a b) ≡ false → b ≤ a
not-before a b e =
    let same : nat_lt a b ≡ is_lt (nat_cmp a b) = grind (arith, nat_tests) in
    let less : nat_lt a b ≡ false = same ∙ e in
    grind (arith, less)

module _ {X : Type 0} (part : X → ℕ) where
  abbrev pub InOrder : List X → Type 0
  InOrder xs = ArePairwise (λ x later. part x ≤ part later) xs

  order-inserted : (x : X) (xs : List X) → InOrder xs → InOrder (insert_by part x xs)
  order-inserted x [] h = (tt, tt)
  order-inserted x (y ∷ ys) h = by_test (is_lt (nat_cmp (part x) (part y))) refl (order-inserted x ys h.1)
    where
      by_test : (b : Bool) → is_lt (nat_cmp (part x) (part y)) ≡ b → InOrder (insert_by part x ys)
          → InOrder (cond b (x ∷ y ∷ ys) (y ∷ insert_by part x ys))
      by_test true e more =
          let low : part x ≤ part y = before-later (part x) (part y) e in (
            (
              low,
              all-weaker (λ z. part y ≤ part z) (λ z. part x ≤ part z) ys
                  (λ z (k : part y ≤ part z). omega (arith, low, k)) h.0,
            ),
            h,
          )
      by_test false e more =
          (all-inserted (λ z. part y ≤ part z) part x ys (not-before (part x) (part y) e) h.0, more)

order-queued : (x : Item) (items : List Item) → InOrder item_number items → InOrder item_number (insert_item x items)
order-queued x [] h = (tt, tt)
order-queued x (i ∷ items) h = by_test (nat_lt x.number i.number) refl (order-queued x items h.1)
  where
    by_test : (b : Bool) → nat_lt x.number i.number ≡ b → InOrder item_number (insert_item x items)
        → InOrder item_number (cond b (x ∷ i ∷ items) (i ∷ insert_item x items))
    by_test true e more =
        let low : x.number ≤ i.number = grind (arith, e) in (
          (
            low,
            all-weaker (λ (j : Item). i.number ≤ j.number) (λ (j : Item). x.number ≤ j.number) items
                (λ j (k : i.number ≤ j.number). omega (arith, low, k)) h.0,
          ),
          h,
        )
    by_test false e more =
        (all-queued (λ (j : Item). i.number ≤ j.number) x items (grind (arith, e)) h.0, more)

-- ## Windows

pair-total : IsTotalOrder pair_cmp
pair-total = then_total (on_total (λ p. p.0) nat_cmp_total) (on_total (λ p. p.1) nat_cmp_total)

abbrev pub key : Window → ℕ × ℕ
key w = key_of windows.kind_of windows.number_of w

is-less : (o : Ordering) → is_lt o ≡ true → o ≡ Less
is-less Less e = refl
is-less Equal e = absurd (cc)
is-less Greater e = absurd (cc)

-- none stands before one in front of it
abbrev pub NotAfter : Window → Window → Type 0
NotAfter w later = is_lt (pair_cmp (key later) (key w)) ≡ false

not-after : (w v : Window) → is_lt (pair_cmp (key w) (key v)) ≡ true → NotAfter w v
not-after w v e =
    ap is_lt (pair-total.antisymm (key v) (key w) ∙ ap ordering_reverse (is-less (pair_cmp (key w) (key v)) e))

not-after-all : (w v x : Window) → is_lt (pair_cmp (key w) (key v)) ≡ true → NotAfter v x → NotAfter w x
not-after-all w v x e h = by_test (is_lt (pair_cmp (key x) (key w))) refl
  where
    by_test : (b : Bool) → is_lt (pair_cmp (key x) (key w)) ≡ b → b ≡ false
    by_test true k =
        let yes : is_lt (pair_cmp (key x) (key v)) ≡ true =
        ap is_lt (pair-total.trans (key x) (key w) (key v) (is-less (pair_cmp (key x) (key w)) k)
        (is-less (pair_cmp (key w) (key v)) e)) in
        absurd (let no = h in cc)
    by_test false k = refl

order-window : (w : Window) (ws : List Window) → ArePairwise NotAfter ws → ArePairwise NotAfter (insert_window w ws)
order-window w [] h = (tt, tt)
order-window w (v ∷ ws) h = by_test (is_lt (pair_cmp (key w) (key v))) refl (order-window w ws h.1)
  where
    by_test : (b : Bool) → is_lt (pair_cmp (key w) (key v)) ≡ b → ArePairwise NotAfter (insert_window w ws)
        → ArePairwise NotAfter (cond b (w ∷ v ∷ ws) (v ∷ insert_window w ws))
    by_test true e more = (
      (not-after w v e, all-weaker (NotAfter v) (NotAfter w) ws (λ x k. not-after-all w v x e k) h.0),
      h,
    )
    by_test false e more = (all-inserted_in (NotAfter v) w ws e h.0, more)

order-standing : (r : WindowRule) (w : Window) (ws : List Window) → ArePairwise NotAfter ws
    → ArePairwise NotAfter (standing r w ws)
order-standing r w ws h =
    let left : List Window = others (windows.version_of w) (windows.value_of w) ws in
    let fewer : ArePairwise NotAfter left =
    pairs-filter NotAfter (λ v. not (is_of (windows.version_of w) (windows.value_of w) v)) ws h in
    elim (is_full r w) as (λ b. ArePairwise NotAfter (cond b left (insert_window w left)))
    [ true ↦ fewer | false ↦ order-window w left fewer ]

-- ## Versions

counts-inserted : (n : ℕ) (f : FunctionEntry) (fs : List FunctionEntry)
    → counts version_of n (insert_by version_of f fs) ≡ counts version_of n fs + one_if (n == f.version)
counts-inserted n f [] = counts-first version_of n f []
counts-inserted n f (g ∷ fs) = by_test (is_lt (nat_cmp f.version g.version)) (counts-inserted n f fs)
  where
    by_test : (b : Bool)
        → counts version_of n (insert_by version_of f fs) ≡ counts version_of n fs + one_if (n == f.version)
        → counts version_of n (cond b (f ∷ g ∷ fs) (g ∷ insert_by version_of f fs))
        ≡ counts version_of n (g ∷ fs) + one_if (n == f.version)
    by_test true more = counts-first version_of n f (g ∷ fs)
    by_test false more =
        let a = counts-first version_of n g (insert_by version_of f fs) in
        let b = counts-first version_of n g fs in
        omega (arith, a, b, more)

counts-inserted_all : (n : ℕ) (fs es : List FunctionEntry)
    → counts version_of n (insert_all fs es) ≡ counts version_of n fs + counts version_of n es
counts-inserted_all n [] es = omega (arith, counts-none version_of n)
counts-inserted_all n (f ∷ fs) es =
    let a = counts-inserted_all n fs (insert_by version_of f es) in
    let b = counts-inserted n f es in
    let c = counts-first version_of n f fs in
    omega (arith, a, b, c)

order-inserted_all : (fs es : List FunctionEntry) → InOrder version_of es → InOrder version_of (insert_all fs es)
order-inserted_all [] es h = h
order-inserted_all (f ∷ fs) es h =
    order-inserted_all fs (insert_by version_of f es) (order-inserted version_of f es h)

counts-split : (n : ℕ) (test : FunctionEntry → Bool) (fs : List FunctionEntry)
    → counts version_of n (filter test fs) + counts version_of n (filter (λ f. not (test f)) fs)
    ≡ counts version_of n fs
counts-split n test [] = omega (arith, counts-none version_of n)
counts-split n test (f ∷ fs) = by_test (test f) (counts-split n test fs)
  where
    by_test : (b : Bool)
        → counts version_of n (filter test fs) + counts version_of n (filter (λ g. not (test g)) fs)
        ≡ counts version_of n fs
        → counts version_of n (cond b (f ∷ filter test fs) (filter test fs))
        + counts version_of n (cond (not b) (f ∷ filter (λ g. not (test g)) fs) (filter (λ g. not (test g)) fs))
        ≡ counts version_of n (f ∷ fs)
    by_test true more =
        let a = counts-first version_of n f (filter test fs) in
        let b = counts-first version_of n f fs in
        omega (arith, a, b, more)
    by_test false more =
        let a = counts-first version_of n f (filter (λ g. not (test g)) fs) in
        let b = counts-first version_of n f fs in
        omega (arith, a, b, more)

-- each of the next versions is of one
record Numbers (n versions most t : ℕ) : Type 0 where
  once : t ≤ 1
  over : n ≤ versions → t ≡ 0
  low : most < n → t ≡ 0

counts-numbered : (n : ℕ) (name : List ℕ) (versions : ℕ) (fs : List Function)
    → Numbers n versions (versions + length fs) (counts version_of n (numbered name versions fs))
counts-numbered n name versions [] =
    let none = counts-none version_of n in
    record { once = omega (arith, none); over = λ e. omega (arith, none); low = λ e. omega (arith, none) }
counts-numbered n name versions (f ∷ fs) =
    let entry : FunctionEntry = record { version = versions + 1; app = name; function = f } in
    let first : counts version_of n (entry ∷ numbered name (versions + 1) fs)
    ≡ counts version_of n (numbered name (versions + 1) fs) + one_if (n == versions + 1) =
    counts-first version_of n entry (numbered name (versions + 1) fs) in
    by_test (n == versions + 1) refl first (counts-numbered n name (versions + 1) fs)
  where
    by_test : (b : Bool) → (n == versions + 1) ≡ b
        → counts version_of n (numbered name versions (f ∷ fs))
        ≡ counts version_of n (numbered name (versions + 1) fs) + one_if b
        → Numbers n (versions + 1) (versions + 1 + length fs) (counts version_of n (numbered name (versions + 1) fs))
        → Numbers n versions (versions + length (f ∷ fs)) (counts version_of n (numbered name versions (f ∷ fs)))
    by_test true e first h =
        let same : n ≡ versions + 1 = eqb-true n (versions + 1) e in
        let none = h.over (omega (arith, same)) in
        record {
          once = omega (arith, first, none);
          over = λ (k : n ≤ versions). absurd (omega (arith, k, same));
          low = λ (k : versions + length (f ∷ fs) < n). absurd (omega (arith, k, same));
        }
    by_test false e first h = record {
      once = let k = h.once in omega (arith, first, k);
      over = λ (k : n ≤ versions). let none = h.over (omega (arith, k)) in omega (arith, first, none);
      low = λ (k : versions + length (f ∷ fs) < n). let none = h.low (omega (arith, k)) in omega (arith, first, none);
    }

abbrev pub VersionsOnce : ℕ → List FunctionEntry → List FunctionEntry → Type 0
VersionsOnce versions fs es = (n : ℕ) → Bound versions n (counts version_of n fs + counts version_of n es)

versions-registered : (app : App) (versions : ℕ) (fs es : List FunctionEntry) → VersionsOnce versions fs es
    → VersionsOnce (versions + length (new_in app fs)) (registered app versions fs)
    (insert_all (filter (λ f. not (stays app f)) fs) es)
unfolding registered
versions-registered app versions fs es h n =
    let a = counts-both version_of n (filter (stays app) fs) (numbered app.name versions (new_in app fs)) in
    let b = counts-inserted_all n (filter (λ f. not (stays app f)) fs) es in
    let c = counts-split n (stays app) fs in
    let k = counts-numbered n app.name versions (new_in app fs) in
    let before = h n in
    let once = k.once in
    by_test (nat_le n versions) refl a b c k before
  where
    by_test : (low : Bool) → nat_le n versions ≡ low
        → counts version_of n (filter (stays app) fs ++ numbered app.name versions (new_in app fs))
        ≡ counts version_of n (filter (stays app) fs)
        + counts version_of n (numbered app.name versions (new_in app fs))
        → counts version_of n (insert_all (filter (λ f. not (stays app f)) fs) es)
        ≡ counts version_of n (filter (λ f. not (stays app f)) fs) + counts version_of n es
        → counts version_of n (filter (stays app) fs) + counts version_of n (filter (λ f. not (stays app f)) fs)
        ≡ counts version_of n fs
        → Numbers n versions (versions + length (new_in app fs))
        (counts version_of n (numbered app.name versions (new_in app fs)))
        → Bound versions n (counts version_of n fs + counts version_of n es)
        → Bound (versions + length (new_in app fs)) n
        (counts version_of n (filter (stays app) fs ++ numbered app.name versions (new_in app fs))
        + counts version_of n (insert_all (filter (λ f. not (stays app f)) fs) es))
    by_test true e a b c k before =
        let low : n ≤ versions = grind (arith, e) in
        let none = k.over low in
        let old = before.0 in (
          omega (arith, a, b, c, none, old),
          λ (over : versions + length (new_in app fs) < n). absurd (omega (arith, over, low)),
        )
    by_test false e a b c k before =
        let over : versions < n = grind (arith, e) in
        let none = before.1 over in
        let new = k.once in (
          omega (arith, a, b, c, none, new),
          λ (far : versions + length (new_in app fs) < n). let gone = k.low far in omega (arith, a, b, c, none, gone),
        )

-- ## The changes

abbrev pub Lists : State → Type 0
Lists s = InOrder run_number s.closing × (InOrder item_number s.items × (InOrder version_of s.retired
    × (ArePairwise NotAfter s.windows × VersionsOnce s.versions s.functions s.retired)))

lists-accepted : (event : EventIn) (id : Option (List ℕ)) (s : State) → Lists s
    → Lists (add_event (event_with event s) (remember id s))
lists-accepted event None s h = h
lists-accepted event (Some id) s h = h

lists-queued : (i : Item) (s : State) → Lists s → Lists (queue i s)
lists-queued i s h = (h.0, (order-queued i s.items h.1.0, h.1.1))

lists-items : (test : Item → Bool) (s : State) → Lists s → Lists (record s { items = filter test s.items })
lists-items test s h =
    (h.0, (pairs-filter (λ (i later : Item). i.number ≤ later.number) test s.items h.1.0, h.1.1))

lists-windows : (test : Window → Bool) (s : State) → Lists s → Lists (record s { windows = filter test s.windows })
lists-windows test s h =
    (h.0, (h.1.0, (h.1.1.0, (pairs-filter NotAfter test s.windows h.1.1.1.0, h.1.1.1.1))))

lists-offered : (f : FunctionEntry) (r : WindowRule) (value : List ℕ) (event : ℕ) (s : State) → Lists s
    → Lists (with_offer f r value event s)
lists-offered f r value event s h =
    (h.0, (h.1.0, (h.1.1.0, (order-standing r (window_after f r value event s) s.windows h.1.1.1.0, h.1.1.1.1))))

lists-ended : (r : Run) (status : RunStatus) (s : State) → Lists s → Lists (end_run r status s)
lists-ended r status s h = (
  order-inserted run_number r s.closing h.0,
  (pairs-filter (λ (i later : Item). i.number ≤ later.number) (λ i. not (has_run r.number i)) s.items h.1.0, h.1.1),
)

keeps-lists : Keeps Lists
keeps-lists = freely Lists (record {
  accepts = λ event id s new h. lists-accepted event id s h;
  starts = λ f event parent s there given h. h;
  fills = λ f r value event s may full h. lists-offered f r value event s h;
  fires = λ f w s there stands h. lists-windows (λ v. not (windows.has_number (windows.number_of w) v)) s h;
  joins = λ f r value event s may full h. lists-offered f r value event s h;
  windows_go = λ number s h. lists-windows (λ v. not (windows.has_number number v)) s h;
  rules = λ r event c s there e h. h;
  finds_out = λ r s there h. lists-queued (new_item r step_target s) (record s { entries = s.entries + 1 }) h;
  wants = λ r s live h. h;
  plans = λ r name s live new h. lists-queued (new_item r name s) (record s { entries = s.entries + 1 }) h;
  sleeps = λ r name t s live new h. h;
  waits = λ r name event t given s live new h. h;
  pends = λ r name s live new h. h;
  invokes = λ r name child t s there h. h;
  ends = λ r status s live h. lists-ended r status s h;
}) (record {
  records = λ run name result s h. lists-items (λ i. not (is_item_of run name i)) s h;
  sleeps_go = λ test s h. h;
  waits_go = λ test s h. h;
  invocations_go = λ test s h. h;
  rules_go = λ test s h. h;
})

lists-registered : (app : App) (s : State) → Lists s → Lists (with_functions app s)
lists-registered app s h = (
  h.0,
  (
    h.1.0,
    (
      order-inserted_all (filter (λ f. not (stays app f)) s.functions) s.retired h.1.1.0,
      (h.1.1.1.0, versions-registered app s.versions s.functions s.retired h.1.1.1.1),
    ),
  ),
)

lists-tidied : (s : State) → Lists s → Lists (tidied s)
unfolding tidied
lists-tidied s h =
    let t : State = without_closed s in (
      pairs-filter (λ (r later : Run). r.number ≤ later.number) (λ (r : Run). has_open_call s.issues r.number) s.closing
          h.0,
      (
        h.1.0,
        (
          pairs-filter (λ (f later : FunctionEntry). f.version ≤ later.version) (is_version_named t) s.retired h.1.1.0,
          (
            h.1.1.1.0,
            λ n. bound-less s.versions n (counts version_of n s.functions + counts version_of n s.retired)
                (counts version_of n s.functions + counts version_of n (filter (is_version_named t) s.retired))
                (let less = counts-filter version_of n (is_version_named t) s.retired in omega (arith, less))
                (h.1.1.1.1 n),
          ),
        ),
      ),
    )

lists-steps : (bound : ℕ) → KeepsSteps bound (λ input. Unit {0}) (λ is s. Lists s)
lists-steps bound = record {
  calls = dropping (λ is s. Lists s) (record {
    runs = λ is. keeps-lists;
    closes = λ i s there h. h;
    reopens = λ s h. h;
    drops = λ i is s h. h;
    retries = λ i is a r s live new h. lists-queued (again i a s) s h;
    requeues = λ i is r s live new h. lists-queued (record i { due = s.moment }) s h;
  });
  counts = λ s h. h;
  moves = λ t next s low e h. h;
  arrives = λ t s low on before h. h;
  issues = λ number i s next there h. lists-items (λ j. not (has_number i.number j)) s h;
  registers = λ at app s asked h. lists-registered app s h;
  tidies = lists-tidied;
}

lists-step : (s : State) (input : Input) → Lists s → Lists (step s input).state
lists-step s input h =
    let bound : ℕ = moment_at (reading input) s in
    kept-step bound (λ input. Unit {0}) (λ is s. Lists s) (lists-steps bound) s input (omega arith) tt h

lists-after : (inputs : List Input) (s : State) → Lists s → Lists (state_after s inputs)
lists-after [] s h = h
lists-after (input ∷ inputs) s h = lists-after inputs (step s input).state (lists-step s input h)

lists-empty : (limits : Limits) → Lists (empty limits)
lists-empty limits = (
  tt,
  (
    tt,
    (
      tt,
      (
        tt,
        λ n.
            let none = counts-none version_of n in (omega (arith, none), λ over. omega (arith, none)),
      ),
    ),
  ),
)

-- ## What follows

pairs-weaker : {X : Type 0} (R S : X → X → Type 0) (xs : List X) → ((x y : X) → R x y → S x y) → ArePairwise R xs
    → ArePairwise S xs
pairs-weaker R S [] w h = tt
pairs-weaker R S (x ∷ xs) w h = (all-weaker (R x) (S x) xs (λ y k. w x y k) h.0, pairs-weaker R S xs w h.1)

pairs-both : (ns : List ℕ) → ArePairwise (λ n later. n ≤ later) ns → ArePairwise (λ n later. n ≢ later) ns
    → ArePairwise (λ n later. n < later) ns
pairs-both [] h k = tt
pairs-both (n ∷ ns) h k = (
  all-both (λ m. n ≤ m) (λ m. n ≢ m) (λ m. n < m) ns (λ m low differs. less n m low differs) h.0 k.0,
  pairs-both ns h.1 k.1,
)
  where
    less : (a b : ℕ) → a ≤ b → a ≢ b → a < b
    less a b low differs = by_test (a == b) refl
      where
        by_test : (c : Bool) → (a == b) ≡ c → a < b
        by_test true e = absurd (differs (eqb-true a b e))
        by_test false e = grind (arith, low, e)

module _ {X : Type 0} (part : X → ℕ) where
  pub counts-here : (x : X) (xs : List X) → IsIn x xs → 1 ≤ counts part (part x) xs
  counts-here x [] there = absurd there
  counts-here x (y ∷ ys) (inl same) =
      let a : counts part (part x) (y ∷ ys) ≡ counts part (part x) ys + one_if (part x == part y) =
      counts-first part (part x) y ys in
      let b : one_if (part x == part y) ≡ 1 = ap one_if (eq-eqb (part x) (part y) (ap part (sym same))) in
      omega (arith, a, b)
  counts-here x (y ∷ ys) (inr there) =
      let a = counts-first part (part x) y ys in
      let b = counts-here x ys there in
      omega (arith, a, b)

  -- none has a number that wasn't given
  all-low : (entries : ℕ) (xs : List X) → ((n : ℕ) → entries < n → counts part n xs ≡ 0)
      → AllByRecursion (λ x. part x ≤ entries) xs
  all-low entries xs h = all-in (λ x. part x ≤ entries) xs (λ x there. by_test x there (nat_le (part x) entries) refl)
    where
      by_test : (x : X) → IsIn x xs → (b : Bool) → nat_le (part x) entries ≡ b → part x ≤ entries
      by_test x there true e = grind (arith, e)
      by_test x there false e =
          let none = h (part x) (grind (arith, e)) in
          let one = counts-here x xs there in
          absurd (omega (arith, none, one))

  all-different : (xs : List X) → ((n : ℕ) → counts part n xs ≤ 1)
      → ArePairwise (λ n later. n ≢ later) (map part xs)
  all-different xs h = apart-counted (map part xs)
      (λ n. let a = counts-map part n xs in let b = h n in omega (arith, a, b))

  -- they stand in order, and each has a number of its own
  all-rise : (entries : ℕ) (xs : List X) → InOrder part xs
      → ((n : ℕ) → (counts part n xs ≤ 1) × (entries < n → counts part n xs ≡ 0)) → RiseTo entries (map part xs)
  all-rise entries xs order h = (
    pairs-both (map part xs) (pairs-map (λ n later. n ≤ later) part xs order) (all-different xs (λ n. (h n).0)),
    all-map (λ n. n ≤ entries) part xs (all-low entries xs (λ n. (h n).1)),
  )

nat_cmp_same : (a b : ℕ) → nat_cmp a b ≡ Equal → a ≡ b
nat_cmp_same a b e =
    let same : (a == b) ≡ is_eq (nat_cmp a b) = grind (arith, nat_tests) in
    eqb-true a b (same ∙ ap is_eq e)

same-place : (w v : Window) → pair_cmp (key w) (key v) ≡ Equal → windows.number_of w ≡ windows.number_of v
same-place w v e = by_order (nat_cmp (windows.kind_of w) (windows.kind_of v)) e
  where
    by_order : (o : Ordering)
        → ordering_then o (nat_cmp (windows.number_of w) (windows.number_of v)) ≡ Equal
        → windows.number_of w ≡ windows.number_of v
    by_order Less k = absurd (cc)
    by_order Greater k = absurd (cc)
    by_order Equal k = nat_cmp_same (windows.number_of w) (windows.number_of v) k

placed-all : (ws : List Window) → ArePairwise NotAfter ws
    → ArePairwise (λ n later. n ≢ later) (map windows.number_of ws)
    → ArePairwise (λ w later. stands_before w later ≡ true) ws
placed-all ws h k = both ws h (pairs-unmap (λ n later. n ≢ later) windows.number_of ws k)
  where
    strictly : (w v : Window) → NotAfter w v → windows.number_of w ≢ windows.number_of v
        → stands_before w v ≡ true
    strictly w v never differs = by_order (pair_cmp (key w) (key v)) refl
      where
        by_order : (o : Ordering) → pair_cmp (key w) (key v) ≡ o → is_lt o ≡ true
        by_order Less e = refl
        by_order Equal e = absurd (differs (same-place w v e))
        by_order Greater e =
            let yes : is_lt (pair_cmp (key v) (key w)) ≡ true =
            ap is_lt (pair-total.antisymm (key v) (key w) ∙ ap ordering_reverse e) in
            absurd (let not_so = never in cc)

    both : (vs : List Window) → ArePairwise NotAfter vs
        → ArePairwise (λ w later. windows.number_of w ≢ windows.number_of later) vs
        → ArePairwise (λ w later. stands_before w later ≡ true) vs
    both [] a b = tt
    both (v ∷ vs) a b = (
      all-both (NotAfter v) (λ x. windows.number_of v ≢ windows.number_of x) (λ x. stands_before v x ≡ true) vs
          (λ x never differs. strictly v x never differs) a.0 b.0,
      both vs a.1 b.1,
    )

pub lists-fold : (limits : Limits) (inputs : List Input) → Lists (fold limits inputs)
lists-fold limits inputs = lists-after inputs (empty limits) (lists-empty limits)

pub numbered-fold : (limits : Limits) (inputs : List Input) → IsNumbered (fold limits inputs)
numbered-fold limits inputs =
    let s : State = fold limits inputs in
    let lists : Lists s = lists-fold limits inputs in
    let rise : Awaits s = awaits-fold limits inputs in
    let entries : OnceEach [] s = once-fold limits inputs in
    let once : RunsStandOnce s = runs-once limits inputs in
    let seen : RemembersOnce s = seen-fold limits inputs in
    record {
      functions = versions-fold limits inputs;
      retired = all-rise version_of s.versions s.retired lists.1.1.0
          (λ n. let h = lists.1.1.1.1 n in (
            (let m = h.0 in omega (arith, m)),
            λ over. let m = h.1 over in omega (arith, m),
          ));
      seen = (
        pairs-map (λ n later. n < later) (λ (e : SeenEntry). e.number) s.seen
            (pairs-weaker StandsApart (λ (e later : SeenEntry). e.number < later.number) s.seen
            (λ e later k. k.0) seen.apart),
        all-map (λ n. n ≤ s.events) (λ (e : SeenEntry). e.number) s.seen
            (all-weaker (IsSeen s) (λ (e : SeenEntry). e.number ≤ s.events) s.seen (λ e k. k.numbered) seen.entries),
      );
      texts = rise.0.1.1.1;
      live = rise.0.1.0;
      closing = (
        pairs-both (numbers_of s.closing) (pairs-map (λ n later. n ≤ later) run_number s.closing lists.0)
            once.closing_apart,
        once.closing_given,
      );
      ended = all-unmap (λ n. n ≤ s.runs) (λ (e : EndedRun). e.run) s.ended once.ended_given;
      issues = rise.0.1.1.0;
      items = all-rise item_number s.entries s.items lists.1.0
          (λ n. let h = entries n in (
            (let m = h.0 in omega (arith, m)),
            λ over. let m = h.1 over in omega (arith, m),
          ));
      sleeps = rise.0.0.sleeps_rise;
      waits = rise.0.0.waits_rise;
      invocations = rise.0.0.invocations_rise;
      rules = rise.0.0.rules_rise;
      windows = all-low windows.number_of s.entries s.windows
          (λ n over. let m = (entries n).1 over in omega (arith, m));
      placed = placed-all s.windows lists.1.1.1.0
          (all-different windows.number_of s.windows (λ n. let m = (entries n).0 in omega (arith, m)));
      limits = all-low limit_number s.entries s.issues (λ n over. let m = (entries n).1 over in omega (arith, m));
      open_items = all-low open_item s.entries s.issues
          (λ n over. let m = (entries n).1 over in omega (arith, m));
    }
