-- Each run that has not ended has a call, something that it waits for, or something to find out: at each change, and so
-- through each step.
use Rattle.std.proofs.Common.{◌≡◌, ℕ, suc, ◌⊎◌, inl, inr, ◌+◌, ◌<◌, ◌==◌, Bool, true, false, not, ◌&&◌, ◌||◌, cond, List, [], ◌∷◌, ◌++◌, map, filter, length, Option, Some, None, refl, sym, ap, ◌∙◌, subst, nat_lt, arith, eq-eqb, eqb-true}
use Rattle.std.specs.BTreeMap.{insert_entry}
use Rattle.std.specs.Cmp.Lexicographic.{slice_cmp}
use Rattle.std.specs.List.{AllByRecursion, list_any}
use Rattle.std.specs.Ordering.{match_ordering, nat_cmp}
use Rattle.std.specs.declared.cmp.Ordering.{Ordering}
use Rattle.std.specs.declared.cmp.Ordering.TheVariants.{Less, Equal, Greater}
use Rattle.kinds.specs.Inputs.{reading}
use Rattle.kinds.specs.Queue.{has_number, has_run, insert_item, without_number, without_run}
use Rattle.kinds.specs.RunSteps.{pend_step}
use Rattle.kinds.specs.Windows as windows
use Rattle.kinds.specs.declared.event.EventIn.{EventIn}
use Rattle.kinds.specs.declared.input.Input.{Input}
use Rattle.kinds.specs.declared.limits.Limits.{Limits}
use Rattle.kinds.specs.declared.store.Item.{Item}
use Rattle.kinds.specs.declared.store.Parent.{Parent}
use Rattle.kinds.specs.declared.store.Pending.{Pending}
use Rattle.kinds.specs.declared.store.Pending.TheVariants as pending
use Rattle.kinds.specs.declared.store.RunStatus.{RunStatus}
use Rattle.functions.specs.declared.entry.FunctionEntry.{FunctionEntry}
use Rattle.lists.proofs.Elements.{all-both, all-filter, all-last, all-weaker, filter-passes}
use Rattle.run_model.specs.Advance.{without_window}
use Rattle.run_model.specs.Ends.{end_run, without_invocation_of}
use Rattle.run_model.specs.Events.{add_event, event_with}
use Rattle.run_model.specs.Fit.{AreDifferent, item_of}
use Rattle.run_model.specs.Laws.{IsIn}
use Rattle.run_model.specs.Machine.{step}
use Rattle.run_model.specs.Making.{is_item_of, new_item, queue, step_target}
use Rattle.run_model.specs.Recording.{change_run, changed, record_in, record_result, without_item}
use Rattle.run_model.specs.Replies.{again, close, is_idle, pend, want, with_plan, with_steps}
use Rattle.run_model.specs.Requests.{remember}
use Rattle.run_model.specs.Settle.{called, issue, issued, item_at}
use Rattle.run_model.specs.Sound.{ArePairwise}
use Rattle.run_model.specs.State.{State, Run, Issue, empty, live_run, moment_at, tidied}
use Rattle.run_model.proofs.Apart.{Beside, apart-drops, apart-issue, apart-tidied, keeps-apart, none-all, not-same}
use Rattle.run_model.proofs.FitWindows.{not-true}
use Rattle.run_model.proofs.Kept.{Ending, Keeps, freely, keeps-both, ending-both, own-number, run_from, started, window_after, with_offer}
use Rattle.run_model.proofs.KeptReplies.{KeepsCalls}
use Rattle.run_model.proofs.KeptSteps.{KeepsSteps, kept-step}
use Rattle.run_model.proofs.Limits.{same-item}
use Rattle.run_model.proofs.Members.{each-in, in-all, in-found, in-front, in-last}
use Rattle.run_model.proofs.Rising.{Rise, call_of, keeps-rise, rise-drops, rise-empty, rise-issue, rise-tidied, run_number}
use Rattle.run_model.proofs.SettlingLists.{found-passes}
use Rattle.run_model.proofs.WaitingNames.{Names}

-- ## One of a list

-- one that passes
abbrev pub Has : {X : Type 0} → (X → Bool) → List X → Type 0
Has {X} p xs = (x : X) × (IsIn x xs × (p x ≡ true))

pub has-in : {X Y : Type 0} (p : X → Bool) (q : Y → Bool) (xs : List X) (ys : List Y) (f : X → Y)
    → ((x : X) → IsIn x xs → p x ≡ true → IsIn (f x) ys × (q (f x) ≡ true)) → Has p xs → Has q ys
has-in p q xs ys f w h = (f h.0, w h.0 h.1.0 h.1.1)

-- as the list says
pub has-any : {X : Type 0} (p : X → Bool) (xs : List X) → list_any p xs ≡ true → Has p xs
has-any p [] e = absurd (cc)
has-any p (x ∷ xs) e = by_test (p x) refl e (λ k. has-any p xs k)
  where
    behind : Has p xs → Has p (x ∷ xs)
    behind h = (h.0, (inr h.1.0, h.1.1))

    by_test : (b : Bool) → p x ≡ b → (b || list_any p xs) ≡ true → (list_any p xs ≡ true → Has p xs)
        → Has p (x ∷ xs)
    by_test true own k more = (x, (inl refl, own))
    by_test false own k more = behind (more k)

pub in-kept : {X : Type 0} (p : X → Bool) (x : X) (xs : List X) → IsIn x xs → p x ≡ true → IsIn x (filter p xs)
in-kept p x [] there e = absurd there
in-kept p x (y ∷ ys) (inl same) e =
    rw (subst (λ z. p z ≡ true) (sym same) e) (inl same)
in-kept p x (y ∷ ys) (inr there) e =
    elim (p y) as (λ b. IsIn x (cond b (y ∷ filter p ys) (filter p ys)))
    [ true ↦ inr (in-kept p x ys there e) | false ↦ in-kept p x ys there e ]

pub in-queued : (i j : Item) (items : List Item) → IsIn j items → IsIn j (insert_item i items)
in-queued i j [] there = absurd there
in-queued i j (k ∷ items) there =
    (elim (nat_lt i.number k.number) as (λ b. IsIn j (k ∷ items)
    → IsIn j (cond b (i ∷ k ∷ items) (k ∷ insert_item i items)))
    [ true ↦ λ h. inr h | false ↦ later (λ h. in-queued i j items h) ]) there
  where
    later : (IsIn j items → IsIn j (insert_item i items)) → IsIn j (k ∷ items) → IsIn j (k ∷ insert_item i items)
    later more (inl same) = inl same
    later more (inr h) = inr (more h)

pub in-own : (i : Item) (items : List Item) → IsIn i (insert_item i items)
in-own i [] = inl refl
in-own i (k ∷ items) =
    elim (nat_lt i.number k.number) as (λ b. IsIn i (cond b (i ∷ k ∷ items) (k ∷ insert_item i items)))
    [ true ↦ inl refl | false ↦ inr (in-own i items) ]

pub in-map : {X Y : Type 0} (f : X → Y) (x : X) (xs : List X) → IsIn x xs → IsIn (f x) (map f xs)
in-map f x [] there = absurd there
in-map f x (y ∷ ys) (inl same) = inl (ap f same)
in-map f x (y ∷ ys) (inr there) = inr (in-map f x ys there)

-- where numbers rise, those of one number are the same
pub same-one : {X : Type 0} (number_of : X → ℕ) (x y : X) (xs : List X) → IsIn x xs → IsIn y xs
    → ArePairwise (λ n later. n < later) (map number_of xs) → number_of x ≡ number_of y → x ≡ y
same-one number_of x y [] a b h same = absurd a
same-one number_of x y (z ∷ zs) (inl a) (inl b) h same = sym a ∙ b
same-one number_of x y (z ∷ zs) (inl a) (inr b) h same =
    let low : number_of z < number_of y =
    in-all (λ n. number_of z < n) (number_of y) (map number_of zs) (in-map number_of y zs b) h.0 in
    let own : number_of z ≡ number_of x = ap number_of a in
    absurd (omega (arith, low, own, same))
same-one number_of x y (z ∷ zs) (inr a) (inl b) h same =
    let low : number_of z < number_of x =
    in-all (λ n. number_of z < n) (number_of x) (map number_of zs) (in-map number_of x zs a) h.0 in
    let own : number_of z ≡ number_of y = ap number_of b in
    absurd (omega (arith, low, own, same))
same-one number_of x y (z ∷ zs) (inr a) (inr b) h same = same-one number_of x y zs a b h.1 same

-- ## What a run has

abbrev pub item_for : ℕ → Item → Bool
item_for number i = number == i.run

abbrev pub call_for : ℕ → Issue → Bool
call_for number i = number == i.item.run

-- an item, an open call, an item that is aside, a name that waits, or something to find out
abbrev pub GoesOn : List Item → List Issue → List Item → Run → Type 0
GoesOn items issues is r =
    Has (item_for r.number) items ⊎ (Has (call_for r.number) issues ⊎ (Has (item_for r.number) is
    ⊎ (((length r.steps.pending == 0) ≡ false) ⊎ (r.wanted ≡ true))))

-- from a run to a run
module _ (items items_now : List Item) (issues issues_now : List Issue) (is is_now : List Item) (r now : Run) where
  pub goes-on : (Has (item_for r.number) items → GoesOn items_now issues_now is_now now)
      → (Has (call_for r.number) issues → GoesOn items_now issues_now is_now now)
      → (Has (item_for r.number) is → GoesOn items_now issues_now is_now now)
      → ((length r.steps.pending == 0) ≡ false → GoesOn items_now issues_now is_now now)
      → (r.wanted ≡ true → GoesOn items_now issues_now is_now now)
      → GoesOn items issues is r → GoesOn items_now issues_now is_now now
  goes-on a b c d e (inl h) = a h
  goes-on a b c d e (inr (inl h)) = b h
  goes-on a b c d e (inr (inr (inl h))) = c h
  goes-on a b c d e (inr (inr (inr (inl h)))) = d h
  goes-on a b c d e (inr (inr (inr (inr h)))) = e h

by_item : (items : List Item) (issues : List Issue) (is : List Item) (r : Run) → Has (item_for r.number) items
    → GoesOn items issues is r
by_item items issues is r h = inl h

by_call : (items : List Item) (issues : List Issue) (is : List Item) (r : Run) → Has (call_for r.number) issues
    → GoesOn items issues is r
by_call items issues is r h = inr (inl h)

by_aside : (items : List Item) (issues : List Issue) (is : List Item) (r : Run) → Has (item_for r.number) is
    → GoesOn items issues is r
by_aside items issues is r h = inr (inr (inl h))

by_name : (items : List Item) (issues : List Issue) (is : List Item) (r : Run)
    → (length r.steps.pending == 0) ≡ false → GoesOn items issues is r
by_name items issues is r h = inr (inr (inr (inl h)))

by_want : (items : List Item) (issues : List Issue) (is : List Item) (r : Run) → r.wanted ≡ true
    → GoesOn items issues is r
by_want items issues is r h = inr (inr (inr (inr h)))

abbrev pub GoOn : List Item → State → Type 0
GoOn is s = AllByRecursion (GoesOn s.items s.issues is) s.live

-- ## One run changes, and items stay

pub all-changed_by : (P Q : Run → Type 0) (number : ℕ) (f : Run → Run) (live : List Run)
    → ((r : Run) → number ≡ r.number → P r → Q (f r)) → ((r : Run) → (number == r.number) ≡ false → P r → Q r)
    → AllByRecursion P live → AllByRecursion Q (changed number f live)
all-changed_by P Q number f [] own other h = h
all-changed_by P Q number f (r ∷ live) own other h = (
  (elim (number == r.number) as (λ b. (number == r.number) ≡ b → Q (cond b (f r) r)) [
    | true ↦ λ e. own r (eqb-true number r.number e) h.0
    | false ↦ λ e. other r e h.0
  ]) refl,
  all-changed_by P Q number f live own other h.1,
)

-- more items, and the same calls
more-items : (items items_now : List Item) (issues : List Issue) (is : List Item) (r : Run)
    → ((j : Item) → IsIn j items → IsIn j items_now) → GoesOn items issues is r → GoesOn items_now issues is r
more-items items items_now issues is r stays (inl h) = inl (h.0, (stays h.0 h.1.0, h.1.1))
more-items items items_now issues is r stays (inr h) = inr h

module _ (is : List Item) where
  go-queued : (i : Item) (s : State) → GoOn is s → GoOn is (queue i s)
  go-queued i s h =
      all-weaker (GoesOn s.items s.issues is) (GoesOn (insert_item i s.items) s.issues is) s.live
      (λ r k. more-items s.items (insert_item i s.items) s.issues is r (λ j there. in-queued i j s.items there) k) h

  -- a run that is wanted from now on
  go-wanted : (number : ℕ) (f : Run → Run) (s : State) → ((r : Run) → (f r).wanted ≡ true) → GoOn is s
      → GoOn is (change_run number f s)
  go-wanted number f s wanted h =
      all-changed_by (GoesOn s.items s.issues is) (GoesOn s.items s.issues is) number f s.live
      (λ r own k. by_want s.items s.issues is (f r) (wanted r)) (λ r other k. k) h

  -- another one goes on the same
  go-same : (number : ℕ) (f : Run → Run) (s : State)
      → ((r : Run) → GoesOn s.items s.issues is r → GoesOn s.items s.issues is (f r))
      → GoOn is s → GoOn is (change_run number f s)
  go-same number f s same h =
      all-changed_by (GoesOn s.items s.issues is) (GoesOn s.items s.issues is) number f s.live
      (λ r own k. same r k) (λ r other k. k) h

  some-inserted : (name : List ℕ) (kind : Pending) (ps : Names)
      → (length (insert_entry (slice_cmp nat_cmp) ps name kind) == 0) ≡ false
  some-inserted name kind [] = not-same 1 0 (λ e. omega (arith, e))
  some-inserted name kind (p ∷ ps) = by_order (slice_cmp nat_cmp name p.0)
    where
      some : (n : ℕ) → (suc n == 0) ≡ false
      some n = not-same (suc n) 0 (λ e. omega (arith, e))

      by_order : (o : Ordering) → (length (match_ordering o ((name, kind) ∷ p ∷ ps) ((p.0, kind) ∷ ps)
          (p ∷ insert_entry (slice_cmp nat_cmp) ps name kind)) == 0) ≡ false
      by_order Less = some (suc (length ps))
      by_order Equal = some (length ps)
      by_order Greater = some (length (insert_entry (slice_cmp nat_cmp) ps name kind))

  go-pended : (kind : Pending) (name : List ℕ) (r : Run) (s : State) → GoOn is s → GoOn is (pend kind name r s)
  go-pended kind name r s h =
      go-same r.number (λ q. with_steps (pend_step name kind q.steps) q) s
      (λ q k. by_name s.items s.issues is (with_steps (pend_step name kind q.steps) q)
      (some-inserted name kind q.steps.pending)) h

  go-started : (f : FunctionEntry) (events : List ℕ) (parent : Option Parent) (s : State) → GoOn is s
      → GoOn is (started f events parent s)
  go-started f events parent s h =
      all-last (GoesOn s.items s.issues is) s.live (run_from f events parent s) h
      (by_want s.items s.issues is (run_from f events parent s) refl)

  -- only its own items go
  go-recorded : (run : ℕ) (name result : List ℕ) (s : State) → GoOn is s → GoOn is (record_result run name result s)
  go-recorded run name result s h =
      all-changed_by (GoesOn s.items s.issues is) (GoesOn left s.issues is) run (record_in name result) s.live
      (λ r own k. by_want left s.issues is (record_in name result r) refl) (λ r other k. others r other k) h
    where
      left : List Item
      left = without_item run name s.items

      of_another : (r : Run) (j : Item) → (run == r.number) ≡ false → item_for r.number j ≡ true
          → not (is_item_of run name j) ≡ true
      of_another r j other own =
          rw (subst (λ n. (run == n) ≡ false) (eqb-true r.number j.run own) other) refl

      others : (r : Run) → (run == r.number) ≡ false → GoesOn s.items s.issues is r → GoesOn left s.issues is r
      others r other (inl k) =
          inl (
            k.0,
            (
              in-kept (λ j. not (is_item_of run name j)) k.0 s.items k.1.0 (of_another r k.0 other k.1.1),
              k.1.1,
            ),
          )
      others r other (inr k) = inr k

  go-ended : (r : Run) (status : RunStatus) (s : State) → GoOn is s → GoOn is (end_run r status s)
  go-ended r status s h =
      all-both (GoesOn s.items s.issues is) (λ (q : Run). not (r.number == q.number) ≡ true)
      (GoesOn (without_run r.number s.items) s.issues is)
      (filter (λ (q : Run). not (r.number == q.number)) s.live)
      (λ q k other. others q (not-true (r.number == q.number) other) k)
      (all-filter (GoesOn s.items s.issues is) (λ (q : Run). not (r.number == q.number)) s.live h)
      (filter-passes (λ (q : Run). not (r.number == q.number)) s.live)
    where
      others : (q : Run) → (r.number == q.number) ≡ false → GoesOn s.items s.issues is q
          → GoesOn (without_run r.number s.items) s.issues is q
      others q other (inl k) = inl (
        k.0,
        (
          in-kept (λ j. not (has_run r.number j)) k.0 s.items k.1.0
              (ap not (subst (λ n. (r.number == n) ≡ false) (eqb-true q.number k.0.run k.1.1) other)),
          k.1.1,
        ),
      )
      others q other (inr k) = inr k

go-accepted : (is : List Item) (event : EventIn) (id : Option (List ℕ)) (s : State) → GoOn is s
    → GoOn is (add_event (event_with event s) (remember id s))
go-accepted is event None s h = h
go-accepted is event (Some id) s h = h

keeps-go : (is : List Item) → Keeps (GoOn is)
keeps-go is = freely (GoOn is) (record {
  accepts = λ event id s new h. go-accepted is event id s h;
  starts = λ f event parent s there given h. go-started is f (event ∷ []) parent s h;
  fills = λ f r value event s may full h.
      go-started is f (windows.events_of (window_after f r value event s)) None (with_offer f r value event s) h;
  fires = λ f w s there stands h.
      go-started is f (windows.events_of w) None (without_window (windows.number_of w) s) h;
  joins = λ f r value event s may full h. h;
  windows_go = λ number s h. h;
  rules = λ r event c s there e h. h;
  finds_out = λ r s there h. go-queued is (new_item r step_target s) (record s { entries = s.entries + 1 }) h;
  wants = λ r s live h. go-wanted is r.number want s (λ q. refl) h;
  plans = λ r name s live new h.
      go-queued is (new_item r name s) (record (change_run r.number (with_plan name) s) { entries = s.entries + 1 })
      (go-same is r.number (with_plan name) s (λ q k. k) h);
  sleeps = λ r name t s live new h. go-pended is pending.Sleep name r s h;
  waits = λ r name event t given s live new h. go-pended is pending.Wait name r s h;
  pends = λ r name s live new h. go-pended is pending.Invocation name r s h;
  invokes = λ r name child t s there h. h;
  ends = λ r status s live h. go-ended is r status s h;
}) (record {
  records = λ run name result s h. go-recorded is run name result s h;
  sleeps_go = λ test s h. h;
  waits_go = λ test s h. h;
  invocations_go = λ test s h. h;
  rules_go = λ test s h. h;
})

-- ## Calls that end

-- numbers differ, and each run goes on
abbrev pub Going : List Item → State → Type 0
Going is s = (Rise s × Beside is s) × GoOn is s

go-closed : (i : Issue) (s : State) → IsIn i s.issues → Rise s → GoOn [] s → GoOn (i.item ∷ []) (close i.call s)
go-closed i s there rise h =
    all-weaker (GoesOn s.items s.issues []) (GoesOn s.items left (i.item ∷ [])) s.live (λ r k. one r k) h
  where
    left : List Issue
    left = filter (λ (other : Issue). not (i.call == other.call)) s.issues

    by_test : (r : Run) (j : Issue) (b : Bool) → (i.call == j.call) ≡ b → IsIn j s.issues
        → call_for r.number j ≡ true → GoesOn s.items left (i.item ∷ []) r
    by_test r j true e called_now own =
        let same : i ≡ j = same-one call_of i j s.issues there called_now rise.1.1.0.0 (eqb-true i.call j.call e) in
        by_aside s.items left (i.item ∷ []) r
        (i.item, (inl refl, subst (λ (k : Issue). call_for r.number k ≡ true) (sym same) own))
    by_test r j false e called_now own = by_call s.items left (i.item ∷ []) r
        (j, (in-kept (λ (other : Issue). not (i.call == other.call)) j s.issues called_now (ap not e), own))

    one : (r : Run) → GoesOn s.items s.issues [] r → GoesOn s.items left (i.item ∷ []) r
    one r (inl k) = inl k
    one r (inr (inl k)) = by_test r k.0 (i.call == k.0.call) refl k.1.0 k.1.1
    one r (inr (inr (inl k))) = absurd k.1.0
    one r (inr (inr (inr k))) = inr (inr (inr k))

go-reopened : (s : State) → GoOn [] s → GoOn (map item_of s.issues) (record s { issues = [] })
go-reopened s h =
    all-weaker (GoesOn s.items s.issues []) (GoesOn s.items [] (map item_of s.issues)) s.live (λ r k. one r k) h
  where
    one : (r : Run) → GoesOn s.items s.issues [] r → GoesOn s.items [] (map item_of s.issues) r
    one r (inl k) = inl k
    one r (inr (inl k)) = by_aside s.items [] (map item_of s.issues) r
        (k.0.item, (in-map item_of k.0 s.issues k.1.0, k.1.1))
    one r (inr (inr (inl k))) = absurd k.1.0
    one r (inr (inr (inr k))) = inr (inr (inr k))

-- an item that is aside is left out: where it is of the run, there is another reason
module _ (i : Item) (is : List Item) (items items_now : List Item) (issues : List Issue) (r now : Run) where
  left-out : ((j : Item) → IsIn j items → item_for r.number j ≡ true → GoesOn items_now issues is now)
      → (Has (call_for r.number) issues → GoesOn items_now issues is now)
      → ((j : Item) → IsIn j is → item_for r.number j ≡ true → GoesOn items_now issues is now)
      → (item_for r.number i ≡ true → GoesOn items_now issues is now)
      → ((length r.steps.pending == 0) ≡ false → GoesOn items_now issues is now)
      → (r.wanted ≡ true → GoesOn items_now issues is now)
      → GoesOn items issues (i ∷ is) r → GoesOn items_now issues is now
  left-out a b c own d e (inl h) = a h.0 h.1.0 h.1.1
  left-out a b c own d e (inr (inl h)) = b h
  left-out a b c own d e (inr (inr (inl h))) = of_aside h.0 h.1.0 h.1.1
    where
      of_aside : (j : Item) → IsIn j (i ∷ is) → item_for r.number j ≡ true → GoesOn items_now issues is now
      of_aside j (inl same) k = own (subst (λ (x : Item). item_for r.number x ≡ true) (sym same) k)
      of_aside j (inr there) k = c j there k
  left-out a b c own d e (inr (inr (inr (inl h)))) = d h
  left-out a b c own d e (inr (inr (inr (inr h)))) = e h

-- where the item isn't of the run, it goes on the same
without-item : (i : Item) (is items : List Item) (issues : List Issue) (r : Run)
    → (item_for r.number i ≡ true → GoesOn items issues is r) → GoesOn items issues (i ∷ is) r
    → GoesOn items issues is r
without-item i is items issues r own h =
    left-out i is items items issues r r (λ j there k. by_item items issues is r (j, (there, k)))
    (λ k. by_call items issues is r k) (λ j there k. by_aside items issues is r (j, (there, k))) own
    (λ k. by_name items issues is r k) (λ k. by_want items issues is r k) h

pub found-one : (number : ℕ) (r : Run) (s : State) → IsIn r s.live → number ≡ r.number → live_run number s ≡ None → ⊥
found-one number r s there same none =
    let k : AllByRecursion (λ (q : Run). (number == q.number) ≡ false) s.live =
    none-all (λ (q : Run). number == q.number) s.live none in
    let no : (number == r.number) ≡ false = in-all (λ (q : Run). (number == q.number) ≡ false) r s.live there k in
    let yes : (number == r.number) ≡ true = eq-eqb number r.number same in
    cc

go-dropped : (i : Item) (is : List Item) (s : State) → live_run i.run s ≡ None → GoOn (i ∷ is) s → GoOn is s
go-dropped i is s none h =
    all-both (GoesOn s.items s.issues (i ∷ is)) (λ r. IsIn r s.live) (GoesOn s.items s.issues is) s.live
    (λ r k there. without-item i is s.items s.issues r
    (λ own. absurd (found-one i.run r s there (sym (eqb-true r.number i.run own)) none)) k) h (each-in s.live)

-- a run that isn't idle
not-idle : (r : Run) (s : State) (is : List Item) → is_idle r s ≡ false → GoesOn s.items s.issues is r
not-idle r s is e =
    by_tests (list_any (item_for r.number) s.items) (list_any (call_for r.number) s.issues)
    (length r.steps.pending == 0) r.wanted refl refl refl refl e
  where
    by_tests : (a b c d : Bool) → list_any (item_for r.number) s.items ≡ a
        → list_any (call_for r.number) s.issues ≡ b → (length r.steps.pending == 0) ≡ c → r.wanted ≡ d
        → (not a && not b && c && not d) ≡ false → GoesOn s.items s.issues is r
    by_tests true b c d ea eb ec ed k = by_item s.items s.issues is r (has-any (item_for r.number) s.items ea)
    by_tests false true c d ea eb ec ed k = by_call s.items s.issues is r (has-any (call_for r.number) s.issues eb)
    by_tests false false false d ea eb ec ed k = by_name s.items s.issues is r ec
    by_tests false false true true ea eb ec ed k = by_want s.items s.issues is r ed
    by_tests false false true false ea eb ec ed k = absurd (cc)

pub same-run : (number : ℕ) (r q : Run) (s : State) → Rise s → live_run number s ≡ Some r → IsIn q s.live
    → q.number ≡ number → r ≡ q
same-run number r q s rise live there same =
    same-one run_number r q s.live (in-found (λ (x : Run). number == x.number) s.live r live) there rise.1.0.0
    (sym (eqb-true number r.number (found-passes (λ (x : Run). number == x.number) s.live r live)) ∙ sym same)

go-left : (i : Item) (is : List Item) (r : Run) (s : State) → Rise s → live_run i.run s ≡ Some r
    → is_idle r s ≡ false → GoOn (i ∷ is) s → GoOn is s
go-left i is r s rise live going h =
    all-both (GoesOn s.items s.issues (i ∷ is)) (λ q. IsIn q s.live) (GoesOn s.items s.issues is) s.live
    (λ q k there. without-item i is s.items s.issues q
    (λ own. subst (λ x. GoesOn s.items s.issues is x)
    (same-run i.run r q s rise live there (eqb-true q.number i.run own)) (not-idle r s is going)) k)
    h (each-in s.live)

go-called_off : (i : Item) (is : List Item) (r : Run) (s : State) → live_run i.run s ≡ Some r → GoOn (i ∷ is) s
    → GoOn is (change_run r.number want s)
go-called_off i is r s live h =
    all-changed_by (GoesOn s.items s.issues (i ∷ is)) (GoesOn s.items s.issues is) r.number want s.live
    (λ q own k. by_want s.items s.issues is (want q) refl)
    (λ q other k. without-item i is s.items s.issues q (λ own.
    let same : r.number ≡ q.number =
    sym (eqb-true i.run r.number (found-passes (λ (x : Run). i.run == x.number) s.live r live))
    ∙ sym (eqb-true q.number i.run own) in
    let yes : (r.number == q.number) ≡ true = eq-eqb r.number q.number same in
    absurd (cc)) k) h

-- the item goes with its run
go-ended_with : (i : Item) (is : List Item) (r : Run) (status : RunStatus) (s : State)
    → live_run i.run s ≡ Some r → GoOn (i ∷ is) s → GoOn is (end_run r status s)
go-ended_with i is r status s live h =
    all-both (GoesOn (without_run r.number s.items) s.issues (i ∷ is))
    (λ (q : Run). not (r.number == q.number) ≡ true) (GoesOn (without_run r.number s.items) s.issues is)
    (filter (λ (q : Run). not (r.number == q.number)) s.live)
    (λ q k other. without-item i is (without_run r.number s.items) s.issues q (λ own.
    let same : r.number ≡ q.number =
    sym (eqb-true i.run r.number (found-passes (λ (x : Run). i.run == x.number) s.live r live))
    ∙ sym (eqb-true q.number i.run own) in
    let yes : (r.number == q.number) ≡ true = eq-eqb r.number q.number same in
    let no : (r.number == q.number) ≡ false = not-true (r.number == q.number) other in
    absurd (cc)) k)
    (go-ended (i ∷ is) r status s h)
    (filter-passes (λ (q : Run). not (r.number == q.number)) s.live)

ending-go : (i : Item) (is : List Item) (r : Run) (status : RunStatus) (s : State) → live_run i.run s ≡ Some r
    → GoOn (i ∷ is) s → Ending (GoOn is) r status s
ending-go i is r status s live h = record {
  ends = λ untold. go-ended_with i is r status s live h;
  tells = λ p q result parent there waits.
      go-recorded is p.run p.hash result (without_invocation_of p (end_run r status s))
      (go-ended_with i is r status s live h);
}

-- it is queued again
go-again : (i j : Item) (is : List Item) (s : State) → j.run ≡ i.run → GoOn (i ∷ is) s → GoOn is (queue j s)
go-again i j is s same h =
    all-weaker (GoesOn s.items s.issues (i ∷ is)) (GoesOn (insert_item j s.items) s.issues is) s.live
    (λ r k. left-out i is s.items (insert_item j s.items) s.issues r r
    (λ x there own. by_item (insert_item j s.items) s.issues is r (x, (in-queued j x s.items there, own)))
    (λ own. by_call (insert_item j s.items) s.issues is r own)
    (λ x there own. by_aside (insert_item j s.items) s.issues is r (x, (there, own)))
    (λ own. by_item (insert_item j s.items) s.issues is r
    (j, (in-own j s.items, subst (λ n. (r.number == n) ≡ true) (sym same) own)))
    (λ own. by_name (insert_item j s.items) s.issues is r own)
    (λ own. by_want (insert_item j s.items) s.issues is r own) k) h

keeps-numbers : (is : List Item) → Keeps (λ s. Rise s × Beside is s)
keeps-numbers is = keeps-both Rise (Beside is) keeps-rise (keeps-apart is)

pub going-calls : KeepsCalls Going
going-calls = record {
  runs = λ is. keeps-both (λ s. Rise s × Beside is s) (GoOn is) (keeps-numbers is) (keeps-go is);
  closes = λ i s there h. (
    (rise-drops.closes i s there h.0.0, apart-drops.closes i s there h.0.1),
    go-closed i s there h.0.0 h.1,
  );
  reopens = λ s h. ((rise-drops.reopens s h.0.0, apart-drops.reopens s h.0.1), go-reopened s h.1);
  drops = λ i is s none h.
      ((h.0.0, apart-drops.drops i is s h.0.1), go-dropped i is s none h.1);
  leaves = λ i is r s live going h.
      ((h.0.0, apart-drops.drops i is s h.0.1), go-left i is r s h.0.0 live going h.1);
  calls_off = λ i is r s live done h. (
    (keeps-numbers is).wants r s (own-number i.run r s live) (h.0.0, apart-drops.drops i is s h.0.1),
    go-called_off i is r s live h.1,
  );
  ends = λ i is r status s live h.
      ending-both (λ s. Rise s × Beside is s) (GoOn is) r status s
      ((keeps-numbers is).ends r status s (own-number i.run r s live) (h.0.0, apart-drops.drops i is s h.0.1))
      (ending-go i is r status s live h.1);
  retries = λ i is a r s live new h. (
    (h.0.0, apart-drops.retries i is a r s live new h.0.1),
    go-again i (again i a s) is s refl h.1,
  );
  requeues = λ i is r s live new h. (
    (h.0.0, apart-drops.requeues i is r s live new h.0.1),
    go-again i (record i { due = s.moment }) is s refl h.1,
  );
}

-- ## Calls that are made

go-issue : (number : ℕ) (i : Item) (s : State) → item_at number s ≡ Some i → AreDifferent s.items → GoOn [] s
    → GoOn [] (issue i s)
go-issue number i s found apart h =
    all-changed_by (GoesOn s.items s.issues []) (GoesOn left calls []) i.run (called i.target) s.live
    (λ r own k. by_call left calls [] (called i.target r)
    (issued i s, (in-last (issued i s) s.issues, eq-eqb r.number i.run (sym own))))
    (λ r other k. others r other k) h
  where
    left : List Item
    left = without_number i.number s.items

    calls : List Issue
    calls = s.issues ++ issued i s ∷ []

    there : IsIn i s.items
    there = in-found (has_number number) s.items i found

    by_test : (r : Run) (j : Item) (b : Bool) → (i.number == j.number) ≡ b → (i.run == r.number) ≡ false
        → IsIn j s.items → item_for r.number j ≡ true → GoesOn left calls [] r
    by_test r j true e other queued own =
        let same : i ≡ j = same-item i j s.items there queued apart (eqb-true i.number j.number e) in
        let of_run : r.number ≡ i.run =
        eqb-true r.number j.run own ∙ sym (ap (λ (x : Item). x.run) same) in
        let yes : (i.run == r.number) ≡ true = eq-eqb i.run r.number (sym of_run) in
        absurd (cc)
    by_test r j false e other queued own = by_item left calls [] r
        (j, (in-kept (λ x. not (has_number i.number x)) j s.items queued (ap not e), own))

    others : (r : Run) → (i.run == r.number) ≡ false → GoesOn s.items s.issues [] r → GoesOn left calls [] r
    others r other (inl k) = by_test r k.0 (i.number == k.0.number) refl other k.1.0 k.1.1
    others r other (inr (inl k)) = by_call left calls [] r
        (k.0, (in-front k.0 s.issues (issued i s ∷ []) k.1.0, k.1.1))
    others r other (inr (inr (inl k))) = absurd k.1.0
    others r other (inr (inr (inr k))) = inr (inr (inr k))

go-tidied : (s : State) → GoOn [] s → GoOn [] (tidied s)
unfolding tidied
go-tidied s h = h

pub going-steps : (bound : ℕ) → KeepsSteps bound (λ input. Unit {0}) Going
going-steps bound = record {
  calls = going-calls;
  counts = λ s h. h;
  moves = λ t next s low e h. h;
  arrives = λ t s low on before h. h;
  issues = λ number i s next there h. (
    (rise-issue i s h.0.0, apart-issue number i s there h.0.1),
    go-issue number i s there h.0.1.queued h.1,
  );
  registers = λ at app s asked h. h;
  tidies = λ s h. ((rise-tidied s h.0.0, apart-tidied s h.0.1), go-tidied s h.1);
}

-- ## Histories

pub going-step : (s : State) (input : Input) → Going [] s → Going [] (step s input).state
going-step s input h =
    let bound : ℕ = moment_at (reading input) s in
    kept-step bound (λ input. Unit {0}) Going (going-steps bound) s input (omega arith) tt h

pub going-empty : (limits : Limits) → Going [] (empty limits)
going-empty limits = (
  (rise-empty limits, record { given = tt; queued = tt; aside = tt; called = tt }),
  tt,
)
