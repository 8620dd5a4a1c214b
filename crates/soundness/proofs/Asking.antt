-- A queued item asks for the start of its run, and only while the run has not started: at each change, and so while
-- calls are made.
use Rattle.std.proofs.Common.{◌≡◌, ◌≢◌, ◌⊎◌, inl, inr, ℕ, ◌+◌, ◌≤◌, ◌==◌, Bool, true, false, not, ◌||◌, cond, List, [], ◌∷◌, ◌++◌, filter, Some, None, refl, sym, ap, ◌∙◌, subst, nat_lt, arith, eq-eqb, eqb-true, bytes_eq}
use Rattle.std.specs.List.{AllByRecursion, list_any}
use Rattle.kinds.specs.Queue.{has_number, has_run, insert_item, without_number}
use Rattle.kinds.specs.declared.limits.Limits.{Limits}
use Rattle.kinds.specs.declared.store.Item.{Item}
use Rattle.lists.proofs.Elements.{all-both, all-filter, all-last, all-weaker}
use Rattle.lists.proofs.Texts.{bytes_self}
use Rattle.run_model.specs.Fit.{item_of}
use Rattle.run_model.specs.Laws.{IsIn}
use Rattle.run_model.specs.Making.{has_discovery, is_item_of, new_item, step_target, unless}
use Rattle.run_model.specs.Recording.{change_run, changed, record_in, without_item}
use Rattle.run_model.specs.Replies.{want, with_plan}
use Rattle.run_model.specs.Settle.{called, issued, item_at}
use Rattle.run_model.specs.State.{State, Run, Issue, empty, live_run}
use Rattle.run_model.proofs.FitRuns.{all-changed}
use Rattle.run_model.proofs.GoingOn.{all-changed_by, same-one}
use Rattle.run_model.proofs.Kept.{run_from}
use Rattle.run_model.proofs.Members.{all-map, any-in, each-in, in-all, in-filter, in-found}
use Rattle.run_model.proofs.Rising.{run_number}
use Rattle.run_model.proofs.SettlingLists.{found-passes}
use Rattle.soundness.proofs.Carried.{Any, Carries, Core, IsFirst, IsFor, core, pended}
use Rattle.soundness.proofs.CarriedReplies.{CarriesSteps, beside-steps}
use Rattle.soundness.proofs.FreshRuns.{AreQuiet, Starts, quiet-steps}
use Rattle.soundness.proofs.RunNumbers.{HasNumbers, live-given, numbers-empty, numbers-steps}

-- where one passes, some does
not-none : {X : Type 0} (p : X → Bool) (x : X) (xs : List X) → IsIn x xs → p x ≡ true
    → list_any p xs ≡ false → ⊥
not-none p x xs there own none = let yes : list_any p xs ≡ true = any-in p x xs there own in cc

-- ## The items of a run

-- all of them find out what comes next, and there is one at most
pub record IsLone (items : List Item) (run : ℕ) : Type 0 where
  pub steps : (i : Item) → IsIn i items → i.run ≡ run → i.target ≡ step_target
  pub one : (i j : Item) → IsIn i items → IsIn j items → i.run ≡ run → j.run ≡ run → i.number ≡ j.number

pub record Suits (items : List Item) (r : Run) : Type 0 where
  pub asks : (i : Item) → IsIn i items → i.run ≡ r.number → i.start ≡ unless r.started r.start
  pub lone : r.started ≡ false → IsLone items r.number

abbrev pub AskNone : List Item → Type 0
AskNone is = AllByRecursion (λ (i : Item). i.start ≡ None) is

abbrev pub CallsAskNone : List Issue → Type 0
CallsAskNone issues = AllByRecursion (λ (j : Issue). j.item.start ≡ None) issues

abbrev pub AllAsk : List Item → Core → Type 0
AllAsk is c = AllByRecursion (Suits c.items) c.live × (CallsAskNone c.issues × AskNone is)

-- ## Queues

-- what is queued now is the item that came, or was queued before
queued-either : (i j : Item) (items : List Item) → IsIn j (insert_item i items) → (i ≡ j) ⊎ IsIn j items
queued-either i j [] there = there
queued-either i j (k ∷ items) there =
    (elim (nat_lt i.number k.number) as (λ b. IsIn j (cond b (i ∷ k ∷ items) (k ∷ insert_item i items))
    → (i ≡ j) ⊎ IsIn j (k ∷ items))
    [ true ↦ λ h. h | false ↦ later (λ h. queued-either i j items h) ]) there
  where
    moved : (i ≡ j) ⊎ IsIn j items → (i ≡ j) ⊎ IsIn j (k ∷ items)
    moved (inl same) = inl same
    moved (inr h) = inr (inr h)

    later : (IsIn j (insert_item i items) → (i ≡ j) ⊎ IsIn j items) → IsIn j (k ∷ insert_item i items)
        → (i ≡ j) ⊎ IsIn j (k ∷ items)
    later more (inl same) = inr (inl same)
    later more (inr h) = moved (more h)

-- what a filter keeps passes
kept-passes : {X : Type 0} (test : X → Bool) (x : X) (xs : List X) → IsIn x (filter test xs) → test x ≡ true
kept-passes test x [] there = absurd there
kept-passes test x (y ∷ ys) there =
    by_test (test y) refl there (λ k. kept-passes test x ys k)
  where
    first : test y ≡ true → IsIn x (y ∷ filter test ys) → (IsIn x (filter test ys) → test x ≡ true)
        → test x ≡ true
    first e (inl same) more = subst (λ z. test z ≡ true) same e
    first e (inr k) more = more k

    by_test : (b : Bool) → test y ≡ b → IsIn x (cond b (y ∷ filter test ys) (filter test ys))
        → (IsIn x (filter test ys) → test x ≡ true) → test x ≡ true
    by_test true e k more = first e k more
    by_test false e k more = more k

-- an item of another run comes
lone-other : (i : Item) (items : List Item) (run : ℕ) → i.run ≢ run → IsLone items run
    → IsLone (insert_item i items) run
lone-other i items run other h = record {
  steps = λ j there own. target j own (queued-either i j items there);
  one = λ j k there here a b. same j k a b (queued-either i j items there) (queued-either i k items here);
}
  where
    not-it : (j : Item) → i ≡ j → j.run ≡ run → ⊥
    not-it j e own = other (ap (λ (m : Item). m.run) e ∙ own)

    target : (j : Item) → j.run ≡ run → (i ≡ j) ⊎ IsIn j items → j.target ≡ step_target
    target j own (inl e) = absurd (not-it j e own)
    target j own (inr there) = h.steps j there own

    same : (j k : Item) → j.run ≡ run → k.run ≡ run → (i ≡ j) ⊎ IsIn j items → (i ≡ k) ⊎ IsIn k items
        → j.number ≡ k.number
    same j k a b (inl e) there = absurd (not-it j e a)
    same j k a b (inr here) (inl e) = absurd (not-it k e b)
    same j k a b (inr here) (inr there) = h.one j k here there a b

suits-other : (i : Item) (items : List Item) (r : Run) → i.run ≢ r.number → Suits items r
    → Suits (insert_item i items) r
suits-other i items r other h = record {
  asks = λ j there own. start j own (queued-either i j items there);
  lone = λ unstarted. lone-other i items r.number other (h.lone unstarted);
}
  where
    start : (j : Item) → j.run ≡ r.number → (i ≡ j) ⊎ IsIn j items → j.start ≡ unless r.started r.start
    start j own (inl e) = absurd (other (ap (λ (m : Item). m.run) e ∙ own))
    start j own (inr there) = h.asks j there own

-- an item of the run comes, and it is the first while the run has not started
suits-own : (i : Item) (items : List Item) (r : Run)
    → ((j : Item) → IsIn j items → j.run ≡ r.number → j.start ≡ unless r.started r.start)
    → (r.started ≡ false → (i.target ≡ step_target) × ((j : Item) → IsIn j items → j.run ≢ r.number))
    → i.start ≡ unless r.started r.start → Suits (insert_item i items) r
suits-own i items r before first own = record {
  asks = λ j there same. start j same (queued-either i j items there);
  lone = λ unstarted. record {
    steps = λ j there same. target j (first unstarted) same (queued-either i j items there);
    one = λ j k there here a b.
        numbers j k (first unstarted).1 a b (queued-either i j items there) (queued-either i k items here);
  };
}
  where
    start : (j : Item) → j.run ≡ r.number → (i ≡ j) ⊎ IsIn j items → j.start ≡ unless r.started r.start
    start j same (inl e) = subst (λ (m : Item). m.start ≡ unless r.started r.start) e own
    start j same (inr there) = before j there same

    target : (j : Item) → (i.target ≡ step_target) × ((k : Item) → IsIn k items → k.run ≢ r.number)
        → j.run ≡ r.number → (i ≡ j) ⊎ IsIn j items → j.target ≡ step_target
    target j h same (inl e) = subst (λ (m : Item). m.target ≡ step_target) e h.0
    target j h same (inr there) = absurd (h.1 j there same)

    numbers : (j k : Item) → ((m : Item) → IsIn m items → m.run ≢ r.number) → j.run ≡ r.number
        → k.run ≡ r.number → (i ≡ j) ⊎ IsIn j items → (i ≡ k) ⊎ IsIn k items → j.number ≡ k.number
    numbers j k none a b (inl e) (inl f) = ap (λ (m : Item). m.number) (sym e ∙ f)
    numbers j k none a b (inl e) (inr there) = absurd (none k there b)
    numbers j k none a b (inr there) other = absurd (none j there a)

suits-fewer : (items fewer : List Item) (r : Run) → ((i : Item) → IsIn i fewer → IsIn i items) → Suits items r
    → Suits fewer r
suits-fewer items fewer r before h = record {
  asks = λ i there own. h.asks i (before i there) own;
  lone = λ unstarted. record {
    steps = λ i there own. (h.lone unstarted).steps i (before i there) own;
    one = λ i j there here a b. (h.lone unstarted).one i j (before i there) (before j here) a b;
  };
}

-- a run that changes in its steps and marks, and not in whether it has started
suits-same : (items : List Item) (r now : Run) → now.number ≡ r.number → now.started ≡ r.started
    → now.start ≡ r.start → Suits items r → Suits items now
suits-same items r now number started start h = record {
  asks = λ i there own. h.asks i there (own ∙ number)
      ∙ ap (λ b. unless b r.start) (sym started) ∙ ap (λ o. unless now.started o) (sym start);
  lone = λ unstarted. subst (λ n. IsLone items n) (sym number) (h.lone (sym started ∙ unstarted));
}

-- ## The changes

module _ (is : List Item) (s : State) (numbers : HasNumbers is (core s)) where
  -- no two have one number
  one-run : (r q : Run) → IsIn r s.live → IsIn q s.live → r.number ≡ q.number → r ≡ q
  one-run r q a b same = same-one run_number r q s.live a b numbers.rise.0 same

  given : (r : Run) → IsIn r s.live → r.number ≤ s.runs
  given r there = live-given s.runs r s.live there numbers.rise

  suits-made : (r : Run) (i : Item) → r.number ≡ s.runs + 1 → IsFirst r i → AllByRecursion (Suits s.items) s.live
      → AllByRecursion (Suits (insert_item i s.items)) (s.live ++ r ∷ [])
  suits-made r i made own h =
      all-last (Suits (insert_item i s.items)) s.live r
      (all-both (Suits s.items) (λ q. IsIn q s.live) (Suits (insert_item i s.items)) s.live
      (λ q k there. suits-other i s.items q (λ same. differ (given q there) (own.0.0) same) k) h (each-in s.live))
      (suits-own i s.items r (λ j there same. absurd (none j there same))
      (λ unstarted. (own.0.1, λ j there same. none j there same)) own.1)
    where
      differ : {n m : ℕ} → n ≤ s.runs → m ≡ r.number → m ≡ n → ⊥
      differ low e same = let over = made in omega (arith, low, e, same, over)

      none : (j : Item) → IsIn j s.items → j.run ≡ r.number → ⊥
      none j there same =
          let low : j.run ≤ s.runs = in-all (λ (k : Item). k.run ≤ s.runs) j s.items there numbers.queued in
          let over = made in
          omega (arith, low, same, over)

  suits-found : (r : Run) (i : Item) → IsIn r s.live → has_discovery s r.number ≡ false
      → IsFirst r i → AllByRecursion (Suits s.items) s.live
      → AllByRecursion (Suits (insert_item i s.items)) s.live
  suits-found r i here none own h =
      all-both (Suits s.items) (λ q. IsIn q s.live) (Suits (insert_item i s.items)) s.live
      (λ q k there. by_number q k there (r.number == q.number) refl) h (each-in s.live)
    where
      left : (a b : Bool) → (a || b) ≡ false → a ≡ false
      left true b e = absurd (cc)
      left false b e = refl

      passes : (j : Item) → r.number ≡ j.run → j.target ≡ step_target → is_item_of r.number step_target j ≡ true
      passes j a b =
          rw (eq-eqb r.number j.run a) (subst (λ t. bytes_eq step_target t ≡ true) (sym b) (bytes_self step_target))

      own-none : Suits s.items r → r.started ≡ false → (j : Item) → IsIn j s.items → j.run ≡ r.number → ⊥
      own-none k unstarted j there same =
          not-none (is_item_of r.number step_target) j s.items there
          (passes j (sym same) ((k.lone unstarted).steps j there same)) (left _ _ none)

      of_own : Suits s.items r → Suits (insert_item i s.items) r
      of_own k =
          suits-own i s.items r k.asks
          (λ unstarted. (own.0.1, λ j there same. own-none k unstarted j there same)) own.1

      by_number : (q : Run) → Suits s.items q → IsIn q s.live → (b : Bool) → (r.number == q.number) ≡ b
          → Suits (insert_item i s.items) q
      by_number q k there true e =
          let same : r ≡ q = one-run r q here there (eqb-true r.number q.number e) in
          subst (λ x. Suits (insert_item i s.items) x) same
          (of_own (subst (λ x. Suits s.items x) (sym same) k))
      by_number q k there false e =
          suits-other i s.items q (λ same. apart q e (sym own.0.0 ∙ same)) k
        where
          apart : (x : Run) → (r.number == x.number) ≡ false → r.number ≡ x.number → ⊥
          apart x other same = let own_number : (r.number == x.number) ≡ true = eq-eqb r.number x.number same in cc

  -- an item comes for a run that has started
  suits-started : (number : ℕ) (f : Run → Run) (j : Item) → j.run ≡ number
      → ((q : Run) → (f q).number ≡ q.number) → ((q : Run) → (f q).started ≡ q.started)
      → ((q : Run) → (f q).start ≡ q.start)
      → ((q : Run) → IsIn q s.live → number ≡ q.number → q.started ≡ false → ⊥)
      → ((q : Run) → IsIn q s.live → number ≡ q.number → j.start ≡ unless q.started q.start)
      → AllByRecursion (Suits s.items) s.live
      → AllByRecursion (Suits (insert_item j s.items)) (changed number f s.live)
  suits-started number f j own numbered marked aimed started asked h =
      all-changed_by (λ q. Suits s.items q × IsIn q s.live) (Suits (insert_item j s.items)) number f s.live
      (λ q same k. suits-same (insert_item j s.items) q (f q) (numbered q) (marked q) (aimed q)
      (suits-own j s.items q k.0.asks (λ unstarted. absurd (started q k.1 same unstarted)) (asked q k.1 same)))
      (λ q other k. suits-other j s.items q (λ same. apart q other (sym own ∙ same)) k.0)
      (all-both (Suits s.items) (λ q. IsIn q s.live) (λ q. Suits s.items q × IsIn q s.live) s.live
      (λ q k there. (k, there)) h (each-in s.live))
    where
      apart : (q : Run) → (number == q.number) ≡ false → number ≡ q.number → ⊥
      apart q other same = let yes : (number == q.number) ≡ true = eq-eqb number q.number same in cc

-- a run whose item is aside has started
aside-started : (i : Item) (is : List Item) (issues : List Issue) (live : List Run) (q : Run) → IsIn q live
    → AllByRecursion (Starts (i ∷ is) issues) live → i.run ≡ q.number → q.started ≡ true
aside-started i is issues live q there h same =
    by_test q.started refl (in-all (Starts (i ∷ is) issues) q live there h)
  where
    by_test : (b : Bool) → q.started ≡ b → Starts (i ∷ is) issues q → b ≡ true
    by_test true e k = refl
    by_test false e k = absurd ((k e).unheld.0 (sym same))

asks-requeued : (i j : Item) (is : List Item) (s : State) → IsFor i.run i.target j → (i.start ≡ None → j.start ≡ None)
    → AreQuiet (i ∷ is) (core s) → AllAsk (i ∷ is) (core s)
    → AllByRecursion (Suits (insert_item j s.items)) s.live
asks-requeued i j is s own none quiet h =
    all-both (Suits s.items) (λ q. IsIn q s.live) (Suits (insert_item j s.items)) s.live
    (λ q k there. by_number q k there (j.run == q.number) refl) h.0 (each-in s.live)
  where
    started : (q : Run) → IsIn q s.live → j.run ≡ q.number → q.started ≡ true
    started q there same = aside-started i is s.issues s.live q there quiet (sym own.0 ∙ same)

    differ : (q : Run) → q.started ≡ true → q.started ≡ false → ⊥
    differ q e no_such = cc

    by_number : (q : Run) → Suits s.items q → IsIn q s.live → (b : Bool) → (j.run == q.number) ≡ b
        → Suits (insert_item j s.items) q
    by_number q k there true e =
        let yes : q.started ≡ true = started q there (eqb-true j.run q.number e) in
        suits-own j s.items q k.asks (λ unstarted. absurd (differ q yes unstarted))
        (none h.1.1.0 ∙ ap (λ b. unless b q.start) (sym yes))
    by_number q k there false e = suits-other j s.items q (λ same. apart q e same) k
      where
        apart : (x : Run) → (j.run == x.number) ≡ false → j.run ≡ x.number → ⊥
        apart x other same = let yes : (j.run == x.number) ≡ true = eq-eqb j.run x.number same in cc

asks-called : (i : Item) (s : State) → IsIn i s.items → AllByRecursion (Suits s.items) s.live
    → AllByRecursion (Suits (without_number i.number s.items)) (changed i.run (called i.target) s.live)
asks-called i s there h =
    all-changed_by (Suits s.items) (Suits (without_number i.number s.items)) i.run (called i.target) s.live
    (λ q same k. record {
      asks = λ j here own. none q k same j here own q.started refl;
      lone = λ unstarted. absurd (let no_such : true ≡ false = unstarted in cc);
    })
    (λ q other k. suits-fewer s.items (without_number i.number s.items) q (λ j here. before j here) k) h
  where
    before : (j : Item) → IsIn j (without_number i.number s.items) → IsIn j s.items
    before j here = in-filter (λ k. not (has_number i.number k)) j s.items here

    gone : (j : Item) → IsIn j (without_number i.number s.items) → i.number ≡ j.number → ⊥
    gone j here same =
        let left : not (has_number i.number j) ≡ true =
        kept-passes (λ k. not (has_number i.number k)) j s.items here in
        let own : has_number i.number j ≡ true = eq-eqb i.number j.number same in
        cc

    none : (q : Run) → Suits s.items q → i.run ≡ q.number → (j : Item)
        → IsIn j (without_number i.number s.items) → j.run ≡ q.number → (b : Bool) → q.started ≡ b
        → j.start ≡ None
    none q k same j here own true e = k.asks j (before j here) own ∙ ap (λ b. unless b q.start) e
    none q k same j here own false e =
        absurd (gone j here ((k.lone e).one i j there (before j here) same own))

abbrev pub Settles : List Item → Core → Type 0
Settles is c = HasNumbers is c × AreQuiet is c

asks-recorded : (run : ℕ) (name result : List ℕ) (s : State) → AllByRecursion (Suits s.items) s.live
    → AllByRecursion (Suits (without_item run name s.items)) (changed run (record_in name result) s.live)
asks-recorded run name result s h =
    all-changed (Suits (without_item run name s.items)) run (record_in name result) s.live
    (λ q k. suits-same (without_item run name s.items) q (record_in name result q) refl refl refl k)
    (all-weaker (Suits s.items) (Suits (without_item run name s.items)) s.live
    (λ q k. suits-fewer s.items (without_item run name s.items) q
    (λ j here. in-filter (λ i. not (is_item_of run name i)) j s.items here) k) h)

asks-changes : Carries Settles AllAsk
asks-changes = record {
  accepts = λ is event s next b h. h;
  makes = λ is f events parent i s there texts own b h.
      (suits-made is s b.0 (run_from f events parent s) i refl own h.0, h.1);
  joins = λ is f r value event s there text b h. h;
  windows_go = λ is number s b h. h;
  finds_out = λ r s there none b h.
      (suits-found [] s b.0 r (new_item r step_target s) there none ((refl, refl), refl) h.0, h.1);
  wants = λ is number s b h. (
    all-changed (Suits s.items) number want s.live (λ q k. suits-same s.items q (want q) refl refl refl k) h.0,
    h.1,
  );
  plans = λ i r name s live new own b h.
      let there : IsIn r s.live = in-found (λ (q : Run). i.run == q.number) s.live r live in
      let j : Item = new_item r name (change_run r.number (with_plan name) s) in
      let same_run : i.run ≡ r.number =
      eqb-true i.run r.number (found-passes (λ (q : Run). i.run == q.number) s.live r live) in (
        suits-started (i ∷ []) s b.0 r.number (with_plan name) j refl (λ q. refl) (λ q. refl) (λ q. refl)
            (λ q here same unstarted.
            let no : q.started ≡ true = aside-started i [] s.issues s.live q here b.1 (same_run ∙ same) in absurd (cc))
            (λ q here same. subst (λ (x : Run). j.start ≡ unless x.started x.start)
            (one-run (i ∷ []) s b.0 r q there here same) refl) h.0,
        h.1,
      );
  pends = λ i kind r name s live new own b h. (
    all-changed (Suits s.items) r.number (pended kind name) s.live
        (λ q k. suits-same s.items q (pended kind name q) refl refl refl k) h.0,
    h.1,
  );
  results = λ i r name result s live own b h. (asks-recorded r.number name result s h.0, h.1);
  wakes = λ is run r name result s live waits b h. (asks-recorded run name result s h.0, h.1);
  ends = λ is r status s live b h. (
    all-weaker (Suits s.items) (Suits (filter (λ i. not (has_run r.number i)) s.items))
        (filter (λ (q : Run). not (r.number == q.number)) s.live)
        (λ q k. suits-fewer s.items (filter (λ i. not (has_run r.number i)) s.items) q
        (λ j here. in-filter (λ i. not (has_run r.number i)) j s.items here) k)
        (all-filter (Suits s.items) (λ (q : Run). not (r.number == q.number)) s.live h.0),
    h.1,
  );
}

asks-steps : CarriesSteps Settles AllAsk
asks-steps = record {
  changes = asks-changes;
  closes = λ i s rise there b h. (
    h.0,
    (
      all-filter (λ (j : Issue). j.item.start ≡ None) (λ (j : Issue). not (i.call == j.call)) s.issues h.1.0,
      (in-all (λ (j : Issue). j.item.start ≡ None) i s.issues there h.1.0, tt),
    ),
  );
  reopens = λ s b h. (h.0, (tt, all-map (λ (i : Item). i.start ≡ None) item_of s.issues h.1.0));
  drops = λ i is s done b h. (h.0, (h.1.0, h.1.1.1));
  leaves = λ i no_retry ops s has own over b_before before b h. (h.0, (h.1.0, h.1.1.1));
  queues = λ i j is r s its start live new b h. (asks-requeued i j is s its start b.1 h, (h.1.0, h.1.1.1));
  issues = λ i s apart there b h. (
    asks-called i s there h.0,
    (all-last (λ (k : Issue). k.item.start ≡ None) s.issues (issued i s) h.1.0 refl, tt),
  );
  registers = λ app s b h. h;
  tidies = λ s b h. h;
}

-- ## What follows

abbrev pub Asks : List Item → Core → Type 0
Asks is c = Settles is c × AllAsk is c

pub all-steps : CarriesSteps Any Asks
all-steps =
    beside-steps Settles AllAsk (beside-steps HasNumbers AreQuiet numbers-steps quiet-steps) asks-steps

pub asks-none : (limits : Limits) → Asks [] (core (empty limits))
asks-none limits = ((numbers-empty, tt), (tt, (tt, tt)))

-- an item that is found asks for what its run says
pub asks-found : (number : ℕ) (i : Item) (r : Run) (s : State) → Asks [] (core s) → item_at number s ≡ Some i
    → live_run i.run s ≡ Some r → i.start ≡ unless r.started r.start
asks-found number i r s h there live =
    (in-all (Suits s.items) r s.live (in-found (λ (q : Run). i.run == q.number) s.live r live) h.1.0).asks i
    (in-found (has_number number) s.items i there)
    (eqb-true i.run r.number (found-passes (λ (q : Run). i.run == q.number) s.live r live))
