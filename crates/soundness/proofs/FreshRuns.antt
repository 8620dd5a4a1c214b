-- A run without a call so far has no step and no open call, at each change and so in each state that is reached.
use Rattle.std.proofs.Common.{◌≡◌, ◌≢◌, ℕ, ◌+◌, ◌≤◌, ◌==◌, Bool, true, false, not, List, [], ◌∷◌, ◌++◌, map, filter, length, Some, is_some, refl, sym, ap, ◌∙◌, subst, arith, eqb-true}
use Rattle.std.specs.List.{AllByRecursion}
use Rattle.std.specs.Map.{lookup}
use Rattle.kinds.specs.RunSteps.{is_pending, names, no_steps}
use Rattle.kinds.specs.declared.input.Input.{Input}
use Rattle.kinds.specs.declared.limits.Limits.{Limits}
use Rattle.kinds.specs.declared.store.Item.{Item}
use Rattle.lists.proofs.Elements.{all-both, all-filter, all-last, all-weaker}
use Rattle.run_model.specs.Fit.{item_of}
use Rattle.run_model.specs.Laws.{IsIn}
use Rattle.run_model.specs.Machine.{fold}
use Rattle.run_model.specs.Recording.{changed, record_in}
use Rattle.run_model.specs.Replies.{begun, take_operations, want, with_plan}
use Rattle.run_model.specs.Settle.{called, issued}
use Rattle.run_model.specs.Sound.{IsFresh}
use Rattle.run_model.specs.State.{State, Run, Issue, has_open_call, live_run}
use Rattle.run_model.proofs.Apart.{differs, not-same}
use Rattle.run_model.proofs.FitRuns.{all-changed}
use Rattle.run_model.proofs.GoingOn.{all-changed_by, same-one}
use Rattle.run_model.proofs.Kept.{run_from}
use Rattle.run_model.proofs.Members.{all-map, each-in, in-all, in-found}
use Rattle.run_model.proofs.Rising.{run_number}
use Rattle.run_model.proofs.SettlingLists.{found-passes}
use Rattle.run_model.proofs.WaitingNames.{Names}
use Rattle.soundness.proofs.Carried.{Core, Carries, core, pended}
use Rattle.soundness.proofs.CarriedReplies.{CarriesSteps, beside-steps}
use Rattle.soundness.proofs.CarriedSteps.{carried-fold}
use Rattle.soundness.proofs.RunNumbers.{HasNumbers, IsCallGiven, IsGiven, numbers-empty, numbers-steps}

-- no step, and no item that is called or aside
pub record IsQuiet (is : List Item) (issues : List Issue) (r : Run) : Type 0 where
  pub unnamed : names r.steps ≡ 0
  pub uncalled : AllByRecursion (λ (i : Issue). r.number ≢ i.item.run) issues
  pub unheld : AllByRecursion (λ (i : Item). r.number ≢ i.run) is

abbrev pub Starts : List Item → List Issue → Run → Type 0
Starts is issues r = r.started ≡ false → IsQuiet is issues r

abbrev pub AreQuiet : List Item → Core → Type 0
AreQuiet is c = AllByRecursion (Starts is c.issues) c.live

some-names : (test : List ℕ → Bool) (ps : Names) → is_some (lookup test ps) ≡ true → length ps ≡ 0 → ⊥
some-names test [] e none = cc
some-names test (p ∷ ps) e none = omega (arith, none)

-- ## The changes

-- the run of the item that is aside has started
quiet-held : (i : Item) (r : Run) (f : Run → Run) (s : State) → live_run i.run s ≡ Some r
    → ((q : Run) → (f q).started ≡ q.started) → AreQuiet (i ∷ []) (core s)
    → AllByRecursion (Starts (i ∷ []) s.issues) (changed r.number f s.live)
quiet-held i r f s live same h =
    let own : i.run ≡ r.number =
    eqb-true i.run r.number (found-passes (λ (x : Run). i.run == x.number) s.live r live) in
    all-changed_by (Starts (i ∷ []) s.issues) (Starts (i ∷ []) s.issues) r.number f s.live
    (λ q at k unstarted. absurd ((k (sym (same q) ∙ unstarted)).unheld.0 (sym (own ∙ at)))) (λ q other k. k) h

quiet-woken : (is : List Item) (run : ℕ) (name result : List ℕ) (r : Run) (s : State) → live_run run s ≡ Some r
    → is_pending name r.steps ≡ true → HasNumbers is (core s) → AreQuiet is (core s)
    → AllByRecursion (Starts is s.issues) (changed run (record_in name result) s.live)
quiet-woken is run name result r s live waits numbers h =
    all-changed_by (λ q. Starts is s.issues q × IsIn q s.live) (Starts is s.issues) run
    (record_in name result) s.live (λ q own k unstarted. absurd (no q own k.1 (k.0 unstarted).unnamed))
    (λ q other k. k.0)
    (all-both (Starts is s.issues) (λ q. IsIn q s.live) (λ q. Starts is s.issues q × IsIn q s.live) s.live
    (λ q k there. (k, there)) h (each-in s.live))
  where
    none : (q : Run) → names q.steps ≡ 0 → length q.steps.pending ≡ 0
    none q e = omega (arith, e)

    no : (q : Run) → run ≡ q.number → IsIn q s.live → names q.steps ≡ 0 → ⊥
    no q own there unnamed =
        let number : run ≡ r.number =
        eqb-true run r.number (found-passes (λ (x : Run). run == x.number) s.live r live) in
        let same : r ≡ q = same-one run_number r q s.live
        (in-found (λ (x : Run). run == x.number) s.live r live) there numbers.rise.0 (sym number ∙ own) in
        some-names _ q.steps.pending (subst (λ (x : Run). is_pending name x.steps ≡ true) same waits)
        (none q unnamed)

quiet-made : (is : List Item) (r : Run) (s : State) → r.number ≡ s.runs + 1 → r.steps ≡ no_steps
    → HasNumbers is (core s) → AreQuiet is (core s) → AllByRecursion (Starts is s.issues) (s.live ++ r ∷ [])
quiet-made is r s next made numbers h =
    all-last (Starts is s.issues) s.live r h (λ unstarted. record {
      unnamed = ap names made;
      uncalled = all-weaker (IsCallGiven s.runs) (λ (i : Issue). r.number ≢ i.item.run) s.issues
          (λ i (low : i.item.run ≤ s.runs) same. absurd (omega (arith, low, same, next))) numbers.called;
      unheld = all-weaker (IsGiven s.runs) (λ (i : Item). r.number ≢ i.run) is
          (λ i (low : i.run ≤ s.runs) same. absurd (omega (arith, low, same, next))) numbers.aside;
    })

quiet-closed : (i : Issue) (s : State) → IsIn i s.issues → AreQuiet [] (core s)
    → AllByRecursion (Starts (i.item ∷ []) (filter (λ (j : Issue). not (i.call == j.call)) s.issues)) s.live
quiet-closed i s there h =
    all-weaker (Starts [] s.issues)
    (Starts (i.item ∷ []) (filter (λ (j : Issue). not (i.call == j.call)) s.issues)) s.live
    (λ r k unstarted.
    let quiet : IsQuiet [] s.issues r = k unstarted in
    record {
      unnamed = quiet.unnamed;
      uncalled = all-filter (λ (j : Issue). r.number ≢ j.item.run) (λ (j : Issue). not (i.call == j.call)) s.issues
          quiet.uncalled;
      unheld = (in-all (λ (j : Issue). r.number ≢ j.item.run) i s.issues there quiet.uncalled, tt);
    }) h

quiet-reopened : (s : State) → AreQuiet [] (core s) → AllByRecursion (Starts (map item_of s.issues) []) s.live
quiet-reopened s h =
    all-weaker (Starts [] s.issues) (Starts (map item_of s.issues) []) s.live
    (λ r k unstarted. record {
      unnamed = (k unstarted).unnamed;
      uncalled = tt;
      unheld = all-map (λ (i : Item). r.number ≢ i.run) item_of s.issues (k unstarted).uncalled;
    }) h

quiet-dropped : (i : Item) (is : List Item) (c : Core) → AreQuiet (i ∷ is) c → AreQuiet is c
quiet-dropped i is c h =
    all-weaker (Starts (i ∷ is) c.issues) (Starts is c.issues) c.live
    (λ r k unstarted. record {
      unnamed = (k unstarted).unnamed;
      uncalled = (k unstarted).uncalled;
      unheld = (k unstarted).unheld.1;
    }) h

quiet-called : (i : Item) (s : State) → AreQuiet [] (core s)
    → AllByRecursion (Starts [] (s.issues ++ issued i s ∷ [])) (changed i.run (called i.target) s.live)
quiet-called i s h =
    all-changed_by (Starts [] s.issues) (Starts [] (s.issues ++ issued i s ∷ [])) i.run (called i.target) s.live
    (λ q same k unstarted. absurd (let no : true ≡ false = unstarted in cc))
    (λ q other k unstarted. record {
      unnamed = (k unstarted).unnamed;
      uncalled = all-last (λ (j : Issue). q.number ≢ j.item.run) s.issues (issued i s) (k unstarted).uncalled
          (λ same. differs i.run q.number other (sym same));
      unheld = tt;
    }) h

quiet-changes : Carries HasNumbers AreQuiet
quiet-changes = record {
  accepts = λ is event s next numbers h. h;
  makes = λ is f events parent i s there texts own numbers h.
      quiet-made is (run_from f events parent s) s refl refl numbers h;
  joins = λ is f r value event s there text numbers h. h;
  windows_go = λ is number s numbers h. h;
  finds_out = λ r s there none numbers h. h;
  wants = λ is number s numbers h. all-changed (Starts is s.issues) number want s.live
      (λ q k unstarted. record {
        unnamed = (k unstarted).unnamed;
        uncalled = (k unstarted).uncalled;
        unheld = (k unstarted).unheld;
      }) h;
  plans = λ i r name s live new own numbers h. quiet-held i r (with_plan name) s live (λ q. refl) h;
  pends = λ i kind r name s live new own numbers h. quiet-held i r (pended kind name) s live (λ q. refl) h;
  results = λ i r name result s live own numbers h. quiet-held i r (record_in name result) s live (λ q. refl) h;
  wakes = λ is run r name result s live waits numbers h. quiet-woken is run name result r s live waits numbers h;
  ends = λ is r status s live numbers h.
      all-filter (Starts is s.issues) (λ (q : Run). not (r.number == q.number)) s.live h;
}

pub quiet-steps : CarriesSteps HasNumbers AreQuiet
quiet-steps = record {
  changes = quiet-changes;
  closes = λ i s rise there numbers h. quiet-closed i s there h;
  reopens = λ s numbers h. quiet-reopened s h;
  drops = λ i is s done numbers h. quiet-dropped i is (core s) h;
  leaves = λ i no_retry ops s has own over numbers_before before numbers h.
      quiet-dropped i [] (core (take_operations i no_retry ops (begun s)).state) h;
  queues = λ i j is r s its start live new numbers h. quiet-dropped i is (core s) h;
  issues = λ i s apart there numbers h. quiet-called i s h;
  registers = λ app s numbers h. h;
  tidies = λ s numbers h. h;
}

-- ## What follows

none-open : (n : ℕ) (issues : List Issue) → AllByRecursion (λ (i : Issue). n ≢ i.item.run) issues
    → has_open_call issues n ≡ false
none-open n [] h = refl
none-open n (i ∷ issues) h = rw (not-same n i.item.run h.0) (none-open n issues h.1)

pub fresh-fold : (limits : Limits) (inputs : List Input)
    → AllByRecursion (IsFresh (fold limits inputs)) (fold limits inputs).live
fresh-fold limits inputs =
    let s : State = fold limits inputs in
    let h : HasNumbers [] (core s) × AreQuiet [] (core s) =
    carried-fold (λ is c. HasNumbers is c × AreQuiet is c)
    (beside-steps HasNumbers AreQuiet numbers-steps quiet-steps) limits inputs (numbers-empty, tt) in
    all-weaker (Starts [] s.issues) (IsFresh s) s.live
    (λ r k unstarted. ((k unstarted).unnamed, none-open r.number s.issues (k unstarted).uncalled)) h.1
