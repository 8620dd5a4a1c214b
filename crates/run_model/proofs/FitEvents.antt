-- A fit state stays so where an event takes its number, and where it is tidied.
use Rattle.std.proofs.Common.{◌≡◌, ℕ, ◌+◌, ◌≤◌, ◌==◌, Bool, true, false, not, cond, List, [], ◌∷◌, ◌++◌, filter, find, Option, Some, None, IfSome, refl, sym, ap, subst, nat_lt, arith, eqb-true}
use Rattle.std.specs.List.{AllByRecursion}
use Rattle.kinds.specs.Seen.{has_id, insert_seen, note_seen, without_id}
use Rattle.kinds.specs.declared.event.EventIn.{EventIn}
use Rattle.kinds.specs.declared.seen.SeenEntry.{SeenEntry}
use Rattle.kinds.specs.declared.store.Bucket.{Bucket}
use Rattle.kinds.specs.declared.store.Rule.{Rule}
use Rattle.intake.specs.Events.{event_text}
use Rattle.lists.proofs.Elements.{all-filter, all-last, all-weaker}
use Rattle.event_keys.specs.Buckets.{bucket_of}
use Rattle.run_model.specs.Events.{add_event, event_with}
use Rattle.run_model.specs.Fit.{AreConditionsFit, IsBucketOf, IsFit, IsRuleFit, IsWaitFit}
use Rattle.run_model.specs.Requests.{remember}
use Rattle.run_model.specs.State.{State, EventText, Waiting}
use Rattle.run_model.proofs.FitCounts.{fit-of, more-runs, more-windows}
use Rattle.run_model.proofs.SettlingLists.{find-filter}

-- ## What is found in a list that changes

pub find-last : {X : Type 0} (p : X → Bool) (xs : List X) (x : X) → (p x ≡ true → ⊥)
    → find p (xs ++ x ∷ []) ≡ find p xs
find-last p [] x differs =
    (elim (p x) as (λ b. (b ≡ true → ⊥) → cond b (Some x) None ≡ None)
    [ true ↦ λ no. absurd (no refl) | false ↦ λ no. refl ]) differs
find-last p (y ∷ ys) x differs = ap (λ o. cond (p y) (Some y) o) (find-last p ys x differs)

pub none-left : {X : Type 0} (p q : X → Bool) (xs : List X) → ((x : X) → p x ≡ true → q x ≡ false)
    → find p (filter q xs) ≡ None
none-left p q [] h = refl
none-left p q (x ∷ xs) h = by_tests (p x) (q x) refl (h x) (none-left p q xs h)
  where
    by_tests : (b c : Bool) → p x ≡ b → (b ≡ true → c ≡ false) → find p (filter q xs) ≡ None
        → find p (cond c (x ∷ filter q xs) (filter q xs)) ≡ None
    by_tests true true e w more = let no = w refl in absurd (cc)
    by_tests true false e w more = more
    by_tests false true e w more = rw e more
    by_tests false false e w more = more

-- where a test answers alike for all that could be found
pub found-left : {X : Type 0} (Q : X → Type 0) (p q : X → Bool) (keeps : Bool) (xs : List X)
    → ((x : X) → p x ≡ true → q x ≡ keeps) → IfSome (find p xs) Q → IfSome (find p (filter q xs)) Q
found-left Q p q true xs alike h = subst (λ o. IfSome o Q) (sym (find-filter p q xs alike)) h
found-left Q p q false xs alike h = subst (λ o. IfSome o Q) (sym (none-left p q xs alike)) tt

-- ## An event

bucket-after : (events first : ℕ) (texts : List EventText) (text : List ℕ) (cond : Option (List ℕ))
    (bucket : Option Bucket) → first ≤ events → IsBucketOf texts first cond bucket
    → IsBucketOf (texts ++ (record { number = events + 1; text = text }) ∷ []) first cond bucket
bucket-after events first texts text cond bucket low h =
    subst (λ o. IfSome o (λ (e : EventText). bucket ≡ bucket_of cond e.text))
    (sym (find-last (λ (e : EventText). first == e.number) texts (record { number = events + 1; text = text })
    (λ same. omega (arith, low, eqb-true first (events + 1) same)))) h

conditions-after : (events entries : ℕ) (texts : List EventText) (text : List ℕ) (waits : List Waiting)
    (rules : List Rule) → AreConditionsFit events entries texts waits rules
    → AreConditionsFit (events + 1) entries (texts ++ (record { number = events + 1; text = text }) ∷ []) waits
    rules
conditions-after events entries texts text waits rules h =
    let more : List EventText = texts ++ (record { number = events + 1; text = text }) ∷ [] in
    record {
      each_wait = all-weaker (IsWaitFit events entries texts) (IsWaitFit (events + 1) entries more) waits
          (λ w (k : IsWaitFit events entries texts w). record {
            number = k.number;
            first = omega (arith, k.first);
            bucket = bucket-after events w.wait.first texts text w.wait.cond w.wait.bucket k.first k.bucket;
          }) h.each_wait;
      each_rule = all-weaker (IsRuleFit events entries texts) (IsRuleFit (events + 1) entries more) rules
          (λ r (k : IsRuleFit events entries texts r). record {
            number = k.number;
            first = omega (arith, k.first);
            bucket = bucket-after events r.first texts text r.cond r.bucket k.first k.bucket;
          }) h.each_rule;
    }

-- an event takes its number, and these ids are remembered
fit-event : (event : EventIn) (seen : List SeenEntry) (s : State)
    → AllByRecursion (λ (e : SeenEntry). e.number ≤ s.events + 1) seen → IsFit s
    → IsFit (add_event (event_with event s) (record s { seen = seen }))
fit-event event seen s low h =
    let text : List ℕ = event_text (s.events + 1) s.moment event in
    let next : ℕ = s.events + 1 in
    fit-of (add_event (event_with event s) (record s { seen = seen })) h.dated h.functions_fit
    (record {
      seen_numbers = low;
      text_numbers = all-last (λ (e : EventText). e.number ≤ s.events + 1) s.texts
          (record { number = s.events + 1; text = text })
          (all-weaker (λ (e : EventText). e.number ≤ s.events) (λ (e : EventText). e.number ≤ s.events + 1)
          s.texts (λ e (k : e.number ≤ s.events). omega (arith, k)) h.events_fit.text_numbers) (omega arith);
    })
    (more-runs s.runs s.events s.versions s.runs next s.versions s.live (omega arith) (omega arith)
    (omega arith) h.live_fit)
    (more-runs s.runs s.events s.versions s.runs next s.versions s.closing (omega arith) (omega arith)
    (omega arith) h.closing_fit) h.calls_fit h.times_fit
    (conditions-after s.events s.entries s.texts text s.waits s.rules h.conditions_fit)
    (record {
      each = more-windows s.events s.entries s.versions next s.entries s.versions s.windows (omega arith)
          (omega arith) (omega arith) h.windows_fit.each;
      room = h.windows_fit.room;
      apart = h.windows_fit.apart;
    })

pub all-noted : (P : SeenEntry → Type 0) (entry : SeenEntry) (es : List SeenEntry) → P entry
    → AllByRecursion P es → AllByRecursion P (insert_seen entry es)
all-noted P entry [] own h = (own, tt)
all-noted P entry (e ∷ es) own h =
    elim (nat_lt entry.number e.number)
    as (λ b. AllByRecursion P (cond b (entry ∷ e ∷ es) (e ∷ insert_seen entry es)))
    [ true ↦ (own, h) | false ↦ (h.0, all-noted P entry es own h.1) ]

seen-after : (s : State) → IsFit s → AllByRecursion (λ (e : SeenEntry). e.number ≤ s.events + 1) s.seen
seen-after s h =
    all-weaker (λ (e : SeenEntry). e.number ≤ s.events) (λ (e : SeenEntry). e.number ≤ s.events + 1) s.seen
    (λ e (k : e.number ≤ s.events). omega (arith, k)) h.events_fit.seen_numbers

pub fit-accepted : (event : EventIn) (id : Option (List ℕ)) (s : State) → IsFit s
    → IsFit (add_event (event_with event s) (remember id s))
fit-accepted event None s h = fit-event event s.seen s (seen-after s h) h
fit-accepted event (Some id) s h =
    let entry : SeenEntry = record { id = id; number = s.events + 1; moment = s.moment } in
    fit-event event (note_seen entry s.seen) s
    (all-noted (λ (e : SeenEntry). e.number ≤ s.events + 1) entry (without_id id s.seen) (omega arith)
    (all-filter (λ (e : SeenEntry). e.number ≤ s.events + 1) (λ e. not (has_id id e)) s.seen
    (seen-after s h))) h
