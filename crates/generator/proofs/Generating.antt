-- The generator's histories from the registration to the last reply.
use Rattle.std.proofs.Common.{◌≡◌, ℕ, zero, suc, ◌+◌, ◌-◌, ◌*◌, ◌%◌, ◌<◌, ◌≤◌, ◌⊎◌, inl, inr, Bool, true, false, cond, nat_le, nat_lt, List, [], ◌∷◌, length, Option, Some, None, option_map, map, find, refl, sym, ap, subst, ◌∙◌, is_gt, eq-eqb, ◌==◌, arith}
use Rattle.std.proofs.lemmas.Bool.Decides.{nat_tests}
use Rattle.std.specs.List.{AllByRecursion, list_any}
use Rattle.kinds.specs.Cells.{is_full}
use Rattle.kinds.specs.Limits.{shipped}
use Rattle.kinds.specs.Queue.{admits, has_run, is_admissible, item_cmp, least, lesser, number_of}
use Rattle.kinds.specs.declared.cell.CellLimit.{CellLimit}
use Rattle.kinds.specs.declared.cell.StartEntry.{StartEntry}
use Rattle.lists.proofs.Elements.{all-weaker}
use Rattle.kinds.specs.declared.input.Input.{Input}
use Rattle.kinds.specs.declared.store.Item.{Item}
use Rattle.run_model.specs.Advance.{advance, fire_by, least as next_due, timed}
use Rattle.run_model.specs.Machine.{Accepts, act, step}
use Rattle.run_model.specs.Settle.{next_issued, settle_by}
use Rattle.run_model.specs.State.{State, Run, Issue, empty, in_cells, tidied}
use Rattle.functions.specs.Functions.{registered as registered_functions, same}
use Rattle.generator.specs.Accepted.{AcceptsAny, AcceptsEvent, AcceptsReply, AreAccepted, HasEnded, drawn_event, registered}
use Rattle.generator.specs.Inputs.{drawn, event, registration, reply_input, user_of}
use Rattle.generator.specs.Session.{after_any, after_events, after_input, after_replies, after_reply, first_open, generated, has_results}
use Rattle.generator.proofs.Accepting.{accepts-event, accepts-reply, live-few}
use Rattle.generator.proofs.EventSteps.{event-acts}
use Rattle.generator.proofs.ReplySteps.{reply-acts-so, run-found}
use Rattle.generator.proofs.Standing.{IsItem, MayOpen, Stands, credit, is_call_of, is_run, one}
use Rattle.generator.proofs.Steps.{Rests, arrived_at, rests-after}
use Rattle.generator.proofs.Sums.{count, one_if, sum-out, sum_of}

-- ## Where the generator stands

-- behind so many events and replies: what is still to come, and nothing more may be issued
pub record Goes (e r c : ℕ) (s : State) : Type 0 where
  pub rests : Rests (e + r + 1) e r c s
  pub left : c + r ≡ 2 * e

-- ## The registration

begins : Goes 0 0 0 registered
unfolding step act advance fire_by timed next_due settle_by tidied registered_functions same least
begins = record {
  rests = record {
    stands = record {
      constant = refl;
      dated = omega arith;
      inputs = refl;
      events = refl;
      runs = refl;
      calls = refl;
      room = omega arith;
      entries = omega arith;
      texts = omega arith;
      seen = omega arith;
      ids = tt;
      credits = refl;
      each_run = tt;
      each_item = tt;
      each_issue = tt;
      live_numbers = record { low = tt; once = λ k. omega arith };
      item_numbers = record { low = tt; once = λ k. omega arith };
      call_numbers = record { low = tt; once = λ k. omega arith };
      balance = λ k. refl;
    };
    settled = refl;
  };
  left = refl;
}

-- ## A reply

-- a call is open, so a reply is still to come
some-left : (n e r c : ℕ) (o : Issue) (is : List Issue) (s : State) → s.issues ≡ o ∷ is → Stands n e r c None s
    → 0 < c
some-left n e r c o is s first h =
    let run = run-found n e r c o is s first h in
    let out = sum-out credit (is_run o.item.run) s.live run.0 run.1 (h.live_numbers.once o.item.run) in
    let some : 1 ≤ credit run.0 =
    elim (nat_lt 0 (length run.0.steps.recorded)) as (λ b. 1 ≤ cond b 1 2)
    [ true ↦ omega arith | false ↦ omega arith ] in
    let credits = h.credits in omega (arith, out, some, credits)

-- the first of the open calls is replied to
goes-replied : (e r c k : ℕ) (o : Issue) (is : List Issue) (s : State) → 0 < k → k ≤ 100000
    → s.issues ≡ o ∷ is → Goes e r (c + 1) s
    → Goes e (r + 1) c (after_input s (reply_input (10 * k) o.call (has_results s o) k))
goes-replied e r c k o is s some few first h =
    let input : Input = reply_input (10 * k) o.call (has_results s o) k in
    let next =
    rests-after (e + r + 1) e r (c + 1) e (r + 1) c input s (omega (arith, few)) h.rests
    (reply-acts-so (e + r + 1 + 1) e r c (10 * k) k o is (arrived_at input s) first some few) in
    record {
      rests = subst (λ n. Rests n e (r + 1) c (after_input s input)) (same-count e r) next;
      left = let left = h.left in omega (arith, left);
    }
  where
    same-count : (e r : ℕ) → e + r + 1 + 1 ≡ e + (r + 1) + 1
    same-count e r = omega arith

-- the reply to the first of these open calls
abbrev reply_to : ℕ → ℕ → State → List Issue → Option Input
reply_to at k s calls = option_map (λ o. reply_input at o.call (has_results s o) k) (first_open calls)

-- what a reply leads to, where a call is open: one more was given
pub record Replied (e r c : ℕ) (calls : List Issue) (s : State) : Type 0 where
  pub replies : ℕ
  pub left : ℕ
  pub goes : Goes e replies left s
  pub given : ((calls ≡ []) × (replies ≡ r)) ⊎ (replies ≡ r + 1)

replied-by : (e r c k : ℕ) (calls : List Issue) (s : State) → s.issues ≡ calls → 0 < k → k ≤ 100000 → Goes e r c s
    → Replied e r c calls (after_any (reply_to (10 * k) k s calls) s)
replied-by e r c k [] s first some few h = record {
  replies = r;
  left = c;
  goes = h;
  given = inl (refl, refl);
}
replied-by e r c k (o ∷ is) s first some few h =
    let more = some-left (e + r + 1) e r c o is s first h.rests.stands in
    let less : c ≡ (c - 1) + 1 = omega (arith, more) in
    record {
      replies = r + 1;
      left = c - 1;
      goes = goes-replied e r (c - 1) k o is s some few first (subst (λ z. Goes e r z s) less h);
      given = inr refl;
    }

pub goes-reply : (e r c k : ℕ) (s : State) → 0 < k → k ≤ 100000 → Goes e r c s
    → Replied e r c s.issues (after_reply (10 * k) k s)
goes-reply e r c k s some few h = replied-by e r c k s.issues s refl some few h

-- it is accepted
pub accepted-reply : (e r c k : ℕ) (calls : List Issue) (s : State) → s.issues ≡ calls → e ≤ 100000 → Goes e r c s
    → AcceptsAny s (reply_to (10 * k) k s calls)
accepted-reply e r c k [] s first few h = tt
accepted-reply e r c k (o ∷ is) s first few h =
    accepts-reply (e + r + 1) e r c (10 * k) k (has_results s o) o is s
    (let left = h.left in
    record { inputs = omega (arith, left, few); events = few; replies = omega (arith, left, few) })
    first h.rests.stands

-- ## An event

known-user : (x : ℕ) → x % 7 < 10
known-user x = omega arith

pub goes-event : (n e r c : ℕ) (s : State) → e < 100000 → Goes e r c s
    → Goes (suc e) r (c + 2) (after_input s (drawn_event n (suc e)))
goes-event n e r c s few h =
    let input : Input = drawn_event n (suc e) in
    let next =
    rests-after (e + r + 1) e r c (suc e) r (c + 2) input s (omega (arith, few)) h.rests
    (event-acts (e + r + 1 + 1) e r c (user_of (drawn n (suc e))) (arrived_at input s) few
    (known-user (drawn n (suc e)))) in
    record {
      rests = subst (λ m. Rests m (suc e) r (c + 2) (after_input s input)) (same-count e r) next;
      left = let left = h.left in omega (arith, left);
    }
  where
    same-count : (e r : ℕ) → e + r + 1 + 1 ≡ suc e + r + 1
    same-count e r = omega arith

pub accepted-event : (n e r c : ℕ) (s : State) → e < 100000 → Goes e r c s → Accepts s (drawn_event n (suc e))
accepted-event n e r c s few h =
    let left = h.left in
    accepts-event (e + r + 1) e r c (10 * suc e) (event (user_of (drawn n (suc e))) (suc e) ∷ []) s
    (record { inputs = omega (arith, left, few); events = omega (arith, few); replies = omega (arith, left, few) })
    (omega (arith, left, few)) h.rests.stands

-- ## All events, each with a reply

pub record Reached (e : ℕ) (s : State) : Type 0 where
  pub replies : ℕ
  pub left : ℕ
  pub goes : Goes e replies left s

pub reached-events : (n e : ℕ) → e ≤ 100000 → Reached e (after_events n e registered)
unfolding after_events
reached-events n zero few = record { replies = 0; left = 0; goes = begins }
reached-events n (suc e) few =
    let so_far = reached-events n e (omega arith) in
    let s : State = after_events n e registered in
    let event = goes-event n e so_far.replies so_far.left s (omega arith) so_far.goes in
    let next =
    goes-reply (suc e) so_far.replies (so_far.left + 2) (suc e) (after_input s (drawn_event n (suc e)))
    (omega arith) few event in
    record { replies = next.replies; left = next.left; goes = next.goes }

pub accepted-events : (n e : ℕ) → e < 100000 → AcceptsEvent n (suc e) (after_events n e registered)
accepted-events n e few =
    let so_far = reached-events n e (omega arith) in
    let s : State = after_events n e registered in
    let t : State = after_input s (drawn_event n (suc e)) in
    record {
      event = accepted-event n e so_far.replies so_far.left s few so_far.goes;
      reply =
          accepted-reply (suc e) so_far.replies (so_far.left + 2) (suc e) t.issues t refl (omega arith)
          (goes-event n e so_far.replies so_far.left s few so_far.goes);
    }

-- ## Replies at the end

-- no call is open, or so many replies were given
pub record Replying (e r count : ℕ) (s : State) : Type 0 where
  pub replies : ℕ
  pub left : ℕ
  pub goes : Goes e replies left s
  pub given : (s.issues ≡ []) ⊎ (r + count ≤ replies)

none-to-reply : (at k : ℕ) (s : State) → first_open s.issues ≡ None → after_reply at k s ≡ s
none-to-reply at k s e =
    ap (λ call. after_any (option_map (λ o. reply_input at o.call (has_results s o) k) call) s) e

pub stays-closed : (at k count : ℕ) (s : State) → first_open s.issues ≡ None → after_replies at k count s ≡ s
unfolding after_replies
stays-closed at k zero s e = refl
stays-closed at k (suc count) s e =
    ap (after_replies at k count) (none-to-reply at k s e) ∙ stays-closed at k count s e

pub one-by-one : (at k first more : ℕ) (s : State)
    → after_replies at k (first + more) s ≡ after_replies at k more (after_replies at k first s)
unfolding after_replies
one-by-one at k zero more s = ap (λ count. after_replies at k count s) (from-none more)
  where
    from-none : (more : ℕ) → 0 + more ≡ more
    from-none more = omega arith
one-by-one at k (suc first) more s =
    ap (λ count. after_replies at k count s) (next first more) ∙ one-by-one at k first more (after_reply at k s)
  where
    next : (first more : ℕ) → suc first + more ≡ suc (first + more)
    next first more = omega arith

more-given : (e r count : ℕ) (s : State) → Replying e (r + 1) count s → Replying e r (suc count) s
more-given e r count s h = record {
  replies = h.replies;
  left = h.left;
  goes = h.goes;
  given = weaker h.replies h.given;
}
  where
    weaker : (q : ℕ) → (s.issues ≡ []) ⊎ (r + 1 + count ≤ q) → (s.issues ≡ []) ⊎ (r + suc count ≤ q)
    weaker q (inl none) = inl none
    weaker q (inr some) = inr (omega (arith, some))

pub replied-on : (e r c k count : ℕ) (s : State) → 0 < k → k ≤ 100000 → Goes e r c s
    → Replying e r count (after_replies (10 * k) k count s)
unfolding after_replies
replied-on e r c k zero s some few h = record {
  replies = r;
  left = c;
  goes = h;
  given = inr (omega arith);
}
replied-on e r c k (suc count) s some few h =
    let t : State = after_reply (10 * k) k s in
    let next = goes-reply e r c k s some few h in
    elim next.given as (λ _. Replying e r (suc count) (after_replies (10 * k) k count t)) [
      | inl none ↦ subst (λ x. Replying e r (suc count) x)
          (sym (stays-closed (10 * k) k (suc count) s (ap first_open none.0)))
          (record { replies = r; left = c; goes = h; given = inl none.0 })
      | inr more ↦ more-given e r count (after_replies (10 * k) k count t)
          (replied-on e (r + 1) next.left k count t some few
          (subst (λ q. Goes e q next.left t) more next.goes))
    ]

-- ## In the end

no-limit : (cells : List CellLimit) → AllByRecursion MayOpen cells → list_any (is_full []) cells ≡ false
no-limit [] h = refl
no-limit (l ∷ ls) h = rw (over l.limit h.0) (no-limit ls h.1)
  where
    over : (limit : ℕ) → 0 < limit → nat_le limit 0 ≡ false
    over limit some = grind (arith, nat_tests, some)

admitted : (moment : ℕ) (starts : List StartEntry) (i : Item) → IsItem moment i
    → is_admissible (admits [] starts moment) moment i ≡ true
admitted moment starts i h = rw (is-due i.due moment h.due, no-limit i.cells h.cells, h.start) refl
  where
    is-due : (due t : ℕ) → due ≤ t → nat_le due t ≡ true
    is-due due t l = grind (arith, nat_tests, l)

some-lesser : (i : Item) (found : Option Item) → option_map number_of (lesser i found) ≡ None → ⊥
some-lesser i None h = cc
some-lesser i (Some j) h =
    (elim (is_gt (item_cmp i j)) as (λ b. option_map number_of (cond b (Some j) (Some i)) ≡ None → ⊥)
    [ true ↦ λ e. cc | false ↦ λ e. cc ]) h

none-least : (passes : Item → Bool) (items : List Item) → AllByRecursion (λ i. passes i ≡ true) items
    → option_map number_of (least passes items) ≡ None → items ≡ []
unfolding least
none-least passes [] h none = refl
none-least passes (i ∷ is) h none =
    absurd (some-lesser i (least passes is)
    (subst (λ b. option_map number_of (cond b (lesser i (least passes is)) (least passes is)) ≡ None) h.0 none))

module _ (n e r c : ℕ) (s : State) (h : Stands n e r c None s) where
  no-items-left : next_issued s ≡ None → s.issues ≡ [] → s.items ≡ []
  no-items-left settled none =
      none-least (is_admissible (admits [] s.starts s.moment) s.moment) s.items
      (all-weaker (IsItem s.moment) (λ i. is_admissible (admits [] s.starts s.moment) s.moment i ≡ true) s.items
      (admitted s.moment s.starts) h.each_item)
      (subst (λ is. option_map number_of
      (least (is_admissible (admits (map in_cells is) s.starts s.moment) s.moment) s.items) ≡ None) none settled)

  no-runs-left : s.items ≡ [] → s.issues ≡ [] → s.live ≡ []
  no-runs-left items issues = by_list s.live refl
    where
      by_list : (live : List Run) → s.live ≡ live → live ≡ []
      by_list [] same = refl
      by_list (x ∷ xs) same =
          let before = h.balance x.number in
          let there : count (is_run x.number) s.live ≡ one_if (x.number == x.number) + count (is_run x.number) xs =
          ap (count (is_run x.number)) same in
          let own : one_if (x.number == x.number) ≡ 1 = ap one_if (eq-eqb x.number x.number refl) in
          let none_queued = ap (count (has_run x.number)) items in
          let none_open = ap (count (is_call_of x.number)) issues in
          absurd (omega (arith, before, there, own, none_queued, none_open))

  no-calls-left : s.live ≡ [] → s.issues ≡ []
  no-calls-left none = by_list s.issues refl
    where
      by_list : (calls : List Issue) → s.issues ≡ calls → calls ≡ []
      by_list [] same = refl
      by_list (o ∷ is) same =
          let run = run-found n e r c o is s same h in
          let no : None ≡ Some run.0 = sym (ap (find (is_run o.item.run)) none) ∙ run.1 in absurd (cc)

-- no run is left, and no call is open
pub record IsOver (s : State) : Type 0 where
  pub live : s.live ≡ []
  pub issues : s.issues ≡ []

all-over : (n e r q c : ℕ) (s : State) → Stands n e q c None s → next_issued s ≡ None → c + q ≡ 2 * e
    → (s.issues ≡ []) ⊎ (r + 2 * e ≤ q) → IsOver s
all-over n e r q c s h settled left (inl none) = record {
  live = no-runs-left n e q c s h (no-items-left n e q c s h settled none) none;
  issues = none;
}
all-over n e r q c s h settled left (inr some) =
    let few = live-few s.live in
    let credits = h.credits in
    let none = no-length s.live (omega (arith, few, credits, left, some)) in
    record { live = none; issues = no-calls-left n e q c s h none }
  where
    no-length : (live : List Run) → length live ≤ 0 → live ≡ []
    no-length [] l = refl
    no-length (x ∷ xs) l = absurd (omega (arith, l))

ended-so : (n q c : ℕ) (s : State) → Goes n q c s → IsOver s → HasEnded n s
ended-so n q c s h over =
    let stands = h.rests.stands in
    let left = h.left in
    let none = ap (sum_of credit) over.live in
    let closed = ap (sum_of one) over.issues in
    let credits = stands.credits in
    let calls = stands.calls in
    record {
      inputs = let inputs = stands.inputs in omega (arith, inputs, left, none, credits);
      calls = omega (arith, calls, closed, left, none, credits);
      runs = stands.runs;
      over = ap (length {A = Run}) over.live;
      none_open = ap first_open over.issues;
    }

-- ## Whole histories

-- no event, no reply
nothing-open : (at k count : ℕ) → after_replies at k count registered ≡ registered
unfolding step act advance fire_by timed next_due settle_by tidied registered_functions same least
nothing-open at k count = stays-closed at k count registered refl

pub replying : (n count : ℕ) → 0 < n → n ≤ 100000
    → (r : ℕ) × Replying n r count (after_replies (10 * n) n count (after_events n n registered))
replying n count some few =
    let events = reached-events n n few in (
      events.replies,
      replied-on n events.replies events.left n count (after_events n n registered) some few events.goes,
    )

pub accepted-replies : (n count : ℕ) → n ≤ 100000
    → AcceptsReply n (after_replies (10 * n) n count (after_events n n registered))
unfolding after_events
accepted-replies zero count few =
    subst (AcceptsReply 0) (sym (nothing-open 0 0 count))
    (accepted-reply 0 0 0 0 registered.issues registered refl few begins)
accepted-replies (suc n) count few =
    let next = (replying (suc n) count (omega arith) few).1 in
    let s : State = after_replies (10 * suc n) (suc n) count (after_events (suc n) (suc n) registered) in
    accepted-reply (suc n) next.replies next.left (suc n) s.issues s refl few next.goes

pub ends : (n : ℕ) → n ≤ 100000 → HasEnded n (generated n)
unfolding after_events
ends zero few =
    subst (HasEnded 0) (sym (nothing-open 0 0 0))
    (ended-so 0 0 0 registered begins
    (all-over 1 0 0 0 0 registered begins.rests.stands begins.rests.settled refl (inr (omega arith))))
ends (suc n) few =
    let reached = replying (suc n) (2 * suc n) (omega arith) few in
    let next = reached.1 in
    let s : State = generated (suc n) in
    ended-so (suc n) next.replies next.left s next.goes
    (all-over (suc n + next.replies + 1) (suc n) reached.0 next.replies next.left s next.goes.rests.stands
    next.goes.rests.settled next.goes.left next.given)

registration-accepted : Accepts (empty shipped) registration
unfolding same
registration-accepted = refl

pub accepts : (n : ℕ) → n ≤ 100000 → AreAccepted n
accepts n few = record {
  registration_first = registration-accepted;
  events = λ i below. accepted-events n i (omega (arith, below, few));
  replies = λ count. accepted-replies n count few;
}
