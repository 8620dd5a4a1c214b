-- A step that invokes a function: what is read of its payload, and its words one after the other.
use Rattle.std.proofs.Common.{◌≡◌, ℕ, ◌+◌, ◌≤◌, ◌==◌, true, false, List, [], ◌∷◌, ◌++◌, map, find, Option, Some, None, Ok, Err, option_map, bytes_eq, refl, sym, ap, ◌∙◌, arith, subst, eq-eqb, eqb-true}
use Rattle.std.specs.List.Sorted.{IsStrictlySortedBy}
use Rattle.std.specs.Ordering.{nat_cmp}
use Rattle.std.proofs.lemmas.Option.{same_Some}
use Rattle.functions.specs.Functions.{version_of}
use Rattle.functions.specs.declared.entry.FunctionEntry.{FunctionEntry}
use Rattle.json_text.specs.Grammar.{Json}
use Rattle.json_text.specs.Texts.{read_text}
use Rattle.json_text.specs.declared.fault.JsonFault.{JsonFault}
use Rattle.kinds.specs.declared.event.EventIn.{EventIn}
use Rattle.kinds.specs.declared.reply.Time.{Time}
use Rattle.kinds.specs.declared.store.Parent.{Parent}
use Rattle.kinds.specs.declared.store.Pending.TheVariants.{Invocation}
use Rattle.runs.specs.Changes.{if_new, is_pending_in, naming_of, naming_in, pend_in, with_pending}
use Rattle.runs.specs.Runs.{run_number}
use Rattle.runs.specs.declared.naming.Naming.{Naming}
use Rattle.runs.specs.declared.naming.Naming.TheVariants.{New, Known}
use Rattle.run_model.specs.Events.{add_event, event_with}
use Rattle.run_model.specs.Fit.{AreGiven, IsFit}
use Rattle.run_model.specs.Laws.{IsIn}
use Rattle.run_model.specs.Recording.{change_run, record_result, wake_step}
use Rattle.run_model.specs.Replies.{current, invoke_found, invoked_event, invoked_with, unknown_function, value_in}
use Rattle.run_model.specs.State.{State, Run, function_at, live_run}
use Rattle.run_model.proofs.Apart.{none-all}
use Rattle.run_model.proofs.Members.{in-all, in-found, in-front}
use Rattle.run_model.proofs.SettlingLists.{found-passes}
use Rattle.machine.specs.Held.{Becomes, IsHeld}
use Rattle.machine.specs.Operations.{await_child, invoke_at, invoke_current, invoke_version, make_child}
use Rattle.machine.specs.View.{state_of}
use Rattle.machine.specs.Words.{make_at}
use Rattle.machine.specs.declared.parts.Parts.{Parts}
use Rattle.machine.proofs.HeldWords.{becomes-then}
use Rattle.machine.proofs.Pended.{pended-then, pended-waits}

-- ## The payload

-- a text that is read, and one that isn't
pub payload_read : (w : List ℕ) (j : Json) → read_text w ≡ Ok j → invoked_with (Some j) ≡ invoked_event (Some w)
payload_read w j h = sym (ap (λ r. invoked_with (value_in r)) h)

pub payload_unread : (w : List ℕ) (e : JsonFault) → read_text w ≡ Err e → invoked_with None ≡ invoked_event (Some w)
payload_unread w e h = sym (ap (λ r. invoked_with (value_in r)) h)

-- ## No such function

-- what waits is recorded
wakes-pending : (run : ℕ) (name text : List ℕ) (s : State) → is_pending_in name (live_run run s) ≡ true
    → wake_step run name text s ≡ record_result run name text s
wakes-pending run name text s waits =
    ap (λ b. elim b as (λ _. State) [ true ↦ record_result run name text s | false ↦ s ]) waits

pub becomes-refused : (run : ℕ) (name text refusal : List ℕ) (s : State) (old new : Parts)
    → is_pending_in name (live_run run s) ≡ true → text ≡ refusal → Becomes (wake_step run name text s) old new
    → Becomes (record_result run name refusal s) old new
becomes-refused run name text refusal s old new waits same h =
    subst (λ t. Becomes t old new)
    (wakes-pending run name text s waits ∙ ap (λ x. record_result run name x s) same) h

-- ## The function

-- a function that is found by its version is the one that has it
found-version : (f : FunctionEntry) (fs : List FunctionEntry) (found : Option FunctionEntry)
    → find (λ (g : FunctionEntry). f.version == g.version) fs ≡ found
    → ((g : FunctionEntry) → IsIn g fs → f.version ≡ g.version → f ≡ g) → IsIn f fs → found ≡ Some f
found-version f fs None e one there =
    let none = none-all (λ (g : FunctionEntry). f.version == g.version) fs e in
    let no : (f.version == f.version) ≡ false = in-all (λ (g : FunctionEntry). (f.version == g.version) ≡ false) f fs there none in
    let yes : (f.version == f.version) ≡ true = eq-eqb f.version f.version refl in
    let clash : true ≡ false = sym yes ∙ no in cc
found-version f fs (Some g) e one there =
    ap Some (sym (one g (in-found (λ (g : FunctionEntry). f.version == g.version) fs g e)
    (eqb-true f.version g.version (found-passes (λ (g : FunctionEntry). f.version == g.version) fs g e))))

current-at : (s : State) (id : List ℕ) (f : FunctionEntry) → IsFit s → current id s ≡ Some f
    → function_at f.version s ≡ Some f
current-at s id f h found =
    let there : IsIn f (s.functions ++ s.retired) =
    in-front f s.functions s.retired (in-found (λ (g : FunctionEntry). bytes_eq id g.function.id) s.functions f found) in
    found-version f (s.functions ++ s.retired) (function_at f.version s) refl
    (λ g other same. h.functions_fit.one f g there other same) there

pub becomes-current : (id : List ℕ) (run : ℕ) (name : List ℕ) (payload : Option (List ℕ)) (t : Option Time) (version : ℕ)
    (old new : Parts) → IsHeld old → Some version ≡ option_map version_of (current id (state_of old))
    → Becomes (invoke_version (function_at version (state_of old)) run name payload t (state_of old)) old new
    → Becomes (invoke_current (current id (state_of old)) run name payload t (state_of old)) old new
becomes-current id run name payload t version old new h is became =
    by_found (current id (state_of old)) refl is
  where
    by_found : (found : Option FunctionEntry) → current id (state_of old) ≡ found
        → Some version ≡ option_map version_of found
        → Becomes (invoke_current found run name payload t (state_of old)) old new
    by_found None e is = cc
    by_found (Some f) e is =
        subst (λ found. Becomes (invoke_version found run name payload t (state_of old)) old new)
        (ap (λ v. function_at v (state_of old)) (same_Some version f.version is) ∙ current-at (state_of old) id f h.fit e)
        became

pub becomes-unknown : (id : List ℕ) (run : ℕ) (name : List ℕ) (payload : Option (List ℕ)) (t : Option Time)
    (old new : Parts) → None ≡ option_map version_of (current id (state_of old))
    → Becomes (record_result run name unknown_function (state_of old)) old new
    → Becomes (invoke_current (current id (state_of old)) run name payload t (state_of old)) old new
becomes-unknown id run name payload t old new is became = by_found (current id (state_of old)) is
  where
    by_found : (found : Option FunctionEntry) → None ≡ option_map version_of found
        → Becomes (invoke_current found run name payload t (state_of old)) old new
    by_found None is = became
    by_found (Some f) is = cc

-- ## The child

-- the event has a number that was given
pub child-given : (m new : Parts) (event : EventIn) (number : ℕ) (events : List ℕ) → number ≡ m.counts.events + 1
    → events ≡ number ∷ [] → Becomes (add_event (event_with event (state_of m)) (state_of m)) m new
    → AreGiven new.counts.events events
child-given m new event number events counted is became =
    subst (AreGiven new.counts.events) (sym is) (
      subst (λ n. n ≤ new.counts.events) (sym counted)
          (subst (λ n. m.counts.events + 1 ≤ n) (sym (ap (λ (s : State). s.events) became.state)) (omega arith)),
      tt,
    )

pub becomes-child : (version run : ℕ) (name : List ℕ) (payload : Option (List ℕ)) (m between new : Parts) (event : EventIn)
    (number : ℕ) (events : List ℕ) → event ≡ invoked_event payload → number ≡ m.counts.events + 1
    → events ≡ number ∷ [] → Becomes (add_event (event_with event (state_of m)) (state_of m)) m between
    → Becomes (make_at (function_at version (state_of between)) events (Some (record { run = run; hash = name }))
    (state_of between)) between new
    → Becomes (make_child (function_at version (state_of m)) run name payload (state_of m)) m new
becomes-child version run name payload m between new event number events read counted is first then =
    let parent : Option Parent = Some (record { run = run; hash = name }) in
    subst (λ (e : EventIn). Becomes (make_at (function_at version (state_of m)) ((m.counts.events + 1) ∷ []) parent
    (add_event (event_with e (state_of m)) (state_of m))) m new) read
    (subst (λ ns. Becomes (make_at (function_at version (state_of m)) ns parent
    (add_event (event_with event (state_of m)) (state_of m))) m new)
    (is ∙ ap (λ n. n ∷ []) counted)
    (becomes-then (λ t. make_at (function_at version t) events parent t)
    (add_event (event_with event (state_of m)) (state_of m)) m between new first then))

pub becomes-awaited : (version run : ℕ) (name : List ℕ) (payload : Option (List ℕ)) (t : Option Time) (child : ℕ)
    (m between new : Parts) → child ≡ m.counts.runs + 1
    → Becomes (make_child (function_at version (state_of m)) run name payload (state_of m)) m between
    → Becomes (await_child run name child t (state_of between)) between new
    → Becomes (invoke_version (function_at version (state_of m)) run name payload t (state_of m)) m new
becomes-awaited version run name payload t child m between new counted first then =
    becomes-then (await_child run name (m.counts.runs + 1) t)
    (make_child (function_at version (state_of m)) run name payload (state_of m)) m between new first
    (subst (λ n. Becomes (await_child run name n t (state_of between)) between new) counted then)

-- ## The step

-- where its name is new it waits
pub invoked-waits : (run : ℕ) (name : List ℕ) (n : Naming) (m between : Parts)
    → n ≡ naming_in (pend_in name Invocation) (live_run run (state_of m)) → n ≡ New
    → Becomes (if_new n (change_run run (with_pending name Invocation) (state_of m)) (state_of m)) m between
    → is_pending_in name (live_run run (state_of between)) ≡ true
invoked-waits run name n m between named is first = by_found (live_run run (state_of m)) refl named
  where
    by_found : (found : Option Run) → live_run run (state_of m) ≡ found → n ≡ naming_in (pend_in name Invocation) found
        → is_pending_in name (live_run run (state_of between)) ≡ true
    by_found None e named = let clash : Known ≡ New = sym named ∙ is in cc
    by_found (Some r) e named =
        ap (λ s. is_pending_in name (live_run run s))
        (first.state
        ∙ ap (λ k. if_new k (change_run run (with_pending name Invocation) (state_of m)) (state_of m)) is)
        ∙ pended-waits run name Invocation r (state_of m) e

-- the step waits, and then the function is invoked
invoked-by : (found : Option FunctionEntry) (r : Run) (name : List ℕ) (payload : Option (List ℕ)) (t : Option Time) (s : State)
    → IsStrictlySortedBy nat_cmp (map run_number s.live) → live_run r.number s ≡ Some r
    → naming_of (pend_in name Invocation r) ≡ New
    → invoke_current found r.number name payload t (change_run r.number (with_pending name Invocation) s)
    ≡ invoke_found found r name payload t s
invoked-by None r name payload t s sorted e new =
    pended-then r.number name unknown_function Invocation r s sorted e new
invoked-by (Some f) r name payload t s sorted e new = refl

pub becomes-invoked : (run : ℕ) (name id : List ℕ) (payload : Option (List ℕ)) (t : Option Time) (n : Naming)
    (m between new : Parts) → IsHeld m → n ≡ naming_in (pend_in name Invocation) (live_run run (state_of m)) → n ≡ New
    → Becomes (if_new n (change_run run (with_pending name Invocation) (state_of m)) (state_of m)) m between
    → Becomes (invoke_current (current id (state_of between)) run name payload t (state_of between)) between new
    → Becomes (invoke_at (live_run run (state_of m)) name id payload t (state_of m)) m new
becomes-invoked run name id payload t n m between new h named is first then =
    by_found (live_run run (state_of m)) refl named
  where
    pended : State
    pended = change_run run (with_pending name Invocation) (state_of m)

    waiting : Becomes pended m between
    waiting = subst (λ k. Becomes (if_new k pended (state_of m)) m between) is first

    by_found : (found : Option Run) → live_run run (state_of m) ≡ found → n ≡ naming_in (pend_in name Invocation) found
        → Becomes (invoke_at found name id payload t (state_of m)) m new
    by_found None e named = let clash : Known ≡ New = sym named ∙ is in cc
    by_found (Some r) e named =
        let at : run ≡ r.number =
        eqb-true run r.number (found-passes (λ (q : Run). run == q.number) m.runs.live r e) in
        subst (λ s. Becomes s m new)
        (ap (λ k. invoke_current (current id (state_of m)) k name payload t
        (change_run k (with_pending name Invocation) (state_of m))) at
        ∙ invoked-by (current id (state_of m)) r name payload t (state_of m) h.wants.ordered
        (subst (λ k. live_run k (state_of m) ≡ Some r) at e) (sym named ∙ is))
        (becomes-then (λ s. invoke_current (current id s) run name payload t s) pended m between new waiting then)
