-- Inputs that are taken and hashed one after another.
use Rattle.std.proofs.Common.{◌*◌, Option, Some, None, sym, ◌≡◌, ℕ, zero, suc, ◌+◌, [], ◌++◌, Result, Ok, Err, ap, ◌∙◌, append_assoc, append-nil, arith, refl, subst}
use Rattle.generator.specs.Inputs.{drawn, drawn_next, event_input, registration, reply_input, user_of}
use Rattle.kinds.specs.declared.input.Input.{Input}
use Rattle.machine.specs.Words.{open_call}
use Rattle.machine.specs.declared.views.OpenCall.{OpenCall}
use Rattle.run_model.specs.Next.{first_open, has_results}
use Rattle.run_model.specs.State.{State, Issue}
use Rattle.std.specs.Option.{option_map}
use Rattle.sha1.specs.Sha1.{Holds}
use Rattle.replay_core.specs.Generator.{on_any, on_event, on_events, on_replies, on_reply}
use Rattle.replay_core.specs.Hashing.{Hashes}
use Rattle.replay_core.specs.Replay.{Outcome, Progress, Goes, after_text, and_then, on_input}
use Rattle.replay_core.specs.declared.generated.Hashing.{Hashing}
use Rattle.replay_core.specs.declared.generated.InputFault.{InputFault}
use Rattle.replay_core.specs.declared.generated.InputFault.TheVariants as fault

-- nothing was taken
pub hashes-none : (a : Hashing) → Hashes (Goes a.progress []) a (Ok a)
hashes-none a = ([], refl, λ before holds. rw (append-nil before) holds)

-- and then more, or it breaks off
pub hashes-then : (outcome : Outcome) (next : Progress → Outcome) (a b : Hashing) (r : Result Hashing InputFault)
    → Hashes outcome a (Ok b) → Hashes (next b.progress) b r → Hashes (and_then outcome next) a r
hashes-then outcome next a b (Ok c) (t, e, h) (u, d, k) = (
  t ++ u,
  ap (λ x. and_then x next) e ∙ ap (after_text t) d,
  λ before holds. subst (Holds c.hasher) (append_assoc before t u) (k (before ++ t) (h before holds)),
)
hashes-then outcome next a b (Err fault.Spent) (t, e, h) (u, d) =
    (t ++ u, ap (λ x. and_then x next) e ∙ ap (after_text t) d)
hashes-then outcome next a b (Err fault.Memory) h k = tt

-- an input that was made, and then more
pub input-then : (input made : Input) (next : Progress → Outcome) (a b : Hashing) (r : Result Hashing InputFault)
    → made ≡ input → Hashes (on_input a.progress made) a (Ok b) → Hashes (next b.progress) b r
    → Hashes (and_then (on_input a.progress input) next) a r
input-then input made next a b r is h k =
    hashes-then (on_input a.progress input) next a b r
    (subst (λ (x : Input). Hashes (on_input a.progress x) a (Ok b)) is h) k

-- it had broken off
pub hashes-fault : (outcome : Outcome) (next : Progress → Outcome) (a : Hashing) (e : InputFault)
    → Hashes outcome a (Err e) → Hashes (and_then outcome next) a (Err e)
hashes-fault outcome next a fault.Spent (t, e) = (t, ap (λ x. and_then x next) e)
hashes-fault outcome next a fault.Memory h = tt

-- ## Events

-- none is drawn before the first
pub no-events : (n last : ℕ) (a : Hashing) → last ≡ n
    → Hashes (on_events n 0 a.progress) a (Ok a) × (last ≡ drawn n 0)
unfolding on_events drawn
no-events n last a is = (hashes-none a, is)

next-event : (n i user last now : ℕ) (a b : Hashing) (r : Result Hashing InputFault)
    → last ≡ drawn n i → now ≡ drawn_next last → user ≡ user_of now
    → Hashes (on_events n i a.progress) a (Ok b)
    → Hashes (and_then (on_input b.progress (event_input user (suc i))) (on_reply (suc i))) b r
    → Hashes (on_events n (suc i) a.progress) a r × (now ≡ drawn n (suc i))
unfolding on_events drawn
next-event n i user last now a b r before next of h k =
    let drew : now ≡ drawn_next (drawn n i) = next ∙ ap drawn_next before in
    let is : user ≡ user_of (drawn_next (drawn n i)) = of ∙ ap user_of drew in
    let taken = subst (λ (u : ℕ). Hashes (and_then (on_input b.progress (event_input u (suc i))) (on_reply (suc i))) b r) is k in
    (hashes-then (on_events n i a.progress) (on_event n (suc i)) a b r h taken, drew)

-- the number that is drawn tells the user of one more
pub one-event : (n i user last now : ℕ) (a b : Hashing) (r : Result Hashing InputFault)
    → last ≡ drawn n i → now ≡ drawn_next last → user ≡ user_of now
    → Hashes (on_events n i a.progress) a (Ok b)
    → Hashes (and_then (on_input b.progress (event_input user (i + 1))) (on_reply (i + 1))) b r
    → Hashes (on_events n (i + 1) a.progress) a r × (now ≡ drawn n (i + 1))
one-event n i user last now a b r before next of h k =
    let same : suc i ≡ i + 1 = omega arith in
    subst (λ (j : ℕ). Hashes (and_then (on_input b.progress (event_input user j)) (on_reply j)) b r
    → Hashes (on_events n j a.progress) a r × (now ≡ drawn n j)) same
    (λ taken. next-event n i user last now a b r before next of h taken) k

-- once it broke off, no more are taken
pub events-fault : (count n i m : ℕ) (a : Hashing) (e : InputFault) → m ≡ count + i
    → Hashes (on_events n i a.progress) a (Err e) → Hashes (on_events n m a.progress) a (Err e)
unfolding on_events
events-fault zero n i m a e is h =
    let same : i ≡ m = omega (arith, is) in
    subst (λ (k : ℕ). Hashes (on_events n k a.progress) a (Err e)) same h
events-fault (suc count) n i m a e is h =
    let same : suc (count + i) ≡ m = omega (arith, is) in
    subst (λ (k : ℕ). Hashes (on_events n k a.progress) a (Err e)) same
    (hashes-fault (on_events n (count + i) a.progress) (on_event n (suc (count + i))) a e
    (events-fault count n i (count + i) a e refl h))

-- ## Replies

pub no-replies : (n : ℕ) (a : Hashing) → Hashes (on_replies n 0 a.progress) a (Ok a)
unfolding on_replies
no-replies n a = hashes-none a

pub one-reply : (n i : ℕ) (a b : Hashing) (r : Result Hashing InputFault)
    → Hashes (on_replies n i a.progress) a (Ok b) → Hashes (on_reply n b.progress) b r
    → Hashes (on_replies n (i + 1) a.progress) a r
unfolding on_replies
one-reply n i a b r h k =
    let same : suc i ≡ i + 1 = omega arith in
    subst (λ (j : ℕ). Hashes (on_replies n j a.progress) a r) same
    (hashes-then (on_replies n i a.progress) (on_reply n) a b r h k)

pub replies-fault : (count n i m : ℕ) (a : Hashing) (e : InputFault) → m ≡ count + i
    → Hashes (on_replies n i a.progress) a (Err e) → Hashes (on_replies n m a.progress) a (Err e)
unfolding on_replies
replies-fault zero n i m a e is h =
    let same : i ≡ m = omega (arith, is) in
    subst (λ (k : ℕ). Hashes (on_replies n k a.progress) a (Err e)) same h
replies-fault (suc count) n i m a e is h =
    let same : suc (count + i) ≡ m = omega (arith, is) in
    subst (λ (k : ℕ). Hashes (on_replies n k a.progress) a (Err e)) same
    (hashes-fault (on_replies n (count + i) a.progress) (on_reply n) a e
    (replies-fault count n i (count + i) a e refl h))

-- ## The first open call

reply-named : (i : ℕ) (s : State) (one : OpenCall) (found : Option Issue) → Some one ≡ option_map (open_call s) found
    → option_map (λ (o : Issue). reply_input (10 * i) o.call (has_results s o) i) found
    ≡ Some (reply_input (10 * i) one.call one.has_results i)
reply-named i s one None is =
    sym (ap (option_map (λ (o : OpenCall). reply_input (10 * i) o.call o.has_results i)) is)
reply-named i s one (Some o) is =
    sym (ap (option_map (λ (o : OpenCall). reply_input (10 * i) o.call o.has_results i)) is)

pub reply-after : (i : ℕ) (a : Hashing) (one : OpenCall) (machine : State) (first : Option OpenCall) (reply : Input)
    (r : Result Hashing InputFault) → machine ≡ a.progress.state
    → first ≡ option_map (open_call machine) (first_open machine.issues) → first ≡ Some one
    → reply ≡ reply_input (10 * i) one.call one.has_results i → Hashes (on_input a.progress reply) a r
    → Hashes (on_reply i a.progress) a r
reply-after i a one machine first reply r same given is made h =
    let found : first ≡ option_map (open_call a.progress.state) (first_open a.progress.state.issues) =
    subst (λ (m : State). first ≡ option_map (open_call m) (first_open m.issues)) same given in
    let named = reply-named i a.progress.state one (first_open a.progress.state.issues) (sym is ∙ found) in
    subst (λ (x : Option Input). Hashes (on_any a.progress x) a r) (ap Some made ∙ sym named) h
