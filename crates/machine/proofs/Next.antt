-- What is due next: the least of each kind that may be due, and of all of them.
use Rattle.std.proofs.Common.{◌≡◌, ℕ, Bool, true, false, cond, List, [], ◌∷◌, ◌++◌, map, Option, Some, None, nat_le, refl, sym, ap, ◌∙◌}
use Rattle.std.specs.Option.{option_map}
use Rattle.admission.specs.Issues as issues
use Rattle.admission.specs.Issues.{first_due, limit_of}
use Rattle.admission.specs.declared.issue.CallLimit.{CallLimit}
use Rattle.awaited.specs.Entries.{invocation_due, invocation_number, invocation_run, sleep_due, sleep_number, sleep_run, rule_due, waiting_due, waiting_number, waiting_run}
use Rattle.awaited.specs.Named.{no_run, window_due}
use Rattle.kinds.specs.Stores.{rule_number, rule_run}
use Rattle.kinds.specs.Windows as windows
use Rattle.kinds.specs.declared.store.Due.{Due}
use Rattle.timers.specs.Dues as dues
use Rattle.timers.specs.Dues.{DueEntry, as_due, least_due, earlier_of, seen_as}
use Rattle.timers.proofs.DueLemmas.{least_joined, least_mapped}
use Rattle.run_model.specs.Advance as model
use Rattle.run_model.specs.Advance.{least, timed, due_of, number_of, sleep_end, wait_end, invocation_end, window_end, rule_end, call_limit, within}
use Rattle.run_model.specs.Next.{due_next}
use Rattle.run_model.specs.State.{State, Issue}
use Rattle.machine.specs.Advance.{due_at, due_within, entry_by, limited, next_by, next_from, sooner}
use Rattle.machine.specs.declared.advance.Next.{Next}
use Rattle.machine.specs.declared.advance.Timed.{Timed}
use Rattle.machine.specs.declared.advance.Timed.TheVariants as timed_as

-- ## The least of a list, as the parts have it

abbrev of_due : DueEntry model.Timed → model.Next
of_due d = record { due = d.due; entry = d.entry }

abbrev next_of : DueEntry model.Timed → Next
next_of d = next_by (of_due d)

-- the least of some that may be due
abbrev next_in : List model.Timed → Option Next
next_in es = option_map next_of (least_due due_of number_of es)

of-earlier : (a : DueEntry model.Timed) (o : Option (DueEntry model.Timed))
    → model.earlier (of_due a) (option_map of_due o) ≡ option_map of_due (dues.earlier number_of a o)
of-earlier a None = refl
of-earlier a (Some b) = by_test (dues.comes_before number_of b a)
  where
    by_test : (t : Bool) → cond t (Some (of_due b)) (Some (of_due a)) ≡ option_map of_due (cond t (Some b) (Some a))
    by_test true = refl
    by_test false = refl

of-with_due : (e : model.Timed) (due : Option ℕ) (o : Option (DueEntry model.Timed))
    → model.with_due e due (option_map of_due o) ≡ option_map of_due (dues.with_due number_of e due o)
of-with_due e None o = refl
of-with_due e (Some due) o = of-earlier (record { due = due; entry = e }) o

least-is : (es : List model.Timed) → least es ≡ option_map of_due (least_due due_of number_of es)
unfolding least
least-is [] = refl
least-is (e ∷ es) =
    ap (model.with_due e (due_of e)) (least-is es) ∙ of-with_due e (due_of e) (least_due due_of number_of es)

then-next : (o : Option (DueEntry model.Timed)) → option_map next_by (option_map of_due o) ≡ option_map next_of o
then-next None = refl
then-next (Some d) = refl

next-least : (es : List model.Timed) → option_map next_by (least es) ≡ next_in es
next-least es = ap (option_map next_by) (least-is es) ∙ then-next (least_due due_of number_of es)

-- ## Lists one behind the other

of-sooner : (a b : Option (DueEntry model.Timed))
    → option_map next_of (earlier_of number_of a b) ≡ sooner (option_map next_of a) (option_map next_of b)
of-sooner None b = refl
of-sooner (Some a) None = refl
of-sooner (Some a) (Some b) = by_test (dues.comes_before number_of b a)
  where
    by_test : (t : Bool) → option_map next_of (cond t (Some b) (Some a)) ≡ cond t (Some (next_of b)) (Some (next_of a))
    by_test true = refl
    by_test false = refl

next-joined : (es fs : List model.Timed) → next_in (es ++ fs) ≡ sooner (next_in es) (next_in fs)
next-joined es fs =
    ap (option_map next_of) (least_joined number_of due_of es fs)
    ∙ of-sooner (least_due due_of number_of es) (least_due due_of number_of fs)

-- ## Each kind

next-kind : {X : Type 0} (f : X → model.Timed) (run : X → ℕ) (entry : Timed)
    → ((x : X) → entry ≡ entry_by (f x)) → (xs : List X)
    → option_map (next_from entry) (option_map (as_due (λ x. number_of (f x)) run)
    (least_due (λ x. due_of (f x)) (λ x. number_of (f x)) xs))
    ≡ next_in (map f xs)
next-kind {X = X} f run entry same xs =
    by_found (least_due (λ x. due_of (f x)) (λ x. number_of (f x)) xs)
    ∙ sym (ap (option_map next_of) (least_mapped due_of number_of (λ _. 0) f xs))
  where
    by_found : (o : Option (DueEntry X))
        → option_map (next_from entry) (option_map (as_due (λ x. number_of (f x)) run) o)
        ≡ option_map next_of (option_map (seen_as f) o)
    by_found None = refl
    by_found (Some d) =
        ap (λ e. Some (record { due = d.due; number = number_of (f d.entry); entry = e })) (same d.entry)

abbrev limit_due : Issue → DueEntry model.Timed
limit_due i = record { due = i.due; entry = call_limit i }

of-issues : (i : Issue) (o : Option Issue)
    → dues.earlier number_of (limit_due i) (option_map limit_due o) ≡ option_map limit_due (issues.earlier i o)
of-issues i None = refl
of-issues i (Some j) = by_test (issues.comes_before j i)
  where
    by_test : (t : Bool) → cond t (Some (limit_due j)) (Some (limit_due i)) ≡ option_map limit_due (cond t (Some j) (Some i))
    by_test true = refl
    by_test false = refl

least-limits : (is : List Issue)
    → least_due due_of number_of (map call_limit is) ≡ option_map limit_due (first_due is)
unfolding first_due
least-limits [] = refl
least-limits (i ∷ is) =
    ap (dues.earlier number_of (limit_due i)) (least-limits is) ∙ of-issues i (first_due is)

next-limits : (is : List Issue)
    → option_map limited (option_map limit_of (first_due is)) ≡ next_in (map call_limit is)
next-limits is =
    by_found (first_due is) ∙ sym (ap (option_map next_of) (least-limits is))
  where
    by_found : (o : Option Issue)
        → option_map limited (option_map limit_of o) ≡ option_map next_of (option_map limit_due o)
    by_found None = refl
    by_found (Some i) = refl

-- ## All kinds

both-sooner : (a b c d : Option Next) → a ≡ b → c ≡ d → sooner a c ≡ sooner b d
both-sooner a b c d h k = ap (λ x. sooner x c) h ∙ ap (sooner b) k

next-timed : (s : State) → sooner (sooner (sooner (sooner (sooner
    (next_in (map sleep_end s.sleeps)) (next_in (map wait_end s.waits)))
    (next_in (map invocation_end s.invocations))) (next_in (map window_end s.windows)))
    (next_in (map rule_end s.rules))) (next_in (map call_limit s.issues))
    ≡ next_in (timed s)
unfolding timed
next-timed s =
    let a = map sleep_end s.sleeps in
    let b = a ++ map wait_end s.waits in
    let c = b ++ map invocation_end s.invocations in
    let d = c ++ map window_end s.windows in
    let e = d ++ map rule_end s.rules in
    let f = e ++ map call_limit s.issues in
    let more : (es fs : List model.Timed) (o : Option Next) → o ≡ next_in es
    → sooner o (next_in fs) ≡ next_in (es ++ fs) =
    (λ es fs o h. ap (λ x. sooner x (next_in fs)) h ∙ sym (next-joined es fs)) in
    more e (map call_limit s.issues) _
    (more d (map rule_end s.rules) _
    (more c (map window_end s.windows) _
    (more b (map invocation_end s.invocations) _
    (more a (map wait_end s.waits) _ refl))))

-- what is first of each kind, and the sooner of these one after the other
module _ (s : State) (sleep wait invocation window rule : Option Due) (limit : Option CallLimit)
    (next_sleep next_wait next_invocation next_window next_rule next_limit : Option Next) where
  pub next-kinds : next_sleep ≡ option_map (next_from timed_as.Sleep) sleep
      → next_wait ≡ option_map (next_from timed_as.Wait) wait
      → next_invocation ≡ option_map (next_from timed_as.Invocation) invocation
      → next_window ≡ option_map (next_from timed_as.Window) window
      → next_rule ≡ option_map (next_from timed_as.Rule) rule
      → next_limit ≡ option_map limited limit
      → sleep ≡ option_map (as_due sleep_number sleep_run) (least_due sleep_due sleep_number s.sleeps)
      → wait ≡ option_map (as_due waiting_number waiting_run) (least_due waiting_due waiting_number s.waits)
      → invocation ≡ option_map (as_due invocation_number invocation_run)
      (least_due invocation_due invocation_number s.invocations)
      → window ≡ option_map (as_due windows.number_of no_run) (least_due window_due windows.number_of s.windows)
      → rule ≡ option_map (as_due rule_number rule_run) (least_due rule_due rule_number s.rules)
      → limit ≡ option_map limit_of (first_due s.issues)
      → sooner (sooner (sooner (sooner (sooner next_sleep next_wait) next_invocation) next_window) next_rule) next_limit
      ≡ option_map next_by (least (timed s))
  next-kinds a b c d e f g h i j k l =
      both-sooner _ _ _ _ (both-sooner _ _ _ _ (both-sooner _ _ _ _ (both-sooner _ _ _ _ (both-sooner _ _ _ _
      (a ∙ ap (option_map (next_from timed_as.Sleep)) g
      ∙ next-kind sleep_end sleep_run timed_as.Sleep (λ x. refl) s.sleeps)
      (b ∙ ap (option_map (next_from timed_as.Wait)) h
      ∙ next-kind wait_end waiting_run timed_as.Wait (λ x. refl) s.waits))
      (c ∙ ap (option_map (next_from timed_as.Invocation)) i
      ∙ next-kind invocation_end invocation_run timed_as.Invocation (λ x. refl) s.invocations))
      (d ∙ ap (option_map (next_from timed_as.Window)) j
      ∙ next-kind window_end no_run timed_as.Window (λ x. refl) s.windows))
      (e ∙ ap (option_map (next_from timed_as.Rule)) k
      ∙ next-kind rule_end rule_run timed_as.Rule (λ x. refl) s.rules))
      (f ∙ ap (option_map limited) l ∙ next-limits s.issues)
      ∙ next-timed s ∙ sym (next-least (timed s))

pub sooner-all : (a b c d e f one two three four five : Option Next) → one ≡ sooner a b → two ≡ sooner one c
    → three ≡ sooner two d → four ≡ sooner three e → five ≡ sooner four f
    → five ≡ sooner (sooner (sooner (sooner (sooner a b) c) d) e) f
sooner-all a b c d e f one two three four five g h i j k =
    k ∙ ap (λ x. sooner x f) (j ∙ ap (λ x. sooner x e) (i ∙ ap (λ x. sooner x d) (h ∙ ap (λ x. sooner x c) g)))

-- ## Where it is due by a moment

pub within-is : (t : ℕ) (o : Option model.Next)
    → due_within t (option_map next_by o) ≡ option_map next_by (within t o)
within-is t None = refl
within-is t (Some n) = by_test (nat_le n.due t)
  where
    by_test : (b : Bool) → cond b (Some (next_by n)) None ≡ option_map next_by (cond b (Some n) None)
    by_test true = refl
    by_test false = refl

pub due-is : (o : Option model.Next) → option_map due_at (option_map next_by o) ≡ due_next o
due-is None = refl
due-is (Some n) = refl
