-- What the steps of a run answer to a note, with the steps put back.
use Rattle.std.proofs.Common.{◌≡◌, Bool, true, false, cond, List, ℕ, refl, sym, ◌∙◌, subst}
use Rattle.kinds.specs.RunSteps.{RunSteps, Noting, adds, known, full, is_known, is_pending, is_planned, is_recorded, keep_step, names, most_names, note_pending, note_plan, pend_step, plan_step, record_step}
use Rattle.kinds.specs.declared.store.Pending.{Pending}
use Rattle.std.specs.Prelude.{◌||◌, nat_le, IfOk, OnErr, Result, Ok, Err}
use Rattle.run_state.specs.Noted.{Notes, steps_of}
use Rattle.run_state.specs.declared.active.Noted.{Noted}
use Rattle.run_state.specs.declared.active.Noted.TheVariants as noted
use Rattle.runs.specs.Changes.{IsNoted}
use Rattle.runs.specs.Noted.{Tells, IsStarved}
use Rattle.runs.specs.declared.naming.Naming.{Naming}

adds_same : (a b : RunSteps) → adds a ≡ adds b → b ≡ a
adds_same a b h = cc

pub put_back : (noting : Noting) (next s : RunSteps) (answer : Noted) (n : Naming) → ((m : RunSteps) → noting ≡ adds m → m ≡ next) → Notes noting s answer → Tells answer n → IsNoted noting next s n (steps_of answer)
put_back noting next s (noted.New m) n f h t = subst (λ k. IsNoted noting next s k m) (sym t) (record { told = rw h refl; now = f m h })
put_back noting next s (noted.Known m) n f h t = subst (λ k. IsNoted noting next s k m) (sym t) (record { told = rw h.0 refl; now = h.1 })
put_back noting next s (noted.Full m) n f h t = subst (λ k. IsNoted noting next s k m) (sym t) (record { told = rw h.0 refl; now = h.1 })
put_back noting next s (noted.Memory m) n f h t = absurd t

pub starved : (noting : Noting) (s : RunSteps) (answer : Noted) → Notes noting s answer → IsStarved answer → steps_of answer ≡ s
starved noting s (noted.New m) h t = absurd t
starved noting s (noted.Known m) h t = absurd t
starved noting s (noted.Full m) h t = absurd t
starved noting s (noted.Memory m) h t = h.1

pub woken : (next s : RunSteps) (answer : Noted) (n : Naming) → Notes (adds next) s answer → Tells answer n → steps_of answer ≡ next
woken next s (noted.New m) n h t = adds_same next m h
woken next s (noted.Known m) n h t = let no = h.0 in cc
woken next s (noted.Full m) n h t = let no = h.0 in cc
woken next s (noted.Memory m) n h t = absurd t

-- what is added, by the tests

by_room : (b : Bool) (r m : RunSteps) → cond b full (adds r) ≡ adds m → m ≡ r
by_room true r m h = cc
by_room false r m h = adds_same r m h

by_known : (a b : Bool) (r m : RunSteps) → cond a known (cond b full (adds r)) ≡ adds m → m ≡ r
by_known true b r m h = cc
by_known false b r m h = by_room b r m h

by_plan : (a b c : Bool) (r m : RunSteps) → cond a known (cond b (adds r) (cond c full (adds r))) ≡ adds m → m ≡ r
by_plan true b c r m h = cc
by_plan false true c r m h = adds_same r m h
by_plan false false c r m h = by_room c r m h

pub keep_adds : (name text : List ℕ) (s m : RunSteps) → keep_step name text s ≡ adds m → m ≡ record_step name text s
keep_adds name text s m h = by_plan (is_recorded name s || is_pending name s) (is_planned name s) (nat_le most_names (names s)) (record_step name text s) m h

pub plan_adds : (name : List ℕ) (s m : RunSteps) → note_plan name s ≡ adds m → m ≡ plan_step name s
plan_adds name s m h = by_known (is_known name s) (nat_le most_names (names s)) (plan_step name s) m h

pub pend_adds : (name : List ℕ) (kind : Pending) (s m : RunSteps) → note_pending name kind s ≡ adds m → m ≡ pend_step name kind s
pend_adds name kind s m h = by_known (is_known name s) (nat_le most_names (names s)) (pend_step name kind s) m h

-- ---- over the answer of a call

module _ (note : RunSteps → Noting) (next : RunSteps → RunSteps) (t s : RunSteps) (answer : Noted) (same : t ≡ s) (h : Notes (note t) t answer) where
  back_from : Notes (note s) s answer
  back_from = subst (λ x. Notes (note x) x answer) same h

  pub back_ok : {E : Type 0} (r : Result Naming E) (new : RunSteps) → ((x m : RunSteps) → note x ≡ adds m → m ≡ next x) → IfOk r (Tells answer) → new ≡ steps_of answer → IfOk r (λ n. IsNoted (note s) (next s) s n new)
  back_ok (Ok n) new f k e = subst (IsNoted (note s) (next s) s n) (sym e) (put_back (note s) (next s) s answer n (f s) back_from k)
  back_ok (Err x) new f k e = tt

  pub back_err : {E : Type 0} (r : Result Naming E) (new : RunSteps) → OnErr r (IsStarved answer) → new ≡ steps_of answer → OnErr r (new ≡ s)
  back_err (Ok n) new k e = tt
  back_err (Err x) new k e = e ∙ starved (note s) s answer back_from k
