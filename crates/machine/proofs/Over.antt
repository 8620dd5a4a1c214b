-- What is awaited is over: it goes, its step is recorded, and what comes next is found out.
use Rattle.std.proofs.Common.{◌≡◌, ℕ, List, find, codes, Option, Some, None, refl, sym, ap, ◌∙◌, subst, eqb-true}
use Rattle.std.specs.Option.{option_map}
use Rattle.awaited.specs.Entries.{invocation_number, sleep_number, wait_step, waiting_number}
use Rattle.awaited.specs.declared.entries.WaitStep.{WaitStep}
use Rattle.functions.specs.declared.entry.FunctionEntry.{FunctionEntry}
use Rattle.kinds.specs.ErrorObject.{error_object}
use Rattle.kinds.specs.Windows as windows
use Rattle.kinds.specs.Windows.{fired}
use Rattle.kinds.specs.declared.store.Fired.{Fired}
use Rattle.kinds.specs.declared.window.Window.{Window}
use Rattle.lists.proofs.Keyed.{filter_none}
use Rattle.lists.specs.Entries.{AreApart, has}
use Rattle.run_model.specs.Advance.{make_found, timed_out, without_invocation, without_sleep, without_window}
use Rattle.run_model.specs.Events.{without_wait}
use Rattle.run_model.specs.Fit.{AreGiven, IsWindowFit}
use Rattle.run_model.specs.Making.{discover}
use Rattle.run_model.specs.Recording.{data_result, error_result, wake_step}
use Rattle.run_model.specs.State.{State, Invocation, Sleep, Waiting, function_at}
use Rattle.run_model.proofs.Members.{in-all, in-found}
use Rattle.run_model.proofs.SettlingLists.{found-passes}
use Rattle.machine.specs.Advance.{invocation_over, sleep_over, wait_over, window_over}
use Rattle.machine.specs.Held.{Becomes, IsHeld}
use Rattle.machine.specs.Numbers.{IsTouched}
use Rattle.machine.specs.View.{state_of}
use Rattle.machine.specs.Words.{make_at}
use Rattle.machine.specs.declared.loose.Loose.{Loose}
use Rattle.machine.specs.declared.parts.Parts.{Parts}
use Rattle.machine.proofs.HeldMaking.{some-mapped}
use Rattle.machine.proofs.HeldTime.{held-no-window, held-window}
use Rattle.machine.proofs.HeldWords.{becomes-then}

own-number : {X : Type 0} (number : X → ℕ) (n : ℕ) (x : X) (xs : List X) → find (has number n) xs ≡ Some x
    → n ≡ number x
own-number number n x xs found = eqb-true n (number x) (found-passes (has number n) xs x found)

none-mapped : {X Y : Type 0} (f : X → Y) (found : Option X) → None ≡ option_map f found → found ≡ None
none-mapped f None h = refl
none-mapped f (Some x) h = cc

becomes-is : (s t : State) (old new : Parts) → s ≡ t → Becomes s old new → Becomes t old new
becomes-is s t old new e b = subst (λ u. Becomes u old new) e b

-- what was woken finds out what comes next
woken : (run : ℕ) (name text : List ℕ) (s : State) (m taken woke new : Parts) → Becomes s m taken
    → Becomes (wake_step run name text (state_of taken)) taken woke → Becomes (discover (state_of woke)) woke new
    → Becomes (discover (wake_step run name text s)) m new
woken run name text s m taken woke new a b c =
    becomes-then discover (wake_step run name text s) m woke new
    (becomes-then (wake_step run name text) s m taken woke a b) c

-- ## A sleep

module _ (m taken : Parts) (number : ℕ) (left : Becomes (without_sleep number (state_of m)) m taken) where
  pub sleep-none : None ≡ find (has sleep_number number) m.sleeps
      → Becomes (sleep_over (find (has sleep_number number) m.sleeps) (state_of m)) m taken
  sleep-none none =
      becomes-is _ _ m taken
      (ap (λ (es : List Sleep). record (state_of m) { sleeps = es })
      (filter_none (has sleep_number number) m.sleeps (sym none))
      ∙ ap (λ o. sleep_over o (state_of m)) none) left

  pub sleep-some : (e : Sleep) (text : List ℕ) (woke new : Parts) → Some e ≡ find (has sleep_number number) m.sleeps
      → text ≡ codes "null" → Becomes (wake_step e.run e.hash text (state_of taken)) taken woke
      → Becomes (discover (state_of woke)) woke new
      → Becomes (sleep_over (find (has sleep_number number) m.sleeps) (state_of m)) m new
  sleep-some e text woke new found told b c =
      becomes-is _ _ m new
      (ap (λ t. discover (wake_step e.run e.hash t (without_sleep number (state_of m)))) told
      ∙ ap (λ n. discover (wake_step e.run e.hash (codes "null") (without_sleep n (state_of m))))
      (own-number sleep_number number e m.sleeps (sym found))
      ∙ ap (λ o. sleep_over o (state_of m)) found)
      (woken e.run e.hash text (without_sleep number (state_of m)) m taken woke new left b c)

-- ## A wait

module _ (m taken : Parts) (number : ℕ) (left : Becomes (without_wait number (state_of m)) m taken) where
  pub wait-none : None ≡ option_map wait_step (find (has waiting_number number) m.waits)
      → Becomes (wait_over (find (has waiting_number number) m.waits) (state_of m)) m taken
  wait-none none =
      let nothing = none-mapped wait_step (find (has waiting_number number) m.waits) none in
      becomes-is _ _ m taken
      (ap (λ (ws : List Waiting). record (state_of m) { waits = ws })
      (filter_none (has waiting_number number) m.waits nothing)
      ∙ ap (λ o. wait_over o (state_of m)) (sym nothing)) left

  wait-found : (w : Waiting) (text : List ℕ) (woke new : Parts) → find (has waiting_number number) m.waits ≡ Some w
      → text ≡ data_result (codes "null") → Becomes (wake_step w.wait.run w.hash text (state_of taken)) taken woke
      → Becomes (discover (state_of woke)) woke new
      → Becomes (wait_over (find (has waiting_number number) m.waits) (state_of m)) m new
  wait-found w text woke new found told b c =
      becomes-is _ _ m new
      (ap (λ t. discover (wake_step w.wait.run w.hash t (without_wait number (state_of m)))) told
      ∙ ap (λ n. discover (wake_step w.wait.run w.hash (data_result (codes "null")) (without_wait n (state_of m))))
      (own-number waiting_number number w m.waits found)
      ∙ ap (λ o. wait_over o (state_of m)) (sym found))
      (woken w.wait.run w.hash text (without_wait number (state_of m)) m taken woke new left b c)

  pub wait-some : (e : WaitStep) (text : List ℕ) (woke new : Parts)
      → Some e ≡ option_map wait_step (find (has waiting_number number) m.waits)
      → text ≡ data_result (codes "null") → Becomes (wake_step e.run e.hash text (state_of taken)) taken woke
      → Becomes (discover (state_of woke)) woke new
      → Becomes (wait_over (find (has waiting_number number) m.waits) (state_of m)) m new
  wait-some e text woke new is told b c =
      let found = some-mapped wait_step (find (has waiting_number number) m.waits) e is in
      wait-found found.0 text woke new found.1 told
      (subst (λ (x : WaitStep). Becomes (wake_step x.run x.hash text (state_of taken)) taken woke) found.2 b) c

-- ## An invocation

module _ (m taken : Parts) (number : ℕ) (left : Becomes (without_invocation number (state_of m)) m taken) where
  pub invocation-none : None ≡ find (has invocation_number number) m.invocations
      → Becomes (invocation_over (find (has invocation_number number) m.invocations) (state_of m)) m taken
  invocation-none none =
      becomes-is _ _ m taken
      (ap (λ (es : List Invocation). record (state_of m) { invocations = es })
      (filter_none (has invocation_number number) m.invocations (sym none))
      ∙ ap (λ o. invocation_over o (state_of m)) none) left

  pub invocation-some : (e : Invocation) (error text : List ℕ) (woke new : Parts)
      → Some e ≡ find (has invocation_number number) m.invocations
      → error ≡ error_object (codes "invocation timed out") → text ≡ error_result error
      → Becomes (wake_step e.run e.hash text (state_of taken)) taken woke
      → Becomes (discover (state_of woke)) woke new
      → Becomes (invocation_over (find (has invocation_number number) m.invocations) (state_of m)) m new
  invocation-some e error text woke new found fault told b c =
      becomes-is _ _ m new
      (ap (λ t. discover (wake_step e.run e.hash t (without_invocation number (state_of m))))
      (told ∙ ap error_result fault)
      ∙ ap (λ n. discover (wake_step e.run e.hash timed_out (without_invocation n (state_of m))))
      (own-number invocation_number number e m.invocations (sym found))
      ∙ ap (λ o. invocation_over o (state_of m)) found)
      (woken e.run e.hash text (without_invocation number (state_of m)) m taken woke new left b c)

-- ## A window

pub no-window : (m : Parts) (number : ℕ) (ws : List Window)
    → None ≡ option_map fired (find (windows.has_number number) m.windows)
    → ws ≡ windows.without_number number m.windows → IsHeld m
    → Becomes (without_window number (state_of m)) m (record m { windows = ws })
no-window m number ws none left h =
    held-no-window m number ws (none-mapped fired (find (windows.has_number number) m.windows) none) left h

pub window-taken : (m : Parts) (number : ℕ) (f : Fired) (ws : List Window) (loose : Loose)
    → Some f ≡ option_map fired (find (windows.has_number number) m.windows)
    → ws ≡ windows.without_number number m.windows → IsTouched f.version f.events m.loose loose
    → AreApart windows.number_of m.windows → IsHeld m
    → Becomes (without_window number (state_of m)) m (record m { windows = ws; loose = loose })
window-taken m number f ws loose is left touched apart h =
    let found = some-mapped fired (find (windows.has_number number) m.windows) f is in
    held-window m number found.0 ws loose found.1 left
    (subst (λ (x : Fired). IsTouched x.version x.events m.loose loose) found.2 touched) apart h

make-found : (found : Option FunctionEntry) (w : Window) (s : State)
    → make_at found (windows.events_of w) None s ≡ make_found found w s
make-found None w s = refl
make-found (Some f) w s = refl

module _ (m taken : Parts) (number : ℕ) (left : Becomes (without_window number (state_of m)) m taken) where
  pub window-none : None ≡ option_map fired (find (windows.has_number number) m.windows)
      → Becomes (window_over (find (windows.has_number number) m.windows) (state_of m)) m taken
  window-none none =
      let nothing = none-mapped fired (find (windows.has_number number) m.windows) none in
      becomes-is _ _ m taken
      (ap (λ (ws : List Window). record (state_of m) { windows = ws })
      (filter_none (windows.has_number number) m.windows nothing)
      ∙ ap (λ o. window_over o (state_of m)) (sym nothing)) left

  module _ (f : Fired) (is : Some f ≡ option_map fired (find (windows.has_number number) m.windows)) where
    found : (w : Window) × (find (windows.has_number number) m.windows ≡ Some w) × (f ≡ fired w)
    found = some-mapped fired (find (windows.has_number number) m.windows) f is

    pub window-given : IsHeld m → AreGiven taken.counts.events f.events
    window-given h =
        subst (λ n. AreGiven n f.events) (sym (ap (λ (s : State). s.events) left.state))
        (subst (λ (x : Fired). AreGiven m.counts.events x.events) (sym found.2)
        (in-all (IsWindowFit m.counts.events m.counts.entries m.counts.versions) found.0 m.windows
        (in-found (windows.has_number number) m.windows found.0 found.1) h.fit.windows_fit.each).named)

    pub window-some : (new : Parts)
        → Becomes (make_at (function_at f.version (state_of taken)) f.events None (state_of taken)) taken new
        → Becomes (window_over (find (windows.has_number number) m.windows) (state_of m)) m new
    window-some new b =
        let w = found.0 in
        becomes-is _ _ m new
        (ap (λ (x : Fired). make_at (function_at x.version (state_of m)) x.events None (without_window number (state_of m)))
        found.2
        ∙ make-found (function_at (windows.version_of w) (state_of m)) w (without_window number (state_of m))
        ∙ ap (λ n. make_found (function_at (windows.version_of w) (state_of m)) w (without_window n (state_of m)))
        (own-number windows.number_of number w m.windows found.1)
        ∙ ap (λ o. window_over o (state_of m)) (sym found.1))
        (becomes-then (λ s. make_at (function_at f.version s) f.events None s) (without_window number (state_of m))
        m taken new left b)
