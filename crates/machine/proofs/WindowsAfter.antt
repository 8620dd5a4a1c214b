-- Windows after an event: by a rule without its key, and which of them name what.
use Rattle.std.proofs.Common.{◌≡◌, ℕ, ◌==◌, Bool, true, false, not, ◌&&◌, ◌||◌, cond, List, [], ◌∷◌, find, Option, Some, None, IfSome, refl, sym, ap, ◌∙◌, subst, eqb-true}
use Rattle.std.specs.List.{AllByRecursion, list_any}
use Rattle.std.specs.Ordering.{is_lt}
use Rattle.awaited.specs.declared.placed.Placed.TheVariants as placed
use Rattle.functions.specs.declared.entry.FunctionEntry.{FunctionEntry}
use Rattle.kinds.specs.Windows as windows
use Rattle.kinds.specs.Windows.{IsRule, after_event, has_room, insert_window, is_full, is_of, opened, others, standing}
use Rattle.kinds.specs.declared.window.Window.{Window}
use Rattle.kinds.specs.declared.window.Window.TheVariants as window
use Rattle.kinds.specs.declared.window.WindowRule.{WindowRule}
use Rattle.kinds.specs.declared.window.WindowRule.TheVariants as rule
use Rattle.lists.proofs.Elements.{all-last}
use Rattle.lists.proofs.Keyed.{filter_none}
use Rattle.lists.proofs.Texts.{bytes_same}
use Rattle.lists.specs.Entries as entries
use Rattle.run_model.specs.Events.{in_window, with_window}
use Rattle.run_model.specs.Sound.{ArePairwise, is_same_window}
use Rattle.run_model.specs.State.{State, is_in}
use Rattle.run_model.proofs.Apart.{all-none}
use Rattle.run_model.proofs.FitWindows.{and-first, joined-value, joined-version, opened-version}
use Rattle.machine.specs.Numbers.{has_number}
use Rattle.machine.specs.Offers.{events_in, last_entry, without_key}

and-second : (a b : Bool) → (a && b) ≡ true → b ≡ true
and-second true b h = h
and-second false b h = cc

-- ## A rule without its key

pub keyless-room : (r : WindowRule) (before : Option Window) → has_room (without_key r) before ≡ has_room r before
keyless-room (rule.Debounce d) None = refl
keyless-room (rule.Debounce d) (Some (window.Debounce number version value event first due)) = refl
keyless-room (rule.Debounce d) (Some (window.Batch number version value events due)) = refl
keyless-room (rule.Batch b) None = refl
keyless-room (rule.Batch b) (Some (window.Debounce number version value event first due)) = refl
keyless-room (rule.Batch b) (Some (window.Batch number version value events due)) = refl

pub keyless-rule : (r : WindowRule) → IsRule r → IsRule (without_key r)
keyless-rule (rule.Debounce d) h = h
keyless-rule (rule.Batch b) h = h

pub keyless-after : (r : WindowRule) (version : ℕ) (value : List ℕ) (event t number : ℕ) (before : Option Window)
    → after_event (without_key r) version value event t number before
    ≡ after_event r version value event t number before
keyless-after (rule.Debounce d) version value event t number None = refl
keyless-after (rule.Debounce d) version value event t number (Some (window.Debounce n v x last first due)) = refl
keyless-after (rule.Debounce d) version value event t number (Some (window.Batch n v x events due)) = refl
keyless-after (rule.Batch b) version value event t number None = refl
keyless-after (rule.Batch b) version value event t number (Some (window.Debounce n v x last first due)) = refl
keyless-after (rule.Batch b) version value event t number (Some (window.Batch n v x events due)) = refl

pub keyless-with : (r : WindowRule) (before : Option Window) (w : Window) (s : State)
    → with_window (without_key r) before w s ≡ with_window r before w s
keyless-with (rule.Debounce d) before w s = refl
keyless-with (rule.Batch b) before w s = refl

pub keyless-in : (f : FunctionEntry) (r : WindowRule) (before : Option Window) (w : Window) (s : State)
    → in_window f (without_key r) before w s ≡ in_window f r before w s
keyless-in f (rule.Debounce d) before w s = refl
keyless-in f (rule.Batch b) before w s = refl

-- ## Which windows name what isn't touched

all-others : (version : ℕ) (value : List ℕ) (v : Window) (ws : List Window) → is_of version value v ≡ true
    → AllByRecursion (λ later. is_same_window v later ≡ false) ws → others version value ws ≡ ws
all-others version value v ws e apart =
    let at : version ≡ windows.version_of v =
    eqb-true version (windows.version_of v) (and-first (version == windows.version_of v) _ e) in
    let same : value ≡ windows.value_of v =
    bytes_same value (windows.value_of v) (and-second (version == windows.version_of v) _ e) in
    filter_none (is_of version value) ws
    (all-none (is_of version value) ws
    (subst (λ n. AllByRecursion (λ later. is_of n value later ≡ false) ws) (sym at)
    (subst (λ x. AllByRecursion (λ later. is_of (windows.version_of v) x later ≡ false) ws) (sym same) apart)))

-- a test of which the window of a version and a value doesn't count
any-others : (q : Window → Bool) (version : ℕ) (value : List ℕ) (ws : List Window)
    → ArePairwise (λ w later. is_same_window w later ≡ false) ws
    → IfSome (find (is_of version value) ws) (λ w. q w ≡ false)
    → list_any q (others version value ws) ≡ list_any q ws
any-others q version value [] apart h = refl
any-others q version value (v ∷ vs) apart h =
    by_test (is_of version value v) refl h (any-others q version value vs apart.1)
  where
    by_test : (b : Bool) → is_of version value v ≡ b
        → IfSome (cond b (Some v) (find (is_of version value) vs)) (λ w. q w ≡ false)
        → (IfSome (find (is_of version value) vs) (λ w. q w ≡ false)
        → list_any q (others version value vs) ≡ list_any q vs)
        → list_any q (cond (not b) (v ∷ others version value vs) (others version value vs)) ≡ (q v || list_any q vs)
    by_test true e off more =
        ap (list_any q) (all-others version value v vs e apart.0) ∙ ap (λ b. b || list_any q vs) (sym off)
    by_test false e off more = ap (λ b. q v || b) (more off)

any-window : (q : Window → Bool) (w : Window) (ws : List Window) → q w ≡ false
    → list_any q (insert_window w ws) ≡ list_any q ws
any-window q w [] off = ap (λ b. b || false) off
any-window q w (v ∷ vs) off =
    elim (is_lt (entries.pair_cmp (windows.place_of w) (windows.place_of v)))
    as (λ b. list_any q (cond b (w ∷ v ∷ vs) (v ∷ insert_window w vs)) ≡ (q v || list_any q vs)) [
      | true ↦ ap (λ b. b || (q v || list_any q vs)) off
      | false ↦ ap (λ b. q v || b) (any-window q w vs off)
    ]

-- nor does the window after it
pub any-standing : (q : Window → Bool) (r : WindowRule) (version : ℕ) (value : List ℕ) (w : Window) (ws : List Window)
    → windows.version_of w ≡ version → windows.value_of w ≡ value
    → ArePairwise (λ w later. is_same_window w later ≡ false) ws
    → IfSome (find (is_of version value) ws) (λ v. q v ≡ false) → q w ≡ false
    → list_any q (standing r w ws) ≡ list_any q ws
any-standing q r version value w ws at same apart before off =
    let left : list_any q (others (windows.version_of w) (windows.value_of w) ws) ≡ list_any q ws =
    ap (λ n. list_any q (others n (windows.value_of w) ws)) at
    ∙ ap (λ x. list_any q (others version x ws)) same ∙ any-others q version value ws apart before in
    elim (is_full r w) as (λ b. list_any q (cond b (others (windows.version_of w) (windows.value_of w) ws)
    (insert_window w (others (windows.version_of w) (windows.value_of w) ws))) ≡ list_any q ws) [
      | true ↦ left
      | false ↦ any-window q w (others (windows.version_of w) (windows.value_of w) ws) off ∙ left
    ]

-- ## The window after an event

pub after-version : (r : WindowRule) (version : ℕ) (value : List ℕ) (event t number : ℕ) (before : Option Window)
    → IfSome before (λ w. is_of version value w ≡ true)
    → windows.version_of (after_event r version value event t number before) ≡ version
after-version r version value event t number None h = opened-version r version value event t number
after-version r version value event t number (Some w) h =
    joined-version r event t w
    ∙ sym (eqb-true version (windows.version_of w) (and-first (version == windows.version_of w) _ h))

opened-value : (r : WindowRule) (version : ℕ) (value : List ℕ) (event t number : ℕ)
    → windows.value_of (opened r version value event t number) ≡ value
opened-value (rule.Debounce d) version value event t number = refl
opened-value (rule.Batch b) version value event t number = refl

pub after-value : (r : WindowRule) (version : ℕ) (value : List ℕ) (event t number : ℕ) (before : Option Window)
    → IfSome before (λ w. is_of version value w ≡ true)
    → windows.value_of (after_event r version value event t number before) ≡ value
after-value r version value event t number None h = opened-value r version value event t number
after-value r version value event t number (Some w) h =
    joined-value r event t w
    ∙ sym (bytes_same value (windows.value_of w) (and-second (version == windows.version_of w) _ h))

-- what holds of the event and of those before holds of all
pub after-events : (P : ℕ → Type 0) (r : WindowRule) (version : ℕ) (value : List ℕ) (event t number : ℕ)
    (before : Option Window) → P event → AllByRecursion P (events_in before)
    → AllByRecursion P (windows.events_of (after_event r version value event t number before))
after-events P (rule.Debounce d) version value event t number None one all = (one, tt)
after-events P (rule.Batch b) version value event t number None one all = (one, tt)
after-events P (rule.Debounce d) version value event t number (Some (window.Debounce n v x last first due)) one all =
    (one, tt)
after-events P (rule.Debounce d) version value event t number (Some (window.Batch n v x es due)) one all = all
after-events P (rule.Batch b) version value event t number (Some (window.Debounce n v x last first due)) one all = all
after-events P (rule.Batch b) version value event t number (Some (window.Batch n v x es due)) one all =
    all-last P es event all one

pub found-of : (version : ℕ) (value : List ℕ) (ws : List Window)
    → IfSome (find (is_of version value) ws) (λ w. is_of version value w ≡ true)
found-of version value [] = tt
found-of version value (w ∷ ws) = by_test (is_of version value w) refl (found-of version value ws)
  where
    by_test : (b : Bool) → is_of version value w ≡ b
        → IfSome (find (is_of version value) ws) (λ w. is_of version value w ≡ true)
        → IfSome (cond b (Some w) (find (is_of version value) ws)) (λ w. is_of version value w ≡ true)
    by_test true e more = e
    by_test false e more = more

-- ## What is touched

pub not-in : (touched : List ℕ) (n : ℕ) (ns : List ℕ) → AllByRecursion (λ k. has_number touched k ≡ true) ns
    → has_number touched n ≡ false → is_in n ns ≡ false
not-in touched n [] all left = refl
not-in touched n (k ∷ ns) all left =
    ap (λ b. b || is_in n ns) (by_test (n == k) refl) ∙ not-in touched n ns all.1 left
  where
    by_test : (b : Bool) → (n == k) ≡ b → b ≡ false
    by_test false e = refl
    by_test true e =
        let clash : true ≡ false = sym all.0 ∙ ap (has_number touched) (sym (eqb-true n k e)) ∙ left in cc

pub before-not-in : (touched : List ℕ) (n : ℕ) (before : Option Window)
    → AllByRecursion (λ k. has_number touched k ≡ true) (events_in before) → has_number touched n ≡ false
    → IfSome before (λ w. is_in n (windows.events_of w) ≡ false)
before-not-in touched n None all left = tt
before-not-in touched n (Some w) all left = not-in touched n (windows.events_of w) all left

pub other-version : (touched : List ℕ) (version v : ℕ) → has_number touched version ≡ true
    → has_number touched v ≡ false → (v == version) ≡ false
other-version touched version v there left = by_test (v == version) refl
  where
    by_test : (b : Bool) → (v == version) ≡ b → b ≡ false
    by_test false e = refl
    by_test true e =
        let clash : true ≡ false = sym there ∙ ap (has_number touched) (sym (eqb-true v version e)) ∙ left in cc

pub before-version : (version v : ℕ) (value : List ℕ) (before : Option Window) → (v == version) ≡ false
    → IfSome before (λ w. is_of version value w ≡ true) → IfSome before (λ w. (v == windows.version_of w) ≡ false)
before-version version v value None differ h = tt
before-version version v value (Some w) differ h =
    ap (λ n. v == n) (sym (eqb-true version (windows.version_of w) (and-first (version == windows.version_of w) _ h)))
    ∙ differ

-- ## The last number that was given

pub count-by : (full there : Bool) (events : List ℕ) (before number : ℕ)
    → last_entry (cond full (placed.Full events there) (cond there placed.Joined placed.Opened)) before number
    ≡ cond (not (there || full)) number before
count-by true true events before number = refl
count-by true false events before number = refl
count-by false true events before number = refl
count-by false false events before number = refl
