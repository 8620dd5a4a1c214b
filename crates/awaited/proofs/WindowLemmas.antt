-- The windows, their dues and their names when a window comes, goes or has an event more.
use Rattle.std.proofs.Common.{◌≡◌, ℕ, ◌==◌, Bool, true, false, cond, not, ◌&&◌, ◌||◌, List, [], ◌∷◌, ◌++◌, Some, None, Option, refl, sym, ap, ◌∙◌, subst, eqb-true, arith}
use Rattle.std.specs.Option.{is_some, option_map}
use Rattle.std.proofs.lemmas.Option.{same_Some}
use Rattle.std.specs.List.{find, filter, list_any}
use Rattle.std.proofs.lemmas.Bool.Decides.{nat_tests}
use Rattle.std.proofs.lemmas.Bool.{cond-true, cond-false}
use Rattle.lists.specs.Entries.{has, without, AreApart, AreApartBy}
use Rattle.lists.proofs.Keyed.{filter_none, find_without}
use Rattle.ordered.proofs.Apart.{number_tells, found, found_by, apart_left, apart_put, find_gone, find_put}
use Rattle.ordered.proofs.Placed.{left_by}
use Rattle.kinds.specs.Stores.{due_number, due_at, insert_due}
use Rattle.kinds.specs.Windows.{number_of, version_of, value_of, events_of, due_of, kind_of, has_number, is_of, without_number, others, insert_window, opened, joined, after_event, is_full, standing, has_room, offered, fired}
use Rattle.kinds.specs.declared.store.Due.{Due}
use Rattle.kinds.specs.declared.store.Fired.{Fired}
use Rattle.kinds.specs.declared.window.Offered.{Offered}
use Rattle.kinds.specs.declared.window.Offered.TheVariants as offer
use Rattle.kinds.specs.declared.window.Window.{Window}
use Rattle.kinds.specs.declared.window.Window.TheVariants as window
use Rattle.kinds.specs.declared.window.WindowRule.{WindowRule}
use Rattle.kinds.specs.declared.window.WindowRule.TheVariants as rule
use Rattle.debounce_batch.specs.Held.{key_of, key_eq}
use Rattle.debounce_batch.specs.Events.{window_after, after_offer}
use Rattle.debounce_batch.proofs.Open.{key_tells}
use Rattle.timers.specs.Dues.{dues_of}
use Rattle.timers.proofs.DueLemmas.{dues_without, dues_inserted}
use Rattle.awaited.specs.Named.{is_in, names_event, names_version, window_due, no_run, replaced_in, is_one, has_pair, named_in, placed_as, waits_as, AreNamed, Renames, IsNamed, AreKept}
use Rattle.awaited.specs.declared.placed.Placed.TheVariants as placed

-- ---- the window of an event

key_opened : (r : WindowRule) (version : ℕ) (value : List ℕ) (event t number : ℕ) → key_of (opened r version value event t number) ≡ (version, value)
key_opened (rule.Debounce d) version value event t number = refl
key_opened (rule.Batch b) version value event t number = refl

number_opened : (r : WindowRule) (version : ℕ) (value : List ℕ) (event t number : ℕ) → number_of (opened r version value event t number) ≡ number
number_opened (rule.Debounce d) version value event t number = refl
number_opened (rule.Batch b) version value event t number = refl

events_opened : (r : WindowRule) (version : ℕ) (value : List ℕ) (event t number : ℕ) → events_of (opened r version value event t number) ≡ event ∷ []
events_opened (rule.Debounce d) version value event t number = refl
events_opened (rule.Batch b) version value event t number = refl

key_joined : (r : WindowRule) (event t : ℕ) (w : Window) → key_of (joined r event t w) ≡ key_of w
key_joined (rule.Debounce d) event t (window.Debounce number version value last first due) = refl
key_joined (rule.Debounce d) event t (window.Batch number version value events due) = refl
key_joined (rule.Batch b) event t (window.Debounce number version value last first due) = refl
key_joined (rule.Batch b) event t (window.Batch number version value events due) = refl

number_joined : (r : WindowRule) (event t : ℕ) (w : Window) → number_of (joined r event t w) ≡ number_of w
number_joined (rule.Debounce d) event t (window.Debounce number version value last first due) = refl
number_joined (rule.Debounce d) event t (window.Batch number version value events due) = refl
number_joined (rule.Batch b) event t (window.Debounce number version value last first due) = refl
number_joined (rule.Batch b) event t (window.Batch number version value events due) = refl

in_last : (name event : ℕ) (events : List ℕ) → is_in name (events ++ event ∷ []) ≡ ((name == event) || (true && is_in name events))
in_last name event [] = refl
in_last name event (e ∷ es) = ap (λ b. (name == e) || b) (in_last name event es) ∙ turn (name == e) (name == event) (is_in name es)
  where
    turn : (a b c : Bool) → (a || (b || (true && c))) ≡ (b || (true && (a || c)))
    turn true true c = refl
    turn true false c = refl
    turn false b c = refl

lone : (a b : Bool) → (a || false) ≡ (a || (not b && (b || false)))
lone true b = refl
lone false true = refl
lone false false = refl

eq_flip : (a b : ℕ) → (a == b) ≡ (b == a)
eq_flip a b = number_tells.flip a b

-- the events of a window that was joined
events_joined : (r : WindowRule) (event t : ℕ) (w : Window) → has_room r (Some w) ≡ true → (name : ℕ)
    → ((name == event) || (not (is_one (replaced_in (Some w)) name) && names_event name w)) ≡ names_event name (joined r event t w)
events_joined (rule.Debounce d) event t (window.Debounce number version value last first due) room name = by_tests (name == event) (last == name) (name == last) (eq_flip last name)
  where
    by_tests : (a b c : Bool) → b ≡ c → (a || (not b && (c || false))) ≡ (a || false)
    by_tests true b c h = refl
    by_tests false true c h = refl
    by_tests false false true h = cc
    by_tests false false false h = refl
events_joined (rule.Debounce d) event t (window.Batch number version value events due) room name = cc
events_joined (rule.Batch b) event t (window.Debounce number version value last first due) room name = cc
events_joined (rule.Batch b) event t (window.Batch number version value events due) room name = sym (in_last name event events)

-- a batch replaces nothing
full_replaces_none : (r : WindowRule) (version : ℕ) (value : List ℕ) (event t number : ℕ) (o : Option Window) → is_full r (after_event r version value event t number o) ≡ true → has_room r o ≡ true → replaced_in o ≡ None
full_replaces_none (rule.Debounce d) version value event t number o f room = cc
full_replaces_none (rule.Batch b) version value event t number None f room = refl
full_replaces_none (rule.Batch b) version value event t number (Some (window.Debounce n v l last first due)) f room = cc
full_replaces_none (rule.Batch b) version value event t number (Some (window.Batch n v l events due)) f room = refl

-- ---- the windows after an event, by the window's number

module _ (ws : List Window) (keys : AreApartBy key_eq key_of ws) (numbers : AreApart number_of ws) (r : WindowRule) (version : ℕ) (value : List ℕ) (event t number : ℕ) (fresh : find (has_number number) ws ≡ None) where
  abbrev pub after : Window
  after = window_after r version value event t number ws

  abbrev with_before : Option Window → Window
  with_before o = after_event r version value event t number o

  key_before : (o : Option Window) → find (is_of version value) ws ≡ o → key_of (with_before o) ≡ (version, value)
  key_before None f = key_opened r version value event t number
  key_before (Some v) f = key_joined r event t v ∙ sym (key_tells.same (version, value) (key_of v) (found (is_of version value) ws v f))

  pub key_after : key_of after ≡ (version, value)
  key_after = key_before (find (is_of version value) ws) refl

  left_before : (o : Option Window) → find (is_of version value) ws ≡ o → others version value ws ≡ without_number (number_of (with_before o)) ws
  left_before None f = filter_none (is_of version value) ws f ∙ sym (ap (λ n. without_number n ws) (number_opened r version value event t number) ∙ filter_none (has_number number) ws fresh)
  left_before (Some v) f =
      ap (λ k. others k.0 k.1 ws) (key_tells.same (version, value) (key_of v) (found (is_of version value) ws v f))
      ∙ sym (ap (λ n. without_number n ws) (number_joined r event t v) ∙ left_by key_tells key_of number_of (is_of version value) ws v numbers keys f)

  pub left_after : others (version_of after) (value_of after) ws ≡ without_number (number_of after) ws
  left_after = ap (λ k. others k.0 k.1 ws) key_after ∙ left_before (find (is_of version value) ws) refl

  -- no other window has its key
  pub alone_after : find (is_of (version_of after) (value_of after)) (without_number (number_of after) ws) ≡ None
  alone_after = ap (find (is_of (version_of after) (value_of after))) (sym left_after) ∙ find_without (is_of (version_of after) (value_of after)) ws

  pub full_after : is_full r after ≡ true → after_offer r version value event t number ws ≡ without_number (number_of after) ws
  full_after f = cond-true (is_full r after) (others (version_of after) (value_of after) ws) (insert_window after (others (version_of after) (value_of after) ws)) f ∙ left_after

  pub open_after : is_full r after ≡ false → after_offer r version value event t number ws ≡ insert_window after (without_number (number_of after) ws)
  open_after f = cond-false (is_full r after) (others (version_of after) (value_of after) ws) (insert_window after (others (version_of after) (value_of after) ws)) f ∙ ap (insert_window after) left_after

  -- the events that it names
  names_before : (o : Option Window) → find (is_of version value) ws ≡ o → has_room r o ≡ true → (name : ℕ)
      → ((name == event) || (not (is_one (replaced_in o) name) && named_in names_event name (find (has_number (number_of (with_before o))) ws))) ≡ names_event name (with_before o)
  names_before None f room name =
      ap (λ n. (name == event) || (true && named_in names_event name (find (has_number n) ws))) (number_opened r version value event t number)
      ∙ ap (λ o. (name == event) || (true && named_in names_event name o)) fresh
      ∙ sym (ap (is_in name) (events_opened r version value event t number))
  names_before (Some v) f room name =
      ap (λ n. (name == event) || (not (is_one (replaced_in (Some v)) name) && named_in names_event name (find (has_number n) ws))) (number_joined r event t v)
      ∙ ap (λ o. (name == event) || (not (is_one (replaced_in (Some v)) name) && named_in names_event name o)) (found_by number_tells number_of (is_of version value) ws v numbers f)
      ∙ events_joined r event t v room name

  pub names_after : has_room r (find (is_of version value) ws) ≡ true → (name : ℕ)
      → ((name == event) || (not (is_one (replaced_in (find (is_of version value) ws)) name) && named_in names_event name (find (has_number (number_of after)) ws))) ≡ names_event name after
  names_after room name = names_before (find (is_of version value) ws) refl room name

  -- the version that it names
  version_before : (o : Option Window) → find (is_of version value) ws ≡ o → (name : ℕ)
      → ((name == version) || (named_in names_version name (find (has_number (number_of (with_before o))) ws))) ≡ names_version name (with_before o)
  version_before None f name =
      ap (λ n. (name == version) || (named_in names_version name (find (has_number n) ws))) (number_opened r version value event t number)
      ∙ ap (λ o. (name == version) || (named_in names_version name o)) fresh
      ∙ or_false (name == version)
      ∙ ap (λ k. name == k.0) (sym (key_opened r version value event t number))
    where
      or_false : (a : Bool) → (a || false) ≡ a
      or_false true = refl
      or_false false = refl
  version_before (Some v) f name =
      ap (λ n. (name == version) || (named_in names_version name (find (has_number n) ws))) (number_joined r event t v)
      ∙ ap (λ o. (name == version) || (named_in names_version name o)) (found_by number_tells number_of (is_of version value) ws v numbers f)
      ∙ ap (λ n. (name == version) || (true && (name == n))) (sym (ap (λ k. k.0) (key_tells.same (version, value) (key_of v) (found (is_of version value) ws v f))))
      ∙ or_self (name == version)
      ∙ ap (λ k. name == k.0) (sym (key_before (Some v) f))
    where
      or_self : (a : Bool) → (a || (true && a)) ≡ a
      or_self true = refl
      or_self false = refl

  pub version_after : (name : ℕ) → ((name == version) || (named_in names_version name (find (has_number (number_of after)) ws))) ≡ names_version name after
  version_after name = version_before (find (is_of version value) ws) refl name

  -- a full window names all that the one before did
  pub covers_after : is_full r after ≡ true → has_room r (find (is_of version value) ws) ≡ true → (name : ℕ)
      → (not (names_event name after) && named_in names_event name (find (has_number (number_of after)) ws)) ≡ false
  covers_after f room name =
      ap (λ b. not b && named_in names_event name (find (has_number (number_of after)) ws)) (sym (names_after room name))
      ∙ ap (λ q. not ((name == event) || (not (is_one q name) && named_in names_event name (find (has_number (number_of after)) ws))) && named_in names_event name (find (has_number (number_of after)) ws))
      (full_replaces_none r version value event t number (find (is_of version value) ws) f room)
      ∙ by_tests (name == event) (named_in names_event name (find (has_number (number_of after)) ws))
    where
      by_tests : (a x : Bool) → (not (a || (true && x)) && x) ≡ false
      by_tests true x = refl
      by_tests false true = refl
      by_tests false false = refl

  pub version_covers : (name : ℕ) → (not (name == version) && named_in names_version name (find (has_number (number_of after)) ws)) ≡ false
  version_covers name = by_tests (name == version) (named_in names_version name (find (has_number (number_of after)) ws)) (version_after name ∙ ap (λ k. name == k.0) key_after)
    where
      by_tests : (a x : Bool) → (a || x) ≡ a → (not a && x) ≡ false
      by_tests true x h = refl
      by_tests false true h = cc
      by_tests false false h = refl

-- ---- what stands beside them

module _ (names : ℕ → Window → Bool) (ws : List Window) (old new : List (ℕ × ℕ)) (a : AreNamed names ws old) (n : ℕ) where
  pub names_gone : (named : ℕ → Bool) → Renames n named old new → ((name : ℕ) → named name ≡ false) → AreNamed names (without_number n ws) new
  names_gone named u none name m =
      u name m ∙ ap (cond (n == m) (named name)) (a name m) ∙ by_test (n == m) (m == n) (number_tells.flip n m) (find (has_number m) ws)
      ∙ sym (ap (named_in names name) (find_gone number_tells number_of n m ws))
    where
      by_test : (b d : Bool) → b ≡ d → (o : Option Window) → cond b (named name) (named_in names name o) ≡ named_in names name (cond d None o)
      by_test true true h o = none name
      by_test true false h o = cc
      by_test false true h o = cc
      by_test false false h o = refl

  pub names_put : (w : Window) → n ≡ number_of w → (named : ℕ → Bool) → Renames n named old new → ((name : ℕ) → named name ≡ names name w) → AreNamed names (insert_window w (without_number n ws)) new
  names_put w its named u same name m =
      u name m ∙ ap (cond (n == m) (named name)) (a name m) ∙ by_test (n == m) (m == n) (number_tells.flip n m) (find (has_number m) ws)
      ∙ sym (
      ap (named_in names name) (find_put number_tells number_of kind_of number_of w (without_number n ws) m (ap (λ q. find (has_number q) (without_number n ws)) (sym its) ∙ find_without (has_number n) ws))
      ∙ ap (λ q. named_in names name (cond (m == q) (Some w) (find (has_number m) (without_number n ws)))) (sym its)
      ∙ ap (λ o. named_in names name (cond (m == n) (Some w) o)) (find_gone number_tells number_of n m ws))
    where
      by_test : (b d : Bool) → b ≡ d → (o : Option Window) → cond b (named name) (named_in names name o) ≡ named_in names name (cond d (Some w) (cond d None o))
      by_test true true h o = same name
      by_test true false h o = cc
      by_test false true h o = cc
      by_test false false h o = refl

module _ (ws : List Window) (ds : List Due) (events versions : List (ℕ × ℕ)) (k : AreKept ws ds events versions) where
  -- a window went
  pub kept_gone : (n : ℕ) (now : List Window) (left : List Due) (names tells : List (ℕ × ℕ)) (by_event by_version : ℕ → Bool) → now ≡ without_number n ws → left ≡ without due_number n ds
      → Renames n by_event events names → ((name : ℕ) → by_event name ≡ false) → Renames n by_version versions tells → ((name : ℕ) → by_version name ≡ false) → AreKept now left names tells
  kept_gone n now left names tells by_event by_version w d u p v q = subst (λ l. AreKept l left names tells) (sym w) (record {
    keys = apart_left key_tells key_of (λ e. not (has_number n e)) ws k.keys;
    numbers = apart_left number_tells number_of (λ e. not (has_number n e)) ws k.numbers;
    dues = d ∙ ap (without due_number n) k.dues ∙ dues_without window_due number_of no_run n ws;
    by_event = names_gone names_event ws events names k.by_event n by_event u p;
    by_version = names_gone names_version ws versions tells k.by_version n by_version v q;
  })

  -- a window came in the place of the one of its number, if there was one
  pub kept_put : (x : Window) (n due : ℕ) (now : List Window) (left : List Due) (names tells : List (ℕ × ℕ)) (by_event by_version : ℕ → Bool) → n ≡ number_of x → due ≡ due_of x → find (is_of (version_of x) (value_of x)) (without_number n ws) ≡ None
      → now ≡ insert_window x (without_number n ws) → left ≡ insert_due (due_at due n 0) (without due_number n ds)
      → Renames n by_event events names → ((name : ℕ) → by_event name ≡ names_event name x) → Renames n by_version versions tells → ((name : ℕ) → by_version name ≡ names_version name x) → AreKept now left names tells
  kept_put x n due now left names tells by_event by_version its at alone w d u p v q =
      let new : find (has_number (number_of x)) (without_number n ws) ≡ None = ap (λ m. find (has_number m) (without_number n ws)) (sym its) ∙ find_without (has_number n) ws in
      subst (λ l. AreKept l left names tells) (sym w) (record {
        keys = apart_put key_tells key_of kind_of number_of x (without_number n ws) (apart_left key_tells key_of (λ e. not (has_number n e)) ws k.keys) alone;
        numbers = apart_put number_tells number_of kind_of number_of x (without_number n ws) (apart_left number_tells number_of (λ e. not (has_number n e)) ws k.numbers) new;
        dues = d
            ∙ ap (λ l. insert_due (due_at due n 0) (without due_number n l)) k.dues
            ∙ ap (insert_due (due_at due n 0)) (dues_without window_due number_of no_run n ws)
            ∙ ap (λ m. insert_due (due_at m n 0) (dues_of window_due number_of no_run (without_number n ws))) at
            ∙ ap (λ m. insert_due (due_at (due_of x) m 0) (dues_of window_due number_of no_run (without_number n ws))) its
            ∙ sym (dues_inserted window_due number_of no_run kind_of x (without_number n ws) new);
        by_event = names_put names_event ws events names k.by_event n x its by_event u p;
        by_version = names_put names_version ws versions tells k.by_version n x its by_version v q;
      })

pub kept_empty : (ws : List Window) (ds : List Due) (events versions : List (ℕ × ℕ)) → ws ≡ [] → ds ≡ [] → events ≡ [] → versions ≡ [] → AreKept ws ds events versions
kept_empty ws ds events versions a b c d =
    subst (λ l. AreKept l ds events versions) (sym a) (subst (λ l. AreKept [] l events versions) (sym b)
    (subst (λ l. AreKept [] [] l versions) (sym c) (subst (λ l. AreKept [] [] [] l) (sym d)
    (record { keys = tt; numbers = tt; dues = refl; by_event = λ name m. refl; by_version = λ name m. refl }))))

-- ---- an offer

-- what a sender is told of a full window, and of one that is open
pub told_full : (r : WindowRule) (w : Window) (n : ℕ) (events : List ℕ) → offer.Full n events ≡ offered r w → (is_full r w ≡ true) × (n ≡ number_of w) × (events ≡ events_of w)
told_full r w n events h = by_test (is_full r w) refl h
  where
    by_test : (b : Bool) → is_full r w ≡ b → offer.Full n events ≡ cond b (offer.Full (number_of w) (events_of w)) (offer.Waits (number_of w) (due_of w)) → (is_full r w ≡ true) × (n ≡ number_of w) × (events ≡ events_of w)
    by_test true f h = (f, ap numbered h, ap listed h)
      where
        numbered : Offered → ℕ
        numbered (offer.Full m es) = m
        numbered (offer.Waits m due) = m

        listed : Offered → List ℕ
        listed (offer.Full m es) = es
        listed (offer.Waits m due) = []
    by_test false f h = cc

pub told_waits : (r : WindowRule) (w : Window) (n due : ℕ) → offer.Waits n due ≡ offered r w → (is_full r w ≡ false) × (n ≡ number_of w) × (due ≡ due_of w)
told_waits r w n due h = by_test (is_full r w) refl h
  where
    by_test : (b : Bool) → is_full r w ≡ b → offer.Waits n due ≡ cond b (offer.Full (number_of w) (events_of w)) (offer.Waits (number_of w) (due_of w)) → (is_full r w ≡ false) × (n ≡ number_of w) × (due ≡ due_of w)
    by_test false f h = (f, ap numbered h, ap dated h)
      where
        numbered : Offered → ℕ
        numbered (offer.Full m es) = m
        numbered (offer.Waits m d) = m

        dated : Offered → ℕ
        dated (offer.Full m es) = 0
        dated (offer.Waits m d) = d
    by_test true f h = cc

module _ (ws : List Window) (ds : List Due) (events versions : List (ℕ × ℕ)) (k : AreKept ws ds events versions) (r : WindowRule) (version : ℕ) (value : List ℕ) (event t number : ℕ) (fresh : find (has_number number) ws ≡ None)
    (room : has_room r (find (is_of version value) ws) ≡ true) (now : List Window) (left : List Due) (names tells : List (ℕ × ℕ)) (offered_to : now ≡ after_offer r version value event t number ws) where
  abbrev last : Window
  last = window_after r version value event t number ws

  pub kept_full : (n : ℕ) (its : List ℕ) → offer.Full n its ≡ offered r last → left ≡ without due_number n ds
      → Renames n (λ name. not (is_in name its) && has_pair events name n) events names → Renames n (λ name. not (name == version) && has_pair versions name n) versions tells → AreKept now left names tells
  kept_full n its told d u v =
      let parts = told_full r last n its told in
      kept_gone ws ds events versions k n now left names tells (λ name. not (is_in name its) && has_pair events name n) (λ name. not (name == version) && has_pair versions name n)
      (offered_to ∙ full_after ws k.keys k.numbers r version value event t number fresh parts.0 ∙ ap (λ m. without_number m ws) (sym parts.1)) d
      u
      (λ name.
      ap (λ b. not (is_in name its) && b) (k.by_event name n)
      ∙ ap (λ l. not (is_in name l) && named_in names_event name (find (has_number n) ws)) parts.2
      ∙ ap (λ m. not (names_event name last) && named_in names_event name (find (has_number m) ws)) parts.1
      ∙ covers_after ws k.keys k.numbers r version value event t number fresh parts.0 room name)
      v
      (λ name.
      ap (λ b. not (name == version) && b) (k.by_version name n)
      ∙ ap (λ m. not (name == version) && named_in names_version name (find (has_number m) ws)) parts.1
      ∙ version_covers ws k.keys k.numbers r version value event t number fresh name)

  pub kept_open : (n due : ℕ) (o : Option ℕ) → offer.Waits n due ≡ offered r last → o ≡ replaced_in (find (is_of version value) ws) → left ≡ insert_due (due_at due n 0) (without due_number n ds)
      → Renames n (λ other. (other == event) || (not (is_one o other) && has_pair events other n)) events names → Renames n (λ other. (other == version) || has_pair versions other n) versions tells → AreKept now left names tells
  kept_open n due o told its d u v =
      let parts = told_waits r last n due told in
      kept_put ws ds events versions k last n due now left names tells (λ other. (other == event) || (not (is_one o other) && has_pair events other n)) (λ other. (other == version) || has_pair versions other n)
      parts.1 parts.2
      (ap (λ m. find (is_of (version_of last) (value_of last)) (without_number m ws)) parts.1 ∙ alone_after ws k.keys k.numbers r version value event t number fresh)
      (offered_to ∙ open_after ws k.keys k.numbers r version value event t number fresh parts.0 ∙ ap (λ m. insert_window last (without_number m ws)) (sym parts.1))
      d
      u
      (λ name.
      ap (λ b. (name == event) || (not (is_one o name) && b)) (k.by_event name n)
      ∙ ap (λ q. (name == event) || (not (is_one q name) && named_in names_event name (find (has_number n) ws))) its
      ∙ ap (λ m. (name == event) || (not (is_one (replaced_in (find (is_of version value) ws)) name) && named_in names_event name (find (has_number m) ws))) parts.1
      ∙ names_after ws k.keys k.numbers r version value event t number fresh room name)
      v
      (λ name.
      ap (λ b. (name == version) || b) (k.by_version name n)
      ∙ ap (λ m. (name == version) || named_in names_version name (find (has_number m) ws)) parts.1
      ∙ version_after ws k.keys k.numbers r version value event t number fresh name)

  pub placed_full : (n : ℕ) (its : List ℕ) (was_open : Bool) → offer.Full n its ≡ offered r last → was_open ≡ is_some (find (is_of version value) ws) → placed.Full its was_open ≡ placed_as r (find (is_of version value) ws) last
  placed_full n its was_open told open_before =
      let parts = told_full r last n its told in
      ap (λ l. placed.Full l was_open) parts.2 ∙ ap (placed.Full (events_of last)) open_before
      ∙ sym (cond-true (is_full r last) (placed.Full (events_of last) (is_some (find (is_of version value) ws))) (waits_as (is_some (find (is_of version value) ws))) parts.0)

  pub placed_waits : (n due : ℕ) (was_open : Bool) → offer.Waits n due ≡ offered r last → was_open ≡ is_some (find (is_of version value) ws) → waits_as was_open ≡ placed_as r (find (is_of version value) ws) last
  placed_waits n due was_open told open_before =
      let parts = told_waits r last n due told in
      ap waits_as open_before
      ∙ sym (cond-false (is_full r last) (placed.Full (events_of last) (is_some (find (is_of version value) ws))) (waits_as (is_some (find (is_of version value) ws))) parts.0)

-- ---- a window is over

module _ (ws : List Window) (ds : List Due) (events versions : List (ℕ × ℕ)) (k : AreKept ws ds events versions) (n : ℕ) where
  pub kept_fired : (f : Fired) → Some f ≡ option_map fired (find (has_number n) ws) → (now : List Window) (left : List Due) (names tells : List (ℕ × ℕ)) → now ≡ without_number n ws → left ≡ without due_number n ds
      → Renames n (λ name. not (is_in name f.events) && has_pair events name n) events names → Renames n (λ name. not (name == f.version) && has_pair versions name n) versions tells → AreKept now left names tells
  kept_fired f h now left names tells w d u v =
      kept_gone ws ds events versions k n now left names tells (λ name. not (is_in name f.events) && has_pair events name n) (λ name. not (name == f.version) && has_pair versions name n) w d
      u (λ name. ap (λ b. not (is_in name f.events) && b) (k.by_event name n) ∙ by_event name (find (has_number n) ws) h)
      v (λ name. ap (λ b. not (name == f.version) && b) (k.by_version name n) ∙ by_version name (find (has_number n) ws) h)
    where
      off : (b c : Bool) → b ≡ c → (not b && c) ≡ false
      off true true h = refl
      off true false h = refl
      off false true h = cc
      off false false h = refl

      by_event : (name : ℕ) (o : Option Window) → Some f ≡ option_map fired o → (not (is_in name f.events) && named_in names_event name o) ≡ false
      by_event name None h = cc
      by_event name (Some w) h = off (is_in name f.events) (names_event name w) (ap (λ (g : Fired). is_in name g.events) (same_Some f (fired w) h))

      by_version : (name : ℕ) (o : Option Window) → Some f ≡ option_map fired o → (not (name == f.version) && named_in names_version name o) ≡ false
      by_version name None h = cc
      by_version name (Some w) h = off (name == f.version) (names_version name w) (ap (λ (g : Fired). name == g.version) (same_Some f (fired w) h))

  pub kept_unfired : None ≡ option_map fired (find (has_number n) ws) → (now : List Window) → now ≡ without_number n ws → AreKept now ds events versions
  kept_unfired h now w = subst (λ l. AreKept l ds events versions) (sym (w ∙ filter_none (has_number n) ws (by_found (find (has_number n) ws) h))) k
    where
      by_found : (o : Option Window) → None ≡ option_map fired o → o ≡ None
      by_found None h = refl
      by_found (Some v) h = cc

-- ---- whether a name is named

any_found : (t : Window → Bool) (ws : List Window) → list_any t ws ≡ is_some (find t ws)
any_found t [] = refl
any_found t (w ∷ ws) = ap (λ b. t w || b) (any_found t ws) ∙ by_test (t w)
  where
    by_test : (b : Bool) → (b || is_some (find t ws)) ≡ is_some (cond b (Some w) (find t ws))
    by_test true = refl
    by_test false = refl

-- one that is found passes
any_at : (p q : Window → Bool) (ws : List Window) (w : Window) → find p ws ≡ Some w → q w ≡ true → list_any q ws ≡ true
any_at p q [] w f t = cc
any_at p q (e ∷ es) w f t = by_test (p e) f (any_at p q es w)
  where
    or_right : (b c : Bool) → c ≡ true → (b || c) ≡ true
    or_right true c h = refl
    or_right false c h = h

    by_test : (b : Bool) → cond b (Some e) (find p es) ≡ Some w → (find p es ≡ Some w → q w ≡ true → list_any q es ≡ true) → (q e || list_any q es) ≡ true
    by_test true g more = ap (λ b. b || list_any q es) (ap q (same_Some e w g) ∙ t)
    by_test false g more = or_right (q e) (list_any q es) (more g t)

module _ (names : ℕ → Window → Bool) (ws : List Window) (pairs : List (ℕ × ℕ)) (numbers : AreApart number_of ws) (a : AreNamed names ws pairs) (name : ℕ) where
  -- no pair of the name, so no window names it
  pub none_names : ((n : ℕ) → has_pair pairs name n ≡ true → true ≡ false) → list_any (names name) ws ≡ false
  none_names h = any_found (names name) ws ∙ by_found (find (names name) ws) refl
    where
      by_found : (o : Option Window) → find (names name) ws ≡ o → is_some o ≡ false
      by_found None f = refl
      by_found (Some w) f =
          let no = h (number_of w) (a name (number_of w) ∙ ap (named_in names name) (found_by number_tells number_of (names name) ws w numbers f) ∙ found (names name) ws w f) in cc

  -- a pair of the name, so the window of its number names it
  pub one_names : (n : ℕ) → has_pair pairs name n ≡ true → list_any (names name) ws ≡ true
  one_names n h = by_found (find (has_number n) ws) refl (sym (a name n) ∙ h)
    where
      by_found : (o : Option Window) → find (has_number n) ws ≡ o → named_in names name o ≡ true → list_any (names name) ws ≡ true
      by_found None g t = cc
      by_found (Some w) g t = any_at (has_number n) (names name) ws w g t

-- what the pairs tell of a name, the windows tell
pub any_named : (names : ℕ → Window → Bool) (ws now : List Window) (pairs : List (ℕ × ℕ)) → AreApart number_of ws → AreNamed names ws pairs → (name : ℕ) (b : Bool) → IsNamed pairs name b → ws ≡ now → b ≡ list_any (names name) now
any_named names ws now pairs numbers a name true h same = sym (one_names names ws pairs numbers a name h.0 h.1) ∙ ap (list_any (names name)) same
any_named names ws now pairs numbers a name false h same = sym (none_names names ws pairs numbers a name (λ n t. sym t ∙ h n)) ∙ ap (list_any (names name)) same
