-- The functions after a registration: their versions rise, and no two have one id where it names none twice.
use Rattle.std.proofs.Common.{◌≡◌, ◌≢◌, ℕ, ◌+◌, ◌<◌, ◌≤◌, Bool, true, false, not, ◌&&◌, ◌||◌, cond, List, [], ◌∷◌, ◌++◌, map, filter, length, Option, Some, None, refl, sym, ap, ◌∙◌, subst, bytes_eq, arith}
use Rattle.std.specs.List.{AllByRecursion, list_any}
use Rattle.kinds.specs.Inputs.{reading}
use Rattle.kinds.specs.declared.event.EventIn.{EventIn}
use Rattle.kinds.specs.declared.function.App.{App}
use Rattle.kinds.specs.declared.function.Function.{Function}
use Rattle.kinds.specs.declared.input.Input.{Input}
use Rattle.kinds.specs.declared.input.Input.TheVariants.{Register}
use Rattle.kinds.specs.declared.limits.Limits.{Limits}
use Rattle.functions.specs.Functions.{is_again, is_known, is_named, new_beside, new_in, numbered, registered, same, stays, version_of}
use Rattle.functions.specs.declared.entry.FunctionEntry.{FunctionEntry}
use Rattle.lists.proofs.Elements.{all-both, all-filter, all-weaker, filter-passes}
use Rattle.lists.proofs.Texts.{bytes_same, bytes_self}
use Rattle.run_model.specs.Events.{add_event, event_with}
use Rattle.run_model.specs.Laws.{HaveOwnIds, IsFormed}
use Rattle.run_model.specs.Machine.{fold, state_after, step}
use Rattle.run_model.specs.Requests.{remember}
use Rattle.run_model.specs.Sound.{AreApart, ArePairwise, RiseTo}
use Rattle.run_model.specs.State.{State, empty, moment_at, tidied}
use Rattle.run_model.proofs.FitWindows.{not-true, pairs-filter}
use Rattle.run_model.proofs.Kept.{Keeps, freely}
use Rattle.run_model.proofs.KeptReplies.{dropping}
use Rattle.run_model.proofs.KeptSteps.{KeepsSteps, kept-step}
use Rattle.run_model.proofs.Rising.{rise-filter}
use Rattle.run_model.proofs.SettlingLists.{all-append, or-left, or-right}

-- ## Two lists, one behind the other

pub pairs-append : {X : Type 0} (R : X → X → Type 0) (xs ys : List X) → ArePairwise R xs → ArePairwise R ys
    → AllByRecursion (λ x. AllByRecursion (R x) ys) xs → ArePairwise R (xs ++ ys)
pairs-append R [] ys h k across = k
pairs-append R (x ∷ xs) ys h k across =
    (all-append (R x) xs ys h.0 across.0, pairs-append R xs ys h.1 k across.1)

map-append : {X Y : Type 0} (f : X → Y) (xs ys : List X) → map f (xs ++ ys) ≡ map f xs ++ map f ys
map-append f [] ys = refl
map-append f (x ∷ xs) ys = ap (λ zs. f x ∷ zs) (map-append f xs ys)

-- ## Versions

numbered-above : (name : List ℕ) (versions : ℕ) (fs : List Function)
    → AllByRecursion (λ n. versions < n) (map version_of (numbered name versions fs))
numbered-above name versions [] = tt
numbered-above name versions (f ∷ fs) = (
  omega arith,
  all-weaker (λ n. versions + 1 < n) (λ n. versions < n) (map version_of (numbered name (versions + 1) fs))
      (λ n (h : versions + 1 < n). omega (arith, h)) (numbered-above name (versions + 1) fs),
)

numbered-rise : (name : List ℕ) (versions : ℕ) (fs : List Function)
    → RiseTo (versions + length fs) (map version_of (numbered name versions fs))
numbered-rise name versions [] = (tt, tt)
numbered-rise name versions (f ∷ fs) =
    let behind : RiseTo (versions + 1 + length fs) (map version_of (numbered name (versions + 1) fs)) =
    numbered-rise name (versions + 1) fs in (
      (numbered-above name (versions + 1) fs, behind.0),
      (
        omega arith,
        all-weaker (λ n. n ≤ versions + 1 + length fs) (λ n. n ≤ versions + length (f ∷ fs))
            (map version_of (numbered name (versions + 1) fs))
            (λ n (low : n ≤ versions + 1 + length fs). omega (arith, low)) behind.1,
      ),
    )

registered-rise : (app : App) (versions : ℕ) (es : List FunctionEntry) → RiseTo versions (map version_of es)
    → RiseTo (versions + length (new_in app es)) (map version_of (registered app versions es))
unfolding registered
registered-rise app versions es h =
    let kept : List ℕ = map version_of (filter (stays app) es) in
    let new : List ℕ = map version_of (numbered app.name versions (new_in app es)) in
    let old : RiseTo versions kept = rise-filter version_of versions (stays app) es h in
    let added : RiseTo (versions + length (new_in app es)) new = numbered-rise app.name versions (new_in app es) in
    subst (λ ns. RiseTo (versions + length (new_in app es)) ns)
    (sym (map-append version_of (filter (stays app) es) (numbered app.name versions (new_in app es)))) (
      pairs-append (λ n later. n < later) kept new old.0 added.0
          (all-weaker (λ n. n ≤ versions) (λ n. AllByRecursion (λ later. n < later) new) kept
          (λ n low. all-weaker (λ m. versions < m) (λ m. n < m) new
          (λ m (over : versions < m). omega (arith, low, over))
          (numbered-above app.name versions (new_in app es))) old.1),
      all-append (λ n. n ≤ versions + length (new_in app es)) kept new
          (all-weaker (λ n. n ≤ versions) (λ n. n ≤ versions + length (new_in app es)) kept
          (λ n (low : n ≤ versions). omega (arith, low)) old.1) added.1,
    )

-- ## Ids

abbrev pub id_of : FunctionEntry → List ℕ
id_of e = e.function.id

and-left : (a b : Bool) → (a && b) ≡ true → a ≡ true
and-left true b e = refl
and-left false b e = e

and-both : (a b : Bool) → a ≡ true → b ≡ true → (a && b) ≡ true
and-both true b e k = k
and-both false b e k = e

or-none : (a b : Bool) → (a || b) ≡ false → (a ≡ false) × (b ≡ false)
or-none true b e = absurd (cc)
or-none false b e = (refl, e)

same-id : (f g : Function) → same f g ≡ true → f.id ≡ g.id
unfolding same
same-id f g e = bytes_same f.id g.id (and-left _ _ e)

other-id : (a b : List ℕ) → bytes_eq a b ≡ false → a ≢ b
other-id a b differ e =
    let own : bytes_eq a b ≡ true = subst (λ i. bytes_eq a i ≡ true) e (bytes_self a) in cc

none-of : {X : Type 0} (p : X → Bool) (xs : List X) → list_any p xs ≡ false
    → AllByRecursion (λ x. p x ≡ false) xs
none-of p [] e = tt
none-of p (x ∷ xs) e =
    let both : (p x ≡ false) × (list_any p xs ≡ false) = or-none (p x) (list_any p xs) e in
    (both.0, none-of p xs both.1)

-- where g or one behind it is x, an id beside theirs isn't x's
one-other : (f x g : Function) (b c : Bool) → same g x ≡ b → (b || c) ≡ true → f.id ≢ g.id
    → (c ≡ true → f.id ≢ x.id) → f.id ≢ x.id
one-other f x g true c is e apart behind id = apart (id ∙ sym (same-id g x is))
one-other f x g false c is e apart behind id = behind e id

any-other : (f x : Function) (fs : List Function) → list_any (λ g. same g x) fs ≡ true
    → AllByRecursion (λ (g : Function). f.id ≢ g.id) fs → f.id ≢ x.id
any-other f x [] found apart = absurd (cc)
any-other f x (g ∷ fs) found apart =
    one-other f x g (same g x) (list_any (λ h. same h x) fs) refl found apart.0
    (λ more. any-other f x fs more apart.1)

-- where one of the list is x, each of its id is x
abbrev IsThe : Function → Function → Type 0
IsThe x f = f.id ≡ x.id → same f x ≡ true

again-one : (x g : Function) (fs : List Function) (b c : Bool) → same g x ≡ b → (b || c) ≡ true
    → AllByRecursion (λ (h : Function). g.id ≢ h.id) fs → (c ≡ true → AllByRecursion (IsThe x) fs)
    → (c ≡ true → g.id ≢ x.id) → AllByRecursion (IsThe x) (g ∷ fs)
again-one x g fs true c is e own behind other = (
  (λ id. is),
  all-weaker (λ (h : Function). g.id ≢ h.id) (IsThe x) fs
      (λ h apart id. absurd (apart (same-id g x is ∙ sym id))) own,
)
again-one x g fs false c is e own behind other = ((λ id. absurd (other e id)), behind e)

again-all : (x : Function) (fs : List Function) → HaveOwnIds fs → list_any (λ g. same g x) fs ≡ true
    → AllByRecursion (IsThe x) fs
again-all x [] own found = tt
again-all x (g ∷ fs) own found =
    again-one x g fs (same g x) (list_any (λ h. same h x) fs) refl found own.0
    (λ more. again-all x fs own.1 more) (λ more. any-other g x fs more own.0)

-- ## One that stays, and those that are new

-- no function of the list has the entry's id
abbrev IsApart : FunctionEntry → Function → Type 0
IsApart e f = e.function.id ≢ f.id

-- of the application's own: it is one of the registration's, so the one of its id is known
new-apart : (name : List ℕ) (kept : List FunctionEntry) (e : FunctionEntry) (fs : List Function)
    → bytes_eq e.app name ≡ true → AllByRecursion (IsThe e.function) fs
    → ((f : Function) → same f e.function ≡ true → is_known name kept f ≡ true)
    → AllByRecursion (IsApart e) (new_beside kept name fs)
new-apart name kept e fs own the known =
    all-both (IsThe e.function) (λ f. not (is_known name kept f) ≡ true) (IsApart e) (new_beside kept name fs)
    (λ f is new id.
    let old : is_known name kept f ≡ true = known f (is (sym id)) in
    let no : is_known name kept f ≡ false = not-true (is_known name kept f) new in cc)
    (all-filter (IsThe e.function) (λ f. not (is_known name kept f)) fs the)
    (filter-passes (λ f. not (is_known name kept f)) fs)

-- of another's: the registration doesn't name its id
others-apart : (e : FunctionEntry) (fs : List Function) → not (is_named fs e) ≡ true
    → AllByRecursion (IsApart e) fs
others-apart e fs h =
    all-weaker (λ (f : Function). bytes_eq f.id e.function.id ≡ false) (IsApart e) fs
    (λ f differ id. other-id f.id e.function.id differ (sym id))
    (none-of (λ (f : Function). bytes_eq f.id e.function.id) fs (not-true (is_named fs e) h))

-- an entry of the application makes its function known
abbrev Makes : List ℕ → List FunctionEntry → FunctionEntry → Type 0
Makes name es e = bytes_eq e.app name ≡ true → (f : Function) → same f e.function ≡ true
    → is_known name es f ≡ true

known-in : (name : List ℕ) (es : List FunctionEntry) → AllByRecursion (Makes name es) es
known-in name [] = tt
known-in name (e ∷ es) = (
  (λ own f is. or-left _ (is_known name es f) (and-both _ _ own is)),
  all-weaker (Makes name es) (Makes name (e ∷ es)) es
      (λ d makes own f is. or-right _ (is_known name es f) (makes own f is)) (known-in name es),
)

own-or-other : (app : App) (kept : List FunctionEntry) (e : FunctionEntry) (own : Bool)
    → bytes_eq e.app app.name ≡ own
    → cond own (is_again app.functions e) (not (is_named app.functions e)) ≡ true → HaveOwnIds app.functions
    → Makes app.name kept e → AllByRecursion (IsApart e) (new_beside kept app.name app.functions)
own-or-other app kept e true is stand ids makes =
    new-apart app.name kept e app.functions is (again-all e.function app.functions ids stand) (makes is)
own-or-other app kept e false is stand ids makes =
    all-filter (IsApart e) (λ f. not (is_known app.name kept f)) app.functions
    (others-apart e app.functions stand)

numbered-all : (P : List ℕ → Type 0) (name : List ℕ) (versions : ℕ) (fs : List Function)
    → AllByRecursion (λ (f : Function). P f.id) fs
    → AllByRecursion (λ (e : FunctionEntry). P e.function.id) (numbered name versions fs)
numbered-all P name versions [] h = tt
numbered-all P name versions (f ∷ fs) h = (h.0, numbered-all P name (versions + 1) fs h.1)

numbered-own : (name : List ℕ) (versions : ℕ) (fs : List Function) → HaveOwnIds fs
    → AreApart id_of (numbered name versions fs)
numbered-own name versions [] h = tt
numbered-own name versions (f ∷ fs) h =
    (numbered-all (λ id. f.id ≢ id) name (versions + 1) fs h.0, numbered-own name (versions + 1) fs h.1)

registered-own : (app : App) (versions : ℕ) (es : List FunctionEntry) → HaveOwnIds app.functions
    → AreApart id_of es → AreApart id_of (registered app versions es)
unfolding registered
registered-own app versions es ids own =
    let R : FunctionEntry → FunctionEntry → Type 0 = λ e later. e.function.id ≢ later.function.id in
    let kept : List FunctionEntry = filter (stays app) es in
    let new : List Function = new_in app es in
    let across : AllByRecursion (λ (e : FunctionEntry). AllByRecursion (R e) (numbered app.name versions new)) kept =
    all-both (λ e. stays app e ≡ true) (Makes app.name kept)
    (λ (e : FunctionEntry). AllByRecursion (R e) (numbered app.name versions new)) kept
    (λ e stand makes. numbered-all (λ id. e.function.id ≢ id) app.name versions new
    (own-or-other app kept e (bytes_eq e.app app.name) refl stand ids makes))
    (filter-passes (stays app) es) (known-in app.name kept) in
    pairs-append R kept (numbered app.name versions new) (pairs-filter R (stays app) es own)
    (numbered-own app.name versions new
    (pairs-filter (λ (f later : Function). f.id ≢ later.id) (λ f. not (is_known app.name kept f)) app.functions
    ids)) across

-- ## Only registrations change functions

-- a property of the count of versions and of the current functions
module _ (A : Input → Type 0) (K : ℕ → List FunctionEntry → Type 0)
    (registers : (at : ℕ) (app : App) (versions : ℕ) (fs : List FunctionEntry)
    → A (Register at app) → K versions fs
    → K (versions + length (new_in app fs)) (registered app versions fs)) where
  abbrev Holds : State → Type 0
  Holds s = K s.versions s.functions

  functions-accepted : (event : EventIn) (id : Option (List ℕ)) (s : State) → Holds s
      → Holds (add_event (event_with event s) (remember id s))
  functions-accepted event None s h = h
  functions-accepted event (Some id) s h = h

  keeps-functions : Keeps Holds
  keeps-functions = freely Holds (record {
    accepts = λ event id s new h. functions-accepted event id s h;
    starts = λ f event parent s there given h. h;
    fills = λ f r value event s may full h. h;
    fires = λ f w s there stands h. h;
    joins = λ f r value event s may full h. h;
    windows_go = λ number s h. h;
    rules = λ r event c s there e h. h;
    finds_out = λ r s there h. h;
    wants = λ r s live h. h;
    plans = λ r name s live new h. h;
    sleeps = λ r name t s live new h. h;
    waits = λ r name event t cond s live new h. h;
    pends = λ r name s live new h. h;
    invokes = λ r name child t s there h. h;
    ends = λ r status s live h. h;
  }) (record {
    records = λ run name result s h. h;
    sleeps_go = λ test s h. h;
    waits_go = λ test s h. h;
    invocations_go = λ test s h. h;
    rules_go = λ test s h. h;
  })

  functions-tidied : (s : State) → Holds s → Holds (tidied s)
  unfolding tidied
  functions-tidied s h = h

  functions-steps : (bound : ℕ) → KeepsSteps bound A (λ is s. Holds s)
  functions-steps bound = record {
    calls = dropping (λ is s. Holds s) (record {
      runs = λ is. keeps-functions;
      closes = λ i s there h. h;
      reopens = λ s h. h;
      drops = λ i is s h. h;
      retries = λ i is a r s live new h. h;
      requeues = λ i is r s live new h. h;
    });
    counts = λ s h. h;
    moves = λ t next s low e h. h;
    arrives = λ t s low on before h. h;
    issues = λ number i s next there h. h;
    registers = λ at app s asked h. registers at app s.versions s.functions asked h;
    tidies = functions-tidied;
  }

  functions-step : (s : State) (input : Input) → A input → Holds s → Holds (step s input).state
  functions-step s input asked h =
      let bound : ℕ = moment_at (reading input) s in
      kept-step bound A (λ is s. Holds s) (functions-steps bound) s input (omega arith) asked h

  functions-after : (inputs : List Input) (s : State) → AllByRecursion A inputs → Holds s
      → Holds (state_after s inputs)
  functions-after [] s asked h = h
  functions-after (input ∷ inputs) s asked h =
      functions-after inputs (step s input).state asked.1 (functions-step s input asked.0 h)

-- ## Histories

all-any : (inputs : List Input) → AllByRecursion (λ input. Unit {0}) inputs
all-any [] = tt
all-any (input ∷ inputs) = (tt, all-any inputs)

pub versions-fold : (limits : Limits) (inputs : List Input)
    → RiseTo (fold limits inputs).versions (map version_of (fold limits inputs).functions)
versions-fold limits inputs =
    functions-after (λ input. Unit {0}) (λ versions fs. RiseTo versions (map version_of fs))
    (λ at app versions fs asked h. registered-rise app versions fs h) inputs (empty limits) (all-any inputs)
    (tt, tt)

pub own-fold : (limits : Limits) (inputs : List Input) → AllByRecursion IsFormed inputs
    → AreApart id_of (fold limits inputs).functions
own-fold limits inputs formed =
    functions-after IsFormed (λ versions fs. AreApart id_of fs)
    (λ at app versions fs asked h. registered-own app versions fs asked h) inputs (empty limits) formed tt
