-- What is read of a function is within its ranges.
use Rattle.std.proofs.Common.{◌≡◌, ℕ, ◌≤◌, ◌<◌, ◌==◌, ◌&&◌, nat_le, Bool, true, false, List, [], ◌∷◌, ◌++◌, length, Option, Some, None, IfSome, Result, Ok, Err, if◌then◌else◌, refl, ap, ◌∙◌, sym, subst, arith, codes, option_and_then}
use Rattle.std.specs.List.{AllByRecursion}
use Rattle.kinds.specs.declared.function.App.{App}
use Rattle.kinds.specs.declared.function.Batch.{Batch}
use Rattle.kinds.specs.declared.function.Debounce.{Debounce}
use Rattle.kinds.specs.declared.function.Function.{Function}
use Rattle.kinds.specs.declared.function.Throttle.{Throttle}
use Rattle.serde_json.specs.Data.{Data, Items, no_items, item}
use Rattle.serde_json.specs.Find.{as_number, as_str, as_u64}
use Rattle.text_num.specs.Digits.{at_most}
use Rattle.text_num.specs.Duration.{Part, duration_of, longest, millis_after, parts_of}
use Rattle.text_num.specs.declared.fault.NumFault.{NumFault}
use Rattle.registry.specs.Apps.{app_in, app_of, functions_in, read_app, value_of}
use Rattle.registry.specs.Expressions.{condition_in, from_one, needed_period, optional_period, period_in, period_of, text_period, timeout_in}
use Rattle.registry.specs.Faults.{blame}
use Rattle.registry.specs.Flows.{batch_in, batch_of, burst_of, debounce_in, debounce_of, most_limit, optional, throttle_in, throttle_of}
use Rattle.registry.specs.Functions.{address_at, admission_of, batch_at, cancels_at, debounce_at, fits_batch, flow_of, function_of, id_at, limits_at, members_of, name_at, priority_at, readable, retries_at, throttle_at, triggers_at, windows_of}
use Rattle.registry.specs.Members.{◌>>=◌, found_or, is_object, part, read_behind, text_in, whole, whole_in, within}
use Rattle.registry.specs.Ranges.{IsBatchRead, IsDebounceRead, IsFunctionRead, IsThrottleRead, IsWithin}
use Rattle.registry.specs.declared.fault.RegisterFault.{RegisterFault}
use Rattle.registry.specs.declared.fault.RegisterFault.TheVariants.{NoAppName, NoFunctions, NotJson}
use Rattle.registry.specs.declared.flaw.Flaw.{Flaw}
use Rattle.registry.specs.declared.flow.Admission.{Admission}
use Rattle.registry.specs.declared.flow.Flow.{Flow}
use Rattle.registry.specs.declared.flow.Windows.{Windows}
use Rattle.registry.specs.declared.member.Member.{Member}
use Rattle.registry.specs.declared.member.Member.TheVariants as member

-- ## One reading after another

-- where both gave a value, the first did, and the next over it
pub record IsRead {A B E : Type 0} (first : Result A E) (next : A → Result B E) (value : B) : Type 0 where
  pub part : A
  pub found : first ≡ Ok part
  pub rest : next part ≡ Ok value

taken-apart : {A B E : Type 0} (first : Result A E) (next : A → Result B E) (value : B)
    → (first >>= next) ≡ Ok value → IsRead first next value
taken-apart (Ok part) next value h = record { part = part; found = refl; rest = h }
taken-apart (Err fault) next value h = cc

-- a reading has one value
ok-same : {A E : Type 0} (a b : A) (x : Result A E) → x ≡ Ok a → x ≡ Ok b → a ≡ b
ok-same a b (Ok c) e k = let one : c ≡ a = cc in let other : c ≡ b = cc in sym one ∙ other
ok-same a b (Err fault) e k = cc

-- a value that was chosen
kept : {A E : Type 0} (b : Bool) (x a : A) (fault : E) → (if b then Ok x else Err fault) ≡ Ok a
    → (b ≡ true) × (x ≡ a)
kept true x a fault h = (refl, ok-same x a (Ok x) refl h)
kept false x a fault h = cc

kept-else : {A E : Type 0} (b : Bool) (x a : A) (fault : E) → (if b then Err fault else Ok x) ≡ Ok a
    → (b ≡ false) × (x ≡ a)
kept-else true x a fault h = cc
kept-else false x a fault h = (refl, ok-same x a (Ok x) refl h)

-- ## Numbers

chosen : (b : Bool) (n m : ℕ) → (if b then Some n else None) ≡ Some m → (b ≡ true) × (n ≡ m)
chosen true n m h = (refl, some-same h)
  where
    some-same : {a b : ℕ} → Some a ≡ Some b → a ≡ b
    some-same e = cc
chosen false n m h = cc

within-is : (most n m : ℕ) → within 1 most n ≡ Some m → IsWithin most m
within-is most n m h =
    let is = chosen (nat_le 1 n && nat_le n most) n m h in
    let passes = is.0 in
    subst (IsWithin most) is.1 (record { some = grind (arith, passes); few = grind (arith, passes) })

then-is : {A B : Type 0} (o : Option A) (f : A → Option B) (b : B) → option_and_then f o ≡ Some b
    → (a : A) × (o ≡ Some a) × (f a ≡ Some b)
then-is None f b h = cc
then-is (Some a) f b h = (a, refl, h)

whole-is : (most m : ℕ) (d : Data) → whole 1 most d ≡ Some m → IsWithin most m
whole-is most m d h =
    let found = then-is (option_and_then as_u64 (as_number d)) (within 1 most) m h in
    within-is most found.0 m found.2

found-is : {A E : Type 0} (fault : E) (o : Option A) (a : A) → found_or fault o ≡ Ok a → o ≡ Some a
found-is fault None a h = cc
found-is fault (Some b) a h = cc

whole_in-is : (most m : ℕ) (name : List ℕ) (d : Data) → whole_in 1 most name d ≡ Some m → IsWithin most m
whole_in-is most m name d h =
    let found = then-is (part name d) (whole 1 most) m h in
    whole-is most m found.0 found.2

burst-is : (found : Option Data) (m : ℕ) → burst_of found ≡ Ok m → IsWithin most_limit m
burst-is None m h =
    subst (IsWithin most_limit) (ok-same 1 m _ refl h) (record { some = omega arith; few = omega arith })
burst-is (Some d) m h = whole-is most_limit m d (found-is _ _ m h)

-- ## Durations

at_most-is : (bound n m : ℕ) → at_most bound n ≡ Ok m → m ≤ bound
at_most-is bound n m h =
    let is = kept (nat_le n bound) n m _ h in
    let passes = is.0 in
    subst (λ (x : ℕ). x ≤ bound) is.1 (grind (arith, passes))

millis-is : (found : Option (List Part)) (m : ℕ) → millis_after 0 found ≡ Ok m → m ≤ longest
millis-is None m h = cc
millis-is (Some parts) m h = at_most-is longest _ m h

duration-is : (text : List ℕ) (m : ℕ) → duration_of text ≡ Ok m → m ≤ longest
unfolding duration_of
duration-is [] m h = cc
duration-is (c ∷ cs) m h = millis-is (parts_of (length (c ∷ cs)) (c ∷ cs)) m h

from_one-is : (read : Result ℕ NumFault) (m : ℕ) → ((n : ℕ) → read ≡ Ok n → n ≤ longest) → from_one read ≡ Ok m
    → IsWithin longest m
from_one-is (Err fault) m few h = cc
from_one-is (Ok n) m few h =
    let is = kept-else (n == 0) n m _ h in
    let some = is.0 in
    subst (IsWithin longest) is.1 (record { some = grind (arith, some); few = few n refl })

text_period-is : (text : Option (List ℕ)) (m : ℕ) → text_period text ≡ Ok m → IsWithin longest m
text_period-is None m h = cc
text_period-is (Some text) m h = from_one-is (duration_of text) m (duration-is text) h

period-is : (d : Data) (m : ℕ) → period_of d ≡ Ok m → IsWithin longest m
unfolding period_of
period-is d m h = text_period-is (as_str d) m h

needed-is : (found : Option Data) (m : ℕ) → needed_period found ≡ Ok m → IsWithin longest m
needed-is None m h = cc
needed-is (Some d) m h = period-is d m h

optional-is : (found : Option Data) (timeout : Option ℕ) → optional_period found ≡ Ok timeout
    → IfSome timeout (IsWithin longest)
optional-is None timeout h =
    subst (λ (t : Option ℕ). IfSome t (IsWithin longest)) (ok-same None timeout _ refl h) tt
optional-is (Some d) timeout h =
    let read = taken-apart (period_of d) (λ millis. Ok (Some millis)) timeout h in
    subst (λ (t : Option ℕ). IfSome t (IsWithin longest)) (ok-same (Some read.part) timeout _ refl read.rest)
    (period-is d read.part read.found)

-- ## Throttle, debounce, batch

throttle-is : (d : Data) (t : Throttle) → throttle_of d ≡ Ok t → IsThrottleRead t
unfolding throttle_of
throttle-is d t h =
    let limit = taken-apart _ _ t h in
    let burst = taken-apart _ _ t limit.rest in
    let period = taken-apart _ _ t burst.rest in
    let key = taken-apart (condition_in (codes "key") d) _ t period.rest in
    subst IsThrottleRead (ok-same _ t _ refl key.rest) (record {
      limit = whole_in-is most_limit limit.part (codes "limit") d (found-is _ _ limit.part limit.found);
      burst = burst-is (part (codes "burst") d) burst.part burst.found;
      period = needed-is (part (codes "period") d) period.part period.found;
    })

debounce-is : (d : Data) (b : Debounce) → debounce_of d ≡ Ok b → IsDebounceRead b
unfolding debounce_of
debounce-is d b h =
    let period = taken-apart _ _ b h in
    let timeout = taken-apart _ _ b period.rest in
    let key = taken-apart (condition_in (codes "key") d) _ b timeout.rest in
    subst IsDebounceRead (ok-same _ b _ refl key.rest) (record {
      period = needed-is (part (codes "period") d) period.part period.found;
      timeout = optional-is (part (codes "timeout") d) timeout.part timeout.found;
    })

batch-is : (d : Data) (b : Batch) → batch_of d ≡ Ok b → IsBatchRead b
unfolding batch_of
batch-is d b h =
    let size = taken-apart _ _ b h in
    let timeout = taken-apart _ _ b size.rest in
    let key = taken-apart (condition_in (codes "key") d) _ b timeout.rest in
    subst IsBatchRead (ok-same _ b _ refl key.rest) (record {
      size = whole_in-is _ size.part (codes "maxSize") d (found-is _ _ size.part size.found);
      timeout = needed-is (part (codes "timeout") d) timeout.part timeout.found;
    })

blamed-is : {A : Type 0} (index : ℕ) (m : Member) (r : Result A Flaw) (a : A) → blame index m r ≡ Ok a → r ≡ Ok a
blamed-is index m (Ok x) a h = ap Ok (ok-same x a _ refl h)
blamed-is index m (Err flaw) a h = cc

-- a member that may be absent, blamed on its name
member-is : {A : Type 0} (P : A → Type 0) (read : Data → Result A Flaw) (index : ℕ) (m : Member) (found : Option Data)
    (a : Option A) → ((d : Data) (x : A) → read d ≡ Ok x → P x) → blame index m (optional read found) ≡ Ok a
    → IfSome a P
member-is P read index m None a each h = subst (λ o. IfSome o P) (ok-same None a _ refl h) tt
member-is P read index m (Some d) a each h =
    let whole = blamed-is index m (read d >>= λ value. Ok (Some value)) a h in
    let value = taken-apart (read d) (λ value. Ok (Some value)) a whole in
    subst (λ o. IfSome o P) (ok-same (Some value.part) a _ refl value.rest) (each d value.part value.found)

-- ## A function

throttle_at-is : (index : ℕ) (d : Data) (t : Option Throttle) → throttle_at index d ≡ Ok t → IfSome t IsThrottleRead
unfolding throttle_at
throttle_at-is index d t h =
    member-is IsThrottleRead throttle_of index member.Throttle (part (codes "throttle") d) t throttle-is h

debounce_at-is : (index : ℕ) (d : Data) (b : Option Debounce) → debounce_at index d ≡ Ok b → IfSome b IsDebounceRead
unfolding debounce_at
debounce_at-is index d b h =
    member-is IsDebounceRead debounce_of index member.Debounce (part (codes "debounce") d) b debounce-is h

batch_at-is : (index : ℕ) (d : Data) (b : Option Batch) → batch_at index d ≡ Ok b → IfSome b IsBatchRead
unfolding batch_at
batch_at-is index d b h =
    member-is IsBatchRead batch_of index member.BatchEvents (part (codes "batchEvents") d) b batch-is h

admission-is : (index : ℕ) (d : Data) (a : Admission) → admission_of index d ≡ Ok a → IfSome a.throttle IsThrottleRead
unfolding admission_of
admission-is index d a h =
    let limits = taken-apart (limits_at index d) _ a h in
    let throttle = taken-apart (throttle_at index d) _ a limits.rest in
    subst (λ (x : Admission). IfSome x.throttle IsThrottleRead) (ok-same _ a _ refl throttle.rest)
    (throttle_at-is index d throttle.part throttle.found)

abbrev AreWindowsRead : Windows → Type 0
AreWindowsRead w = IfSome w.debounce IsDebounceRead × IfSome w.batch IsBatchRead

windows-are : (index : ℕ) (d : Data) (w : Windows) → windows_of index d ≡ Ok w → AreWindowsRead w
unfolding windows_of
windows-are index d w h =
    let debounce = taken-apart (debounce_at index d) _ w h in
    let batch = taken-apart (batch_at index d) _ w debounce.rest in
    subst AreWindowsRead (ok-same _ w _ refl batch.rest)
    (debounce_at-is index d debounce.part debounce.found, batch_at-is index d batch.part batch.found)

abbrev IsFlowRead : Flow → Type 0
IsFlowRead flow = IfSome flow.admission.throttle IsThrottleRead × AreWindowsRead flow.windows

flow-is : (index : ℕ) (d : Data) (flow : Flow) → flow_of index d ≡ Ok flow → IsFlowRead flow
unfolding flow_of
flow-is index d flow h =
    let admission = taken-apart (admission_of index d) _ flow h in
    let windows = taken-apart (windows_of index d) _ flow admission.rest in
    let priority = taken-apart (priority_at index d) _ flow windows.rest in
    let cancels = taken-apart (cancels_at index d) _ flow priority.rest in
    let fits = taken-apart (fits_batch index d) _ flow cancels.rest in
    subst IsFlowRead (ok-same _ flow _ refl fits.rest)
    (admission-is index d admission.part admission.found, windows-are index d windows.part windows.found)

function-is : (earlier : List Function) (d : Data) (f : Function) → function_of earlier d ≡ Ok f → IsFunctionRead f
unfolding members_of
function-is earlier d f h =
    let index = length earlier in
    let object = taken-apart (readable index d) _ f h in
    let id = taken-apart (id_at index earlier d) _ f object.rest in
    let name = taken-apart (name_at index d) _ f id.rest in
    let triggers = taken-apart (triggers_at index d) _ f name.rest in
    let address = taken-apart (address_at index d) _ f triggers.rest in
    let retries = taken-apart (retries_at index d) _ f address.rest in
    let flow = taken-apart (flow_of index d) _ f retries.rest in
    let is = flow-is index d flow.part flow.found in
    subst IsFunctionRead (ok-same _ f _ refl flow.rest)
    (record { throttle = is.0; debounce = is.1.0; batch = is.1.1 })

all-behind : (fs : List Function) (f : Function) → AllByRecursion IsFunctionRead fs → IsFunctionRead f
    → AllByRecursion IsFunctionRead (fs ++ f ∷ [])
all-behind [] f all is = (is, tt)
all-behind (g ∷ fs) f all is = (all.0, all-behind fs f all.1 is)

functions-are : (ds : Items) (earlier fs : List Function) → AllByRecursion IsFunctionRead earlier
    → read_behind function_of earlier ds ≡ Ok fs → AllByRecursion IsFunctionRead fs
unfolding read_behind
functions-are no_items earlier fs all h = subst (AllByRecursion IsFunctionRead) (ok-same earlier fs _ refl h) all
functions-are (item d ds) earlier fs all h =
    let read = taken-apart (function_of earlier d) _ fs h in
    functions-are ds (earlier ++ read.part ∷ []) fs
    (all-behind earlier read.part all (function-is earlier d read.part read.found)) read.rest

app-is : (d : Data) (app : App) → app_in d ≡ Ok app → AllByRecursion IsFunctionRead app.functions
unfolding app_in
app-is d app h =
    let name = taken-apart (found_or NoAppName (text_in (codes "appName") d)) _ app h in
    let items = taken-apart (found_or NoFunctions (functions_in d)) _ app name.rest in
    let functions = taken-apart (read_behind function_of [] items.part) _ app items.rest in
    subst (λ (a : App). AllByRecursion IsFunctionRead a.functions) (ok-same _ app _ refl functions.rest)
    (functions-are items.part [] functions.part tt functions.found)

-- ## A registration

of-object : (b : Bool) (d : Data) (app : App) → (if b then app_in d else Err NotJson) ≡ Ok app
    → AllByRecursion IsFunctionRead app.functions
of-object true d app h = app-is d app h
of-object false d app h = cc

pub read-is : (body : List ℕ) (app : App) → read_app body ≡ Ok app → AllByRecursion IsFunctionRead app.functions
unfolding read_app
read-is body app h =
    let found = taken-apart (found_or NotJson (value_of body)) app_of app h in
    of-object (is_object found.part) found.part app found.rest
