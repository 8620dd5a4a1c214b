-- Inputs that lines are, in their ranges.
use Rattle.std.proofs.Common.{◌≡◌, ℕ, ◌≤◌, Bool, true, false, List, [], ◌∷◌, Option, Some, None, IfSome, Result, Ok, Err, if◌then◌else◌, refl, subst, sym, ◌∙◌, codes, bytes_eq}
use Rattle.std.specs.Option.{option_and_then, option_map}
use Rattle.std.specs.List.{AllByRecursion}
use Rattle.intake.specs.Events.{events_in_body, fault_answer as events_answer}
use Rattle.intake.specs.declared.fault.IntakeFault.{IntakeFault}
use Rattle.kinds.specs.Windows.{IsRule}
use Rattle.kinds.specs.declared.event.EventIn.{EventIn}
use Rattle.kinds.specs.declared.function.App.{App}
use Rattle.kinds.specs.declared.function.Batch.{Batch}
use Rattle.kinds.specs.declared.function.Debounce.{Debounce}
use Rattle.kinds.specs.declared.function.Function.{Function}
use Rattle.kinds.specs.declared.function.Throttle.{Throttle}
use Rattle.kinds.specs.declared.input.Input.{Input}
use Rattle.kinds.specs.declared.input.Input.TheVariants.{Events}
use Rattle.kinds.specs.declared.out.Out.{Out}
use Rattle.registry.specs.Answers.{fault_answer as register_answer}
use Rattle.registry.specs.Apps.{read_app}
use Rattle.registry.specs.Ranges.{IsBatchRead, IsDebounceRead, IsFunctionRead, IsThrottleRead, IsWithin}
use Rattle.registry.specs.declared.fault.RegisterFault.{RegisterFault}
use Rattle.requests.specs.Requests.{registered, requested}
use Rattle.requests.specs.declared.requested.Requested.TheVariants as asked
use Rattle.run_model.specs.Events.{window_rule}
use Rattle.run_model.specs.Fit.{IsFunctionInRange, IsInRange, IsThrottleInRange}
use Rattle.text_num.specs.Digits.{u64_of}
use Rattle.text_num.specs.Duration.{longest}
use Rattle.replay_core.specs.Line.{at_reading, at_word, event_of, is_passed, line_of_kind, numbered, read_line, reply_call, reply_with, split_word, status_of}
use Rattle.replay_core.specs.declared.line.Line.{Line}
use Rattle.replay_core.specs.declared.line.Line.TheVariants as line
use Rattle.std.specs.Result.{result_ok}

-- ## A registration

throttle-fits : (t : Throttle) → IsThrottleRead t → IsThrottleInRange t
throttle-fits t h = (h.limit.some, h.limit.few, h.period.some, h.period.few, h.burst.some, h.burst.few)

if-throttle : (found : Option Throttle) → IfSome found IsThrottleRead → IfSome found IsThrottleInRange
if-throttle None h = h
if-throttle (Some t) h = throttle-fits t h

if-timeout : (found : Option ℕ) → IfSome found (IsWithin longest) → IfSome found (λ timeout. timeout ≤ 31622400000)
if-timeout None h = tt
if-timeout (Some timeout) h = h.few

if-window : (debounce : Option Debounce) (batch : Option Batch) → IfSome debounce IsDebounceRead
    → IfSome batch IsBatchRead → IfSome (window_rule debounce batch) IsRule
if-window (Some d) batch h k = (h.period.few, if-timeout d.timeout h.timeout)
if-window None (Some b) h k = k.timeout.few
if-window None None h k = tt

function-fits : (f : Function) → IsFunctionRead f → IsFunctionInRange f
function-fits f h = record {
  throttle = if-throttle f.throttle h.throttle;
  window = if-window f.debounce f.batch h.debounce h.batch;
}

functions-fit : (fs : List Function) → AllByRecursion IsFunctionRead fs → AllByRecursion IsFunctionInRange fs
functions-fit [] h = tt
functions-fit (f ∷ fs) h = (function-fits f h.0, functions-fit fs h.1)

-- ## Lines

-- an input that a line is is in its range
abbrev IsLineInRange : Option Line → Type 0
IsLineInRange (Some (line.Asks (asked.Input input))) = IsInRange input
IsLineInRange _ = Unit {0}

either : (b : Bool) (x y : Option Line) → IsLineInRange x → IsLineInRange y → IsLineInRange (if b then x else y)
either true x y h k = h
either false x y h k = k

then-in : {A : Type 0} (o : Option A) (f : A → Option Line) → ((a : A) → IsLineInRange (f a))
    → IsLineInRange (option_and_then f o)
then-in None f h = tt
then-in (Some a) f h = h a

answers-in : (o : Option Out) → IsLineInRange (option_map line.Asks (option_map asked.Answered o))
answers-in None = tt
answers-in (Some out) = tt

requested-in : (at : ℕ) (r : Result (List EventIn) IntakeFault) → IsLineInRange (option_map line.Asks (requested at r))
requested-in at (Ok []) = tt
requested-in at (Ok (event ∷ events)) = tt
requested-in at (Err fault) = answers-in (events_answer fault)

event-in : (at : ℕ) (o : Option EventIn)
    → IsLineInRange (option_map (λ event. line.Asks (asked.Input (Events at (event ∷ [])))) o)
event-in at None = tt
event-in at (Some event) = tt

status-in : (at call : ℕ) (rest : Option (List ℕ)) (o : Option ℕ)
    → IsLineInRange (option_map (reply_with at call rest) o)
status-in at call rest None = tt
status-in at call rest (Some status) = tt

call-in : (at : ℕ) (rest : Option (List ℕ)) (call : ℕ) → IsLineInRange (reply_call at rest call)
call-in at None call = tt
call-in at (Some text) call = status-in at call (split_word text).rest (status_of (split_word text).word)

number-in : (at : ℕ) (kind : List ℕ) (number : ℕ) → IsLineInRange (numbered at kind number)
number-in at kind number =
    either (bytes_eq kind (codes "FAIL")) _ _ tt (either (bytes_eq kind (codes "CANCEL")) _ _ tt tt)

-- what a registration's body gives is in its ranges
abbrev pub AreRead : Type 0
AreRead = (body : List ℕ) (app : App) → read_app body ≡ Ok app → AllByRecursion IsFunctionRead app.functions

registered-in : AreRead → (at : ℕ) (body : List ℕ) (r : Result App RegisterFault) → read_app body ≡ r
    → IsLineInRange (option_map line.Asks (registered at r))
registered-in are-read at body (Ok app) e = functions-fit app.functions (are-read body app e)
registered-in are-read at body (Err fault) e = answers-in (register_answer fault)

kind-in : AreRead → (at : ℕ) (kind rest : List ℕ) → IsLineInRange (line_of_kind at kind rest)
kind-in are-read at kind rest =
    either (bytes_eq kind (codes "REGISTER")) _ _ (registered-in are-read at rest (read_app rest) refl)
    (either (bytes_eq kind (codes "EVENT")) _ _ (event-in at (event_of rest))
    (either (bytes_eq kind (codes "EVENTS")) _ _ (requested-in at (events_in_body rest))
    (either (bytes_eq kind (codes "REPLY")) _ _
    (then-in (result_ok (u64_of (split_word rest).word)) (reply_call at (split_word rest).rest)
    (call-in at (split_word rest).rest))
    (then-in (result_ok (u64_of rest)) (numbered at kind) (number-in at kind)))))

word-in : AreRead → (at : ℕ) (word : List ℕ) (rest : Option (List ℕ)) → IsLineInRange (at_word at word rest)
word-in are-read at word None = either (bytes_eq word (codes "TICK")) _ _ tt tt
word-in are-read at word (Some rest) = kind-in are-read at word rest

line-in : AreRead → (text : List ℕ) → IsLineInRange (read_line text)
unfolding read_line
line-in are-read text =
    either (is_passed text) _ _ tt
    (then-in (result_ok (u64_of (split_word text).word))
    (λ at. option_and_then (at_reading at) (split_word text).rest)
    (λ at. then-in (split_word text).rest (at_reading at)
    (λ behind. word-in are-read at (split_word behind).word (split_word behind).rest)))

-- the input that a line is is in its range
pub input-in : AreRead → (text : List ℕ) (found : Option Line) (input : Input) → found ≡ read_line text
    → found ≡ Some (line.Asks (asked.Input input)) → IsInRange input
input-in are-read text found input is asks =
    subst IsLineInRange (sym is ∙ asks) (line-in are-read text)
