-- A valid function, or its first fault, member by member in this order.
use Rattle.std.specs.Prelude.{ℕ, ◌==◌, ◌&&◌, ◌||◌, nat_le, if◌then◌else◌, Bool, not, is_some, List, [], ◌∷◌, length, codes, bytes_eq, ⊤, Option, Some, None, option_and_then, Result, Ok, Err}
use Rattle.std.specs.Char.{is_ascii_alphanumeric}
use Rattle.std.specs.List.{list_all, list_any}
use Rattle.kinds.specs.declared.function.Batch.{Batch}
use Rattle.kinds.specs.declared.function.CancelEntry.{CancelEntry}
use Rattle.kinds.specs.declared.function.Debounce.{Debounce}
use Rattle.kinds.specs.declared.function.Function.{Function}
use Rattle.kinds.specs.declared.function.Limit.{Limit}
use Rattle.kinds.specs.declared.function.Throttle.{Throttle}
use Rattle.kinds.specs.declared.function.Trigger.{Trigger}
use Rattle.serde_json.specs.Data.{Data}
use Rattle.serde_json.specs.Find.{as_str}
use Rattle.registry.specs.Faults.{blame, blamed}
use Rattle.registry.specs.Flows.{batch_in, cancels_in, debounce_in, limits_in, priority_in, throttle_in}
use Rattle.registry.specs.Members.{◌>>=◌, first_present, found_or, is_object, part}
use Rattle.registry.specs.Steps.{address_in, retries_in}
use Rattle.registry.specs.Triggers.{triggers_in}
use Rattle.registry.specs.declared.address.Address.{Address}
use Rattle.registry.specs.declared.fault.RegisterFault.{RegisterFault}
use Rattle.registry.specs.declared.flaw.Flaw.{Flaw}
use Rattle.registry.specs.declared.flaw.Flaw.TheVariants as flaw
use Rattle.registry.specs.declared.flow.Admission.{Admission}
use Rattle.registry.specs.declared.flow.Flow.{Flow}
use Rattle.registry.specs.declared.flow.Windows.{Windows}
use Rattle.registry.specs.declared.member.Member.{Member}
use Rattle.registry.specs.declared.member.Member.TheVariants as member

-- ## What a function is called

abbrev pub most_id : ℕ
most_id = 128

-- a letter, a digit, `-` (45), `_` (95) or `.` (46)
abbrev pub is_id_byte : ℕ → Bool
is_id_byte c = is_ascii_alphanumeric c || (c == 45) || (c == 95) || (c == 46)

abbrev pub is_id : List ℕ → Bool
is_id text = nat_le 1 (length text) && nat_le (length text) most_id && list_all is_id_byte text

-- an earlier function has this id
abbrev pub is_taken : List Function → List ℕ → Bool
is_taken earlier id = list_any (λ function. bytes_eq function.id id) earlier

abbrev pub free_id : List Function → List ℕ → Option (List ℕ)
free_id earlier text = if is_id text && not (is_taken earlier text) then Some text else None

abbrev pub id_text : Data → Option (List ℕ)
id_text d = option_and_then as_str (part (codes "id") d)

unfoldable pub id_in : List Function → Data → Result (List ℕ) Flaw
id_in earlier d = found_or flaw.Function (option_and_then (free_id earlier) (id_text d))

-- the name is a text, and isn't used
abbrev pub named : Option Data → Result ⊤ Flaw
named None = Ok tt
named (Some d) = if is_some (as_str d) then Ok tt else Err flaw.Function

abbrev pub name_in : Data → Result ⊤ Flaw
name_in d = named (part (codes "name") d)

-- ## Members that can't be

-- a member that can't be there, where there is one
abbrev pub unless_there : ℕ → Flaw → Option Member → Result ⊤ RegisterFault
unless_there index what None = Ok tt
unless_there index what (Some m) = Err (blamed index m what)

-- members that aren't read yet
abbrev pub later_members : List Member
later_members = member.RateLimit ∷ member.Idempotency ∷ member.Singleton ∷ member.Timeouts ∷ []

-- an object without members that aren't read yet
unfoldable pub readable : ℕ → Data → Result ⊤ RegisterFault
readable index d =
    if is_object d then unless_there index flaw.Function (first_present later_members d)
    else Err (blamed index member.Function flaw.Function)

-- members that don't go with batches
abbrev pub unlike_batches : List Member
unlike_batches = member.Cancel ∷ member.Priority ∷ member.Debounce ∷ []

abbrev pub beside_batch : Data → Option Member
beside_batch d = if is_some (part (codes "batchEvents") d) then first_present unlike_batches d else None

-- ## Member by member

unfoldable pub limits_at : ℕ → Data → Result (List Limit) RegisterFault
limits_at index d = blame index member.Concurrency (limits_in d)

unfoldable pub throttle_at : ℕ → Data → Result (Option Throttle) RegisterFault
throttle_at index d = blame index member.Throttle (throttle_in d)

unfoldable pub debounce_at : ℕ → Data → Result (Option Debounce) RegisterFault
debounce_at index d = blame index member.Debounce (debounce_in d)

unfoldable pub batch_at : ℕ → Data → Result (Option Batch) RegisterFault
batch_at index d = blame index member.BatchEvents (batch_in d)

unfoldable pub priority_at : ℕ → Data → Result (Option (List ℕ)) RegisterFault
priority_at index d = blame index member.Priority (priority_in d)

unfoldable pub cancels_at : ℕ → Data → Result (List CancelEntry) RegisterFault
cancels_at index d = blame index member.Cancel (cancels_in d)

unfoldable pub fits_batch : ℕ → Data → Result ⊤ RegisterFault
fits_batch index d = unless_there index flaw.BatchWith (beside_batch d)

-- how many calls are open, and how often runs start
unfoldable pub admission_of : ℕ → Data → Result Admission RegisterFault
admission_of index d = do
  limits ← limits_at index d
  throttle ← throttle_at index d
  Ok (record { limits = limits; throttle = throttle })

-- which events a run has
unfoldable pub windows_of : ℕ → Data → Result Windows RegisterFault
windows_of index d = do
  debounce ← debounce_at index d
  batch ← batch_at index d
  Ok (record { debounce = debounce; batch = batch })

unfoldable pub flow_of : ℕ → Data → Result Flow RegisterFault
flow_of index d = do
  admission ← admission_of index d
  windows ← windows_of index d
  priority ← priority_at index d
  cancels ← cancels_at index d
  fits ← fits_batch index d
  Ok (record { admission = admission; windows = windows; priority = priority; cancels = cancels })

unfoldable pub id_at : ℕ → List Function → Data → Result (List ℕ) RegisterFault
id_at index earlier d = blame index member.Id (id_in earlier d)

unfoldable pub name_at : ℕ → Data → Result ⊤ RegisterFault
name_at index d = blame index member.Name (name_in d)

unfoldable pub triggers_at : ℕ → Data → Result (List Trigger) RegisterFault
triggers_at index d = blame index member.Triggers (triggers_in d)

unfoldable pub address_at : ℕ → Data → Result Address RegisterFault
address_at index d = blame index member.Steps (address_in d)

unfoldable pub retries_at : ℕ → Data → Result ℕ RegisterFault
retries_at index d = blame index member.Steps (retries_in d)

abbrev pub function_with : List ℕ → List Trigger → Address → ℕ → Flow → Function
function_with id triggers address retries flow = record {
  id = id;
  triggers = triggers;
  host = address.host;
  port = address.port;
  path = address.path;
  query = address.query;
  retries = retries;
  limits = flow.admission.limits;
  throttle = flow.admission.throttle;
  debounce = flow.windows.debounce;
  batch = flow.windows.batch;
  priority = flow.priority;
  cancels = flow.cancels;
}

-- the function of this index, behind these, or its first fault
unfoldable pub members_of : ℕ → List Function → Data → Result Function RegisterFault
members_of index earlier d = do
  object ← readable index d
  id ← id_at index earlier d
  name ← name_at index d
  triggers ← triggers_at index d
  address ← address_at index d
  retries ← retries_at index d
  flow ← flow_of index d
  Ok (function_with id triggers address retries flow)

abbrev pub function_of : List Function → Data → Result Function RegisterFault
function_of earlier d = members_of (length earlier) earlier d
