-- The path and the body of a call.
use Rattle.std.specs.Prelude.{ℕ, Bool, List, [], ◌∷◌, ◌++◌, codes, decimal, map, if◌then◌else◌}
use Rattle.std.specs.List.{join_with_byte}
use Rattle.kinds.specs.declared.store.StepEntry.{StepEntry}
use Rattle.sdk_call.specs.Query.{call_query}
use Rattle.sdk_call.specs.declared.parts.CallParts.{CallParts}

-- the path with its query
abbrev pub call_path : List ℕ → List ℕ → List ℕ → List ℕ → List ℕ
call_path path query id target = path ++ codes "?" ++ call_query query id target

-- "RUN","attempt":A,"disable_immediate_execution":P: a run that planned steps runs none of them unasked
abbrev pub context : List ℕ → ℕ → Bool → List ℕ
context run_id attempt planned =
    codes "{\"run_id\":\"" ++ run_id ++ codes "\",\"attempt\":" ++ decimal attempt
    ++ codes ",\"disable_immediate_execution\":" ++ (if planned then codes "true" else codes "false")
    ++ codes ",\"use_api\":false}"

-- texts parted by commas (44)
abbrev pub parted : List (List ℕ) → List ℕ
parted texts = join_with_byte 44 texts

-- "NAME":RESULT
abbrev pub step_member : StepEntry → List ℕ
step_member step = codes "\"" ++ step.hash ++ codes "\":" ++ step.result

abbrev pub first_of : List (List ℕ) → List ℕ
first_of [] = []
first_of (event ∷ events) = event

abbrev pub call_body : List ℕ → ℕ → Bool → List (List ℕ) → List StepEntry → List ℕ
call_body run_id attempt planned events steps =
    codes "{\"ctx\":" ++ context run_id attempt planned ++ codes ",\"event\":" ++ first_of events
    ++ codes ",\"events\":[" ++ parted events ++ codes "],\"steps\":{" ++ parted (map step_member steps)
    ++ codes "},\"use_api\":false}"

-- ## Of a call

abbrev pub path_of : CallParts → List ℕ
path_of parts =
    call_path parts.function.now.path parts.function.now.query parts.function.now.id parts.target.now

abbrev pub events_of : CallParts → List (List ℕ)
events_of parts = map (λ event. event.now) parts.events.now

abbrev pub body_of : CallParts → List ℕ
body_of parts = call_body parts.run_id parts.attempt parts.planned (events_of parts) parts.steps.now
