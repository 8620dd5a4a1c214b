-- The events that a request's body gives, and the texts that they go on as.
use Rattle.std.specs.Prelude.{ℕ, ◌+◌, List, [], ◌∷◌, ◌++◌, length, nat_lt, if◌then◌else◌, codes, decimal, Option, Some, None, Result, Ok, Err}
use Rattle.kinds.specs.Answer.{error_answer, quoted_id}
use Rattle.kinds.specs.declared.event.EventIn.{EventIn}
use Rattle.kinds.specs.declared.out.Out.{Out}
use Rattle.json_text.specs.Grammar.{Json, null, number, text, array, object, spelling}
use Rattle.json_text.specs.Nodes.{list_of}
use Rattle.json_text.specs.Text.{member_of, quoted, unescaped}
use Rattle.json_text.specs.Texts.{read_text}
use Rattle.json_text.specs.declared.fault.JsonFault.{JsonFault}
use Rattle.json_text.specs.declared.fault.JsonFault.TheVariants as json
use Rattle.intake.specs.declared.fault.IntakeFault.{IntakeFault}
use Rattle.intake.specs.declared.fault.IntakeFault.TheVariants.{NotJson, TooMany, NoName, DataNotObject, TooLarge, Memory}

-- the greatest number of events in a request
abbrev pub most_events : ℕ
most_events = 1000

-- the greatest length of an event's own text in the request, in bytes
abbrev pub most_bytes : ℕ
most_bytes = 262144

-- ## Members

abbrev pub not_empty : List ℕ → Option (List ℕ)
not_empty [] = None
not_empty (byte ∷ bytes) = Some (byte ∷ bytes)

-- a text that isn't empty, unescaped: an event's name, and the id that tells a repeated event
abbrev pub text_in : Option Json → Option (List ℕ)
text_in (Some (text w)) = not_empty (unescaped w)
text_in _ = None

-- the member `data`: an object as it stands, or an empty one where it is absent or null
abbrev pub content_in : Option Json → Option (List ℕ)
content_in None = Some (codes "{}")
content_in (Some null) = Some (codes "{}")
content_in (Some (object w parts)) = Some w
content_in _ = None

-- a number as it stands
abbrev pub number_in : Option Json → Option (List ℕ)
number_in (Some (number w)) = Some w
number_in _ = None

-- any value as it stands
abbrev pub slice_in : Option Json → Option (List ℕ)
slice_in None = None
slice_in (Some j) = Some (spelling j)

-- ## Events

abbrev pub event_with : Json → List ℕ → List ℕ → EventIn
event_with j name content = record {
  name = name;
  content = content;
  id = text_in (member_of j (codes "id"));
  ts = number_in (member_of j (codes "ts"));
  user = slice_in (member_of j (codes "user"));
  v = slice_in (member_of j (codes "v"));
}

-- an event with a name and an object as its data; it may still be too large
abbrev pub sized_event : ℕ → Json → EventIn → Result EventIn IntakeFault
sized_event index j event =
    if nat_lt most_bytes (length (spelling j)) then Err (TooLarge index) else Ok event

abbrev pub contained_event : ℕ → Json → List ℕ → Option (List ℕ) → Result EventIn IntakeFault
contained_event index j name None = Err (DataNotObject index)
contained_event index j name (Some content) = sized_event index j (event_with j name content)

abbrev pub named_event : ℕ → Json → Option (List ℕ) → Result EventIn IntakeFault
named_event index j None = Err (NoName index)
named_event index j (Some name) = contained_event index j name (content_in (member_of j (codes "data")))

-- the event that a value is, in this place of the request: what is no object has no member, and so no
-- name
unfoldable pub event_of : ℕ → Json → Result EventIn IntakeFault
event_of index j = named_event index j (text_in (member_of j (codes "name")))

abbrev pub before_events : EventIn → Result (List EventIn) IntakeFault
    → Result (List EventIn) IntakeFault
before_events event (Ok events) = Ok (event ∷ events)
before_events event (Err fault) = Err fault

abbrev pub with_events : Result EventIn IntakeFault → Result (List EventIn) IntakeFault
    → Result (List EventIn) IntakeFault
with_events (Ok event) events = before_events event events
with_events (Err fault) events = Err fault

-- all of these, or the first fault
unfoldable pub events_from : ℕ → List Json → Result (List EventIn) IntakeFault
events_from index [] = Ok []
events_from index (j ∷ js) = with_events (event_of index j) (events_from (index + 1) js)

abbrev pub events_in : List Json → Result (List EventIn) IntakeFault
events_in js = if nat_lt most_events (length js) then Err (TooMany (length js)) else events_from 0 js

-- an array's items, or one event
abbrev pub events_of : Json → Result (List EventIn) IntakeFault
events_of (array w parts) = events_in (list_of parts)
events_of j = events_in (j ∷ [])

abbrev pub no_json : JsonFault → IntakeFault
no_json (json.NotJson at) = NotJson at
no_json (json.TooDeep at) = NotJson at
no_json json.Memory = Memory

abbrev pub events_read : Result Json JsonFault → Result (List EventIn) IntakeFault
events_read (Ok j) = events_of j
events_read (Err fault) = Err (no_json fault)

-- the events of a request's body, or why it is refused
unfoldable pub events_in_body : List ℕ → Result (List EventIn) IntakeFault
events_in_body body = events_read (read_text body)

-- ## Texts

-- what the sender of a refused body is told
abbrev pub fault_answer : IntakeFault → Option Out
fault_answer (NotJson at) = Some (error_answer 400 (codes "not json") (Some at))
fault_answer (TooMany count) = Some (error_answer 400 (codes "too many events") (Some count))
fault_answer (NoName index) = Some (error_answer 400 (codes "no name") (Some index))
fault_answer (DataNotObject index) = Some (error_answer 400 (codes "data not object") (Some index))
fault_answer (TooLarge index) = Some (error_answer 400 (codes "event too large") (Some index))
fault_answer Memory = None

-- the event's id as it goes on: its own where the source has none
abbrev pub id_text : ℕ → Option (List ℕ) → List ℕ
id_text n None = quoted_id n
id_text n (Some id) = quoted id

-- when it happened, in milliseconds since 1970: the moment where the source has no number
abbrev pub ts_text : ℕ → Option (List ℕ) → List ℕ
ts_text moment None = decimal moment
ts_text moment (Some ts) = ts

-- a member that the source has, behind the others
abbrev pub further_member : List ℕ → Option (List ℕ) → List ℕ
further_member name None = []
further_member name (Some value) = codes ",\"" ++ name ++ codes "\":" ++ value

-- the text that an accepted event with this number goes on as
unfoldable pub event_text : ℕ → ℕ → EventIn → List ℕ
event_text n moment event =
    codes "{\"name\":" ++ quoted event.name
    ++ codes ",\"data\":" ++ event.content
    ++ codes ",\"id\":" ++ id_text n event.id
    ++ codes ",\"ts\":" ++ ts_text moment event.ts
    ++ further_member (codes "user") event.user
    ++ further_member (codes "v") event.v
    ++ codes "}"
