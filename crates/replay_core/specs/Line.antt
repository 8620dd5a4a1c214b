-- The grammar of a script's lines.
use Rattle.std.specs.Prelude.{ℕ, Bool, true, false, not, ◌&&◌, List, [], ◌∷◌, map, Option, Some, None}
use Rattle.std.specs.Prelude.{◌==◌, nat_le, if◌then◌else◌, codes, ◌+◌, length, position, take, drop}
use Rattle.std.specs.List.{list_all}
use Rattle.std.specs.Option.{option_and_then, option_map}
use Rattle.std.specs.Result.{result_ok}
use Rattle.std.specs.Str.{bytes_eq}
use Rattle.kinds.specs.declared.event.EventIn.{EventIn}
use Rattle.kinds.specs.declared.input.Input.TheVariants.{CallFailed, Cancel, Events, Reply, Tick}
use Rattle.kinds.specs.declared.reply.ReplyIn.{ReplyIn}
use Rattle.text_num.specs.Digits.{u64_of}
use Rattle.replay_core.specs.declared.line.Line.{Line}
use Rattle.replay_core.specs.declared.line.Line.TheVariants.{Passed, Asks}
use Rattle.requests.specs.Requests.{events_request, register_request}
use Rattle.requests.specs.declared.requested.Requested.TheVariants.{Input}

-- a word up to the first space, and what stands behind that space, where there is one
pub record Split : Type 0 where
  pub word : List ℕ
  pub rest : Option (List ℕ)

abbrev pub split_at : List ℕ → Option ℕ → Split
split_at text None = record { word = text; rest = None }
split_at text (Some place) = record { word = take place text; rest = Some (drop (place + 1) text) }

-- a text at its first space (32)
abbrev pub split_word : List ℕ → Split
split_word text = split_at text (position (λ byte. byte == 32) text)

-- printable ASCII without space, `"` (34) and `\` (92)
abbrev pub is_name_byte : ℕ → Bool
is_name_byte byte = nat_le 33 byte && nat_le byte 126 && not (byte == 34) && not (byte == 92)

abbrev pub is_name : List ℕ → Bool
is_name [] = false
is_name (byte ∷ bytes) = list_all is_name_byte (byte ∷ bytes)

-- an id, or `-` for none
abbrev pub id_of : List ℕ → Option (List ℕ)
id_of word = if bytes_eq word (codes "-") then None else Some word

-- an event with no data
abbrev pub event_named : List ℕ → Option (List ℕ) → EventIn
event_named name id =
    record { name = name; content = codes "{}"; id = id; ts = None; user = None; v = None }

-- `NAME ID`
abbrev pub event_of : List ℕ → Option EventIn
event_of text =
    let name = (split_word text).word in
    option_and_then
    (λ id. if is_name name && is_name id then Some (event_named name (id_of id)) else None)
    (split_word text).rest

-- `MS EVENT NAME ID`, from its name on
abbrev pub event_line : ℕ → List ℕ → Option Line
event_line at text = option_map (λ event. Asks (Input (Events at (event ∷ [])))) (event_of text)

-- `MS EVENTS BODY`, from its body on; want of memory has no answer
abbrev pub events_line : ℕ → List ℕ → Option Line
events_line at body = option_map Asks (events_request at body)

-- `MS REGISTER BODY`, from its body on; want of memory has no answer
abbrev pub registration_line : ℕ → List ℕ → Option Line
registration_line at body = option_map Asks (register_request at body)

-- ## Replies

-- a number from 100 to 999, in three digits
abbrev pub status_at : List ℕ → ℕ → Option ℕ
status_at word n = if (length word == 3) && (nat_le 100 n && nat_le n 999) then Some n else None

abbrev pub status_of : List ℕ → Option ℕ
status_of word = option_and_then (status_at word) (result_ok (u64_of word))

-- what a field has, where it stands first, and what stands behind it
pub record Field (A : Type 0) : Type 0 where
  pub value : Option A
  pub left : Option (List ℕ)

abbrev pub no_field : {A : Type 0} → Option (List ℕ) → Field A
no_field text = record { value = None; left = text }

abbrev pub no_retry_by : List ℕ → List ℕ → Option (List ℕ) → Field Bool
no_retry_by text word rest =
    if bytes_eq word (codes "noretry=true") then record { value = Some true; left = rest }
    else if bytes_eq word (codes "noretry=false") then record { value = Some false; left = rest }
    else no_field (Some text)

-- `noretry=true` or `noretry=false`
abbrev pub no_retry_of : Option (List ℕ) → Field Bool
no_retry_of None = no_field None
no_retry_of (Some text) = no_retry_by text (split_word text).word (split_word text).rest

-- a space (32) for each `_` (95)
abbrev pub spaced_byte : ℕ → ℕ
spaced_byte byte = if byte == 95 then 32 else byte

abbrev pub spaced : List ℕ → List ℕ
spaced text = map spaced_byte text

abbrev pub retry_begun : List ℕ
retry_begun = codes "retry="

abbrev pub retry_by : List ℕ → List ℕ → Option (List ℕ) → Field (List ℕ)
retry_by text word rest =
    if bytes_eq (take (length retry_begun) word) retry_begun
    then record { value = Some (spaced (drop (length retry_begun) word)); left = rest }
    else no_field (Some text)

-- `retry=TEXT`
abbrev pub retry_of : Option (List ℕ) → Field (List ℕ)
retry_of None = no_field None
retry_of (Some text) = retry_by text (split_word text).word (split_word text).rest

abbrev pub body_or_none : Option (List ℕ) → List ℕ
body_or_none None = []
body_or_none (Some body) = body

abbrev pub reply_after : ℕ → Field Bool → Field (List ℕ) → ReplyIn
reply_after status no_retry retry = record {
  status = status;
  no_retry = no_retry.value;
  retry = retry.value;
  body = body_or_none retry.left;
}

abbrev pub reply_of : ℕ → Option (List ℕ) → ReplyIn
reply_of status rest = reply_after status (no_retry_of rest) (retry_of (no_retry_of rest).left)

abbrev pub reply_with : ℕ → ℕ → Option (List ℕ) → ℕ → Line
reply_with at call rest status = Asks (Input (Reply at call (reply_of status rest)))

-- from the status on
abbrev pub reply_to : ℕ → List ℕ → ℕ → Option Line
reply_to at text call =
    option_map (reply_with at call (split_word text).rest) (status_of (split_word text).word)

abbrev pub reply_call : ℕ → Option (List ℕ) → ℕ → Option Line
reply_call at None call = None
reply_call at (Some text) call = reply_to at text call

-- `MS REPLY CALL STATUS [noretry=true|false] [retry=TEXT] [BODY]`, from its call on
abbrev pub reply_line : ℕ → List ℕ → Option Line
reply_line at text =
    option_and_then (reply_call at (split_word text).rest) (result_ok (u64_of (split_word text).word))

-- ## Lines

abbrev pub numbered : ℕ → List ℕ → ℕ → Option Line
numbered at kind number =
    if bytes_eq kind (codes "FAIL") then Some (Asks (Input (CallFailed at number)))
    else if bytes_eq kind (codes "CANCEL") then Some (Asks (Input (Cancel at number)))
    else None

-- `MS FAIL CALL` and `MS CANCEL RUN`, from the number on
abbrev pub numbered_line : ℕ → List ℕ → List ℕ → Option Line
numbered_line at kind rest = option_and_then (numbered at kind) (result_ok (u64_of rest))

-- a line of this kind, from behind its space on
abbrev pub line_of_kind : ℕ → List ℕ → List ℕ → Option Line
line_of_kind at kind rest =
    if bytes_eq kind (codes "REGISTER") then registration_line at rest
    else if bytes_eq kind (codes "EVENT") then event_line at rest
    else if bytes_eq kind (codes "EVENTS") then events_line at rest
    else if bytes_eq kind (codes "REPLY") then reply_line at rest
    else numbered_line at kind rest

-- `MS TICK`
abbrev pub word_line : ℕ → List ℕ → Option Line
word_line at word = if bytes_eq word (codes "TICK") then Some (Asks (Input (Tick at))) else None

abbrev pub at_word : ℕ → List ℕ → Option (List ℕ) → Option Line
at_word at word None = word_line at word
at_word at word (Some rest) = line_of_kind at word rest

-- what stands behind `MS` and its space
abbrev pub at_reading : ℕ → List ℕ → Option Line
at_reading at text = at_word at (split_word text).word (split_word text).rest

-- `MS` and what stands behind it
abbrev pub timed_line : List ℕ → Option Line
timed_line text =
    option_and_then (λ at. option_and_then (at_reading at) (split_word text).rest)
    (result_ok (u64_of (split_word text).word))

-- an empty line, or one that begins with `#` (35)
abbrev pub is_passed : List ℕ → Bool
is_passed [] = true
is_passed (byte ∷ bytes) = byte == 35

-- what a line says; none is outside the grammar
unfoldable pub read_line : List ℕ → Option Line
read_line text = if is_passed text then Some Passed else timed_line text
