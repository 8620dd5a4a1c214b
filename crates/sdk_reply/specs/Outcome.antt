-- What a reply means, by its status.
use Rattle.std.specs.Prelude.{ℕ, Bool, false, List, ◌++◌, ◌==◌, codes, decimal, length, nat_lt}
use Rattle.std.specs.Prelude.{unwrap_or, if◌then◌else◌, Option, Some, None, Result, Ok, Err}
use Rattle.json_text.specs.Grammar.{Json, array, object, spelling}
use Rattle.json_text.specs.Nodes.{Document, item_nodes}
use Rattle.json_text.specs.Texts.{read_text}
use Rattle.json_text.specs.declared.fault.JsonFault.{JsonFault}
use Rattle.json_text.specs.declared.fault.JsonFault.TheVariants as json
use Rattle.kinds.specs.ErrorObject.{error_object}
use Rattle.kinds.specs.declared.reply.Op.{Op}
use Rattle.kinds.specs.declared.reply.Outcome.{Outcome}
use Rattle.kinds.specs.declared.reply.Outcome.TheVariants.{Ended, Ops, Retry, NoRetry, Unreadable}
use Rattle.kinds.specs.declared.reply.ReplyIn.{ReplyIn}
use Rattle.sdk_reply.specs.After.{after_field}
use Rattle.sdk_reply.specs.Ops.{ops_at}
use Rattle.sdk_reply.specs.declared.ops.OpsFault.{OpsFault}
use Rattle.sdk_reply.specs.declared.ops.OpsFault.TheVariants as fault

-- the reply says that the call isn't to be made again
abbrev pub says_no_retry : ReplyIn → Bool
says_no_retry reply = unwrap_or reply.no_retry false

-- not readable from this place of the body on
abbrev pub unreadable : ReplyIn → ℕ → Outcome
unreadable reply at =
    if says_no_retry reply then NoRetry (error_object (codes "unreadable reply"))
    else Unreadable at

-- where a body isn't JSON
abbrev pub place_of : JsonFault → ℕ
place_of (json.NotJson at) = at
place_of (json.TooDeep at) = at
place_of json.Memory = 0

-- ## 200: the run is over

abbrev pub ended_by : ReplyIn → Result Json JsonFault → Outcome
ended_by reply (Ok j) = Ended (spelling j)
ended_by reply (Err fault) = unreadable reply (place_of fault)

-- an empty body is `null`
abbrev pub ended : ReplyIn → Outcome
ended reply =
    if length reply.body == 0 then Ended (codes "null") else ended_by reply (read_text reply.body)

-- ## 206: the run goes on with operations

abbrev pub ops_from : ReplyIn → Result (List Op) OpsFault → Outcome
ops_from reply (Ok ops) = Ops ops (says_no_retry reply) (after_field reply.retry)
ops_from reply (Err (fault.NotValid at)) = unreadable reply at
ops_from reply (Err fault.Memory) = unreadable reply 0

-- the items of an array, whose node is the first of all; what is no array isn't readable from the first
-- byte of the body on
abbrev pub ops_in : ReplyIn → Document → Json → Outcome
ops_in reply d (array w parts) = ops_from reply (ops_at d (item_nodes d 0))
ops_in reply d _ = unreadable reply 0

abbrev pub body_with : List ℕ → Json → Document
body_with body j = record { source = body; value = j }

abbrev pub goes_on_by : ReplyIn → Result Json JsonFault → Outcome
goes_on_by reply (Ok j) = ops_in reply (body_with reply.body j) j
goes_on_by reply (Err fault) = unreadable reply (place_of fault)

abbrev pub goes_on : ReplyIn → Outcome
goes_on reply = goes_on_by reply (read_text reply.body)

-- ## Other statuses: the call failed

-- the greatest length of an error that is kept as it stands, in bytes
abbrev pub most_error : ℕ
most_error = 16384

abbrev pub status_error : ℕ → List ℕ
status_error status = error_object (codes "status " ++ decimal status)

abbrev pub object_error : List ℕ → List ℕ
object_error written =
    if nat_lt most_error (length written) then error_object (codes "error too large")
    else written

-- an object, and else the status
abbrev pub json_error : ℕ → Json → List ℕ
json_error status (object w parts) = object_error w
json_error status _ = status_error status

abbrev pub error_in : ℕ → Result Json JsonFault → List ℕ
error_in status (Ok j) = json_error status j
error_in status (Err fault) = status_error status

abbrev pub error_of : ReplyIn → List ℕ
error_of reply = error_in reply.status (read_text reply.body)

-- said so, or not said and the request was bad
abbrev pub fails_for_good : Option Bool → ℕ → Bool
fails_for_good (Some said) status = said
fails_for_good None status = status == 400

abbrev pub failed : ReplyIn → Outcome
failed reply =
    if fails_for_good reply.no_retry reply.status then NoRetry (error_of reply)
    else Retry (after_field reply.retry) (error_of reply)

-- ## All

unfoldable pub outcome_of : ReplyIn → Outcome
outcome_of reply =
    if reply.status == 200 then ended reply
    else if reply.status == 206 then goes_on reply
    else failed reply
