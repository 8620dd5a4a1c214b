-- The operations of a reply name steps, as the reply is read: never what finds out what comes next.
use Rattle.std.proofs.Common.{◌≡◌, ℕ, ◌==◌, Bool, true, false, cond, List, [], ◌∷◌, Option, Some, None, IfSome, Result, Ok, Err, refl, sym, ◌∙◌, subst, bytes_eq, codes, length}
use Rattle.std.specs.List.{AllByRecursion}
use Rattle.std.specs.Option.{option_and_then, option_map}
use Rattle.cel_parse.specs.Faults.{parse_text}
use Rattle.cel_parse.specs.declared.fault.ParseFault.{ParseFault}
use Rattle.json_text.specs.Grammar.{Json, text, array}
use Rattle.json_text.specs.Nodes.{Document, item_nodes, value_at}
use Rattle.json_text.specs.Starts.{start_at}
use Rattle.json_text.specs.Text.{unescaped}
use Rattle.json_text.specs.Texts.{read_text}
use Rattle.json_text.specs.declared.fault.JsonFault.{JsonFault}
use Rattle.kinds.specs.ErrorObject.{error_object}
use Rattle.kinds.specs.declared.reply.Op.{Op}
use Rattle.kinds.specs.declared.reply.Op.TheVariants as op
use Rattle.kinds.specs.declared.reply.Outcome.{Outcome}
use Rattle.kinds.specs.declared.reply.Outcome.TheVariants as outcome
use Rattle.kinds.specs.declared.reply.ReplyIn.{ReplyIn}
use Rattle.kinds.specs.declared.reply.Time.{Time}
use Rattle.lists.proofs.Texts.{bytes_flip, bytes_same}
use Rattle.sdk_reply.specs.After.{after_field}
use Rattle.sdk_reply.specs.Operations.{Parts, as_hash, condition_in, given, hash_in, invoke, invoke_function, invoke_within, name_in, op_by, op_named, op_of, op_with, option_of, option_or_name, optional_condition, optional_time, parsed, parts_of, sleep, slice_in, text_in, time_in, wait_for, wait_for_event, wait_until, wait_where, word_of}
use Rattle.sdk_reply.specs.Ops.{before_ops, ops_at, with_ops}
use Rattle.sdk_reply.specs.Outcome.{body_with, ended, ended_by, error_of, failed, fails_for_good, goes_on, goes_on_by, ops_from, ops_in, outcome_of, place_of, says_no_retry, unreadable}
use Rattle.step_ids.specs.Step.{is_step_name}
use Rattle.run_model.specs.Making.{step_target}

-- ## Names

abbrev pub IsName : List ℕ → Type 0
IsName name = is_step_name name ≡ true

-- the name of an operation's step
abbrev op_name : Op → List ℕ
op_name (op.StepRun name value) = name
op_name (op.StepError name error) = name
op_name (op.StepPlanned name) = name
op_name (op.Sleep name t) = name
op_name (op.WaitForEvent name event t c) = name
op_name (op.InvokeFunction name id payload t) = name

abbrev pub IsNamed : Op → Type 0
IsNamed o = IsName (op_name o)

abbrev pub AreNamed : List Op → Type 0
AreNamed ops = AllByRecursion IsNamed ops

abbrev pub NamesSteps : Outcome → Type 0
NamesSteps (outcome.Ops ops no_retry a) = AreNamed ops
NamesSteps _ = Unit {0}

-- what finds out what comes next isn't the name of a step
no-name : IsName step_target → ⊥
no-name e = cc

pub name-apart : (name : List ℕ) → IsName name → bytes_eq step_target name ≡ false
name-apart name named = by_test (bytes_eq step_target name) refl
  where
    by_test : (b : Bool) → bytes_eq step_target name ≡ b → b ≡ false
    by_test true e = absurd (no-name (subst (λ n. IsName n) (sym (bytes_same step_target name e)) named))
    by_test false e = refl

pub apart-name : (name : List ℕ) → IsName name → bytes_eq name step_target ≡ false
apart-name name named = bytes_flip name step_target ∙ name-apart name named

-- ## Choices and options

choice : {X : Type 0} (Q : X → Type 0) (b : Bool) (x y : X) → Q x → Q y → Q (cond b x y)
choice Q true x y h k = h
choice Q false x y h k = k

and-then : {X Y : Type 0} (P : X → Type 0) (Q : Y → Type 0) (f : X → Option Y) (o : Option X) → IfSome o P
    → ((x : X) → P x → IfSome (f x) Q) → IfSome (option_and_then f o) Q
and-then P Q f None h k = tt
and-then P Q f (Some x) h k = k x h

any-then : {X Y : Type 0} (Q : Y → Type 0) (f : X → Option Y) (o : Option X) → ((x : X) → IfSome (f x) Q)
    → IfSome (option_and_then f o) Q
any-then Q f None k = tt
any-then Q f (Some x) k = k x

mapped : {X Y : Type 0} (Q : Y → Type 0) (f : X → Y) (o : Option X) → ((x : X) → Q (f x))
    → IfSome (option_map f o) Q
mapped Q f None k = tt
mapped Q f (Some x) k = k x

-- ## Operations

abbrev IsOp : Option Op → Type 0
IsOp o = IfSome o IsNamed

named-hash : (j : Option Json) → IfSome (hash_in j) IsName
named-hash j = any-then IsName as_hash (text_in j) (λ written. by_test written)
  where
    by_test : (written : List ℕ) → IfSome (as_hash written) IsName
    by_test written =
        (elim (is_step_name written) as (λ b. is_step_name written ≡ b → IfSome (cond b (Some written) None) IsName)
        [ true ↦ λ e. e | false ↦ λ e. tt ]) refl

named-if : (hash event : List ℕ) (timeout : Time) (j : Option Json) → IsName hash
    → IsOp (wait_where hash event timeout (optional_condition j))
named-if hash event timeout None h = h
named-if hash event timeout (Some j) h = by_text (text_in (Some j))
  where
    by_parse : (read : Result (List ℕ) ParseFault) → IsOp (wait_where hash event timeout (parsed read))
    by_parse (Ok c) = h
    by_parse (Err e) = tt

    by_text : (o : Option (List ℕ)) → IsOp (wait_where hash event timeout (condition_in o))
    by_text None = tt
    by_text (Some written) = by_parse (parse_text written)

named-within : (hash function : List ℕ) (payload : Option (List ℕ)) (j : Option Json) → IsName hash
    → IsOp (invoke_within hash function payload (optional_time j))
named-within hash function payload None h = h
named-within hash function payload (Some j) h = by_time (time_in (Some j))
  where
    by_time : (o : Option Time) → IsOp (invoke_within hash function payload (given o))
    by_time None = tt
    by_time (Some t) = h

named-wait_for : (hash : List ℕ) (opts : Option Json) (event : List ℕ) → IsName hash
    → IsOp (wait_for hash opts event)
named-wait_for hash opts event h =
    any-then IsNamed (wait_until hash opts event) (time_in (option_of opts (codes "timeout")))
    (λ timeout. named-if hash event timeout (option_of opts (codes "if")) h)

named-sleep : (hash : List ℕ) (p : Parts) → IsName hash → IsOp (sleep hash p)
named-sleep hash p h =
    mapped IsNamed (λ t. op.Sleep hash t) (time_in (option_or_name p (codes "duration"))) (λ t. h)

named-wait : (hash : List ℕ) (p : Parts) → IsName hash → IsOp (wait_for_event hash p)
named-wait hash p h =
    any-then IsNamed (wait_for hash p.opts) (name_in (option_or_name p (codes "event")))
    (λ event. named-wait_for hash p.opts event h)

named-invoke : (hash : List ℕ) (opts : Option Json) → IsName hash → IsOp (invoke_function hash opts)
named-invoke hash opts h =
    any-then IsNamed (invoke hash opts) (text_in (option_of opts (codes "function_id")))
    (λ function. named-within hash function (slice_in (option_of opts (codes "payload")))
    (option_of opts (codes "timeout")) h)

-- whatever the word is
named-word : (written hash : List ℕ) (p : Parts) → IsName hash → IsOp (op_by (word_of written) hash p)
named-word written hash p h =
    choice (λ w. IsOp (op_by w hash p)) (bytes_eq written (codes "StepRun")) _ _ h
    (choice (λ w. IsOp (op_by w hash p)) (bytes_eq written (codes "StepError")) _ _ h
    (choice (λ w. IsOp (op_by w hash p)) (bytes_eq written (codes "StepPlanned")) _ _ h
    (choice (λ w. IsOp (op_by w hash p)) (bytes_eq written (codes "Sleep")) _ _ (named-sleep hash p h)
    (choice (λ w. IsOp (op_by w hash p)) (bytes_eq written (codes "WaitForEvent")) _ _ (named-wait hash p h)
    (choice (λ w. IsOp (op_by w hash p)) (bytes_eq written (codes "InvokeFunction")) _ _
    (named-invoke hash p.opts h) tt)))))

named-kind : (j : Json) (hash : List ℕ) (p : Parts) → IsName hash → IsOp (op_named hash p j)
named-kind (text w) hash p h = named-word (unescaped w) hash p h
named-kind _ hash p h = tt

named-op : (j : Json) → IsOp (op_of j)
unfolding op_of
named-op j =
    let p : Parts = parts_of j in
    and-then IsName IsNamed (op_with p) (hash_in p.id) (named-hash p.id)
    (λ hash named. any-then IsNamed (op_named hash p) p.op (λ o. named-kind o hash p named))

-- ## Replies

named-unreadable : (reply : ReplyIn) (place : ℕ) → NamesSteps (unreadable reply place)
named-unreadable reply place =
    choice NamesSteps (says_no_retry reply) (outcome.NoRetry (error_object (codes "unreadable reply")))
    (outcome.Unreadable place) tt tt

-- one more before what was read
named-before : (reply : ReplyIn) (o : Op) (d : Document) (nodes : List ℕ) → IsNamed o
    → NamesSteps (ops_from reply (ops_at d nodes)) → NamesSteps (ops_from reply (before_ops o (ops_at d nodes)))
named-before reply o d nodes own h =
    (elim (ops_at d nodes) as (λ read. NamesSteps (ops_from reply read)
    → NamesSteps (ops_from reply (before_ops o read)))
    [ Ok ops ↦ λ k. (own, k) | Err e ↦ λ k. k ]) h

named-with : (reply : ReplyIn) (place : ℕ) (o : Option Op) (d : Document) (nodes : List ℕ) → IsOp o
    → NamesSteps (ops_from reply (ops_at d nodes)) → NamesSteps (ops_from reply (with_ops place o (ops_at d nodes)))
named-with reply place None d nodes own h = named-unreadable reply place
named-with reply place (Some o) d nodes own h = named-before reply o d nodes own h

named-read : (reply : ReplyIn) (d : Document) (nodes : List ℕ) → NamesSteps (ops_from reply (ops_at d nodes))
unfolding ops_at
named-read reply d [] = tt
named-read reply d (node ∷ nodes) =
    named-with reply (start_at d node) (op_of (value_at d node)) d nodes (named-op (value_at d node))
    (named-read reply d nodes)

named-ops : (reply : ReplyIn) (d : Document) (j : Json) → NamesSteps (ops_in reply d j)
named-ops reply d (array w parts) = named-read reply d (item_nodes d 0)
named-ops reply d _ = named-unreadable reply 0

named-ended_by : (reply : ReplyIn) (read : Result Json JsonFault) → NamesSteps (ended_by reply read)
named-ended_by reply (Ok j) = tt
named-ended_by reply (Err e) = named-unreadable reply (place_of e)

named-goes_on : (reply : ReplyIn) (read : Result Json JsonFault) → NamesSteps (goes_on_by reply read)
named-goes_on reply (Ok j) = named-ops reply (body_with reply.body j) j
named-goes_on reply (Err e) = named-unreadable reply (place_of e)

named-failed : (reply : ReplyIn) → NamesSteps (failed reply)
named-failed reply =
    choice NamesSteps (fails_for_good reply.no_retry reply.status) (outcome.NoRetry (error_of reply))
    (outcome.Retry (after_field reply.retry) (error_of reply)) tt tt

pub named-outcome : (reply : ReplyIn) → NamesSteps (outcome_of reply)
unfolding outcome_of
named-outcome reply =
    choice NamesSteps (reply.status == 200) (ended reply)
    (cond (reply.status == 206) (goes_on reply) (failed reply))
    (choice NamesSteps (length reply.body == 0) (outcome.Ended (codes "null"))
    (ended_by reply (read_text reply.body)) tt (named-ended_by reply (read_text reply.body)))
    (choice NamesSteps (reply.status == 206) (goes_on reply) (failed reply)
    (named-goes_on reply (read_text reply.body)) (named-failed reply))
