-- The operations of a list, or the first that isn't valid.
use Rattle.std.specs.Prelude.{◌≡◌, ℕ, Bool, true, false, List, [], ◌∷◌, ◌++◌}
use Rattle.std.specs.Prelude.{Option, Some, None, Result, Ok, Err}
use Rattle.json_text.specs.Nodes.{Document, value_at}
use Rattle.json_text.specs.Starts.{start_at}
use Rattle.kinds.specs.declared.reply.Op.{Op}
use Rattle.sdk_reply.specs.declared.ops.OpsFault.{OpsFault}
use Rattle.sdk_reply.specs.declared.ops.OpsFault.TheVariants.{NotValid}
use Rattle.sdk_reply.specs.Operations.{op_of}

abbrev pub before_ops : Op → Result (List Op) OpsFault → Result (List Op) OpsFault
before_ops op (Ok ops) = Ok (op ∷ ops)
before_ops op (Err fault) = Err fault

abbrev pub with_ops : ℕ → Option Op → Result (List Op) OpsFault → Result (List Op) OpsFault
with_ops at None ops = Err (NotValid at)
with_ops at (Some op) ops = before_ops op ops

-- the operations at these nodes, or where the first begins that isn't valid
unfoldable pub ops_at : Document → List ℕ → Result (List Op) OpsFault
ops_at d [] = Ok []
ops_at d (node ∷ nodes) = with_ops (start_at d node) (op_of (value_at d node)) (ops_at d nodes)

-- where there is an operation it stands behind the others, and the answer says whether there is one
abbrev pub IsAdded : List Op → Option Op → List Op → Bool → Type 0
IsAdded old None new valid = (valid ≡ false) × (new ≡ old)
IsAdded old (Some op) new valid = (valid ≡ true) × (new ≡ old ++ op ∷ [])
