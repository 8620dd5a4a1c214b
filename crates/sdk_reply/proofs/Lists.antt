-- Operations that were read one after another, and those that are left.
use Rattle.std.proofs.Common.{◌≡◌, ℕ, true, false, List, [], ◌∷◌, ◌++◌, Option, Some, None, Result, Ok, Err, refl, sym, ap, ◌∙◌, subst, append_assoc, append-nil}
use Rattle.std.specs.List.{AllByRecursion}
use Rattle.json_text.specs.Nodes.{Document, IsNodeOf, value_at}
use Rattle.json_text.specs.Starts.{start_at}
use Rattle.kinds.specs.declared.reply.Op.{Op}
use Rattle.sdk_reply.specs.Operations.{op_of}
use Rattle.sdk_reply.specs.Ops.{IsAdded, ops_at, with_ops}
use Rattle.sdk_reply.specs.declared.ops.OpsFault.{OpsFault}
use Rattle.sdk_reply.specs.declared.ops.OpsFault.TheVariants.{NotValid}

-- these operations and those that come of the rest, or the rest's fault
abbrev pub followed : List Op → Result (List Op) OpsFault → Result (List Op) OpsFault
followed ops (Ok more) = Ok (ops ++ more)
followed ops (Err fault) = Err fault

-- these operations were read of some of the nodes, and the others are left
pub record IsReading (d : Document) (nodes left : List ℕ) (ops : List Op) : Type 0 where
  pub there : AllByRecursion (IsNodeOf d) left
  pub read : ops_at d nodes ≡ followed ops (ops_at d left)

followed-more : (ops : List Op) (op : Op) (r : Result (List Op) OpsFault) (at : ℕ) → followed ops (with_ops at (Some op) r) ≡ followed (ops ++ op ∷ []) r
followed-more ops op (Ok more) at = ap (λ (all : List Op). Ok all) (sym (append_assoc ops (op ∷ []) more))
followed-more ops op (Err fault) at = refl

at-next : (d : Document) (node : ℕ) (left : List ℕ) → ops_at d (node ∷ left) ≡ with_ops (start_at d node) (op_of (value_at d node)) (ops_at d left)
unfolding ops_at
at-next d node left = refl

at-end : (d : Document) → ops_at d [] ≡ Ok []
unfolding ops_at
at-end d = refl

here : (d : Document) (nodes : List ℕ) (node : ℕ) (left : List ℕ) (ops : List Op) → IsReading d nodes (node ∷ left) ops
    → ops_at d nodes ≡ followed ops (with_ops (start_at d node) (op_of (value_at d node)) (ops_at d left))
here d nodes node left ops reading = reading.read ∙ ap (λ r. followed ops r) (at-next d node left)

pub reading-more : (d : Document) (nodes : List ℕ) (node : ℕ) (left : List ℕ) (ops : List Op) (op : Op) → IsReading d nodes (node ∷ left) ops → Some op ≡ op_of (value_at d node) → IsReading d nodes left (ops ++ op ∷ [])
reading-more d nodes node left ops op reading is = record {
  there = reading.there.1;
  read = here d nodes node left ops reading
      ∙ ap (λ (o : Option Op). followed ops (with_ops (start_at d node) o (ops_at d left))) (sym is)
      ∙ followed-more ops op (ops_at d left) (start_at d node);
}

pub reading-fault : (d : Document) (nodes : List ℕ) (node : ℕ) (left : List ℕ) (ops : List Op) → IsReading d nodes (node ∷ left) ops → None ≡ op_of (value_at d node) → ops_at d nodes ≡ Err (NotValid (start_at d node))
reading-fault d nodes node left ops reading is =
    here d nodes node left ops reading ∙ ap (λ (o : Option Op). followed ops (with_ops (start_at d node) o (ops_at d left))) (sym is)

pub reading-end : (d : Document) (nodes : List ℕ) (ops : List Op) → IsReading d nodes [] ops → ops_at d nodes ≡ Ok ops
reading-end d nodes ops reading =
    reading.read
    ∙ ap (λ r. followed ops r) (at-end d)
    ∙ ap (λ (all : List Op). Ok all) (append-nil ops)

-- the same where the value's operation was added, or there was none
pub reading-added : (d : Document) (nodes : List ℕ) (node : ℕ) (left : List ℕ) (ops more : List Op) (told : Option Op) → IsReading d nodes (node ∷ left) ops
    → told ≡ op_of (value_at d node) → IsAdded ops told more true → IsReading d nodes left more
reading-added d nodes node left ops more None reading is added = absurd (cc)
reading-added d nodes node left ops more (Some op) reading is added =
    subst (λ (o : List Op). IsReading d nodes left o) (sym added.1) (reading-more d nodes node left ops op reading is)

pub reading-refused : (d : Document) (nodes : List ℕ) (node : ℕ) (left : List ℕ) (ops more : List Op) (told : Option Op) → IsReading d nodes (node ∷ left) ops
    → told ≡ op_of (value_at d node) → IsAdded ops told more false → ops_at d nodes ≡ Err (NotValid (start_at d node))
reading-refused d nodes node left ops more None reading is added = reading-fault d nodes node left ops reading is
reading-refused d nodes node left ops more (Some op) reading is added = absurd (cc)
