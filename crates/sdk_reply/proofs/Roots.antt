-- The node of the whole value is the first, so that its items are those that the definition reads.
use Rattle.std.proofs.Common.{◌≡◌, ℕ, refl, ap, sym, ◌∙◌, arith, length, length-append, length-drop}
use Rattle.json_text.specs.Grammar.{Json, null, boolean, number, text, array, object}
use Rattle.json_text.specs.Nodes.{Document, IsNodeOf, item_nodes, kind_of, nodes, value_at}
use Rattle.json_text.specs.declared.kind.Kind.TheVariants as kind
use Rattle.json_text.proofs.Walking.{stands-at}
use Rattle.kinds.specs.declared.reply.ReplyIn.{ReplyIn}
use Rattle.sdk_reply.specs.Ops.{ops_at}
use Rattle.sdk_reply.specs.Outcome.{ops_from, ops_in}

root-is-first : (d : Document) (n : ℕ) → IsNodeOf d n → value_at d n ≡ d.value → n ≡ 0
root-is-first d n l e =
    let s = stands-at d.value n l in
    let whole = ap length s.1 in
    let same : length (nodes (value_at d n)) ≡ length (nodes d.value) = ap (λ (j : Json). length (nodes j)) e in
    omega (arith, whole, same, length-drop n (nodes d.value), length-append (nodes (value_at d n)) s.0, l)

ops-in-list : (reply : ReplyIn) (d : Document) (j : Json) → kind_of j ≡ kind.List → ops_in reply d j ≡ ops_from reply (ops_at d (item_nodes d 0))
ops-in-list reply d null h = absurd (cc)
ops-in-list reply d (boolean b) h = absurd (cc)
ops-in-list reply d (number w) h = absurd (cc)
ops-in-list reply d (text w) h = absurd (cc)
ops-in-list reply d (array w parts) h = refl
ops-in-list reply d (object w parts) h = absurd (cc)

pub ops-in-root : (reply : ReplyIn) (d : Document) (n : ℕ) → IsNodeOf d n → value_at d n ≡ d.value → kind_of (value_at d n) ≡ kind.List → ops_in reply d d.value ≡ ops_from reply (ops_at d (item_nodes d n))
ops-in-root reply d n l e h =
    ops-in-list reply d d.value (ap kind_of (sym e) ∙ h) ∙ ap (λ (m : ℕ). ops_from reply (ops_at d (item_nodes d m))) (sym (root-is-first d n l e))
