-- The members that are found are the operation's.
use Rattle.std.proofs.Common.{◌≡◌, ap, ◌∙◌, Option, option_map, codes}
use Rattle.json_text.specs.Grammar.{Json}
use Rattle.json_text.specs.Nodes.{Document, value_at}
use Rattle.json_text.specs.Text.{member_of}
use Rattle.sdk_reply.specs.declared.op_members.OpMembers.{OpMembers}
use Rattle.sdk_reply.specs.Found.{AreMembers, parts_at}
use Rattle.sdk_reply.specs.Operations.{Parts, op_from, op_of, parts_of}

abbrev parts : Option Json → Option Json → Option Json → Option Json → Option Json → Option Json → Parts
parts a b c d e f = record { id = a; op = b; «data» = c; error = d; opts = e; name = f }

same : (a b c d e f u v w x y z : Option Json) → a ≡ u → b ≡ v → c ≡ w → d ≡ x → e ≡ y → f ≡ z
    → parts a b c d e f ≡ parts u v w x y z
same a b c d e f u v w x y z p q r s t o =
    ap (λ m. parts m b c d e f) p
    ∙ ap (λ m. parts u m c d e f) q
    ∙ ap (λ m. parts u v m d e f) r
    ∙ ap (λ m. parts u v w m e f) s
    ∙ ap (λ m. parts u v w x m f) t
    ∙ ap (λ m. parts u v w x y m) o

pub same-parts : (d : Document) (j : Json) (members : OpMembers) → AreMembers d j members → parts_at d members ≡ parts_of j
same-parts d j m are =
    same (option_map (value_at d) m.id) (option_map (value_at d) m.op) (option_map (value_at d) m.«data»)
    (option_map (value_at d) m.error) (option_map (value_at d) m.opts) (option_map (value_at d) m.name)
    (member_of j (codes "id")) (member_of j (codes "op")) (member_of j (codes "data"))
    (member_of j (codes "error")) (member_of j (codes "opts")) (member_of j (codes "name"))
    are.id.1 are.op.1 are.«data».1 are.error.1 are.opts.1 are.name.1

pub of-members : (d : Document) (j : Json) (members : OpMembers) → AreMembers d j members → op_from (parts_at d members) ≡ op_of j
unfolding op_of
of-members d j m are = ap op_from (same-parts d j m are)
