-- The members of an operation that are read, found in one pass over all of them.
use Rattle.std.specs.Prelude.{◌≡◌, ℕ, Bool, cond, List, bytes_eq, codes}
use Rattle.std.specs.Prelude.{Option, Some, IfSome, option_map}
use Rattle.json_text.specs.Grammar.{Json}
use Rattle.json_text.specs.Nodes.{Document, IsNodeOf, value_at}
use Rattle.json_text.specs.Text.{member_of}
use Rattle.sdk_reply.specs.Operations.{Parts}
use Rattle.sdk_reply.specs.declared.op_members.OpMembers.{OpMembers}

-- what was found is the node of the last member of this name
abbrev pub IsMember : Document → Json → List ℕ → Option ℕ → Type 0
IsMember d j name found = IfSome found (IsNodeOf d) × (option_map (value_at d) found ≡ member_of j name)

-- the nodes are those of an object's members of these names
pub record AreMembers (d : Document) (j : Json) (members : OpMembers) : Type 0 where
  pub id : IsMember d j (codes "id") members.id
  pub op : IsMember d j (codes "op") members.op
  pub «data» : IsMember d j (codes "data") members.data
  pub error : IsMember d j (codes "error") members.error
  pub opts : IsMember d j (codes "opts") members.opts
  pub name : IsMember d j (codes "name") members.name

-- each of them is a node of the document
pub record AreThere (d : Document) (members : OpMembers) : Type 0 where
  pub id : IfSome members.id (IsNodeOf d)
  pub op : IfSome members.op (IsNodeOf d)
  pub «data» : IfSome members.«data» (IsNodeOf d)
  pub error : IfSome members.error (IsNodeOf d)
  pub opts : IfSome members.opts (IsNodeOf d)
  pub name : IfSome members.name (IsNodeOf d)

-- the values at them
abbrev pub parts_at : Document → OpMembers → Parts
parts_at d members = record {
  id = option_map (value_at d) members.id;
  op = option_map (value_at d) members.op;
  «data» = option_map (value_at d) members.«data»;
  error = option_map (value_at d) members.error;
  opts = option_map (value_at d) members.opts;
  name = option_map (value_at d) members.name;
}

-- a later member of a name takes the place of an earlier one
abbrev pub newer : Bool → ℕ → Option ℕ → Option ℕ
newer named value found = cond named (Some value) found

-- the same, with one more member behind them
abbrev pub with_member : OpMembers → List ℕ → ℕ → OpMembers
with_member members name value = record {
  id = newer (bytes_eq name (codes "id")) value members.id;
  op = newer (bytes_eq name (codes "op")) value members.op;
  «data» = newer (bytes_eq name (codes "data")) value members.data;
  error = newer (bytes_eq name (codes "error")) value members.error;
  opts = newer (bytes_eq name (codes "opts")) value members.opts;
  name = newer (bytes_eq name (codes "name")) value members.name;
}
