-- What a whole text is read as: its value, or the place of its fault. The same as the grammar, as a
-- function of the bytes.
use Rattle.std.specs.Prelude.{ℕ, ◌+◌, cond, nat_le, List, [], ◌∷◌, length, Option, Some, None, Result, Ok, Err}
use Rattle.json_text.specs.Grammar.{Json}
use Rattle.json_text.specs.Automaton.{State, step, start, value_of}
use Rattle.json_text.specs.Nodes.{Document}
use Rattle.json_text.specs.declared.fault.JsonFault.{JsonFault}
use Rattle.json_text.specs.declared.fault.JsonFault.TheVariants.{NotJson, TooDeep}

-- the text ends here
abbrev pub end_at : ℕ → Option Json → Result Json JsonFault
end_at at None = Err (NotJson at)
end_at at (Some j) = Ok j

-- the state behind the byte at this place, from which the rest is read
abbrev pub go_on : ℕ → Option State → (State → Result Json JsonFault) → Result Json JsonFault
go_on at None rest = Err (NotJson at)
go_on at (Some s) rest = cond (nat_le (length s.below) 64) (rest s) (Err (TooDeep at))

unfoldable pub read_from : ℕ → List ℕ → State → Result Json JsonFault
read_from at [] s = end_at at (value_of s)
read_from at (b ∷ bs) s = go_on at (step s b) (λ t. read_from (at + 1) bs t)

abbrev pub read_text : List ℕ → Result Json JsonFault
read_text w = read_from 0 w start

-- the value of the tree that was read, or the fault
abbrev pub value_read : Result Document JsonFault → Result Json JsonFault
value_read (Ok tree) = Ok tree.value
value_read (Err fault) = Err fault
