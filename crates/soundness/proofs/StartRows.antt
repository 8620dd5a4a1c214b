-- The starts of an example: two at once and the third half a minute later, where two a minute are let. An entry that
-- tells nothing of later starts is gone.
use Rattle.std.proofs.Common.{◌≡◌, List, [], ◌∷◌, codes, Some, None, refl}
use Rattle.kinds.specs.Cells.{greatest_of}
use Rattle.kinds.specs.Limits.{shipped}
use Rattle.kinds.specs.declared.cell.Cell.{Cell}
use Rattle.kinds.specs.declared.cell.Cell.TheVariants.{Throttle}
use Rattle.kinds.specs.declared.event.EventIn.{EventIn}
use Rattle.kinds.specs.declared.function.Function.{Function}
use Rattle.kinds.specs.declared.input.Input.{Input}
use Rattle.kinds.specs.declared.input.Input.TheVariants.{Events, Register, Tick}
use Rattle.run_model.specs.Machine.{fold}
use Rattle.run_model.proofs.Rows.{machine_computes}
use Rattle.soundness.specs.Starts.{made_by, starts}

two_a_minute : Function
two_a_minute = record {
  id = codes "a-f";
  triggers = (record { event = codes "x"; cond = None }) ∷ [];
  host = codes "127.0.0.1";
  port = 9;
  path = codes "/api";
  query = codes "fnId=a-f&stepId=step";
  retries = 4;
  limits = [];
  throttle = Some (record { limit = 2; period = 60000; burst = 2; key = None });
  debounce = None;
  batch = None;
  priority = None;
  cancels = [];
}

event : EventIn
event = record { name = codes "x"; content = codes "{}"; id = None; ts = None; user = None; v = None }

three : List Input
three =
    Register 0 (record { name = codes "a"; functions = two_a_minute ∷ [] })
    ∷ Events 5 (event ∷ event ∷ event ∷ [])
    ∷ Tick 30004
    ∷ Tick 30005
    ∷ []

cell : Cell
cell = Throttle (codes "a-f") 2 60000 2 None []

row-starts : starts shipped three cell ≡ 5 ∷ 5 ∷ 30005 ∷ []
unfolding machine_computes made_by two_a_minute event three cell
row-starts = refl

one : List Input
one =
    Register 0 (record { name = codes "a"; functions = two_a_minute ∷ [] })
    ∷ Events 5 (event ∷ [])
    ∷ Tick 30005
    ∷ []

row-gone : (fold shipped one).starts ≡ []
unfolding machine_computes two_a_minute event one
row-gone = refl

row-greatest : greatest_of cell (starts shipped one cell) ≡ 30005
unfolding machine_computes made_by two_a_minute event one cell
row-greatest = refl
