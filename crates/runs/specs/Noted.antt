-- What the steps of a run answer, with the steps put back.
use Rattle.std.specs.Prelude.{◌≡◌}
use Rattle.run_state.specs.declared.active.Noted.{Noted}
use Rattle.run_state.specs.declared.active.Noted.TheVariants as noted
use Rattle.runs.specs.declared.naming.Naming.{Naming}
use Rattle.runs.specs.declared.naming.Naming.TheVariants as naming

-- the name's case is that of the steps' answer
abbrev pub Tells : Noted → Naming → Type 0
Tells (noted.New s) n = n ≡ naming.New
Tells (noted.Known s) n = n ≡ naming.Known
Tells (noted.Full s) n = n ≡ naming.Full
Tells (noted.Memory s) n = ⊥

abbrev pub IsStarved : Noted → Type 0
IsStarved (noted.New s) = ⊥
IsStarved (noted.Known s) = ⊥
IsStarved (noted.Full s) = ⊥
IsStarved (noted.Memory s) = Unit {0}
