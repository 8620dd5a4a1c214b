-- The line that tells of the generator's inputs, with its numbers.
use Rattle.std.specs.Prelude.{ℕ, ◌≡◌, ◌+◌, ◌*◌, List, ◌++◌, codes, decimal}
use Rattle.hex.specs.Hex.{encode_lower}
use Rattle.sha1.specs.Sha1.{sha1}
use Rattle.replay_core.specs.Generator.{summary}
use Rattle.replay_core.specs.Replay.{Finished}

abbrev pub known_line : ℕ → List ℕ → List ℕ
known_line n text =
    codes "gen " ++ decimal n
    ++ codes " inputs=" ++ decimal (3 * n + 1)
    ++ codes " calls=" ++ decimal (2 * n)
    ++ codes " runs=" ++ decimal n
    ++ codes " live=" ++ decimal 0
    ++ codes " sha1=" ++ encode_lower (sha1 text) ++ codes "\n"

-- all inputs are taken, and the line is this one, of what they print
abbrev pub IsKnownLine : ℕ → Type 0
IsKnownLine n = (text : List ℕ) × (summary n ≡ record { text = known_line n text; ending = Finished })
