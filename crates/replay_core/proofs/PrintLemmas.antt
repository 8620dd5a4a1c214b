-- The ids of a brief call, one more at a time.
use Rattle.std.proofs.Common.{◌≡◌, ℕ, ◌+◌, ◌<◌, ◌==◌, List, [], ◌∷◌, ◌++◌, length, map, refl, ap, ◌∙◌, arith, take, get_or, if◌then◌else◌, suc, zero}
use Rattle.std.proofs.lemmas.List.{map_more}
use Rattle.std.specs.List.{join_with_byte}
use Rattle.kinds.proofs.AnswerLemmas.{before, join-last}
use Rattle.replay_core.specs.Replay.{event_id, ids_text}

before-ids : (i : ℕ) (ns : List ℕ) → i < length ns → before 44 (map event_id (take i ns)) ≡ (if i == 0 then [] else 44 ∷ [])
before-ids zero ns h = refl
before-ids (suc i) [] h = grind arith
before-ids (suc i) (n ∷ ns) h = grind arith

-- the ids up to one more
pub ids-more : (ns : List ℕ) (i : ℕ) → i < length ns → ids_text (take (i + 1) ns) ≡ (ids_text (take i ns) ++ (if i == 0 then [] else 44 ∷ [])) ++ event_id (get_or ns i 0)
ids-more ns i h =
    ap (join_with_byte 44) (map_more event_id ns i 0 h)
    ∙ join-last 44 (map event_id (take i ns)) (event_id (get_or ns i 0))
    ∙ ap (λ text. (join_with_byte 44 (map event_id (take i ns)) ++ text) ++ event_id (get_or ns i 0)) (before-ids i ns h)
