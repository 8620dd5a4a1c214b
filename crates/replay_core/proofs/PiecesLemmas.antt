-- Lines of bytes that come in pieces.
use Rattle.std.proofs.Common.{◌≡◌, ℕ, ◌+◌, ◌==◌, Bool, true, false, cond, List, [], ◌∷◌, ◌++◌, length, refl, ap, ◌∙◌, sym, subst, ◌<◌, append_assoc, Some, None, take, drop, inl, inr, suc, not, nat_lt, ◌≤◌, add-one, arith}
use Rattle.std.specs.List.{AllByRecursion, position, position_or_len}
use Rattle.std.proofs.lemmas.Bool.{cases_lt}
use Rattle.std.proofs.lemmas.List.{take-append-drop}
use Rattle.std.proofs.lemmas.Option.{cond_some}
use Rattle.replay_core.specs.Pieces.{IsEnded, IsUnended, Lines, all_lines, begin_line, last_line, line_feed, lines_of}

-- the lines of bytes that go on behind such a last line
abbrev pub go_on : List (List ℕ) → Lines → Lines
go_on ended lines = record { ended = ended ++ lines.ended; last = lines.last }

-- a byte before lines that go on
begin-go_on : (byte : ℕ) (ended : List (List ℕ)) (last more : List ℕ) → (byte == line_feed) ≡ false
    → begin_line byte (ended ++ (lines_of (last ++ more)).ended) (lines_of (last ++ more)).last
    ≡ go_on (begin_line byte ended last).ended (lines_of ((begin_line byte ended last).last ++ more))
unfolding lines_of
begin-go_on byte [] last more h = rw h refl
begin-go_on byte (line ∷ ended) last more h = refl

-- More bytes go on from what follows the last ended line.
pub lines-append : (bytes more : List ℕ) → lines_of (bytes ++ more) ≡ go_on (lines_of bytes).ended (lines_of ((lines_of bytes).last ++ more))
unfolding lines_of
lines-append [] more = refl
lines-append (byte ∷ bytes) more =
    let P : Bool → Type 0 = λ b. (byte == line_feed) ≡ b → lines_of (byte ∷ (bytes ++ more)) ≡ go_on (lines_of (byte ∷ bytes)).ended (lines_of ((lines_of (byte ∷ bytes)).last ++ more)) in
    (elim (byte == line_feed) as P [
      | true ↦ λ h. rw h (rw (lines-append bytes more) refl)
      | false ↦ λ h. rw h (rw (lines-append bytes more) (begin-go_on byte (lines_of bytes).ended (lines_of bytes).last more h))
    ]) refl

-- no byte ends a line
abbrev pub IsOpen : List ℕ → Type 0
IsOpen bytes = AllByRecursion (λ byte. (byte == line_feed) ≡ false) bytes

pub lines-open : (bytes : List ℕ) → IsOpen bytes → lines_of bytes ≡ record { ended = []; last = bytes }
unfolding lines_of
lines-open [] h = refl
lines-open (byte ∷ bytes) h = rw (h.0, lines-open bytes h.1) refl

-- what follows the last ended line has no byte that ends one
pub open-last : (bytes : List ℕ) → IsOpen (lines_of bytes).last
unfolding lines_of
open-last [] = tt
open-last (byte ∷ bytes) =
    let P : Bool → Type 0 = λ b. (byte == line_feed) ≡ b → IsOpen (lines_of (byte ∷ bytes)).last in
    let Q : List (List ℕ) → Type 0 = λ ended. (byte == line_feed) ≡ false → IsOpen (begin_line byte ended (lines_of bytes).last).last in
    (elim (byte == line_feed) as P [
      | true ↦ λ h. rw h (open-last bytes)
      | false ↦ λ h. rw h ((elim ((lines_of bytes).ended) as Q [ [] ↦ λ k. (k, open-last bytes) | line ∷ ended ↦ λ k. open-last bytes ]) h)
    ]) refl

-- bytes without an end, and then one: a line
pub lines-ended : (bytes : List ℕ) → IsOpen bytes → lines_of (bytes ++ line_feed ∷ []) ≡ record { ended = (bytes ++ line_feed ∷ []) ∷ []; last = [] }
unfolding lines_of
lines-ended [] h = refl
lines-ended (byte ∷ bytes) h = rw (h.0, lines-ended bytes h.1) refl

pub open-append : (front back : List ℕ) → IsOpen front → IsOpen back → IsOpen (front ++ back)
open-append [] back h k = k
open-append (byte ∷ front) back h k = (h.0, open-append front back h.1 k)

-- a byte before the first line
begin-first : (byte : ℕ) (ended : List (List ℕ)) (last first : List ℕ) (lines : List (List ℕ)) → all_lines (record { ended = ended; last = last }) ≡ first ∷ lines → all_lines (begin_line byte ended last) ≡ (byte ∷ first) ∷ lines
begin-first byte [] [] first lines h = cc
begin-first byte [] (x ∷ xs) first lines h = cc
begin-first byte (line ∷ ended) last first lines h = cc

-- a byte before what may have no line
begin-alone : (byte : ℕ) (ended : List (List ℕ)) (last : List ℕ) → (behind : List ℕ) × (lines : List (List ℕ)) × (all_lines (begin_line byte ended last) ≡ (byte ∷ behind) ∷ lines)
begin-alone byte [] last = (last, [], refl)
begin-alone byte (line ∷ ended) last = (line, ended ++ last_line last, refl)

-- The first line of bytes that begin without an end begins with them.
pub first-line : (byte : ℕ) (bytes more : List ℕ) → IsOpen (byte ∷ bytes) → (behind : List ℕ) × (lines : List (List ℕ)) × (all_lines (lines_of ((byte ∷ bytes) ++ more)) ≡ (byte ∷ (bytes ++ behind)) ∷ lines)
unfolding lines_of
first-line byte [] more h = rw h.0 (begin-alone byte (lines_of more).ended (lines_of more).last)
first-line byte (next ∷ bytes) more h =
    let later = first-line next bytes more h.1 in
    rw h.0 (later.0, later.1, begin-first byte (lines_of ((next ∷ bytes) ++ more)).ended (lines_of ((next ∷ bytes) ++ more)).last _ _ later.2)

-- a line that is ended has a byte
pub line-some : (line : List ℕ) → lines_of line ≡ record { ended = line ∷ []; last = [] } → 0 < length line
unfolding lines_of
line-some [] is = let wrong = ap (λ (lines : Lines). lines.ended) is in cc
line-some (byte ∷ bytes) is = grind arith

-- where no byte up to the end of a text ends a line
past : (text : List ℕ) → length text ≤ position_or_len (λ byte. byte == line_feed) text → IsOpen text
past [] = λ h. tt
past (byte ∷ text) =
    let P : Bool → Type 0 = λ b. (byte == line_feed) ≡ b → length (byte ∷ text) ≤ cond (not b) (1 + position_or_len (λ byte. byte == line_feed) text) 0 → IsOpen (byte ∷ text) in
    (elim (byte == line_feed) as P [
      | true ↦ λ is h. absurd (omega (arith, h))
      | false ↦ λ is h. (is, past text (omega (arith, h)))
    ]) refl

-- so many bytes have no end of a line, and the next one is it
abbrev EndsAt : List ℕ → ℕ → Type 0
EndsAt text n = IsOpen (take n text) × (take (n + 1) text ≡ take n text ++ line_feed ∷ [])

ends-at : (text : List ℕ) → position_or_len (λ byte. byte == line_feed) text < length text → EndsAt text (position_or_len (λ byte. byte == line_feed) text)
ends-at [] = λ h. absurd (omega (arith, h))
ends-at (byte ∷ text) =
    let n = position_or_len (λ byte. byte == line_feed) text in
    let P : Bool → Type 0 = λ b. (byte == line_feed) ≡ b → cond (not b) (1 + n) 0 < length (byte ∷ text) → EndsAt (byte ∷ text) (cond (not b) (1 + n) 0) in
    (elim (byte == line_feed) as P [
      | true ↦ λ is h. let same : byte ≡ line_feed = grind (arith, is) in (tt, ap (λ (b : ℕ). b ∷ []) same)
      | false ↦ λ is h.
          let later = ends-at text (omega (arith, h)) in
          let more : suc n ≡ 1 + n = omega arith in
          subst (EndsAt (byte ∷ text)) more ((is, later.0), rw add-one (ap (λ (t : List ℕ). byte ∷ t) (rw add-one at later.1)))
    ]) refl

-- no place is found only where there is none below the length
none-past : (place size : ℕ) → cond (nat_lt place size) (Some place) None ≡ None → size ≤ place
none-past place size h =
    elim (cases_lt place size) as (λ _. size ≤ place) [
      | inl below ↦ let found : nat_lt place size ≡ true = grind (arith, below) in let wrong : Some place ≡ None = (rw found at h) in absurd (cc)
      | inr past ↦ past
    ]

pub open-none : (text : List ℕ) → position (λ byte. byte == line_feed) text ≡ None → IsOpen text
open-none text h = past text (none-past (position_or_len (λ byte. byte == line_feed) text) (length text) h)

pub place-within : (text : List ℕ) (place : ℕ) → position (λ byte. byte == line_feed) text ≡ Some place → place < length text
place-within text place h =
    let found = cond_some (nat_lt (position_or_len (λ byte. byte == line_feed) text) (length text)) _ place h in
    let within : position_or_len (λ byte. byte == line_feed) text < length text = grind (arith, found.0) in
    subst (λ (n : ℕ). n < length text) found.1 within

-- the front of a text up to the first byte that ends a line
pub front-open : (text : List ℕ) (place : ℕ) → position (λ byte. byte == line_feed) text ≡ Some place → EndsAt text place
front-open text place h =
    let found = cond_some (nat_lt (position_or_len (λ byte. byte == line_feed) text) (length text)) _ place h in
    let within : position_or_len (λ byte. byte == line_feed) text < length text = grind (arith, found.0) in
    subst (EndsAt text) found.1 (ends-at text within)

-- what is pending and the front of new bytes up to the first end of a line are one line
pub front-line : (pending rest front : List ℕ) (place : ℕ) → IsOpen pending → position (λ byte. byte == line_feed) rest ≡ Some place → front ≡ take (place + 1) rest → lines_of (pending ++ front) ≡ record { ended = (pending ++ front) ∷ []; last = [] }
front-line pending rest front place open_pending found is =
    let parts = front-open rest place found in
    let whole : (pending ++ take place rest) ++ line_feed ∷ [] ≡ pending ++ front = append_assoc pending (take place rest) (line_feed ∷ []) ∙ ap (λ t. pending ++ t) (sym parts.1 ∙ sym is) in
    subst (λ (line : List ℕ). lines_of line ≡ record { ended = line ∷ []; last = [] }) whole (lines-ended (pending ++ take place rest) (open-append pending (take place rest) open_pending parts.0))

-- a text that was split, put together
pub split-join : (text front behind : List ℕ) (place : ℕ) → front ≡ take place text → behind ≡ drop place text → front ++ behind ≡ text
split-join text front behind place f b = rw (f, b) (take-append-drop place text)

-- ## Lines that are whole

-- More bytes go on from bytes of which each line is ended.
pub lines-whole : (bytes more : List ℕ) → (lines_of bytes).last ≡ [] → lines_of (bytes ++ more) ≡ go_on (lines_of bytes).ended (lines_of more)
lines-whole bytes more h = lines-append bytes more ∙ ap (λ (last : List ℕ). go_on (lines_of bytes).ended (lines_of (last ++ more))) h

pub all-whole : (bytes more : List ℕ) → (lines_of bytes).last ≡ [] → all_lines (lines_of (bytes ++ more)) ≡ (lines_of bytes).ended ++ all_lines (lines_of more)
all-whole bytes more h = ap all_lines (lines-whole bytes more h) ∙ append_assoc (lines_of bytes).ended (lines_of more).ended (last_line (lines_of more).last)

-- one line, and what follows it
pub ended-lines : (line more : List ℕ) → IsEnded line → all_lines (lines_of (line ++ more)) ≡ line ∷ all_lines (lines_of more)
ended-lines line more ended =
    all-whole line more (ap (λ (lines : Lines). lines.last) ended)
    ∙ ap (λ (lines : Lines). lines.ended ++ all_lines (lines_of more)) ended

pub unended-open : (line : List ℕ) → IsUnended line → IsOpen line
unended-open line unended = subst IsOpen (ap (λ (lines : Lines). lines.last) unended) (open-last line)
