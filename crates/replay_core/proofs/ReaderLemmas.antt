-- Bytes that were read, and lines that are taken from them.
use Rattle.std.proofs.Common.{◌≡◌, ℕ, ◌+◌, ◌-◌, ◌<◌, ◌≤◌, ◌==◌, List, [], ◌++◌, length, take, drop, Some, None, refl, ap, ◌∙◌, sym, subst, append_assoc, arith, length-drop}
use Rattle.std.specs.List.{position, slice_range}
use Rattle.std.specs.Option.{option_map}
use Rattle.std.proofs.lemmas.List.{drop-drop, drop-take, length-take, take-append-drop}
use Rattle.rig.specs.Flow.{HasGiven, Incoming, given_more}
use Rattle.replay_core.specs.Pieces.{IsEnded, IsUnended, line_feed}
use Rattle.replay_core.specs.Reading.{ReadsOn}
use Rattle.replay_core.proofs.PiecesLemmas.{front-line, lines-open, open-append, open-none, place-within, unended-open}

-- what is unread behind the next n bytes
pub unread-behind : (items : List ℕ) (start end n : ℕ) → start + n ≤ end → slice_range items (start + n) end ≡ drop n (slice_range items start end)
unread-behind items start end n within =
    let left : end - start ≡ n + (end - (start + n)) = omega (arith, within) in
    ap (λ (t : List ℕ). take (end - (start + n)) t) (sym (drop-drop n start items))
    ∙ sym (drop-take n (end - (start + n)) (drop start items))
    ∙ ap (λ (count : ℕ). drop n (take count (drop start items))) (sym left)

unread-length : (items : List ℕ) (start end : ℕ) → start ≤ end → end ≤ length items → length (slice_range items start end) ≡ end - start
unread-length items start end h k = simp (length-take, length-drop) (omega (arith, h, k))

-- the bytes up to the end of the line were taken
pub moved-ended : (line taken items rest : List ℕ) (start end n : ℕ) → start + n ≤ end → taken ≡ line ++ take n (slice_range items start end) → rest ≡ slice_range items (start + n) end → taken ++ rest ≡ line ++ slice_range items start end
moved-ended line taken items rest start end n within t r =
    let unread : List ℕ = slice_range items start end in
    ap (λ (x : List ℕ). x ++ rest) t
    ∙ append_assoc line (take n unread) rest
    ∙ ap (λ (x : List ℕ). line ++ (take n unread ++ x)) (r ∙ unread-behind items start end n within)
    ∙ ap (λ (x : List ℕ). line ++ x) (take-append-drop n unread)

pub is-ended : (line taken unread : List ℕ) (place : ℕ) → IsUnended line → position (λ byte. byte == line_feed) unread ≡ Some place → taken ≡ line ++ take (place + 1) unread → IsEnded taken
is-ended line taken unread place unended found is =
    subst IsEnded (sym is) (front-line line unread (take (place + 1) unread) place (unended-open line unended) found refl)

pub fewer-unread : (items : List ℕ) (start end n : ℕ) → start + n ≤ end → 0 < n → end ≤ length items → length (slice_range items (start + n) end) < length (slice_range items start end)
fewer-unread items start end n within some fits =
    let old = unread-length items start end (omega (arith, within)) fits in
    let new = unread-length items (start + n) end within fits in
    omega (arith, old, new, within, some)

-- all that was unread was taken
pub none-unread : (items : List ℕ) (end : ℕ) → slice_range items end end ≡ []
none-unread items end = let none : end - end ≡ 0 = omega arith in rw none refl

pub is-unended : (line taken unread : List ℕ) → IsUnended line → position (λ byte. byte == line_feed) unread ≡ None → taken ≡ line ++ unread → IsUnended taken
is-unended line taken unread unended found is =
    subst IsUnended (sym is) (lines-open (line ++ unread) (open-append line unread (unended-open line unended) (open-none unread found)))

-- ## Reading

-- the unread bytes after a read of so many
unread-first : (items : List ℕ) (n : ℕ) → slice_range items 0 n ≡ take n items
unread-first items n = let same : n - 0 ≡ n = omega arith in rw same refl

pub has-read : (buffer unread : List ℕ) (n : ℕ) (old new : Incoming) → 0 < length buffer → HasGiven n buffer old new → unread ≡ slice_range buffer 0 n → ReadsOn unread old new
has-read buffer unread n old new some given is =
    let bytes : unread ≡ take n buffer = is ∙ unread-first buffer n in
    record {
      faults = ap (λ (i : Incoming). i.faults) given.moved;
      told = λ flow h.
          let front = given.told flow h in
          let same : unread ≡ take n flow.left = bytes ∙ front.front in (
            record {
              rest = drop n flow.left;
              left = sym (take-append-drop n flow.left) ∙ ap (λ (t : List ℕ). t ++ drop n flow.left) (sym same);
              flow = ap (λ (i : Incoming). i.flow) given.moved ∙ ap (option_map (given_more n)) h ∙ ap (λ (t : List ℕ). Some (record { given = flow.given ++ t; left = drop n flow.left })) (sym same);
            },
            λ none.
                let short : length (take n buffer) ≡ 0 = ap length (sym bytes ∙ none) in
                front.some some (count-none buffer n given.fits short),
          );
    }
  where
    count-none : (items : List ℕ) (m : ℕ) → m ≤ length items → length (take m items) ≡ 0 → m ≡ 0
    count-none items m fits short = let all : length (take m items) ≡ m = simp length-take (omega (arith, fits)) in omega (arith, all, short)

pub some-read : (buffer unread : List ℕ) (n : ℕ) → 0 < n → n ≤ length buffer → unread ≡ slice_range buffer 0 n → 0 < length unread
some-read buffer unread n some fits is =
    let all : length (take n buffer) ≡ n = simp length-take (omega (arith, fits)) in
    let same : length unread ≡ length (take n buffer) = ap length (is ∙ unread-first buffer n) in
    omega (arith, all, same, some)

pub none-read : (buffer unread : List ℕ) (n : ℕ) → n ≤ 0 → unread ≡ slice_range buffer 0 n → unread ≡ []
none-read buffer unread n none is =
    let zero : n ≡ 0 = omega (arith, none) in
    is ∙ unread-first buffer n ∙ ap (λ (m : ℕ). take m buffer) zero

-- ## Taking a line's bytes

-- the front of what is unread was added
pub front-taken : (line new items same : List ℕ) (start end n : ℕ) → same ≡ items → new ≡ line ++ take n (slice_range same start end) → new ≡ line ++ take n (slice_range items start end)
front-taken line new items same start end n is h = h ∙ ap (λ (xs : List ℕ). line ++ take n (slice_range xs start end)) is

pub found-within : (items same : List ℕ) (start end place : ℕ) → same ≡ items → start ≤ end → end ≤ length items → position (λ byte. byte == line_feed) (slice_range same start end) ≡ Some place → start + (place + 1) ≤ end
found-within items same start end place is h k found =
    let below = place-within (slice_range items start end) place (subst (λ (xs : List ℕ). position (λ byte. byte == line_feed) (slice_range xs start end) ≡ Some place) is found) in
    let size = unread-length items start end h k in
    omega (arith, below, size, h)
