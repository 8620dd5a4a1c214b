-- How long the texts of a call are at most.
use Rattle.std.proofs.Common.{◌≡◌, ℕ, ◌+◌, ◌^◌, ◌<◌, ◌≤◌, ◌==◌, Bool, true, false, cond, List, [], ◌∷◌, ◌++◌, length, length-append, map, refl, ap, ◌∙◌, sym, arith, take, get_or, if◌then◌else◌, suc, zero, codes, decimal, Option, Some, None}
use Rattle.std.specs.List.{join_with_byte, filter}
use Rattle.std.proofs.lemmas.Fmt.{length-decimal-le}
use Rattle.kinds.specs.declared.store.StepEntry.{StepEntry}
use Rattle.sdk_call.specs.Body.{call_body, call_path, context, first_of, parted, step_member}
use Rattle.sdk_call.specs.Head.{head, host_line, signature_line}
use Rattle.sdk_call.specs.Query.{call_query, cut_at, ended, in_front, is_kept, pieces}
use Rattle.sdk_call.proofs.Parted.{parted-more}
use Rattle.sdk_call.proofs.Pieces.{two-more}

-- one text more, and a comma
separator : (i : ℕ) → length {A = ℕ} (if i == 0 then [] else 44 ∷ []) ≤ 1
separator i = by_test (i == 0)
  where
    by_test : (b : Bool) → length {A = ℕ} (cond b [] (44 ∷ [])) ≤ 1
    by_test true = omega arith
    by_test false = omega arith

pub parted-room : {X : Type 0} (f : X → List ℕ) (xs : List X) (i room more : ℕ) (d : X) → i < length xs → length (parted (map f (take i xs))) ≤ room → length (f (get_or xs i d)) + 1 ≤ more
    → length (parted (map f (take (i + 1) xs))) ≤ room + more
parted-room f xs i room more d h r m =
    let e = ap length (parted-more f xs i d h) in
    let a = length-append (parted (map f (take i xs)) ++ (if i == 0 then [] else 44 ∷ [])) (f (get_or xs i d)) in
    let b = length-append (parted (map f (take i xs))) (if i == 0 then [] else 44 ∷ []) in
    omega (arith, e, a, b, separator i, r, m)

-- ---- the query

ended-filter : (ps : List (List ℕ)) → length (ended (filter is_kept ps)) ≤ length (ended ps)
ended-filter [] = omega arith
ended-filter (p ∷ ps) = by_test (is_kept p) (ended-filter ps)
  where
    by_test : (b : Bool) → length (ended (filter is_kept ps)) ≤ length (ended ps) → length (ended (cond b (p ∷ filter is_kept ps) (filter is_kept ps))) ≤ length (p ++ 38 ∷ ended ps)
    by_test true h = omega (arith, length-append p (38 ∷ ended (filter is_kept ps)), length-append p (38 ∷ ended ps), h)
    by_test false h = omega (arith, length-append p (38 ∷ ended ps), h)

ended-front : (x : ℕ) (ps : List (List ℕ)) → 0 < length (ended ps) → length (ended (in_front x ps)) ≡ suc (length (ended ps))
ended-front x [] h = absurd (omega arith)
ended-front x (p ∷ ps) h = refl

ended-cut : (xs : List ℕ) → length (ended (cut_at 38 xs)) ≡ suc (length xs)
ended-cut [] = refl
ended-cut (x ∷ xs) = by_test (x == 38) (ended-cut xs)
  where
    by_test : (b : Bool) → length (ended (cut_at 38 xs)) ≡ suc (length xs) → length (ended (cond b ([] ∷ cut_at 38 xs) (in_front x (cut_at 38 xs)))) ≡ suc (suc (length xs))
    by_test true h = ap suc h
    by_test false h = ended-front x (cut_at 38 xs) (omega (arith, h)) ∙ ap suc h

ended-pieces : (query : List ℕ) → length (ended (pieces query)) ≤ suc (length query)
ended-pieces [] = omega arith
ended-pieces (x ∷ xs) = let e = ended-cut (x ∷ xs) in omega (arith, e)

path-with : (path mark kept front id behind target query : List ℕ) → query ≡ kept ++ (front ++ id) ++ 38 ∷ (behind ++ target)
    → length ((path ++ mark) ++ query) ≡ length path + length mark + length kept + length front + length id + length behind + length target + 1
path-with path mark kept front id behind target query e =
    let q = ap length e in
    omega (
      arith,
      q,
      length-append (path ++ mark) query,
      length-append path mark,
      length-append (kept ++ (front ++ id)) (38 ∷ (behind ++ target)),
      length-append kept (front ++ id),
      length-append front id,
      length-append behind target,
    )

pub path-room : (path query id target : List ℕ) → length (call_path path query id target) ≤ length path + length query + length id + length target + 15
path-room path query id target =
    let kept : List ℕ = ended (filter is_kept (pieces query)) in
    let e = path-with path (codes "?") kept (codes "fnId=") id (codes "stepId=") target (call_query query id target) (two-more (filter is_kept (pieces query)) (codes "fnId=" ++ id) (codes "stepId=" ++ target)) in
    let n = ended-filter (pieces query) in
    let m = ended-pieces query in
    omega (arith, e, n, m)

-- ---- the body

seven-length : (a b c d e f g : List ℕ) → length ((((((a ++ b) ++ c) ++ d) ++ e) ++ f) ++ g) ≡ length a + length b + length c + length d + length e + length f + length g
seven-length a b c d e f g =
    omega (
      arith,
      length-append (((((a ++ b) ++ c) ++ d) ++ e) ++ f) g,
      length-append ((((a ++ b) ++ c) ++ d) ++ e) f,
      length-append (((a ++ b) ++ c) ++ d) e,
      length-append ((a ++ b) ++ c) d,
      length-append (a ++ b) c,
      length-append a b,
    )

nine-length : (a b c d e f g h i : List ℕ)
    → length ((((((((a ++ b) ++ c) ++ d) ++ e) ++ f) ++ g) ++ h) ++ i) ≡ length a + length b + length c + length d + length e + length f + length g + length h + length i
nine-length a b c d e f g h i =
    omega (arith, seven-length a b c d e f g, length-append (((((((a ++ b) ++ c) ++ d) ++ e) ++ f) ++ g) ++ h) i, length-append ((((((a ++ b) ++ c) ++ d) ++ e) ++ f) ++ g) h)

truth-length : (planned : Bool) → length (if planned then codes "true" else codes "false") ≤ 5
truth-length true = omega arith
truth-length false = omega arith

pub context-room : (run_id : List ℕ) (attempt : ℕ) (planned : Bool) → attempt < 256 → length (context run_id attempt planned) ≤ length run_id + 79
context-room run_id attempt planned h =
    let s = seven-length (codes "{\"run_id\":\"") run_id (codes "\",\"attempt\":") (decimal attempt) (codes ",\"disable_immediate_execution\":") (if planned then codes "true" else codes "false") (codes ",\"use_api\":false}") in
    let d = length-decimal-le 3 attempt (omega arith) (omega (arith, h)) (omega (arith, h)) in
    omega (arith, s, d, truth-length planned)

pub body-room : (run_id : List ℕ) (attempt : ℕ) (planned : Bool) (events : List (List ℕ)) (steps : List StepEntry) (front first many few : ℕ)
    → length (context run_id attempt planned) ≤ front → first ≡ length (first_of events) → length (parted events) ≤ many → length (parted (map step_member steps)) ≤ few
    → length (call_body run_id attempt planned events steps) ≤ many + first + few + front + 56
body-room run_id attempt planned events steps front first many few a b c d =
    let n = nine-length (codes "{\"ctx\":") (context run_id attempt planned) (codes ",\"event\":") (first_of events) (codes ",\"events\":[") (parted events) (codes "],\"steps\":{") (parted (map step_member steps)) (codes "},\"use_api\":false}") in
    omega (arith, n, a, b, c, d)

-- ---- the head

host-room : (host : List ℕ) (port : ℕ) → port < 2 ^ 16 → length (host_line host port) ≤ length host + 6
host-room host port h = by_test (port == 80) (length-decimal-le 5 port (omega arith) (omega (arith, h)) (omega (arith, h)))
  where
    by_test : (b : Bool) → length (decimal port) ≤ 5 → length (host ++ cond b [] (codes ":" ++ decimal port)) ≤ length host + 6
    by_test true d = omega (arith, length-append host [])
    by_test false d = omega (arith, length-append host (codes ":" ++ decimal port))

pub head-room : (host : List ℕ) (port : ℕ) (path : List ℕ) (size : ℕ) (signature : Option (List ℕ)) (signed : ℕ) → port < 2 ^ 16 → size < 2 ^ 64 → length (signature_line signature) ≤ signed
    → length (head host port path size signature) ≤ length host + length path + signed + 121
head-room host port path size signature signed p s h =
    let n = nine-length (codes "POST ") path (codes " HTTP/1.1\r\nHost: ") (host_line host port) (codes "\r\nContent-Type: application/json\r\nContent-Length: ") (decimal size) (codes "\r\nConnection: close\r\n") (signature_line signature) (codes "\r\n") in
    let d = length-decimal-le 20 size (omega arith) (omega (arith, s)) s in
    omega (arith, n, d, host-room host port p, h)
