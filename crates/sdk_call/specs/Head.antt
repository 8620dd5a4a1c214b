-- The head of a call, an HTTP/1.1 request (RFC 9112, sections 2.1, 3 and 5).
use Rattle.std.specs.Borrow.{Bor}
use Rattle.std.specs.Prelude.{ℕ, ◌==◌, ◌++◌, List, [], Option, Some, None, codes, decimal, if◌then◌else◌, option_map}

-- The port stands behind the host where it isn't the one of http.
abbrev pub host_line : List ℕ → ℕ → List ℕ
host_line host port = host ++ (if port == 80 then [] else codes ":" ++ decimal port)

abbrev pub signature_line : Option (List ℕ) → List ℕ
signature_line None = []
signature_line (Some signature) = codes "X-Inngest-Signature: " ++ signature ++ codes "\r\n"

-- what a field holds, where there is one
abbrev pub held : Option (Bor (List ℕ)) → Option (List ℕ)
held field = option_map (λ s. s.now) field

abbrev pub head : List ℕ → ℕ → List ℕ → ℕ → Option (List ℕ) → List ℕ
head host port path length signature =
    codes "POST " ++ path ++ codes " HTTP/1.1\r\nHost: " ++ host_line host port
    ++ codes "\r\nContent-Type: application/json\r\nContent-Length: " ++ decimal length
    ++ codes "\r\nConnection: close\r\n" ++ signature_line signature ++ codes "\r\n"
