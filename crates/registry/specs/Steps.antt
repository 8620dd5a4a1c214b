-- How an application is called: the one step of each function, its URL (URL Standard) and its retries.
use Rattle.std.specs.Prelude.{ℕ, ◌&&◌, nat_le, if◌then◌else◌, Bool, not, List, [], length, codes, bytes_eq, unwrap_or, Option, Some, None, option_map, option_and_then, Result, Ok, Err}
use Rattle.serde_json.specs.Data.{Data}
use Rattle.serde_json.specs.Find.{as_str}
use Rattle.url.specs.Host.{host_text}
use Rattle.url.specs.Parser.{Parsed, parse_url}
use Rattle.url.specs.Parts.{Parts, has_credentials, nonempty_host, serialize}
use Rattle.registry.specs.declared.address.Address.{Address}
use Rattle.registry.specs.declared.flaw.Flaw.{Flaw}
use Rattle.registry.specs.declared.flaw.Flaw.TheVariants.{Url, HttpsUrl, Retries}
use Rattle.registry.specs.Members.{found_or, is_object, part, whole}

-- the member `step` of the member `steps`
abbrev pub step_in : Data → Option Data
step_in d = option_and_then (part (codes "step")) (part (codes "steps") d)

-- ## The URL

-- the greatest length of a URL as it is written, its fragment with it
abbrev pub most_bytes : ℕ
most_bytes = 2048

-- the port of an `http` URL that names none
abbrev pub default_port : ℕ
default_port = 80

abbrev pub is_callable : Parts → Bool
is_callable u =
    bytes_eq u.scheme (codes "http") && not (has_credentials u)
    && nat_le (length (serialize u)) most_bytes

-- where calls go; the fragment is dropped
abbrev pub address_with : Parts → List ℕ → Address
address_with u host = record {
  host = host;
  port = unwrap_or u.port default_port;
  path = u.path;
  query = unwrap_or u.query [];
}

abbrev pub address_of : Parts → Option (List ℕ) → Result Address Flaw
address_of u None = Err Url
address_of u (Some host) = if is_callable u then Ok (address_with u host) else Err Url

abbrev pub callable : Parts → Result Address Flaw
callable u =
    if bytes_eq u.scheme (codes "https") then Err HttpsUrl
    else address_of u (option_map host_text (nonempty_host u))

abbrev pub of_parsed : Parsed Parts → Result Address Flaw
of_parsed (Ok u) = callable u
of_parsed (Err fault) = Err Url

abbrev pub text_address : Option (List ℕ) → Result Address Flaw
text_address None = Err Url
text_address (Some text) = of_parsed (parse_url None text)

abbrev pub url_in : Option Data → Option (List ℕ)
url_in step =
    option_and_then as_str
    (option_and_then (part (codes "url")) (option_and_then (part (codes "runtime")) step))

-- the address that `steps.step.runtime.url` names
unfoldable pub address_in : Data → Result Address Flaw
address_in d = text_address (url_in (step_in d))

-- ## Retries

-- after the first attempt
abbrev pub default_retries : ℕ
default_retries = 4

abbrev pub most_retries : ℕ
most_retries = 20

abbrev pub attempts_of : Option Data → Result ℕ Flaw
attempts_of None = Ok default_retries
attempts_of (Some attempts) = found_or Retries (whole 0 most_retries attempts)

abbrev pub retries_of : Option Data → Result ℕ Flaw
retries_of None = Ok default_retries
retries_of (Some retries) =
    if is_object retries then attempts_of (part (codes "attempts") retries) else Err Retries

abbrev pub retries_member : Data → Option Data
retries_member d = option_and_then (part (codes "retries")) (step_in d)

-- the retries that `steps.step.retries.attempts` asks for
unfoldable pub retries_in : Data → Result ℕ Flaw
retries_in d = retries_of (retries_member d)
