-- The value that `serde_json` reads of a body.
use Rattle.std.proofs.Common.{◌≡◌, ℕ, List, Bool, true, false, Some, None, if◌then◌else◌, refl}
use Rattle.std.proofs.lemmas.Str.{IsUtf8-from_is_utf8, is_utf8-from_IsUtf8}
use Rattle.std.specs.Str.{IsUtf8, is_utf8}
use Rattle.serde_json.specs.Data.{Data}
use Rattle.serde_json.specs.Read.{read}
use Rattle.registry.specs.Apps.{value_of}

pub some_value : (body : List ℕ) (d : Data) → IsUtf8 body → read body ≡ Some d → value_of body ≡ Some d
some_value body d utf8 reads = rw (is_utf8-from_IsUtf8 body utf8) reads

at_test : (body : List ℕ) (test : Bool) → is_utf8 body ≡ test → (IsUtf8 body → read body ≡ None) → (if test then read body else None) ≡ None
at_test body true is none = none (IsUtf8-from_is_utf8 body is)
at_test body false is none = refl

pub no_value : (body : List ℕ) → (IsUtf8 body → read body ≡ None) → value_of body ≡ None
no_value body none = at_test body (is_utf8 body) refl none
