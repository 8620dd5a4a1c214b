-- The current functions, and what a registration makes of them.
use Rattle.std.specs.Prelude.{◌≡◌, ℕ, ◌+◌, ◌==◌, Bool, not, ◌&&◌, List, [], ◌∷◌, ◌++◌, map, filter, length, if◌then◌else◌, nat_eq, bytes_eq}
use Rattle.std.specs.List.{list_any}
use Rattle.std.specs.Cmp.Lexicographic.{pointwise}
use Rattle.kinds.specs.contracts.function.FunctionPartialEq.TheImpl as function_equality
use Rattle.kinds.specs.declared.function.App.{App}
use Rattle.kinds.specs.declared.function.Function.{Function}
use Rattle.functions.specs.declared.entry.FunctionEntry.{FunctionEntry}

-- all members are the same
unfoldable pub same : Function → Function → Bool
same = function_equality.ghosts.eq

abbrev pub version_of : FunctionEntry → ℕ
version_of entry = entry.version

-- ---- what stays

-- the registration has a function of this id
abbrev pub is_named : List Function → FunctionEntry → Bool
is_named functions entry = list_any (λ (f : Function). bytes_eq f.id entry.function.id) functions

-- the registration has this very function again
abbrev pub is_again : List Function → FunctionEntry → Bool
is_again functions entry = list_any (λ f. same f entry.function) functions

-- Of the application's own functions those stay that it has again, and of other applications' those whose id it
-- doesn't take over.
abbrev pub stays : App → FunctionEntry → Bool
stays app entry =
    if bytes_eq entry.app app.name then is_again app.functions entry
    else not (is_named app.functions entry)

-- ---- what is new

-- the application's very function is one of these
abbrev pub is_known : List ℕ → List FunctionEntry → Function → Bool
is_known name entries f =
    list_any (λ (e : FunctionEntry). bytes_eq e.app name && same f e.function) entries

-- the functions that none of those that stay is, in order
abbrev pub new_beside : List FunctionEntry → List ℕ → List Function → List Function
new_beside kept name functions = filter (λ f. not (is_known name kept f)) functions

abbrev pub new_in : App → List FunctionEntry → List Function
new_in app entries = new_beside (filter (stays app) entries) app.name app.functions

-- each function takes the next version
abbrev pub numbered : List ℕ → ℕ → List Function → List FunctionEntry
numbered name versions [] = []
numbered name versions (f ∷ fs) =
    record { version = versions + 1; app = name; function = f } ∷ numbered name (versions + 1) fs

-- the function takes a new version
abbrev pub is_new : App → List FunctionEntry → Function → Bool
is_new app entries f = not (is_known app.name (filter (stays app) entries) f)

-- an entry that stays, and is this function of the application
abbrev pub stands_for : App → Function → FunctionEntry → Bool
stands_for app f e = stays app e && (bytes_eq e.app app.name && same f e.function)

-- ---- all of it

-- the current functions after a registration, where so many versions were given before
unfoldable pub registered : App → ℕ → List FunctionEntry → List FunctionEntry
registered app versions entries =
    filter (stays app) entries ++ numbered app.name versions (new_in app entries)

-- how many there are then
abbrev pub current_after : App → List FunctionEntry → ℕ
current_after app entries = length (filter (stays app) entries) + length (new_in app entries)

-- Another list of current functions: a version is of one function, so the versions tell.
abbrev pub is_modified : List FunctionEntry → List FunctionEntry → Bool
is_modified before after = not (pointwise nat_eq (map version_of before) (map version_of after))
