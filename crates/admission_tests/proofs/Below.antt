-- Calls whose numbers are below one.
use Rattle.std.specs.Prelude.{ℕ, ◌<◌, List}
use Rattle.std.specs.List.{AllByRecursion}
use Rattle.admission.specs.declared.issue.Issue.{Issue}

abbrev pub AreBelow : ℕ → List Issue → Type 0
AreBelow n issues = AllByRecursion (λ (i : Issue). i.call < n) issues
