-- Open calls: how cells count them, and which of their limits is reached first.
use Rattle.std.specs.Prelude.{ℕ, ◌+◌, ◌==◌, nat_lt, Bool, not, ◌&&◌, ◌||◌, if◌then◌else◌}
use Rattle.std.specs.Prelude.{List, [], ◌∷◌, filter, map, Option, Some, None}
use Rattle.std.specs.List.{list_any}
use Rattle.std.specs.List.Sorted.{IsStrictlySortedBy}
use Rattle.std.specs.Ordering.{nat_cmp}
use Rattle.kinds.specs.declared.cell.IssueEntry.{IssueEntry}
use Rattle.kinds.specs.declared.store.Item.{Item}
use Rattle.admission.specs.declared.issue.CallLimit.{CallLimit}
use Rattle.admission.specs.declared.issue.Issue.{Issue}
use Rattle.admission.specs.Items.{is_item_of}

abbrev pub call_of : Issue → ℕ
call_of i = i.call

-- in order of number, each number once
abbrev pub AreInOrder : List Issue → Type 0
AreInOrder issues = IsStrictlySortedBy nat_cmp (map call_of issues)

abbrev pub has_call : ℕ → Issue → Bool
has_call call i = call == i.call

abbrev pub without_call : ℕ → List Issue → List Issue
without_call call issues = filter (λ i. not (has_call call i)) issues

-- an open call as cells count it
abbrev pub in_cells : Issue → IssueEntry
in_cells i = record { issue = i.call; cells = i.item.cells }

abbrev pub is_issue_of : ℕ → List ℕ → Issue → Bool
is_issue_of run target i = is_item_of run target i.item

abbrev pub has_open_call : List Issue → ℕ → Bool
has_open_call issues run = list_any (λ (i : Issue). run == i.item.run) issues

-- how long a call may be open, in milliseconds
abbrev pub longest_call : ℕ
longest_call = 7200000

-- an item whose call is made at a moment, and no start is needed to make it again
abbrev pub issued : Item → ℕ → ℕ → ℕ → Issue
issued i call limit moment = record {
  call = call;
  item = record i { start = None };
  limit = limit;
  due = moment + longest_call;
}

-- ## Limits

abbrev pub limit_of : Issue → CallLimit
limit_of i = record { due = i.due; number = i.limit; call = i.call }

abbrev pub comes_before : Issue → Issue → Bool
comes_before a b = nat_lt a.due b.due || ((a.due == b.due) && nat_lt a.limit b.limit)

abbrev pub earlier : Issue → Option Issue → Option Issue
earlier a None = Some a
earlier a (Some b) = if comes_before b a then Some b else Some a

-- the call whose limit is the least by due and number
unfoldable pub first_due : List Issue → Option Issue
first_due [] = None
first_due (i ∷ is) = earlier i (first_due is)
