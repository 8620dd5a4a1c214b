-- What the tests' queues park can't be open.
use Rattle.std.proofs.Common.{◌≡◌, ℕ, true, List, [], ◌∷◌, refl, sym, ap, ◌∙◌, subst}
use Rattle.std.specs.List.{AllByRecursion}
use Rattle.kinds.specs.Cells.{has_issue, without_issue, insert_issue}
use Rattle.kinds.specs.declared.cell.CellLimit.{CellLimit}
use Rattle.kinds.specs.declared.cell.IssueEntry.{IssueEntry}
use Rattle.kinds.specs.declared.cell.StartEntry.{StartEntry}
use Rattle.ready_queue.specs.Parking.{Parking, IsShut, ParksFewer, AreLookedAt}
use Rattle.ready_queue.proofs.Shut.{shut_empty, shut_left, open_left}

-- nothing is parked
pub shut_none : (q : Parking) (issues : List IssueEntry) (starts : List StartEntry) (t : ℕ) → q.full ≡ [] → q.later ≡ [] → IsShut q issues starts t
shut_none q issues starts t full later =
    subst (λ f. IsShut (record { items = q.items; full = f; later = q.later }) issues starts t) (sym full)
    (subst (λ l. IsShut (record { items = q.items; full = []; later = l }) issues starts t) (sym later) (shut_empty q.items issues starts t))

-- the one issue that was open went, and the groups at its cells are looked at again
pub shut_one_left : (was now : Parking) (n : ℕ) (cells : List CellLimit) (none old new : List IssueEntry) (starts : List StartEntry) (t : ℕ)
    → none ≡ [] → old ≡ insert_issue (record { issue = n; cells = cells }) none → new ≡ without_issue n old
    → IsShut was old starts t → ParksFewer was now → AreLookedAt cells now → IsShut now new starts t
shut_one_left was now n cells none old new starts t empty entered went s fewer looked =
    subst (λ i. IsShut now i starts t) (sym went) (shut_left was now cells old (without_issue n old) starts t s fewer looked (λ c other. open_left c n cells old all other))
  where
    one : old ≡ record { issue = n; cells = cells } ∷ []
    one = entered ∙ ap (insert_issue (record { issue = n; cells = cells })) empty

    all : AllByRecursion (λ (e : IssueEntry). has_issue n e ≡ true → e.cells ≡ cells) old
    all = subst (AllByRecursion (λ (e : IssueEntry). has_issue n e ≡ true → e.cells ≡ cells)) (sym one) ((λ h. refl), tt)
