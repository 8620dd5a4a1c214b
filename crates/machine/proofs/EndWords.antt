-- The words of how a run ends, one by the others.
use Rattle.std.proofs.Common.{◌≡◌, ℕ, Bool, true, false, List, Option, Some, None, refl, sym, ap, ◌∙◌}
use Rattle.kinds.specs.declared.store.Parent.{Parent}
use Rattle.kinds.specs.declared.store.RunStatus.TheVariants.{Completed, Failed, Cancelled}
use Rattle.step_ids.specs.Run.{run_text}
use Rattle.run_model.specs.Ends.{cancelled_result, end_run, fail_run, failed_content, failed_name, first_text, function_id, is_of_failure, own_event, raise, raise_failed, record_at_parent, tell, tell_parent, without_invocation_of}
use Rattle.run_model.specs.Recording.{Discovery, at_the_end, data_result, error_result, is_pending_in, record_result}
use Rattle.run_model.specs.State.{State, Run, live_run}
use Rattle.machine.specs.Words.{cancel_at, complete_at, content_at, content_by, end_at, fail_at, parent_at, raise_by}

-- ## The ways to end

pub completes : (found : Option Run) (output : List ℕ) (s : State)
    → tell_parent at_the_end (parent_at found) (data_result output) (end_at found Completed s)
    ≡ complete_at found output s
completes None output s = refl
completes (Some r) output s = refl

pub cancels : (discovery : Discovery) (found : Option Run) (s : State)
    → tell_parent discovery (parent_at found) cancelled_result (end_at found Cancelled s)
    ≡ cancel_at discovery found s
cancels discovery None s = refl
cancels discovery (Some r) s = refl

-- ## A failed run

-- what tells of functions and texts alone is as before
told-by : {X : Type 0} (F : State → X) (p : Parent) (result : List ℕ) (s : State)
    → F (record_result p.run p.hash result (without_invocation_of p s)) ≡ F s
    → (found : Option Run) → F (tell at_the_end p result found s) ≡ F s
told-by F p result s same None = refl
told-by F p result s same (Some r) = by_test (is_pending_in p.hash (Some r))
  where
    by_test : (b : Bool) → F (record_at_parent at_the_end p result b s) ≡ F s
    by_test true = same
    by_test false = refl

first-told : (r : Run) (parent : Option Parent) (result : List ℕ) (s : State)
    → first_text r (tell_parent at_the_end parent result s) ≡ first_text r s
first-told r None result s = refl
first-told r (Some p) result s = told-by (first_text r) p result s refl (live_run p.run s)

function-told : (r : Run) (parent : Option Parent) (result : List ℕ) (s : State)
    → function_id r (tell_parent at_the_end parent result s) ≡ function_id r s
function-told r None result s = refl
function-told r (Some p) result s = told-by (function_id r) p result s refl (live_run p.run s)

content-told : (r : Run) (error : List ℕ) (s t : State) → first_text r t ≡ first_text r s
    → function_id r t ≡ function_id r s → content_at (Some r) error s ≡ content_at (Some r) error t
content-told r error s t first function =
    ap (λ text. content_by (is_of_failure text)
    (failed_content (function_id r s) (run_text r.moment r.number) error text)) (sym first)
    ∙ ap (λ id. content_by (is_of_failure (first_text r t))
    (failed_content id (run_text r.moment r.number) error (first_text r t))) (sym function)

raises : (r : Run) (error : List ℕ) (s : State) → raise_by (content_at (Some r) error s) s ≡ raise_failed r error s
raises r error s =
    by_test (is_of_failure (first_text r s))
    (failed_content (function_id r s) (run_text r.moment r.number) error (first_text r s))
  where
    by_test : (b : Bool) (content : List ℕ) → raise_by (content_by b content) s
        ≡ elim b as (λ _. State) [ true ↦ s | false ↦ raise (own_event failed_name content None None) s ]
    by_test true content = refl
    by_test false content = refl

-- the content is looked up first
pub fails : (found : Option Run) (error : List ℕ) (s : State)
    → raise_by (content_at found error s)
    (tell_parent at_the_end (parent_at found) (error_result error) (end_at found Failed s))
    ≡ fail_at found error s
unfolding fail_run
fails None error s = refl
fails (Some r) error s =
    let ended : State = end_run r Failed s in
    let t : State = tell_parent at_the_end r.parent (error_result error) ended in
    ap (λ o. raise_by o t)
    (content-told r error s t (first-told r r.parent (error_result error) ended)
    (function-told r r.parent (error_result error) ended))
    ∙ raises r error t

-- ## The content of its event

module _ (found : Option Run) (r : Run) (error first : List ℕ) (s : State) (there : found ≡ Some r)
    (same : first ≡ first_text r s) where
  abbrev content : List ℕ → List ℕ
  content w = failed_content (function_id r s) (run_text r.moment r.number) error w

  content-by : (b : Bool) → is_of_failure first ≡ b
      → content_by b (content (first_text r s)) ≡ content_at found error s
  content-by b is =
      sym (ap (λ o. content_at o error s) there
      ∙ ap (λ c. content_by c (content (first_text r s))) (ap is_of_failure (sym same) ∙ is))

  pub content-none : is_of_failure first ≡ true → None ≡ content_at found error s
  content-none is = content-by true is

  pub content-some : (text : List ℕ) → is_of_failure first ≡ false → text ≡ content first
      → Some text ≡ content_at found error s
  content-some text is e = ap (λ w. Some w) (e ∙ ap content same) ∙ content-by false is
