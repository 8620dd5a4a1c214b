-- Making a run: its rules, and its first item.
use Rattle.std.specs.Prelude.{ℕ, ◌+◌, Bool, true, false, not, ◌&&◌, ◌||◌, List, [], ◌∷◌, ◌++◌, Option, None, if◌then◌else◌}
use Rattle.std.specs.List.{list_any}
use Rattle.std.specs.Option.{option_map}
use Rattle.kinds.specs.Queue.{insert_item}
use Rattle.kinds.specs.RunSteps.{no_steps}
use Rattle.kinds.specs.declared.function.CancelEntry.{CancelEntry}
use Rattle.kinds.specs.declared.store.Item.{Item}
use Rattle.kinds.specs.declared.store.Parent.{Parent}
use Rattle.kinds.specs.declared.store.Rule.{Rule}
use Rattle.functions.specs.declared.entry.FunctionEntry.{FunctionEntry}
pub use Rattle.admission.specs.Items.{is_item_of}
pub use Rattle.event_texts.specs.Texts.{text_or_none}
pub use Rattle.runs.specs.Changes.{step_target}
pub use Rattle.runs.specs.Runs.{first_of, score_of}
use Rattle.event_keys.specs.Buckets.{bucket_of}
use Rattle.event_keys.specs.Cells.{cells_of, start_of}
use Rattle.event_keys.specs.Expressions.{priority_shift}
use Rattle.run_model.specs.State.{State, Run, Issue, text_of}

-- ## Items

abbrev pub unless : {X : Type 0} → Bool → Option X → Option X
unless true x = None
unless false x = x

-- an item that is made now
abbrev pub new_item : Run → List ℕ → State → Item
new_item r target s = record {
  number = s.entries + 1;
  run = r.number;
  target = target;
  attempt = 0;
  due = s.moment;
  score = score_of r;
  cells = r.cells;
  start = unless r.started r.start;
}

abbrev pub queue : Item → State → State
queue item s = record s { items = insert_item item s.items }

abbrev pub queue_new : Run → List ℕ → State → State
queue_new r target s = queue (new_item r target s) (record s { entries = s.entries + 1 })

-- ## What finds out what comes next

-- an item that finds it out is queued, or its call is open
abbrev pub has_discovery : State → ℕ → Bool
has_discovery s run =
    list_any (is_item_of run step_target) s.items
    || list_any (λ (i : Issue). is_item_of run step_target i.item) s.issues

abbrev pub discover_one : Run → State → State
discover_one r s = if r.wanted && not (has_discovery s r.number) then queue_new r step_target s else s

abbrev pub discover_all : List Run → State → State
discover_all [] s = s
discover_all (r ∷ rs) s = discover_all rs (discover_one r s)

-- Each run that has not ended, has something recorded since and has no such item gets one, in order of run.
unfoldable pub discover : State → State
discover s = discover_all s.live s

-- ## Rules

abbrev pub new_rule : Run → ℕ → List ℕ → State → CancelEntry → Rule
new_rule r first event s c = record {
  number = s.entries + 1;
  run = r.number;
  first = first;
  name = c.event;
  cond = c.cond;
  due = option_map (λ timeout. s.moment + timeout) c.timeout;
  bucket = bucket_of c.cond event;
}

abbrev pub add_rule : Run → ℕ → List ℕ → CancelEntry → State → State
add_rule r first event c s =
    record s { entries = s.entries + 1; rules = s.rules ++ new_rule r first event s c ∷ [] }

abbrev pub add_rules : Run → ℕ → List ℕ → List CancelEntry → State → State
add_rules r first event [] s = s
add_rules r first event (c ∷ cs) s = add_rules r first event cs (add_rule r first event c s)

-- ## Runs

-- a run of a function with events, the first of which has this text
abbrev pub run_with : FunctionEntry → List ℕ → List ℕ → Option Parent → State → Run
run_with f events event parent s = record {
  number = s.runs + 1;
  moment = s.moment;
  version = f.version;
  events = events;
  cells = cells_of f.function event;
  start = start_of f.function event;
  shift = priority_shift f.function.priority event;
  wanted = true;
  planned = false;
  started = false;
  parent = parent;
  steps = no_steps;
}

-- its rules take numbers, and then its first item
abbrev pub add_run : Run → ℕ → List ℕ → List CancelEntry → State → State
add_run r first event cancels s =
    queue_new r step_target
    (add_rules r first event cancels (record s { runs = s.runs + 1; live = s.live ++ r ∷ [] }))

abbrev pub make_run_over : FunctionEntry → List ℕ → List ℕ → Option Parent → State → State
make_run_over f events event parent s =
    add_run (run_with f events event parent s) (first_of events) event f.function.cancels s

-- a run of this function with these events
unfoldable pub make_run : FunctionEntry → List ℕ → Option Parent → State → State
make_run f events parent s = make_run_over f events (text_or_none (text_of (first_of events) s)) parent s
