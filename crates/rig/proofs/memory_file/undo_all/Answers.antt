use Rattle.std.proofs.Common.{◌∙◌, List, ap, sym}
use Rattle.rig.specs.MemoryFile.{undone}
use Rattle.rig.specs.declared.memory_file.Change.{Change}
use Rattle.rig.proofs.Undo.{undone_last}
use Rattle.rig.proofs.memory_file.undo_all.Goals as goal

pub loop-change-preserved : goal.loop-change-preserved
loop-change-preserved c =
    let older = c.in-Some.older.now in
    let file = c.loop-change.file.items in
    ap (undone older) c.in_ok-undo_change.ensures
    ∙ (sym (undone_last older c.in-Some.change.now file)
    ∙ (sym (ap (λ (l : List Change). undone l file) c.in-Some.ensures.cases.0) ∙ c.loop-change.invariant))
