use Rattle.std.proofs.Common.{◌≤◌, length, ap, sym, subst}
use Rattle.rig.specs.MemoryFile.{MemoryFile}
use Rattle.rig.specs.MemoryRig.{MemoryRig, memory_file}
use Rattle.rig.specs.declared.side.Side.{Side}
use Rattle.rig.proofs.MemoryFiles.{kept-after_write}
use Rattle.rig.proofs.memory_rig.MemRig.write_file.Goals as goal

pub invariant_of-self : goal.invariant_of-self
invariant_of-self c =
    let rig = c.args.self.now in
    let inside : c.args.at ≤ length c.self.inside.a.bytes =
    subst (λ (f : MemoryFile). c.args.at ≤ length f.bytes) (sym (ap (λ (r : MemoryRig). r.a) c.self.view_is))
    (subst (λ (s : Side). c.args.at ≤ length (memory_file s rig).bytes) c.in-A.is c.requires.inside) in (
      c.self.invariant.0,
      kept-after_write c.args.at c.args.count c.args.part.now c.self.inside.a c.write.new.self c.write.result inside c.requires.part c.requires.fits c.write.ensures.ok c.write.ensures.err c.self.invariant.1,
      c.self.invariant.2,
    )

pub invariant_of-self-in-Continue-branch-2 : goal.invariant_of-self-in-Continue-branch-2
invariant_of-self-in-Continue-branch-2 c =
    let rig = c.args.self.now in
    let inside : c.args.at ≤ length c.self.inside.b.bytes =
    subst (λ (f : MemoryFile). c.args.at ≤ length f.bytes) (sym (ap (λ (r : MemoryRig). r.b) c.self.view_is))
    (subst (λ (s : Side). c.args.at ≤ length (memory_file s rig).bytes) c.in-B.is c.requires.inside) in (
      c.self.invariant.0,
      c.self.invariant.1,
      kept-after_write c.args.at c.args.count c.args.part.now c.self.inside.b c.write-in-B.new.self c.write-in-B.result inside c.requires.part c.requires.fits c.write-in-B.ensures.ok c.write-in-B.ensures.err c.self.invariant.2,
    )

pub returns-in_ok-write-in-A-clause-sound : goal.returns-in_ok-write-in-A-clause-sound
returns-in_ok-write-in-A-clause-sound c = let all = invariant_of-self c in record { a = all.1.sound; b = all.2.sound }

pub returns-in_ok-write-in-B-clause-sound : goal.returns-in_ok-write-in-B-clause-sound
returns-in_ok-write-in-B-clause-sound c = let all = invariant_of-self-in-Continue-branch-2 c in record { a = all.1.sound; b = all.2.sound }
