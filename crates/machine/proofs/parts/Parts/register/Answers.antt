use Rattle.std.proofs.Common.{◌∙◌, ap, refl, subst}
use Rattle.machine.specs.Numbers.{AreJoined}
use Rattle.machine.proofs.HeldFunctions.{held-register, versions-given}
use Rattle.machine.proofs.parts.Parts.register.Goals as goal

pub register-requires : goal.register-requires
register-requires c = record { given = versions-given c.args.self.now c.requires.held }

pub returns-clause-state : goal.returns-clause-state
returns-clause-state c =
    let m = c.args.self.now in
    held-register m c.args.app c.insert_all.new.self
    (subst (λ ns. AreJoined ns m.loose.versions c.insert_all.new.self)
    (c.as_slice.ensures ∙ c.in_ok-touched.ensures) c.in_ok-insert_all.ensures)
    c.requires.held (record m.counts { versions = c.in_ok-change.change.versions }) _ c.register.new.self
    (ap (λ n. record m.counts { versions = n }) c.in_ok-change.ensures.versions) refl
    c.in_ok-change.ensures.current c.in_ok-change.ensures.retired c.requires.ranges
