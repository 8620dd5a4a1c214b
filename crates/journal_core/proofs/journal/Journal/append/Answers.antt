use Rattle.std.proofs.Common.{◌+◌, ◌∙◌, ap, arith, length}
use Rattle.rig.proofs.Histories.{still_then}
use Rattle.journal_core.proofs.journal.Journal.append.Goals as goal
use Rattle.journal_core.proofs.Stops.{told_write_failed, told_sync_failed, told_appended, ready_after}

pub returns-in_err-write-clause-told : goal.returns-in_err-write-clause-told
returns-in_err-write-clause-told g c =
    told_write_failed g.R.Rig.tells c.args.rig.now c.write.new.self c.args.self c.self.inside.end c.args.payload.now c.as_slice.result.now _ c.from_residual.result
    c.self.view_is (c.as_slice.ensures ∙ c.spell.ensures) c.from_residual.ensures.0 c.requires.ready c.in_err-write.ensures.told

pub returns-in_err-sync-clause-told : goal.returns-in_err-sync-clause-told
returns-in_err-sync-clause-told g c =
    told_sync_failed g.R.Rig.tells c.args.rig.now c.write.new.self c.sync.new.self _ _ c.args.self c.self.inside.end c.args.payload.now c.as_slice.result.now _ _ c.from_residual-in_err-sync.result
    c.self.view_is (c.as_slice.ensures ∙ c.spell.ensures) c.in_ok-write.ensures.steady c.requires.some c.requires.fits c.from_residual-in_err-sync.ensures.0 c.requires.ready (g.met.R.Rig.sound c.write.new.self) c.in_ok-write.ensures.told c.in_err-sync.ensures.told

pub returns-clause-told : goal.returns-clause-told
returns-clause-told g c =
    told_appended g.R.Rig.tells c.args.rig.now c.write.new.self c.sync.new.self c.args.self c.self.inside.end c.args.payload.now c.as_slice.result.now _ _ _
    c.self.view_is (c.as_slice.ensures ∙ c.spell.ensures) c.requires.some c.requires.fits c.requires.ready (g.met.R.Rig.sound c.write.new.self) c.in_ok-write.ensures.told c.in_ok-sync.ensures.told

pub overflow_add-self : goal.overflow_add-self
overflow_add-self g c =
    let size = ap length (c.as_slice.ensures ∙ c.spell.ensures) in
    omega (arith, size, c.in_ok-write.ensures.fits)

pub returns-clause-ready : goal.returns-clause-ready
returns-clause-ready g c =
    ready_after g.R.Rig.tells c.args.rig.now c.sync.new.self c.args.self (c.self.inside.end + (4 + length c.args.payload.now)) c.args.payload.now _ (g.met.R.Rig.one_now c.sync.new.self) c.requires.ready
    c.requires.some c.requires.fits (ap (λ end. end + (4 + length c.args.payload.now)) c.self.view_is) (returns-clause-told g c)

pub returns-clause-tells : goal.returns-clause-tells
returns-clause-tells g c = still_then g.R.Rig.tells _ _ _ c.write.ensures.tells c.sync.ensures.tells
