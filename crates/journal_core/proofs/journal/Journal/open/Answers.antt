use Rattle.journal_core.proofs.journal.Journal.open.Goals as goal
use Rattle.journal_core.proofs.Stops.{told_opening_failed, told_opened, ready_opened}

pub returns-in_err-sync-clause-told : goal.returns-in_err-sync-clause-told
returns-in_err-sync-clause-told g c =
    told_opening_failed g.R.Rig.tells c.args.rig.now c.sync.new.self _ c.from_residual-in_err-sync.result c.from_residual-in_err-sync.ensures.0 (g.met.R.Rig.sound c.args.rig.now) c.in_err-sync.ensures.told

pub returns-clause-told : goal.returns-clause-told
returns-clause-told g c = told_opened g.R.Rig.tells c.args.rig.now c.sync.new.self _ 0 c.requires (g.met.R.Rig.sound c.args.rig.now) c.in_ok-sync.ensures.told

pub returns-clause-ready : goal.returns-clause-ready
returns-clause-ready g c = ready_opened g.R.Rig.tells c.args.rig.now c.sync.new.self 0 (g.met.R.Rig.one_now c.sync.new.self) (returns-clause-told g c)
