use Rattle.awaited.specs.Named.{has_pair}
use Rattle.awaited.proofs.NameLemmas.{renames_none, removed}
use Rattle.awaited.proofs.names.Names.close.Goals as goal

pub returns-clause-versions : goal.returns-clause-versions
returns-clause-versions c = removed c.args.number (λ name. has_pair c.args.self.now.versions.keys name c.args.number) _ _ _ (renames_none c.args.number c.args.self.now.versions.keys) c.args.version c.remove.ensures.updates.0
