use Rattle.std.proofs.Common.{◌&&◌, not, sym, subst}
use Rattle.awaited.specs.Named.{Renames, has_pair, is_one}
use Rattle.awaited.proofs.NameLemmas.{unnamed_none, unnamed_one}
use Rattle.awaited.proofs.names.unname_one.Goals as goal

pub returns-in-Some : goal.returns-in-Some
returns-in-Some c =
    let old = c.args.pairs.now.keys in
    subst (λ o. Renames c.args.number (λ other. not (is_one o other) && has_pair old other c.args.number) old c.remove.new.self.keys) (sym c.in-Some.is)
    (unnamed_one c.args.number c.in-Some.name _ _ c.remove.ensures.updates.0)

pub returns-in_default : goal.returns-in_default
returns-in_default c = unnamed_none c.args.number c.args.name c.args.pairs.now.keys c.in_default.not-Some
