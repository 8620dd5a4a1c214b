use Rattle.std.proofs.Common.{◌≡◌, ◌∙◌, sym, Some}
use Rattle.expr.specs.Reading.{tree_of_text}
use Rattle.cel_parse.proofs.TextLaws.{text-spelled, text-read, same-tree}
use Rattle.cel_parse.proofs.laws.exact.Goals as goal

pub returns-clause-spelled : goal.returns-clause-spelled
returns-clause-spelled c = text-spelled

pub returns-clause-one : goal.returns-clause-one
returns-clause-one c = same-tree

pub returns-clause-read : goal.returns-clause-read
returns-clause-read c = text-read
