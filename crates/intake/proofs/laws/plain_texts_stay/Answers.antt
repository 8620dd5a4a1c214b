use Rattle.intake.proofs.PlainTexts.{quoted-unescaped}
use Rattle.intake.proofs.laws.plain_texts_stay.Goals as goal

pub returns : goal.returns
returns c = λ w s l. quoted-unescaped w s l
