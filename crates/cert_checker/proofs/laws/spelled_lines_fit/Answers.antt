use Rattle.cert_checker.proofs.LinesFitTexts.{lines-fit}
use Rattle.cert_checker.proofs.laws.spelled_lines_fit.Goals as goal

pub returns : goal.returns
returns c = λ version certificate. lines-fit version certificate
