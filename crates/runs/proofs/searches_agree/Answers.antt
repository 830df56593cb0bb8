use Rattle.runs.proofs.Searching.{searches_agree}
use Rattle.runs.proofs.searches_agree.Goals as goal

pub returns : goal.returns
returns c = searches_agree
