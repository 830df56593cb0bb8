use Rattle.meaning.proofs.Agreement.{agreeing_worlds}
use Rattle.meaning.proofs.agreeing_worlds.Goals as goal

pub returns : goal.returns
returns c = agreeing_worlds
