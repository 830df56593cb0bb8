use Rattle.std.proofs.Common.{rules}
use Rattle.words.proofs.Filled.{filled}
use Rattle.words.proofs.tabulate.Goals as goal

pub returns : goal.returns
returns g c = filled c.from_fn.result (goal.F-post g c.args.row) 0 (λ k y q e. search rules) 64 c.from_fn.ensures.items
