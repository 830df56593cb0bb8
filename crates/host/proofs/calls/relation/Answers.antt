use Rattle.std.proofs.Common.{length, rules}
use Rattle.book.specs.Views.{view}
use Rattle.host.proofs.Relating.{found_means}
use Rattle.host.proofs.calls.relation.Goals as goal

pub returns-clause-meaning : goal.returns-clause-meaning
returns-clause-meaning c =
    let read = c.in_ok-book.ensures in
    found_means (length c.args.nodes.now) c.args.bytes.now c.args.first c.args.second (view c.in_ok-book.book) read.value c.in_ok-register.ensures.opens c.filed.result (search rules)
