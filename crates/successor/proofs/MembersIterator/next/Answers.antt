use Rattle.std.proofs.Common.{not, ◌&&◌, ap, ◌∙◌, rules}
use Rattle.words.specs.Sets.{has}
use Rattle.successor.proofs.Emptying.{less_without}
use Rattle.successor.proofs.MembersIterator.next.Goals as goal

pub returns-clause-goes : goal.returns-clause-goes
returns-clause-goes c =
    let set = c.args.self.now.0 in
    let i = c.lowest-i.result in
    let less = less_without set i c.difference-self.result c.lowest-i.ensures.first
    (λ j. c.difference-self.ensures j ∙ ap (λ b. has set j && not b) (c.single.ensures.members j)) in
    search (rules, less)
