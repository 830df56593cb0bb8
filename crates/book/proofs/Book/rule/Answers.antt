use Rattle.std.proofs.Common.{◌+◌, ◌*◌, ◌<◌, ◌≤◌, length, arith}
use Rattle.std.proofs.lemmas.List.{get_or_past, get_or-take}
use Rattle.book.specs.Views.{view}
use Rattle.book.proofs.Soundness.{sizes}
use Rattle.book.proofs.Book.rule.Goals as goal

pub returns-then-k-self : goal.returns-then-k-self
returns-then-k-self c =
    let b = c.args.self.now in
    let k = c.args.k in
    let past : length (view b).rules ≤ 2 * k = omega (arith, (sizes b).rules_are, c.if-k-self.true) in
    cc (get_or_past (view b).rules (2 * k) 0 past, get_or_past (view b).rules (2 * k + 1) 0 (omega arith))

pub returns : goal.returns
returns c =
    let b = c.args.self.now in
    let k = c.args.k in
    let n = 2 * b.counts.rules in
    let l : k < b.counts.rules = c.if-k-self.false in
    cc (get_or-take n b.rules (2 * k) 0 (omega arith), get_or-take n b.rules (2 * k + 1) 0 (omega arith))
